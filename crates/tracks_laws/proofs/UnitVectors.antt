-- A unit vector is finite, whatever vector of finite components it is made of (`unit-in`). Of a length of 1 or more the quotient 1 / length is at most 1, and the components do not grow. Of a shorter one they are at most 2, and the length is at least the root of the least f32, so the quotient is at most 2^75 or so.
-- No more is said: where squares underflow a unit vector may be from 0.7 to 1.6 long.
use Prim.Native.Nat.{ℕ, ◌+◌, ◌-◌, ◌<◌}
use native.Mathlib.Nat.{le_trans, eq-zero-or-pos}
use mathlib.Core.Logic.{⊎_elim}
use native.Mathlib.Omega.{arith}
use mathlib.Core.Path.{◌≡◌, refl, ap, ◌∙◌, subst}
use mathlib.Core.Bool.{Bool, true, false, not, cond, ◌&&◌}
use lib.Dec.{T}
use lib.Ieee.{Float, nan, inf, fin, binary32, size, round, units, odd, of_bits, fits, le, lt, eq, mul, div}
use lib.Ieee.Fits.{add-fits, mul-fits}
use lib.Ieee.Scale.{finite}
use Rattle.std.proofs.lemmas.Float.{le_of_lt as float_le_of_lt, T_from_false, T_from_true}
use Rattle.float_laws.specs.Binary32.{◌⊕◌, ◌⊗◌, ◌⊘◌, f32, zero32, one32, largest32}
use Rattle.float_laws.proofs.Units.{rnd, rnd-zero}
use Rattle.float_laws.proofs.Value.{pl, mi, Real, mag_is, pl-le, le→units, lt→units, units→le, nle→le}
use Rattle.float_laws.proofs.Operation.{add-Is}
use Rattle.float_laws.proofs.Size.{Within, within-mono, within-self, mul-within, add-fin}
use Rattle.float_laws.proofs.Exact.{sq-mi, norm-within}
use Rattle.float_laws.proofs.Order.{div-within}
use Rattle.float_laws.proofs.Interval.{nil, nil-real, nil-pl, nil-mi, from_zero, le→parts, finite-between}
use Rattle.float_laws.proofs.Checker.{good-real}
use Rattle.arithmetic.specs.Root.{root_of, root_units, whole_root}
use Rattle.arithmetic.proofs.RootLaws.{root-fits, root-mono, root-not-negative}
use Rattle.coordinates.specs.declared.vectors.Vector.{Vector}
use Rattle.coordinates.specs.Vectors.{scaled_by, zero_vector, dot_of, length_of, unit_of}
use Rattle.records_lent.proofs.TestLaws.{and-fst, and-snd}
use Rattle.tracks_laws.proofs.Fractions.{one-real, quotient-in}

-- all three components finite and at most A in size
pub record Bounded (v : Vector) (A : Float) : Type 0 where
  pub x : Within binary32 v.x A
  pub y : Within binary32 v.y A
  pub z : Within binary32 v.z A

-- ---- roots

root-fin : (x : Float) → T (finite (root_of binary32 x)) → T (finite x)
unfolding root_of
root-fin nan t = t
root-fin (inf true) t = t
root-fin (inf false) t = t
root-fin (fin s m e) t = tt

-- the least f32, and its root
abbrev least32 : Float
least32 = f32 1

abbrev least-root : Float
least-root = f32 0x1a35_04f3

root-least : root_of binary32 least32 ≡ least-root
unfolding root_of root_units whole_root size round units odd of_bits
root-least = refl

root-one : root_of binary32 one32 ≡ one32
unfolding root_of root_units whole_root size round units odd of_bits
root-one = refl

root-nil : root_of binary32 nil ≡ nil
unfolding root_of
root-nil = refl

least-real : Real binary32 least32
unfolding of_bits fits
least-real = good-real binary32 least32 tt

least-pl : pl binary32 least32 ≡ 1
unfolding of_bits pl
least-pl = refl

least-mi : mi binary32 least32 ≡ 0
unfolding of_bits mi
least-mi = refl

least-root-real : Real binary32 least-root
unfolding of_bits fits
least-root-real = good-real binary32 least-root tt

least-root-pl : 0 < pl binary32 least-root
unfolding of_bits pl
least-root-pl = omega arith

one-mi : mi binary32 one32 ≡ 0
unfolding of_bits mi
one-mi = refl

-- ---- the squares' sum

add-plus : (x y : Float) → Real binary32 x → Real binary32 y → mi binary32 x ≡ 0 → mi binary32 y ≡ 0 → T (finite (x ⊕ y)) → mi binary32 (x ⊕ y) ≡ 0
add-plus x y rx ry a b t =
    let e : mi binary32 x + mi binary32 y - (pl binary32 x + pl binary32 y) ≡ 0 = omega arith in
    (add-Is binary32 x y rx ry).minus t ∙ ap (λ (k : ℕ). rnd binary32 k 1) e ∙ rnd-zero binary32 1 (omega arith)

module _ (v : Vector) (rx : Real binary32 v.x) (ry : Real binary32 v.y) (rz : Real binary32 v.z) (t : T (finite (dot_of v v))) where
  abbrev xx : Float
  xx = v.x ⊗ v.x

  abbrev yy : Float
  yy = v.y ⊗ v.y

  abbrev zz : Float
  zz = v.z ⊗ v.z

  -- finite and not below 0
  sum-plus : Real binary32 (dot_of v v) × (mi binary32 (dot_of v v) ≡ 0)
  unfolding dot_of
  sum-plus =
      let a = add-fin binary32 (xx ⊕ yy) zz t in
      let b = add-fin binary32 xx yy a.0 in
      let rxx : Real binary32 xx = record { finite = b.0; fits = mul-fits binary32 v.x v.x } in
      let ryy : Real binary32 yy = record { finite = b.1; fits = mul-fits binary32 v.y v.y } in
      let rzz : Real binary32 zz = record { finite = a.1; fits = mul-fits binary32 v.z v.z } in
      let rs : Real binary32 (xx ⊕ yy) = record { finite = a.0; fits = add-fits binary32 xx yy } in
      let ms = add-plus xx yy rxx ryy (sq-mi binary32 v.x rx b.0) (sq-mi binary32 v.y ry b.1) a.0 in
      (record { finite = t; fits = add-fits binary32 (xx ⊕ yy) zz }, add-plus (xx ⊕ yy) zz rs rzz ms (sq-mi binary32 v.z rz a.1) t)

-- ---- a length that is not 0

abbrev two32 : Float
two32 = f32 0x4000_0000

two-real : Real binary32 two32
unfolding of_bits fits
two-real = good-real binary32 two32 tt

two-mi : mi binary32 two32 ≡ 0
unfolding of_bits mi
two-mi = refl

four-fin : T (finite (two32 ⊗ two32))
unfolding of_bits mul
four-fin = tt

four-more : T (not (le (two32 ⊗ two32) one32))
unfolding of_bits mul le lt eq
four-more = tt

-- the greatest quotient, and twice it
abbrev pub most-quotient : Float
most-quotient = one32 ⊘ least-root

quotient-fin : T (finite most-quotient)
unfolding of_bits div
quotient-fin = tt

abbrev pub most-unit : Float
most-unit = two32 ⊗ most-quotient

unit-fin : T (finite most-unit)
unfolding of_bits mul div
unit-fin = tt

module _ (v : Vector) (rx : Real binary32 v.x) (ry : Real binary32 v.y) (rz : Real binary32 v.z) (rl : Real binary32 (length_of v)) (above : T (lt nil (length_of v))) where
  abbrev len : Float
  len = length_of v

  dot-fin : T (finite (dot_of v v))
  unfolding length_of
  dot-fin = root-fin (dot_of v v) rl.finite

  dot-real : Real binary32 (dot_of v v)
  dot-real = (sum-plus v rx ry rz dot-fin).0

  dot-mi : mi binary32 (dot_of v v) ≡ 0
  dot-mi = (sum-plus v rx ry rz dot-fin).1

  len-pl : 0 < pl binary32 len
  len-pl = let u = lt→units binary32 nil len (nil-real binary32) rl above in let a = nil-pl binary32 in let b = nil-mi binary32 in omega arith

  -- the squares' sum is at least the least f32
  root_over : (a : Float) → Real binary32 a → mi binary32 a ≡ 0 → T (le a (dot_of v v)) → T (le (root_of binary32 a) len)
  unfolding length_of
  root_over a ra m h = root-mono binary32 a (dot_of v v) ra dot-real m h

  at-nil : T (le (dot_of v v) nil) → T (le len nil)
  unfolding length_of
  at-nil h = subst (λ (y : Float). T (le (length_of v) y)) root-nil (root-mono binary32 (dot_of v v) nil dot-real (nil-real binary32) dot-mi h)

  len-mi : mi binary32 len ≡ 0
  unfolding length_of
  len-mi = (root-not-negative binary32 (dot_of v v) dot-real dot-mi).1

  some-square : T (le least32 (dot_of v v))
  some-square = ⊎_elim none some (eq-zero-or-pos (pl binary32 (dot_of v v)))
    where
      some : 0 < pl binary32 (dot_of v v) → T (le least32 (dot_of v v))
      some h = units→le binary32 least32 (dot_of v v) least-real dot-real (let a = least-pl in let b = least-mi in let m = dot-mi in omega arith)

      none : pl binary32 (dot_of v v) ≡ 0 → T (le least32 (dot_of v v))
      none z =
          let a = nil-pl binary32 in
          let b = nil-mi binary32 in
          let o = dot-mi in
          let h : T (le (dot_of v v) nil) = units→le binary32 (dot_of v v) nil dot-real (nil-real binary32) (omega arith) in
          let u = le→units binary32 len nil rl (nil-real binary32) (at-nil h) in
          let c = len-pl in
          let m = len-mi in
          absurd (omega arith)

  -- 1 / length, of any length
  pub quotient-any : Within binary32 (one32 ⊘ len) most-quotient
  quotient-any =
      let h = root_over least32 least-real least-mi some-square in
      let g : T (le least-root len) = subst (λ (y : Float). T (le y len)) root-least h in
      let e = (le→parts binary32 least-root len least-root-real rl g).0 in
      div-within binary32 one32 len one32 least-root (within-self binary32 one32 one-real one-mi) rl least-root-real least-root-pl (le_trans e (pl-le binary32 len)) quotient-fin

  -- a length below 1: the squares' sum is at most 1, so each component is at most 2
  short-square : le one32 len ≡ false → T (le (dot_of v v) one32)
  short-square e = go (le (dot_of v v) one32) refl
    where
      go : (b : Bool) → le (dot_of v v) one32 ≡ b → T (le (dot_of v v) one32)
      go true d = T_from_true (le (dot_of v v) one32) d
      go false d =
          let h = nle→le binary32 (dot_of v v) one32 dot-real one-real (T_from_false (le (dot_of v v) one32) d) in
          let g : T (le one32 len) = subst (λ (y : Float). T (le y len)) root-one (root_over one32 one-real one-mi h) in
          absurd (subst T e g)

  short-sides : le one32 len ≡ false → Within binary32 v.x two32 × Within binary32 v.y two32 × Within binary32 v.z two32
  unfolding dot_of
  short-sides e = norm-within binary32 v.x v.y v.z two32 one32 rx ry rz two-real one-real two-mi four-fin four-more dot-fin (short-square e)

  -- a length of 1 or more
  quotient-long : le one32 len ≡ true → Within binary32 (one32 ⊘ len) one32
  quotient-long e =
      let i = quotient-in one32 len one-real rl one-mi len-pl (le→parts binary32 one32 len one-real rl (T_from_true (le one32 len) e)).0 in
      let m = from_zero binary32 (one32 ⊘ len) i.value i.above in
      let q = (le→parts binary32 (one32 ⊘ len) one32 i.value one-real i.below).0 in
      let s = mag_is binary32 (one32 ⊘ len) in
      record { value = i.value; bound = one-real; plus = one-mi; le = omega arith }

-- ---- the unit vector

largest-real : Real binary32 largest32
unfolding of_bits fits
largest-real = good-real binary32 largest32 tt

-- A closed bound A that holds the greatest unit and is its own product with 1; the tests are computed
pub record Roomy (A : Float) : Type 0 where
  pub real : Real binary32 A
  pub plus : mi binary32 A ≡ 0
  pub own : T (finite (A ⊗ one32))
  pub same : T (le (A ⊗ one32) A)
  pub holds : T (le most-unit A)

module _ (A : Float) (room : Roomy A) where
  pub nil-within : Within binary32 nil A
  nil-within = let a = nil-pl binary32 in let b = nil-mi binary32 in let m = mag_is binary32 nil in record { value = nil-real binary32; bound = room.real; plus = room.plus; le = omega arith }

  long : (x k : Float) → Within binary32 x A → Within binary32 k one32 → Within binary32 (x ⊗ k) A
  long x k h q = within-mono binary32 (x ⊗ k) (A ⊗ one32) A (mul-within binary32 x k A one32 h q room.own) room.real room.same

  short : (x k : Float) → Within binary32 x two32 → Within binary32 k most-quotient → Within binary32 (x ⊗ k) A
  short x k h q = within-mono binary32 (x ⊗ k) most-unit A (mul-within binary32 x k two32 most-quotient h q unit-fin) room.real room.holds

  scaled-in : (v : Vector) → Bounded v A → Real binary32 (length_of v) → T (lt nil (length_of v)) → Bounded (scaled_by v (one32 ⊘ length_of v)) A
  scaled-in v h rl above = go (le one32 (length_of v)) refl
    where
      go : (b : Bool) → le one32 (length_of v) ≡ b → Bounded (scaled_by v (one32 ⊘ length_of v)) A
      go true e =
          let q = quotient-long v h.x.value h.y.value h.z.value rl above e in
          let k = one32 ⊘ length_of v in
          record { x = long v.x k h.x q; y = long v.y k h.y q; z = long v.z k h.z q }
      go false e =
          let q = quotient-any v h.x.value h.y.value h.z.value rl above in
          let s = short-sides v h.x.value h.y.value h.z.value rl above e in
          let k = one32 ⊘ length_of v in
          record { x = short v.x k s.0 q; y = short v.y k s.1 q; z = short v.z k s.2 q }

  -- where the test on the length passes, it is finite
  pub length-real : (v : Vector) → T (lt nil (length_of v)) → T (le (length_of v) largest32) → Real binary32 (length_of v)
  unfolding length_of dot_of
  length-real v a b =
      record {
        finite = finite-between nil (length_of v) largest32 (nil-real binary32).finite largest-real.finite (float_le_of_lt nil (length_of v) a) b;
        fits = root-fits binary32 (dot_of v v) (add-fits binary32 (v.x ⊗ v.x ⊕ v.y ⊗ v.y) (v.z ⊗ v.z));
      }

  pub unit-in : (v : Vector) → Bounded v A → Bounded (unit_of v) A
  unfolding unit_of of_bits
  unit-in v h = go (lt zero32 (length_of v) && le (length_of v) largest32) refl
    where
      go : (b : Bool) → lt zero32 (length_of v) && le (length_of v) largest32 ≡ b → Bounded (cond b (scaled_by v (one32 ⊘ length_of v)) zero_vector) A
      go false e = record { x = nil-within; y = nil-within; z = nil-within }
      go true e =
          let a = T_from_true (lt zero32 (length_of v)) (and-fst (lt zero32 (length_of v)) (le (length_of v) largest32) e) in
          let b = T_from_true (le (length_of v) largest32) (and-snd (lt zero32 (length_of v)) (le (length_of v) largest32) e) in
          scaled-in v h (length-real v a b) a
