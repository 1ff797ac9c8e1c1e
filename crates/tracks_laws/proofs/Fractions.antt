-- The Rust's `clamp` never panics here, and what it gives of any s but a NaN lies in its range (`clamp-in`); the segment found holds it (`from_le`, `le-to`); so the fraction along the segment lies in 0..1 (`fraction-in`).
use Prim.Native.Nat.{ℕ, suc, ◌+◌, ◌-◌, ◌*◌, ◌^◌, ◌≤◌, ◌<◌, min}
use native.Mathlib.Nat.{min-le_left, min-le_right, le_of_eq, mul-le-mul_right, min-eq_left, min-eq_right, le_trans, zero-add}
use native.Mathlib.Omega.{arith}
use mathlib.Core.Path.{◌≡◌, refl, sym, ap, ◌∙◌, subst}
use mathlib.Core.Bool.{Bool, true, false, cond}
use lib.Dec.{T, leb}
use borrow.Author.Tests.{leb-true, leb-false}
use lib.Pow.{pow-add}
use lib.Ieee.{Float, nan, inf, fin, binary32, low, is_nan, of_bits, fits, neg, le, lt, add, sub}
use lib.Ieee.Bits.{is_true}
use lib.Ieee.Scale.{finite}
use Rattle.std.proofs.lemmas.Float.{le_trans as float_trans, T_from_false, T_from_true}
use Rattle.float_laws.specs.Binary32.{◌⊖◌, ◌⊘◌, f32, zero32, one32, clamp_of}
use Rattle.float_laws.proofs.Nearest.{apart}
use Rattle.float_laws.proofs.Units.{rnd, rnd-zero}
use Rattle.float_laws.proofs.Value.{pl, mi, Real, pl-le, le→units, lt→units, nlt→units, units→le, le_refl, nle→le}
use Rattle.float_laws.proofs.Operation.{sub-Is}
use Rattle.float_laws.proofs.Exact.{self-Is}
use Rattle.float_laws.proofs.Order.{sub-mono}
use Rattle.float_laws.proofs.Interval.{In, nil, nil-real, nil-pl, le→parts, over-of, under_of, enclose, div-Is', sub_in}
use Rattle.float_laws.proofs.Checker.{good-real}
use Rattle.records.specs.declared.points.Point.{Point}
use Rattle.tracks.specs.Lengths.{length_to}
use Rattle.tracks.specs.Poses.{least_span, leading_from, segment_of, fraction_along, spot_of}
use Rattle.tracks.proofs.PoseSteps.{lead-step}
use Rattle.tracks_laws.proofs.Admitted.{Placed}
use Rattle.tracks_laws.proofs.ArcLengths.{lengths, lengths_rise}
use Rattle.tracks_laws.proofs.Leading.{lead-below, lead-at, lead_after}

-- ---- clamp

-- x is in the range already: it passed both tests, and is no NaN
inside : (lo hi x : Float) → Real binary32 lo → Real binary32 hi → T (fits binary32 x) → is_nan x ≡ false → lt x lo ≡ false → lt hi x ≡ false → In binary32 lo hi x
unfolding lt is_nan
inside lo hi nan rl rh f n a b = absurd (apart n)
inside (fin s m e) hi (inf true) rl rh f n a b = absurd (apart a)
inside nan hi (inf true) rl rh f n a b = absurd rl.finite
inside (inf s) hi (inf true) rl rh f n a b = absurd rl.finite
inside lo (fin s m e) (inf false) rl rh f n a b = absurd (apart b)
inside lo nan (inf false) rl rh f n a b = absurd rh.finite
inside lo (inf s) (inf false) rl rh f n a b = absurd rh.finite
inside lo hi (fin s m e) rl rh f n a b =
    let x = fin s m e in
    let r : Real binary32 x = record { finite = tt; fits = f } in
    let u = nlt→units binary32 x lo r rl (T_from_false (lt x lo) a) in
    let v = nlt→units binary32 hi x rh r (T_from_false (lt hi x) b) in
    record { low = rl; high = rh; value = r; above = units→le binary32 lo x rl r (omega arith); below = units→le binary32 x hi r rh (omega arith) }

-- "clamp panics if min > max, min is NaN, or max is NaN": lo ≤ hi, both finite, is all it asks
pub clamp-in : (lo hi x : Float) → Real binary32 lo → Real binary32 hi → T (le lo hi) → T (fits binary32 x) → is_nan x ≡ false → In binary32 lo hi (clamp_of lo hi x)
clamp-in lo hi x rl rh h f n = go (lt x lo) (lt hi x) refl refl
  where
    go : (a b : Bool) → lt x lo ≡ a → lt hi x ≡ b → In binary32 lo hi (cond a lo (cond b hi x))
    go true b ea eb = record { low = rl; high = rh; value = rl; above = le_refl binary32 lo rl; below = h }
    go false true ea eb = record { low = rl; high = rh; value = rh; above = h; below = le_refl binary32 hi rh }
    go false false ea eb = inside lo hi x rl rh f n ea eb

-- ---- a fraction

pub one-real : Real binary32 one32
unfolding of_bits fits
one-real = good-real binary32 one32 tt

pub one-pl : pl binary32 one32 ≡ 2 ^ low binary32
unfolding of_bits pl
one-pl = refl

one-mi : mi binary32 one32 ≡ 0
unfolding of_bits mi
one-mi = refl

from-nil : (n m L c q r : ℕ) → m ≡ 0 → q ≡ 0 → q * c + m * L * 1 ≤ n * L * 1 + r * c
from-nil n m L c q r z e = rw (z, e) (omega arith)

to_one : (n m L c q r : ℕ) → r ≡ 0 → q ≡ L → n ≤ c → n * L * 1 + r * c ≤ q * c + m * L * 1
to_one n m L c q r z e h = let k : n * L ≤ c * L = mul-le-mul_right L h in rw (z, e) (omega arith)

-- 0 ≤ num ≤ den, and den is above 0
pub quotient-in : (num den : Float) → Real binary32 num → Real binary32 den → mi binary32 num ≡ 0 → 0 < pl binary32 den → pl binary32 num ≤ pl binary32 den → In binary32 nil one32 (num ⊘ den)
quotient-in num den rn rd z o h =
    let L = 2 ^ low binary32 in
    let n = pl binary32 num in
    let m = mi binary32 num in
    let c = pl binary32 den in
    enclose binary32 (num ⊘ den) nil one32 (n * L) (m * L) c (div-Is' binary32 num den rn rd o) (nil-real binary32) one-real
    (under_of binary32 (n * L) (m * L) c (pl binary32 nil) (mi binary32 nil) 1 nil o (omega arith) (self-Is binary32 nil (nil-real binary32)) (nil-real binary32).finite (from-nil n m L c (pl binary32 nil) (mi binary32 nil) z (nil-pl binary32)))
    (over-of binary32 (n * L) (m * L) c (pl binary32 one32) (mi binary32 one32) 1 one32 o (omega arith) (self-Is binary32 one32 one-real) one-real.finite (to_one n m L c (pl binary32 one32) (mi binary32 one32) one-mi one-pl h))

-- ---- arc lengths in a range

-- 2^32, above every arc length
abbrev pub top32 : Float
top32 = f32 0x4f80_0000

top-real : Real binary32 top32
unfolding of_bits fits
top-real = good-real binary32 top32 tt

top-pl : pl binary32 top32 ≡ 2 ^ 181
unfolding of_bits pl
top-pl = refl

top-mi : mi binary32 top32 ≡ 0
unfolding of_bits mi
top-mi = refl

up_ends : T (finite (sub binary32 top32 nil))
unfolding of_bits sub add neg
up_ends = tt

down_ends : T (finite (sub binary32 nil top32))
unfolding of_bits sub add neg
down_ends = tt

differ : (x y : Float) → In binary32 nil top32 x → In binary32 nil top32 y → Real binary32 (x ⊖ y)
differ x y i j = (sub_in binary32 nil top32 nil top32 x y i j down_ends up_ends).value

no_less : (p m q o : ℕ) → q + m ≤ p + o → m + q - (p + o) ≡ 0
no_less p m q o h = omega arith

-- d less from is not below 0
less-plus : (x y : Float) → Real binary32 x → Real binary32 y → T (finite (x ⊖ y)) → T (le y x) → mi binary32 (x ⊖ y) ≡ 0
less-plus x y rx ry t h =
    (sub-Is binary32 x y rx ry).minus t ∙ ap (λ (k : ℕ). rnd binary32 k 1) (no_less (pl binary32 x) (mi binary32 x) (pl binary32 y) (mi binary32 y) (le→units binary32 y x ry rx h)) ∙ rnd-zero binary32 1 (omega arith)

span-real : Real binary32 least_span
unfolding of_bits fits
span-real = good-real binary32 least_span tt

span-mi : mi binary32 least_span ≡ 0
unfolding of_bits mi
span-mi = refl

positive : (a b c d : ℕ) → b ≡ 0 → a + d < c + b → 0 < c
positive a b c d z h = omega arith

pub zero_in : In binary32 nil one32 zero32
unfolding of_bits
zero_in = record { low = nil-real binary32; high = one-real; value = nil-real binary32; above = le_refl binary32 nil (nil-real binary32); below = units→le binary32 nil one32 (nil-real binary32) one-real (let a = nil-pl binary32 in let b = one-mi in omega arith) }

-- the fraction of d between two arc lengths that hold it
pub fraction-in : (from to d : Float) → In binary32 nil top32 from → In binary32 nil top32 to → In binary32 nil top32 d → T (le from d) → T (le d to) → In binary32 nil one32 (fraction_along from to d)
fraction-in from to d i j k h l = go (lt least_span (to ⊖ from)) refl
  where
    num : Real binary32 (d ⊖ from)
    num = differ d from k i

    den : Real binary32 (to ⊖ from)
    den = differ to from j i

    some : lt least_span (to ⊖ from) ≡ true → In binary32 nil one32 ((d ⊖ from) ⊘ (to ⊖ from))
    some e =
        quotient-in (d ⊖ from) (to ⊖ from) num den (less-plus d from k.value i.value num.finite h)
        (positive (pl binary32 least_span) (mi binary32 least_span) (pl binary32 (to ⊖ from)) (mi binary32 (to ⊖ from)) span-mi (lt→units binary32 least_span (to ⊖ from) span-real den (T_from_true (lt least_span (to ⊖ from)) e)))
        (le→parts binary32 (d ⊖ from) (to ⊖ from) num den (sub-mono binary32 d to from from k.value j.value i.value i.value l (le_refl binary32 from i.value) num.finite den.finite)).0

    go : (b : Bool) → lt least_span (to ⊖ from) ≡ b → In binary32 nil one32 (cond b ((d ⊖ from) ⊘ (to ⊖ from)) zero32)
    go true e = some e
    go false e = zero_in

-- ---- the segment that holds d

module _ (p : ℕ → Point) (n : ℕ) (placed : (i : ℕ) → i < n → Placed (p i)) (small : n ≤ 512) (two : 2 ≤ n) where
  under_top : (i : ℕ) → i < n → i * 2 ^ 172 ≤ 2 ^ 181
  under_top i h = le_trans (mul-le-mul_right (2 ^ 172) (let o : i ≤ 512 = omega arith in o)) (le_of_eq (sym (pow-add 2 9 172)))

  pub length-in : (i : ℕ) → i < n → In binary32 nil top32 (length_to p i)
  length-in i h =
      let l = lengths p n placed small i h in
      let x = length_to p i in
      let m = le_trans (pl-le binary32 x) (le_trans l.size (le_trans (under_top i h) (le_of_eq (sym top-pl)))) in
      let z = top-mi in
      record { low = nil-real binary32; high = top-real; value = l.real; above = l.above; below = units→le binary32 x top32 l.real top-real (omega arith) }

  -- the length of the whole is not below 0: the range of the clamp
  pub whole_length : T (le zero32 (length_to p (n - 1)))
  unfolding of_bits
  whole_length = (lengths p n placed small (n - 1) (omega arith)).above

  zero-real : Real binary32 zero32
  unfolding of_bits
  zero-real = nil-real binary32

  module _ (s : Float) (f : T (fits binary32 s)) (no : is_nan s ≡ false) where
    abbrev d : Float
    d = clamp_of zero32 (length_to p (n - 1)) s

    abbrev L : ℕ
    L = leading_from (length_to p) d 0 n

    held : In binary32 zero32 (length_to p (n - 1)) d
    held = clamp-in zero32 (length_to p (n - 1)) s zero-real (lengths p n placed small (n - 1) (omega arith)).real whole_length f no

    held_in : In binary32 nil top32 d
    unfolding of_bits
    held_in =
        let h = length-in (n - 1) (omega arith) in
        record { low = nil-real binary32; high = top-real; value = held.value; above = held.above; below = float_trans d (length_to p (n - 1)) top32 held.below h.below }

    first-leads : le (length_to p 0) d ≡ true
    unfolding length_to
    first-leads = is_true (le zero32 d) held.above

    some-lead : 0 < L
    some-lead = rw (lead-step (length_to p) d 0 n (omega arith) first-leads) (omega arith)

    within : segment_of p n d < L
    unfolding segment_of
    within = let a = min-le_left (L - 1) (n - 2) in let b = some-lead in omega arith

    pub segment-small : segment_of p n d + 1 < n
    unfolding segment_of
    segment-small = let a = min-le_right (L - 1) (n - 2) in omega arith

    -- it starts at or before d
    pub from_le : T (le (length_to p (segment_of p n d)) d)
    from_le = let i = segment_of p n d in T_from_true (le (length_to p i) d) (ap (λ (k : ℕ). le (length_to p k) d) (sym (zero-add i)) ∙ lead-below (length_to p) d 0 n i within)

    -- and ends at or after it
    pub le-to : T (le d (length_to p (suc (segment_of p n d))))
    unfolding segment_of
    le-to = go (leb (L - 1) (n - 2)) refl
      where
        go : (b : Bool) → leb (L - 1) (n - 2) ≡ b → T (le d (length_to p (suc (min (L - 1) (n - 2)))))
        go true e =
            let h = leb-true (L - 1) (n - 2) e in
            let o = some-lead in
            let m : L < n = omega arith in
            let g : suc (min (L - 1) (n - 2)) ≡ L = ap suc (min-eq_left h) ∙ (omega arith) in
            subst (λ (k : ℕ). T (le d (length_to p k))) (sym g)
            (nle→le binary32 (length_to p L) d (lengths p n placed small L m).real held.value (T_from_false (le (length_to p L) d) (ap (λ (k : ℕ). le (length_to p k) d) (sym (zero-add L)) ∙ lead-at (length_to p) d 0 n m)))
        go false e =
            let h = leb-false (L - 1) (n - 2) e in
            let g : suc (min (L - 1) (n - 2)) ≡ n - 1 = ap suc (min-eq_right (let o : n - 2 ≤ L - 1 = omega arith in o)) ∙ (omega arith) in
            subst (λ (k : ℕ). T (le d (length_to p k))) (sym g) held.below

    -- it is the last that does, of the segments
    pub spot-last : (j : ℕ) → segment_of p n d < j → suc j < n → le (length_to p j) d ≡ false
    unfolding segment_of
    spot-last j h l = lead_after (length_to p) n (lengths_rise p n placed small) d j (go (leb (L - 1) (n - 2)) refl) (omega arith)
      where
        go : (b : Bool) → leb (L - 1) (n - 2) ≡ b → L ≤ j
        go true e = let m = min-eq_left (leb-true (L - 1) (n - 2) e) in let o = some-lead in omega arith
        go false e = let k = leb-false (L - 1) (n - 2) e in let m = min-eq_right (let o : n - 2 ≤ L - 1 = omega arith in o) in absurd (omega arith)

    -- the fraction that `pose_at` goes by, for every s but a NaN
    pub spot_in : In binary32 nil one32 (spot_of p n s).t
    unfolding spot_of
    spot_in =
        let i = segment_of p n d in
        let h = segment-small in
        fraction-in (length_to p i) (length_to p (suc i)) d (length-in i (omega arith)) (length-in (suc i) (omega arith)) held_in from_le le-to
