-- How far along a segment an arc length lies, in f32: between 0 and 1 (`into-in`), and never falling as the arc length grows (`into_rise`). Over a tiny step the quotient may overflow, and past the largest f32 stands the infinite arc length: both give +∞, which the clamp makes 1.
use Prim.Native.Nat.{◌-◌, ◌*◌, ◌^◌, ◌<◌}
use native.Mathlib.Nat.{lt_irrefl}
use native.Mathlib.Omega.{arith}
use mathlib.Core.Path.{◌≡◌, refl, sym, ap, ◌∙◌, subst}
use mathlib.Core.Logic.{inl, inr}
use mathlib.Core.Bool.{Bool, true, false, cond}
use lib.Dec.{T}
use lib.Ieee.{Float, nan, inf, fin, binary32, is_nan, of_bits, fits, neg, le, lt, eq, add, sub, div}
use lib.Ieee.Fits.{div-fits}
use lib.Ieee.Scale.{finite}
use Rattle.std.proofs.lemmas.Float.{le_trans as float_trans, T_from_true}
use Rattle.float_laws.specs.Binary32.{◌⊕◌, ◌⊖◌, ◌⊘◌, zero32, one32, largest32, clamp_of}
use Rattle.float_laws.proofs.Value.{mag, pl, mi, Real, lt→units, le_refl}
use Rattle.float_laws.proofs.Size.{Within, sub_within}
use Rattle.float_laws.proofs.Order.{sub-mono}
use Rattle.float_laws.proofs.Interval.{In, nil, nil-real, nil-pl, nil-mi, from_zero, finite-between}
use Rattle.float_laws.proofs.Checker.{good-real}
use Rattle.arithmetic_ranges.proofs.FiniteLaws.{within-top}
use Rattle.tracks_laws.specs.TrackLaws.{IsF32}
use Rattle.tracks_laws.proofs.Fractions.{top32, one-real, zero_in, clamp-in}
use Rattle.tracks_laws.proofs.Finite.{up-within}
use Rattle.dots.specs.Along.{fraction_into}
use Rattle.dots_laws.proofs.Orders.{Counted, counted_le, div-counted, div-order, sub_plus, clamp_mono}

-- ---- arc lengths of every size

largest-real : Real binary32 largest32
unfolding of_bits fits
largest-real = good-real binary32 largest32 tt

largest-parts : (pl binary32 largest32 ≡ (2 ^ 24 - 1) * 2 ^ 253) × (mi binary32 largest32 ≡ 0)
unfolding of_bits mag pl mi
largest-parts = (refl, refl)

within-largest : (x : Float) → Real binary32 x → Within binary32 x largest32
within-largest = within-top binary32 largest32 253 refl largest-real largest-parts

top-mi : mi binary32 top32 ≡ 0
unfolding of_bits mi
top-mi = refl

room : T (finite (largest32 ⊕ top32))
unfolding of_bits add
room = tt

-- from a finite number on there are the finite ones and +∞
from-finite : (a x : Float) → T (finite a) → T (le a x) → Counted x
unfolding le lt eq
from-finite nan x t h = absurd t
from-finite (inf s) x t h = absurd t
from-finite (fin s m e) nan t h = absurd h
from-finite (fin s m e) (inf true) t h = absurd h
from-finite (fin s m e) (inf false) t h = inr refl
from-finite (fin s m e) (fin u n d) t h = inl tt

infinite : (a s : Float) → T (finite a) → T (finite s) → 0 < pl binary32 s → (inf false ⊖ a) ⊘ s ≡ inf false
unfolding sub add neg div pl
infinite nan s t u o = absurd t
infinite (inf b) s t u o = absurd t
infinite (fin b m e) nan t u o = absurd u
infinite (fin b m e) (inf c) t u o = absurd u
infinite (fin b m e) (fin true n d) t u o = absurd (lt_irrefl 0 o)
infinite (fin b m e) (fin false n d) t u o = refl

no_nan : (q : Float) → Counted q → is_nan q ≡ false
unfolding is_nan
no_nan q (inr e) = ap is_nan e
no_nan nan (inl t) = absurd t
no_nan (inf s) (inl t) = absurd t
no_nan (fin s m e) (inl t) = refl

-- ---- on a segment

module _ (before step : Float) (ib : In binary32 nil top32 before) (rs : Real binary32 step) where
  abbrev quotient : Float → Float
  quotient x = (x ⊖ before) ⊘ step

  less : (x : Float) → Real binary32 x → Real binary32 (x ⊖ before)
  less x r = (sub_within binary32 x before largest32 top32 (within-largest x r) (up-within top32 before top-mi ib) room).value

  less-plus : (x : Float) → Real binary32 x → T (le before x) → mi binary32 (x ⊖ before) ≡ 0
  less-plus x r h = let d = less x r in from_zero binary32 (x ⊖ before) d (sub_plus binary32 before x ib.value r h d.finite)

  module _ (more : T (lt zero32 step)) where
    long : 0 < pl binary32 step
    unfolding of_bits
    long = let e = lt→units binary32 nil step (nil-real binary32) rs more in let a = nil-pl binary32 in let b = nil-mi binary32 in omega arith

    counted : (x : Float) → IsF32 x → T (le before x) → Counted (quotient x)
    counted x f h = elim (from-finite before x ib.value.finite h) [
      | inl t ↦ let r : Real binary32 x = record { finite = t; fits = f } in div-counted binary32 (x ⊖ before) step (less x r) (less-plus x r h) rs long
      | inr e ↦ subst (λ (w : Float). Counted (quotient w)) (sym e) (inr (infinite before step ib.value.finite rs.finite long))
    ]

    -- neither is above +∞, and a finite quotient is of a finite arc length
    rise : (x y : Float) → IsF32 x → IsF32 y → T (le before x) → T (le x y) → T (le (quotient x) (quotient y))
    rise x y f g h k =
        let l = float_trans before x y h k in
        elim (counted y g l) [
          | inr e ↦ subst (λ (w : Float). T (le (quotient x) w)) (sym e) (counted_le (quotient x) (counted x f h))
          | inl t ↦ elim (from-finite before y ib.value.finite l) [
            | inr e ↦ absurd (subst (λ (w : Float). T (finite w)) (ap quotient e ∙ infinite before step ib.value.finite rs.finite long) t)
            | inl u ↦
                let rx : Real binary32 x = record { finite = finite-between before x y ib.value.finite u h k; fits = f } in
                let ry : Real binary32 y = record { finite = u; fits = g } in
                let dx = less x rx in
                let dy = less y ry in
                div-order binary32 (x ⊖ before) (y ⊖ before) step dx (less-plus x rx h) dy rs long (sub-mono binary32 x y before before rx ry ib.value ib.value k (le_refl binary32 before ib.value) dx.finite dy.finite) t
          ]
        ]

    held : (x : Float) → IsF32 x → T (le before x) → In binary32 zero32 one32 (clamp_of zero32 one32 (quotient x))
    held x f h = clamp-in zero32 one32 (quotient x) zero_in.value one-real zero_in.below (div-fits binary32 (x ⊖ before) step) (no_nan (quotient x) (counted x f h))

  pub into-in : (x : Float) → IsF32 x → T (le before x) → In binary32 nil one32 (fraction_into before step x)
  unfolding of_bits
  into-in x f h = go (lt zero32 step) refl
    where
      go : (b : Bool) → lt zero32 step ≡ b → In binary32 nil one32 (cond b (clamp_of zero32 one32 (quotient x)) zero32)
      go true e = held (T_from_true (lt zero32 step) e) x f h
      go false e = zero_in

  pub into_rise : (x y : Float) → IsF32 x → IsF32 y → T (le before x) → T (le x y) → T (le (fraction_into before step x) (fraction_into before step y))
  into_rise x y f g h k = go (lt zero32 step) refl
    where
      go : (b : Bool) → lt zero32 step ≡ b → T (le (cond b (clamp_of zero32 one32 (quotient x)) zero32) (cond b (clamp_of zero32 one32 (quotient y)) zero32))
      go true e = let m = T_from_true (lt zero32 step) e in clamp_mono binary32 zero32 one32 (quotient x) (quotient y) (held m x f h) (held m y g (float_trans before x y h k)) (rise m x y f g h k)
      go false e = le_refl binary32 zero32 zero_in.value
