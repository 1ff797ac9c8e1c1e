-- A length above 0 is finite, by the machine's test, where it is at most the largest f32.
use Prim.Native.Nat.{ℕ, ◌-◌, ◌*◌, ◌^◌}
use mathlib.Core.Path.{◌≡◌, refl, sym, ap}
use mathlib.Core.Bool.{Bool, true, false, ◌&&◌}
use lib.Dec.{T}
use lib.Ieee.{Float, nan, inf, fin, binary32, lt, le, fits, of_bits}
use lib.Ieee.Bits.{is_true}
use Rattle.std.specs.Float.{float_is_finite}
use Rattle.float_laws.specs.Binary32.{zero32, largest32}
use Rattle.float_laws.proofs.Value.{Real, mag, pl, mi}
use Rattle.float_laws.proofs.Checker.{good-real}
use Rattle.float_laws.proofs.Size.{Within, le_of-within}
use Rattle.arithmetic_ranges.proofs.FiniteLaws.{within-top}

largest-parts : (pl binary32 largest32 ≡ (2 ^ 24 - 1) * 2 ^ 253) × (mi binary32 largest32 ≡ 0)
unfolding of_bits mag pl mi
largest-parts = (refl, refl)

within-largest : (x : Float) → Real binary32 x → Within binary32 x largest32
unfolding of_bits fits
within-largest = within-top binary32 largest32 253 refl (good-real binary32 largest32 tt) largest-parts

pub positive_is : (x : Float) → T (fits binary32 x) → lt zero32 x && float_is_finite x ≡ lt zero32 x && le x largest32
unfolding float_is_finite of_bits lt le
positive_is nan h = refl
positive_is (inf true) h = refl
positive_is (inf false) h = refl
positive_is (fin s m e) h =
    let x = fin s m e in
    ap (λ (b : Bool). lt zero32 x && b) (sym (is_true _ (le_of-within binary32 x largest32 (within-largest x (record { finite = tt; fits = h }))).1))
