-- What was found lies below the count.
use Prim.Native.Nat.{ℕ, ◌<◌}
use mathlib.Core.Path.{◌≡◌, ◌∙◌, sym}
use mathlib.Core.List.{List}
use lib.ListN.{length}
use lib.Ieee.{Float}
use Rattle.records.specs.declared.points.HeightDef.{HeightDef}
use Rattle.std.specs.declared.option.Option.{Option}
use Rattle.std.specs.declared.option.Option.TheVariants.{Some}
use Rattle.records.specs.Active.{last_start, active_up_to}
use Rattle.records.specs.Roads.{Road, profile_at, height_def_at}
use Rattle.records.proofs.ScanLaws.{last_start-below}

-- the last height at or before s + 1e-9
pub height-below :
    (hs : List HeightDef) (s : Float) {n : ℕ} {r : Option ℕ} → n ≡ length hs → r ≡ last_start (λ (i : ℕ). (height_def_at hs i).s_offset) (active_up_to s) (length hs) → (i : ℕ) → r ≡ Some i → i < n
height-below hs s count place i e = rw count (last_start-below (λ (k : ℕ). (height_def_at hs k).s_offset) (active_up_to s) (length hs) i (sym place ∙ e))

-- the last profile at or before s + 1e-9
pub profile-below :
    (road : Road) (s : Float) {n : ℕ} {r : Option ℕ} → n ≡ length road.profiles → r ≡ last_start (λ (i : ℕ). (profile_at road i).s) (active_up_to s) (length road.profiles) → (i : ℕ) → r ≡ Some i → i < n
profile-below road s count place i e = rw count (last_start-below (λ (k : ℕ). (profile_at road k).s) (active_up_to s) (length road.profiles) i (sym place ∙ e))
