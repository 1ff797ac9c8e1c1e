-- That no lane's id is 0.
use Prim.Native.Nat.{ℕ}
use mathlib.Core.Path.{◌≡◌, refl}
use mathlib.Core.Bool.{true, false}
use lib.IntN.{pos}
use lib.Ieee.{Float}
use Rattle.std.specs.declared.option.Option.{Option}
use Rattle.std.specs.declared.option.Option.TheVariants.{None, Some}
use Rattle.records.specs.Roads.{Road}
use Rattle.lanes_naming.specs.Naming.{named_on, name_by, lane_named}
use Rattle.riftkettle.specs.Exports.{id_returned}

unnamed-by : (left right : Option ℕ) → id_returned (name_by left right) ≡ pos 0 → name_by left right ≡ None
unnamed-by left (Some k) e = absurd cc
unnamed-by (Some k) None e = absurd cc
unnamed-by None None e = refl

-- an id of 0 says that no lane is named
pub zero-unnamed : (road : Road) (i : ℕ) (s t : Float) → id_returned (lane_named road i s t) ≡ pos 0 → lane_named road i s t ≡ None
unfolding lane_named
zero-unnamed road i s t e = unnamed-by (named_on road i s t false) (named_on road i s t true) e
