-- The place that was found, else the first: the library's `unwrap_or` with 0 is the definitions' `or_first`.
use Prim.Native.Nat.{ℕ}
use mathlib.Core.Path.{◌≡◌, refl}
use Rattle.std.specs.declared.option.Option.{Option}
use Rattle.std.specs.declared.option.Option.TheVariants.{None, Some}
use Rattle.std.specs.Option.{unwrap_or}
use Rattle.records.specs.Active.{or_first}

pub found_or_first : (found : Option ℕ) → unwrap_or found 0 ≡ or_first found
found_or_first (Some i) = refl
found_or_first None = refl
