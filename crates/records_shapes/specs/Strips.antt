-- A strip that was asked for, and the road's own.
use Rattle.std.specs.Prelude.{ℕ, ◌+◌, Bool, List, Float, Option, Some, None}
use Rattle.records_lent.specs.Lists.{tabulate}
use Rattle.records.specs.Roads.{Strip, StripDef, absent, present, column_in}

-- none stands for one that is not there
abbrev pub strip_of : Option StripDef → Strip
strip_of None = absent
strip_of (Some d) = present d

-- the strip of a line that is there
abbrev pub strip_def_in : List ℕ → List Float → Bool → ℕ → StripDef
strip_def_in words numbers relative line =
    record { relative = relative; width = column_in words numbers line 0; terms = tabulate (λ j. column_in words numbers line (j + 1)) 4 }
