-- Document 01: what a lent border list holds afterwards.
use Rattle.std.specs.Prelude.{ℕ, Bool, List, Float}
use Rattle.refusals.specs.LentLists.{list_left}
use Rattle.records.specs.Roads.{Road}
use Rattle.lanes_borders.specs.Borders.{border_list}

-- Written where the list has room for every lane; "borders past those written stay unchanged". Else all of it stays.
abbrev pub listed_by : Bool → Road → ℕ → Float → List Float → List Float
listed_by room road i s xs = list_left room (border_list road i s) xs
