-- Documents 01 and 02: what a list that is lent to a call holds afterwards. "Lists lent here .. stay as they were past what is written", and "any other refusal changes no memory".
use Rattle.std.specs.Prelude.{Bool, true, false, List, ◌++◌, length, drop}

-- the numbers that are written, then its old tail; where nothing is written all of it stays
abbrev pub list_left : {A : Type 0} → Bool → List A → List A → List A
list_left true xs old = xs ++ drop (length xs) old
list_left false xs old = old
