-- Document 01, "What a call gives back": its values, or the number of one refusal and nothing else. A call checks its rows in order, and the first that fails decides.
use Rattle.std.specs.Prelude.{ℕ, Bool, cond, List, [], ◌∷◌, Result, Ok, Err}
use Rattle.refusals.specs.declared.refusals.Refusal.{Refusal}
use Rattle.refusals.specs.Refusal.{number_of}

pub data Answer (A : Type 0) : Type 0 where
  value : A → Answer A
  refused : ℕ → Answer A

-- what a call gives back in the program, as the document counts it: a value, or the number of its refusal
abbrev pub answered : {A : Type 0} → Result A Refusal → Answer A
answered (Ok a) = value a
answered (Err r) = refused (number_of r)

-- an answer in one number: 0 for values, else the number of the refusal
abbrev pub answer_number : {A : Type 0} → Answer A → ℕ
answer_number (value a) = 0
answer_number (refused n) = n

-- the call refuses not, and of what it answers P holds
abbrev pub Answers : {A : Type 0} → Answer A → (A → Type 0) → Type 0
Answers (value a) P = P a
Answers (refused n) P = ⊥

-- a row of the table as a call checks it: the refusal, and whether the row passes
pub record Row : Type 0 where
  pub refusal : Refusal
  pub passes : Bool

abbrev pub row : Refusal → Bool → Row
row r ok = record { refusal = r; passes = ok }

-- the first refusal of an ordered list of rows, else the answer
abbrev pub checked : {A : Type 0} → List Row → Answer A → Answer A
checked [] a = a
checked (r ∷ rs) a = cond r.passes (checked rs a) (refused (number_of r.refusal))
