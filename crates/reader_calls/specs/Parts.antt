-- What the private functions of `read` promise each other. Nobody need believe it: the contract of `read` speaks of specs/Reading alone.
use Rattle.std.specs.Prelude.{ℕ, ◌≡◌, cond, List, Result, Ok, Float}
use Rattle.refusals.specs.Answer.{Answer, value, refused, answered}
use Rattle.refusals.specs.declared.refusals.Refusal.{Refusal}
use Rattle.admission.specs.Admission.{admit_call}
use Rattle.reader_calls.specs.declared.tables.Taken.{Taken}
use Rattle.reader_calls.specs.Reading.{Outcome, done, stop, admitted_as}

-- Taken tables agree with an outcome; after a refusal the slices may hold anything: `read` clears them.
abbrev pub Agrees : Outcome → Result Taken Refusal → List ℕ → List Float → List ℕ → Type 0
Agrees (done at lines progress ws ns vs) r us xs ys = (r ≡ Ok (record { next = at; lines = lines; progress = progress })) × (us ≡ ws) × (xs ≡ ns) × (ys ≡ vs)
Agrees (stop m) r us xs ys = answered r ≡ refused m

-- the answer after the last line, by references and order, or by admission
unfoldable pub judged_by : Taken → List ℕ → List Float → Answer ℕ
judged_by taken ws ns = cond taken.progress.sound (admitted_as (admit_call ws ns) (value taken.lines) refused) (refused 3)

-- before the clearing: what was read where it is accepted
abbrev pub Filled : Outcome → Result ℕ Refusal → List ℕ → List Float → List ℕ → Type 0
Filled (done at lines progress ws ns vs) r us xs ys = (answered r ≡ value lines) × (us ≡ ws) × (xs ≡ ns) × (ys ≡ vs)
Filled (stop m) r us xs ys = answered r ≡ refused m
