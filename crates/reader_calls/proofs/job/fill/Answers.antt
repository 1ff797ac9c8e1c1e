-- The tests of lengths, then what was taken, as it is judged.
use mathlib.Core.Path.{refl}
use borrow.Author.Rules.{rules}
use Rattle.reader_store.specs.Progress.{start_progress}
use Rattle.reader_calls.specs.Reading.{tables_from}
use Rattle.reader_calls.proofs.JobCases.{fill-room, fill-text, reading-is, filled-by, filled-stop, filled-same}
use Rattle.reader_calls.proofs.job.fill.Goals as goal

pub returns-then-not-room : goal.returns-then-not-room
returns-then-not-room c = let a = c.args in fill-room a.text.now a.words.now a.numbers.now a.wants.now _ _ _ _ (search rules) refl

pub returns-then-text-gt-TEXT_MOST : goal.returns-then-text-gt-TEXT_MOST
returns-then-text-gt-TEXT_MOST c = let a = c.args in fill-text a.text.now a.words.now a.numbers.now a.wants.now (search rules) _ _ _ _ c.if-text-gt-TEXT_MOST.true refl

pub returns-in_err-taken : goal.returns-in_err-taken
returns-in_err-taken c =
    let a = c.args in
    let t = c.tables in
    let is = reading-is a.text.now a.words.now a.numbers.now a.wants.now (search rules) c.if-text-gt-TEXT_MOST.false in
    filled-same c.from_residual.result t.new.words t.new.numbers t.new.wants is
    (filled-stop (tables_from 16 0 a.text.now 0 0 start_progress a.words.now a.numbers.now a.wants.now) c.in_err-taken.field-0.0 t.new.words t.new.numbers t.new.wants (search rules) c.in_err-taken.ensures)

pub returns : goal.returns
returns c =
    let a = c.args in
    let t = c.tables in
    let j = c.judged in
    let is = reading-is a.text.now a.words.now a.numbers.now a.wants.now (search rules) c.if-text-gt-TEXT_MOST.false in
    filled-same j.result t.new.words t.new.numbers t.new.wants is
    (filled-by (tables_from 16 0 a.text.now 0 0 start_progress a.words.now a.numbers.now a.wants.now) c.in_ok-taken.taken j.result t.new.words t.new.numbers t.new.wants c.in_ok-taken.ensures j.ensures)
