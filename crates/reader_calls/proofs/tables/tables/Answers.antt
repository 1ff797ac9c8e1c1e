use mathlib.Core.Path.{◌∙◌}
use borrow.Author.Rules.{rules}
use Rattle.refusals.specs.declared.refusals.Refusal.TheVariants.{Form}
use Rattle.reader_calls.proofs.TakingCases.{agree-done, agree-stop, agree_same, agree_err, tables-next, tables-stop, tables-rest, tables-done}
use Rattle.reader_calls.proofs.tables.tables.Goals as goal

pub returns-in_err-taken : goal.returns-in_err-taken
returns-in_err-taken c =
    let a = c.args in
    let at = c.loop-table in
    let t = c.table_at in
    agree_same c.from_residual.result t.new.words t.new.numbers t.new.wants at.invariant.3
    (agree_err _ c.in_err-taken.field-0.0 t.new.words t.new.numbers t.new.wants (search rules) (tables-stop a.text.now 16 at.table at.so_far.next at.so_far.lines at.so_far.progress at.words at.numbers at.wants t.new.words t.new.numbers t.new.wants c.loop-table-test.true c.in_err-taken.field-0.0 c.in_err-taken.ensures))

pub loop-table-preserved : goal.loop-table-preserved
loop-table-preserved c =
    let a = c.args in
    let at = c.loop-table in
    let t = c.table_at in (
      t.auto.words ∙ at.invariant.0,
      t.auto.numbers ∙ at.invariant.1,
      t.auto.wants ∙ at.invariant.2,
      at.invariant.3 ∙ tables-next a.text.now 16 at.table at.so_far.next at.so_far.lines at.so_far.progress at.words at.numbers at.wants t.new.words t.new.numbers t.new.wants c.loop-table-test.true c.in_ok-taken.taken c.in_ok-taken.ensures c.road_there.ensures,
    )

pub returns-then-so_far-text : goal.returns-then-so_far-text
returns-then-so_far-text c =
    let a = c.args in
    let at = c.loop-table in
    agree-stop Form _ _ _ (at.invariant.3 ∙ tables-rest a.text.now 16 at.table at.so_far.next at.so_far.lines at.so_far.progress at.words at.numbers at.wants c.loop-table-test.false c.if-so_far-text.true)

pub returns : goal.returns
returns c =
    let a = c.args in
    let at = c.loop-table in
    agree-done (at.invariant.3 ∙ tables-done a.text.now 16 at.table at.so_far.next at.so_far.lines at.so_far.progress at.words at.numbers at.wants c.loop-table-test.false c.if-so_far-text.false)
