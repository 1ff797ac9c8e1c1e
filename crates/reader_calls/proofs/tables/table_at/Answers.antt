-- A law for each way out: no name, a broken line of names, the lines.
use mathlib.Core.Path.{◌≡◌}
use native.Mathlib.Omega.{arith}
use Rattle.std.proofs.Common.{Some, None, Err}
use Rattle.refusals.specs.declared.refusals.Refusal.TheVariants.{Form}
use Rattle.reader_calls.proofs.TakingCases.{agree-done, agree-stop, agree_same, agree_err, table-missing, table-broken, table_lines_lem}
use Rattle.reader_calls.proofs.tables.table_at.Goals as goal

pub returns-then-name-table_name : goal.returns-then-name-table_name
returns-then-name-table_name c = let a = c.args in agree-done (table-missing a.table a.text.now a.at a.progress a.words.now a.numbers.now a.wants.now c.name_at-name.ensures c.table_name.ensures c.if-name-table_name.true)

pub returns-in_err-head : goal.returns-in_err-head
returns-in_err-head c =
    let a = c.args in
    let none : c.head_at.result ≡ None = grind arith in
    let told : c.from_residual.result ≡ Err Form = grind arith in
    agree_err _ Form _ _ _ told
    (agree-stop Form _ _ _ (table-broken a.table a.text.now a.at a.progress a.words.now a.numbers.now a.wants.now c.name_at-name.ensures c.table_name.ensures c.if-name-table_name.false c.head_at.ensures none))

pub returns : goal.returns
returns c =
    let a = c.args in
    let l = c.table_lines in
    let there : c.head_at.result ≡ Some c.in_ok-head.head = grind arith in
    agree_same l.result l.new.words l.new.numbers l.new.wants
    (table_lines_lem a.table a.text.now a.at a.progress a.words.now a.numbers.now a.wants.now c.name_at-name.ensures c.table_name.ensures c.if-name-table_name.false c.head_at.ensures there) l.ensures
