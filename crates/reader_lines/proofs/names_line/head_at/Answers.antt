use mathlib.Core.Path.{refl, sym, ◌∙◌}
use Rattle.reader_lines.proofs.PlaceLaws.{stood, another}
use Rattle.reader_lines.proofs.Heads.{head-is, names-broken, names-stop, names-next, names-end, names-cut}
use Rattle.reader_lines.proofs.names_line.head_at.Goals as goal

pub loop-i-init : goal.loop-i-init
loop-i-init c = head-is c.args.text.now c.args.at c.args.table c.count_of-n.ensures c.all-due.ensures c.none-order.ensures

pub returns-in_err-named : goal.returns-in_err-named
returns-in_err-named c =
    let a = c.args in let at = c.loop-i in
    c.from_residual.ensures ∙ sym (at.invariant ∙ names-broken a.text.now at.next a.table at.i _ at.due at.order c.column_at.ensures c.loop-i-test.true c.in_err-named.was)

pub returns-then-not-has : goal.returns-then-not-has
returns-then-not-has c =
    let a = c.args in let at = c.loop-i in
    sym (at.invariant ∙ names-stop a.text.now at.next a.table at.i _ at.due at.order c.column_at.ensures c.loop-i-test.true c.in_ok-named.was c.has.ensures c.if-not-has.true)

pub loop-i-preserved : goal.loop-i-preserved
loop-i-preserved c =
    let a = c.args in let at = c.loop-i in
    at.invariant ∙ names-next a.text.now at.next a.table at.i _ at.due at.order c.column_at.ensures c.loop-i-test.true c.in_ok-named.was c.has.ensures c.if-not-has.false c.meet.ensures c.name.ensures

pub returns-in_err-next : goal.returns-in_err-next
returns-in_err-next c =
    let a = c.args in let at = c.loop-i in
    c.from_residual-in_err-next.ensures ∙ sym (at.invariant ∙ names-cut a.text.now at.next a.table at.i _ at.due at.order refl c.loop-i-test.false (another a.text.now at.next 10 c.after.ensures c.in_err-next.was))

pub returns : goal.returns
returns c =
    let a = c.args in let at = c.loop-i in
    let e = stood a.text.now at.next 10 c.after.ensures c.in_ok-next.was in
    sym (at.invariant ∙ names-end a.text.now at.next a.table at.i _ at.due at.order refl c.loop-i-test.false e.0 e.1)
