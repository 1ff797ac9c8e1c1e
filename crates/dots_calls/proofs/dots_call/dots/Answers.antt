use mathlib.Core.Path.{ap, ◌∙◌}
use Rattle.std.proofs.Common.{rules}
use Rattle.refusals.proofs.ResultLaws.{told}
use Rattle.dots_calls.proofs.CallSteps.{call-refused, entered, no-lane, of-lane}
use Rattle.dots_calls.proofs.dots_call.dots.Goals as goal

pub returns-in_err-lent : goal.returns-in_err-lent
returns-in_err-lent c =
    let a = c.args in
    let e = call-refused a.words.now a.numbers.now a.samples.now a.section a.lane a.spacing a.stations.now a.list.now _ c.in_err-lent.ensures in
    record { result_value = told _ _ c.from_residual.ensures.1 ∙ e.0; list_after = e.1 }

pub returns-in_err-place : goal.returns-in_err-place
returns-in_err-place c =
    let a = c.args in
    let r = entered a.words.now a.numbers.now a.samples.now a.section a.lane a.spacing a.stations.now a.list.now _ c.in_ok-lent.ensures in
    let e = no-lane a.words.now a.numbers.now a.samples.now a.section a.lane a.spacing a.stations.now a.list.now _ c.in_ok-lent.ensures (ap (λ l. l.road) r) (search rules) c.ok_or.ensures.value c.in_err-place.was in
    record { result_value = told _ _ c.from_residual-in_err-place.ensures.1 ∙ e.0; list_after = e.1 }

pub returns : goal.returns
returns c =
    let a = c.args in
    let r = entered a.words.now a.numbers.now a.samples.now a.section a.lane a.spacing a.stations.now a.list.now _ c.in_ok-lent.ensures in
    let e = of-lane a.words.now a.numbers.now a.samples.now a.section a.lane a.spacing a.stations.now a.list.now _ c.in_ok-lent.ensures (ap (λ l. l.road) r) (search rules) c.ok_or.ensures.value c.in_ok-place.was (ap (λ l. l.samples.now) r) c.place_dots.ensures.result_value c.place_dots.ensures.list_after in
    record { result_value = e.0; list_after = e.1 }
