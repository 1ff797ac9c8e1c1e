-- A side's word is one of two, so the place of a section's record leaves room for it.
use native.Mathlib.Omega.{arith}
use mathlib.Core.Path.{sym, ◌∙◌}
use Rattle.std.proofs.Common.{rules, ◌<◌}
use Rattle.reader_store.proofs.SideLaw.{side-cases}
use Rattle.reader_store.proofs.parents.lane_turn.Goals as goal

pub overflow_add-result : goal.overflow_add-result
overflow_add-result c =
    let small : c.in_ok-s.s.index < 4294967296 = search rules in
    let at = c.section_word-at.ensures in
    record { fits = side-cases c.section_record-record.result _ c.in_ok-side.side (sym c.side_word.ensures ∙ c.in_ok-side.was) (λ e id none. omega (arith, at, small)) (λ e id. omega (arith, at, small)) }
