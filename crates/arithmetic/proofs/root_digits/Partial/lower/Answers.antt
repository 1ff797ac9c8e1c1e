-- `lowered` has the digit and what is left; no number on the way is large (`early`, `late`).
use native.Mathlib.Omega.{arith}
use Rattle.arithmetic.proofs.RootLower.{early, lowered, late}
use Rattle.arithmetic.proofs.root_digits.Partial.lower.Goals as goal

pub overflow_mul-q : goal.overflow_mul-q
overflow_mul-q c = let s = c.args.self in record { fits = omega (arith, (early s.root s.rem c.args.half c.requires s.little).square) }

pub overflow_mul-result-3 : goal.overflow_mul-result-3
overflow_mul-result-3 c = let s = c.args.self in let d = c.next_digit-d in record { fits = omega (arith, (late s.root s.rem c.args.half c.requires s.little d.result d.ensures).square) }

pub overflow_sub-result : goal.overflow_sub-result
overflow_sub-result c = let s = c.args.self in let d = c.next_digit-d in (lowered s.root s.rem c.args.half c.requires s.little d.result d.ensures).within

pub invariant_of-result : goal.invariant_of-result
invariant_of-result c = let s = c.args.self in let d = c.next_digit-d in record { little = (lowered s.root s.rem c.args.half c.requires s.little d.result d.ensures).root.below }

pub returns-clause-number : goal.returns-clause-number
returns-clause-number c = let s = c.args.self in let d = c.next_digit-d in (lowered s.root s.rem c.args.half c.requires s.little d.result d.ensures).root.square

pub returns-clause-bound : goal.returns-clause-bound
returns-clause-bound c = let s = c.args.self in let d = c.next_digit-d in (late s.root s.rem c.args.half c.requires s.little d.result d.ensures).root
