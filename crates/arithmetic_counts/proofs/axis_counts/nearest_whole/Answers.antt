-- `nearest_whole` meets its contract: the size's nearest whole number, which is at most 800,000, with the sign put back.
use mathlib.Core.Path.{sym, ap, ◌∙◌}
use Prim.Native.Nat.{ℕ, ◌≤◌}
use native.Mathlib.Nat.{le_trans, le_of_eq}
use native.Mathlib.Omega.{arith}
use lib.Dec.{T}
use lib.IntN.{pos, neg_ℤ}
use lib.Ieee.{binary64, fits, of_bits, neg}
use lib.Ieee.Fits.{neg-fits}
use mir.Syntax.{w64}
use mir.ValLaws.{to_z_pos}
use borrow.Author.Rules.{rules}
use Rattle.arithmetic_counts.proofs.CountLaws.{turned, kept, whole-minus, whole-plus, size-le, minus-fits, minus_is}
use Rattle.arithmetic_counts.proofs.axis_counts.nearest_whole.Goals as goal
use Rattle.arithmetic_counts.proofs.axis_counts.nearest_whole.Goals.{After-nearest_size, After-nearest_size-k, Start}

fit : (c : Start) → T (fits binary64 c.args.p)
fit c = search rules

small-minus : (c : After-nearest_size-k) → c.nearest_size-k.result ≤ 800000
unfolding of_bits
small-minus c =
    let p = c.args.p in
    let f : T (fits binary64 p) = search rules in
    let t = turned p f c.requires.0 c.requires.1 c.if-p.true in
    le_trans (le_of_eq c.nearest_size-k.ensures) (size-le (neg p) (neg-fits binary64 p f) t.0 t.1)

small-plus : (c : After-nearest_size) → c.nearest_size.result ≤ 800000
unfolding of_bits
small-plus c =
    let p = c.args.p in
    let f : T (fits binary64 p) = search rules in
    le_trans (le_of_eq c.nearest_size.ensures) (size-le p f (kept p f c.requires.0 c.requires.1 c.if-p.false) c.requires.1)

pub nearest_size-k-requires : goal.nearest_size-k-requires
unfolding of_bits
nearest_size-k-requires c = turned c.args.p (fit (goal.at.nearest_size-k-requires c).Start) c.requires.0 c.requires.1 c.if-p.true

pub overflow_cast-k : goal.overflow_cast-k
overflow_cast-k c = record { sfits = let h = small-minus (goal.at.overflow_cast-k c).After-nearest_size-k in omega arith }

pub overflow_sub-result : goal.overflow_sub-result
overflow_sub-result c = minus-fits c.nearest_size-k.result (small-minus (goal.at.overflow_sub-result c).After-nearest_size-k)

pub returns-then-p : goal.returns-then-p
unfolding of_bits
returns-then-p c =
    minus_is c.nearest_size-k.result (small-minus (goal.at.returns-then-p c).After-nearest_size-k) ∙ ap (λ (k : ℕ). neg_ℤ (pos k)) c.nearest_size-k.ensures ∙ sym (whole-minus c.args.p (fit (goal.at.returns-then-p c).Start) c.requires.0 c.requires.1 c.if-p.true)

pub nearest_size-requires : goal.nearest_size-requires
unfolding of_bits
nearest_size-requires c = (kept c.args.p (fit (goal.at.nearest_size-requires c).Start) c.requires.0 c.requires.1 c.if-p.false, c.requires.1)

pub overflow_cast-result : goal.overflow_cast-result
overflow_cast-result c = record { sfits = let h = small-plus (goal.at.overflow_cast-result c).After-nearest_size in omega arith }

pub returns : goal.returns
unfolding of_bits
returns c =
    to_z_pos w64 c.nearest_size.result (let h = small-plus (goal.at.returns c).After-nearest_size in omega arith) ∙ ap pos c.nearest_size.ensures ∙ sym (whole-plus c.args.p (fit (goal.at.returns c).Start) c.requires.0 c.requires.1 c.if-p.false)
