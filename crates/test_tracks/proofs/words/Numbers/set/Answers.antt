-- One number more a turn.
use Rattle.std.proofs.Common.{◌≡◌, ℕ, length, take, sym, ap, ◌∙◌, arith, le_refl, take_all}
use Rattle.test_tracks.specs.Words.{numbers_in}
use Rattle.test_tracks.proofs.words.Numbers.set.Goals as goal

pub returns : goal.returns
returns c =
    let row = c.args.row.now in
    let e : c.loop-i.i ≡ length row = omega arith in
    ap (λ (k : ℕ). take k c.loop-i.self-inside.room) (sym e) ∙ c.loop-i.invariant ∙ ap (λ (k : ℕ). numbers_in (take k row)) e ∙ ap numbers_in (take_all (length row) row (le_refl _))
