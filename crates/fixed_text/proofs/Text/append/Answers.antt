-- What fits is the least of the piece and the room that is left.
use Rattle.std.proofs.Common.{arith}
use Rattle.fixed_text.proofs.TextLaws.{appended-is}
use Rattle.fixed_text.proofs.Text.append.Goals as goal

pub returns-clause-value : goal.returns-clause-value
returns-clause-value g c =
    let s = c.self.inside in
    rw (← c.self.view_is, c.copy_from_slice.ensures.after) (appended-is g.row.ROOM s.count c.min-n.result s.bytes c.args.piece.now (omega arith) (omega arith) c.min-n.ensures)
