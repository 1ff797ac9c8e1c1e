-- One digit below 10, else two; a refusal's number has no more.
use Rattle.std.proofs.Common.{ℕ, ◌≤◌, ◌<◌, List, ◌++◌, ap, arith, append_assoc, length-append}
use Rattle.refusals.specs.Refusal.{number_of}
use Rattle.program_output.proofs.LineLaws.{number-short, number-long}
use Rattle.program_output.proofs.text.push_number.Goals as goal
use Rattle.program_output.proofs.text.push_number.Goals.{then-n-ge10, else-n-ge10}

pub returns : goal.returns
returns c =
    elim c.if-n-ge10.branch [
      | then-n-ge10 w ↦ let h : 10 ≤ number_of c.args.r = omega arith in
          let one = w.push.ensures.fits (omega arith) in
          let two = c.push-2.ensures.fits (rw (w.text-is, one) (simp length-append (omega arith))) in
          let three = c.push-3.ensures.fits (rw (two, w.text-is, one) (simp length-append (omega arith))) in
          rw (three, two, w.text-is, one, append_assoc, append_assoc, c.from-n.ensures)
          (ap (λ (l : List ℕ). c.args.text.now ++ l) (number-long (number_of c.args.r) h))
      | else-n-ge10 w ↦ let h : number_of c.args.r < 10 = omega arith in
          let one = c.push-2.ensures.fits (rw w.text-is (omega arith)) in
          let two = c.push-3.ensures.fits (rw (one, w.text-is) (simp length-append (omega arith))) in
          rw (two, one, w.text-is, append_assoc, c.from-n.ensures)
          (ap (λ (l : List ℕ). c.args.text.now ++ l) (number-short (number_of c.args.r) h))
    ]
