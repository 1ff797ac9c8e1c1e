-- The lines of the wants one after the other, and their bound.
use Prim.Native.Nat.{ℕ, zero, suc, ◌+◌, ◌*◌, ◌/◌, ◌≤◌}
use native.Mathlib.Omega.{arith}
use mathlib.Core.Path.{◌≡◌, refl}
use mathlib.Core.List.{List}
use lib.ListN.{length, take, get_or, length-append}
use lib.Seq.{get_or-take, length-take-le}
use lib.Ieee.{Float, binary64, of_bits}
use Rattle.surface_calls.specs.SurfaceCalls.{surface_call}
use Rattle.program_output.specs.Lines.{output_line}
use Rattle.program_output.specs.Output.{want_lines, wants_text}
use Rattle.program_output.proofs.LineLaws.{line-few}

-- 61 bytes a want at most
pub lines-few : (words : List ℕ) (numbers samples : List Float) (wants : List ℕ) (n : ℕ) → length (want_lines words numbers samples wants n) ≤ 61 * n
unfolding want_lines
lines-few words numbers samples wants zero = omega arith
lines-few words numbers samples wants (suc n) =
    let u = get_or wants (n * 2) 0 in
    let v = get_or wants (n * 2 + 1) 0 in
    let a = surface_call words numbers samples (of_bits binary64 u) (of_bits binary64 v) in
    let b = line-few u v a in
    let h = lines-few words numbers samples wants n in
    let m = length-append (want_lines words numbers samples wants n) (output_line u v a) in
    omega arith

module _ (words : List ℕ) (numbers : List Float) (wants : List ℕ) where
  -- the lines of the first n wants, of a part that has these
  front-lines : (samples : List Float) (m n : ℕ) → n * 2 ≤ m → want_lines words numbers samples (take m wants) n ≡ want_lines words numbers samples wants n
  unfolding want_lines
  front-lines samples m zero h = refl
  front-lines samples m (suc n) h =
      rw (get_or-take m wants (n * 2) 0 (omega arith), get_or-take m wants (n * 2 + 1) 0 (omega arith), front-lines samples m n (omega arith))

  -- the text of the part that is the first n wants
  pub front-text : (n : ℕ) → n * 2 ≤ length wants → wants_text words numbers (take (n * 2) wants) (length (take (n * 2) wants) / 2) ≡ wants_text words numbers wants n
  unfolding wants_text
  front-text n h =
      let l = length-take-le (n * 2) wants h in
      let e : length (take (n * 2) wants) / 2 ≡ n = omega arith in
      rw (e, front-lines _ (n * 2) n (omega arith))
