-- A vector is a line of text: a function's letter, an argument and the answer that is expected (src/replay.rt has the form).
-- Read `verdict_of` first: where a line is counted.
use Rattle.std.specs.Prelude.{ℕ, cond, ℤ, ◌==◌, from_bits, to_bits, Float, Option, Some, None}
use Rattle.std.specs.Float.{binary32, binary64}
use Rattle.arithmetic.specs.Root.{root_of}
use Rattle.arithmetic.specs.Narrow.{narrowed}
use Rattle.arithmetic_sine.specs.Sine.{sine_of, cosine_of}
use Rattle.refusals.specs.Answer.{Answer, value, refused}
use Rattle.arithmetic_counts.specs.Count.{counts_call}
use Rattle.test_support.specs.declared.lines.Line.{Line}
use Rattle.test_vectors.specs.Raise.{raised_of}
use Rattle.test_vectors.specs.declared.functions.Function.{Function}
use Rattle.test_vectors.specs.declared.functions.Function.TheVariants.{Root, Narrow, Sine, Cosine, Counts}
use Rattle.test_vectors.specs.declared.replay.Verdict.{Verdict}
use Rattle.test_vectors.specs.declared.replay.Verdict.TheVariants.{Agrees, Differs}

-- the function of a letter among r n s c k
unfoldable pub function_of : ℕ → Option Function
function_of b =
    cond (b == 114) (Some Root) (cond (b == 110) (Some Narrow) (cond (b == 115) (Some Sine) (cond (b == 99) (Some Cosine) (cond (b == 107) (Some Counts) None))))

-- a whole number n as n + 2^63, a refusal as its number
abbrev pub counts_word : Answer ℤ → ℕ
counts_word (value n) = raised_of n
counts_word (refused number) = number

-- what a function answers, as a word
abbrev pub word_of : Function → Float → ℕ
word_of Root x = to_bits binary64 (root_of binary64 x)
word_of Narrow x = to_bits binary32 (narrowed x)
word_of Sine x = to_bits binary64 (sine_of x)
word_of Cosine x = to_bits binary64 (cosine_of x)
word_of Counts x = counts_word (counts_call x)

-- whether the answer is the one expected
abbrev pub compared : Function → ℕ → ℕ → Verdict
compared function got expected = cond (got == expected) (Agrees function) (Differs function got)

abbrev pub verdict_by : Option Function → Line → Option Verdict
verdict_by (Some function) line = Some (compared function (word_of function (from_bits binary64 line.a)) line.b)
verdict_by None line = None

-- none of a line that breaks the form, or that no function has the letter of
abbrev pub verdict_of : Option Line → Option Verdict
verdict_of (Some line) = verdict_by (function_of line.letter) line
verdict_of None = None
