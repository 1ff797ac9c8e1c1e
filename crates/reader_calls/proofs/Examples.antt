-- Texts read by computation: M1's tables as they are kept, and a refusal of each kind that needs no admission.
use mathlib.Core.Path.{◌≡◌, refl}
use mathlib.Core.List.{List, [], ◌∷◌}
use Prim.Native.Nat.{ℕ}
use Prim.Native.Char.{code}
use Prim.Native.String.{String}
use Prim.Native.String as text
use lib.ListN.{get_or}
use lib.Ieee.{binary64, of_bits}
use Rattle.refusals.specs.Answer.{Answer, value, refused}
use Rattle.reader_store.specs.Progress.{start_progress}
use Rattle.reader_calls.specs.Reading.{Outcome, tables_from, reading_by, zeros, zero_numbers, reading_of, verdict_of, words_held, numbers_held, wants_held}
use Rattle.reader_calls.proofs.Computed.{reading}

abbrev pub bytes_of : String → List ℕ
bytes_of text.[] = []
bytes_of (text.◌∷◌ c s) = code c ∷ bytes_of s

-- "Case M1: input tables road (length 10.0), geom (`line`, length 10.0, all else zero), section (0), want `3ff0000000000000 4000000000000000`"
abbrev pub text_m1 : List ℕ
text_m1 =
    bytes_of
    "road length\n4024000000000000\n\ngeom s x y hdg length kind k0 k1\n0000000000000000 0000000000000000 0000000000000000 0000000000000000 4024000000000000 line 0000000000000000 0000000000000000\n\nsection start\n0000000000000000\n\nwant s t\n3ff0000000000000 4000000000000000\n\n"

-- M1's tables, before admission
abbrev taken_m1 : Outcome
taken_m1 = tables_from 16 0 text_m1 0 0 start_progress (zeros 1891) (zero_numbers 8449) (zeros 32)

-- one want, with its two patterns
pub want_kept : verdict_of taken_m1 ≡ value 1
unfolding reading reading_by reading_of of_bits
want_kept = refl

pub wants_kept_lem : (get_or (wants_held 32 taken_m1) 0 0 ∷ get_or (wants_held 32 taken_m1) 1 0 ∷ []) ≡ (0x3ff0000000000000 ∷ 0x4000000000000000 ∷ [])
unfolding reading reading_by reading_of of_bits
wants_kept_lem = refl

-- one geometry and one section
pub counts-kept : (get_or (words_held 1891 taken_m1) 0 0 ∷ get_or (words_held 1891 taken_m1) 1 0 ∷ get_or (words_held 1891 taken_m1) 5 0 ∷ []) ≡ (1 ∷ 0 ∷ 1 ∷ [])
unfolding reading reading_by reading_of of_bits
counts-kept = refl

-- the road's length and the geometry's
pub lengths-kept :
    (get_or (numbers_held 8449 taken_m1) 0 (of_bits binary64 0) ∷ get_or (numbers_held 8449 taken_m1) 5 (of_bits binary64 0) ∷ [])
    ≡ (of_bits binary64 0x4024000000000000 ∷ of_bits binary64 0x4024000000000000 ∷ [])
unfolding reading reading_by reading_of of_bits
lengths-kept = refl

abbrev answer : String → Answer ℕ
answer s = verdict_of (reading_of (bytes_of s) 1891 8449 32)

-- no road table; one without lines; a line too many (2); that line broken (1 before 2); an unknown table; a table before its turn; no empty line at the end
pub refusals :
    (answer "" ∷ answer "road length\n\n" ∷ answer "road length\n4024000000000000\n4024000000000000\n\n" ∷ answer "road length\n4024000000000000\n402400000000000\n\n" ∷ answer "roads length\n\n" ∷ answer "geom\n\nroad length\n\n" ∷ answer "road length\n4024000000000000\n" ∷ [])
    ≡ (refused 3 ∷ refused 3 ∷ refused 2 ∷ refused 1 ∷ refused 1 ∷ refused 1 ∷ refused 1 ∷ [])
unfolding reading reading_by reading_of of_bits
refusals = refl

-- a slice that is one short, before any line is read
pub short :
    (verdict_of (reading_of (bytes_of "roads") 1890 8449 32) ∷ verdict_of (reading_of (bytes_of "roads") 1891 8448 32) ∷ verdict_of (reading_of (bytes_of "roads") 1891 8449 31) ∷ [])
    ≡ (refused 2 ∷ refused 2 ∷ refused 2 ∷ [])
unfolding reading reading_by reading_of of_bits
short = refl
