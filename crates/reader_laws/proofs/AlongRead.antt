-- The sample along of specs/Samples, read by computation: its memory, the road that the memory stands for, admission.
use Prim.Native.Nat.{ℕ}
use mathlib.Core.Path.{◌≡◌, refl}
use mathlib.Core.Bool.{true}
use mathlib.Core.List.{List, [], ◌∷◌}
use lib.Dec.{leb}
use lib.Ieee.{Float}
use Rattle.records.specs.Roads as records-roads
use Rattle.admission_structure.specs.Structure as structure-structure
use Rattle.admission_order.specs.Order as structure-order
use Rattle.admission.specs.Limits as limits-limits
use Rattle.line_samples.specs.Samples as reference-line-spiral
use Rattle.reader_store.specs.declared.progress.Progress.{Progress}
use Rattle.std.specs.Prelude.{None, replicate}
use Rattle.reader_calls.specs.Reading.{done}
use Rattle.reader_calls.proofs.Computed.{reading, admitting}
use Rattle.reader_laws.specs.Samples.{along_lines, along_road, along_wants, Reads}
use Rattle.reader_laws.proofs.Memory.{these, blanks, numbers, noughts, taken, standing, structuring, reads}

abbrev pub memory_words : List ℕ
memory_words =
    these (3 ∷ 2 ∷ 2 ∷ 0 ∷ 0 ∷ 1 ∷ 0 ∷ 0 ∷ 1 ∷ 2 ∷ []) (
    blanks 1881 (
    []))

abbrev pub memory_numbers : List Float
memory_numbers =
    numbers (0x4024000000000000 ∷ 0x0000000000000000 ∷ 0x4059300000000000 ∷ 0xc049500000000000 ∷ 0x3f8c000000000000 ∷ 0x4008240000000000 ∷ 0x0000000000000000 ∷ 0x0000000000000000 ∷ 0x4008000000000000 ∷ 0x4059b00000000000 ∷ 0x4049d00000000000 ∷ 0xbf9e000000000000 ∷ 0x4008440000000000 ∷ 0x3f73000000000000 ∷ 0x0000000000000000 ∷ 0x4018000000000000 ∷ 0xc05a500000000000 ∷ 0x404a700000000000 ∷ 0x3fa9000000000000 ∷ 0x3ff0d80000000000 ∷ 0x3f8d000000000000 ∷ 0xbf8f000000000000 ∷ []) (
    noughts 427 (
    numbers (0x3fe0000000000000 ∷ 0x3f80800000000000 ∷ 0xbf71800000000000 ∷ 0x3f62800000000000 ∷ 0x3f43800000000000 ∷ 0x4012000000000000 ∷ 0x3f84800000000000 ∷ 0xbf75800000000000 ∷ 0x3f66800000000000 ∷ 0x3f47800000000000 ∷ []) (
    noughts 310 (
    numbers (0x3fe4000000000000 ∷ 0x3f78800000000000 ∷ 0xbf69800000000000 ∷ 0x3f4a800000000000 ∷ 0x3f2b800000000000 ∷ 0x4012800000000000 ∷ 0x3f7c800000000000 ∷ 0xbf6d800000000000 ∷ 0x3f4e800000000000 ∷ 0x3f2f800000000000 ∷ []) (
    noughts 7670 (
    []))))))

abbrev memory_wants : List ℕ
memory_wants = these along_wants (blanks 28 [])

abbrev progress : Progress
progress = record { sound = true; last = 0; strips = replicate 4 None }

along-taken : taken along_lines ≡ done 927 2 progress memory_words memory_numbers memory_wants
unfolding reading
along-taken = refl

along-stands : records-roads.road_of memory_words memory_numbers ≡ along_road
unfolding standing
along-stands = refl

along-structured : structure-structure.structured memory_words memory_numbers ≡ true
unfolding structuring
along-structured = refl

along-admitted : (structure-order.ordered along_road ≡ true) × (limits-limits.limited along_road ≡ true) × (leb (reference-line-spiral.samples_needed along_road) 2000 ≡ true)
unfolding admitting
along-admitted = (refl, refl, refl)

pub along-read : Reads along_lines along_road along_wants 2
along-read =
    reads along_lines along_road along_wants 2 927 progress memory_words memory_numbers memory_wants refl along-taken refl along-stands refl along-structured along-admitted.0 along-admitted.1 along-admitted.2
