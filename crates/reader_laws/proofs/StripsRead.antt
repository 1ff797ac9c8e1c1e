-- The sample strips of specs/Samples, read by computation: its memory, the road that the memory stands for, admission.
use Prim.Native.Nat.{ℕ}
use mathlib.Core.Path.{◌≡◌, refl}
use mathlib.Core.Bool.{true}
use mathlib.Core.List.{List, [], ◌∷◌}
use lib.Dec.{leb}
use lib.Ieee.{Float}
use Rattle.records.specs.Roads as records-roads
use Rattle.admission_structure.specs.Structure as structure-structure
use Rattle.admission_order.specs.Order as structure-order
use Rattle.admission.specs.Limits as limits-limits
use Rattle.line_samples.specs.Samples as reference-line-spiral
use Rattle.reader_store.specs.declared.progress.Progress.{Progress}
use Rattle.std.specs.Prelude.{Some}
use Rattle.reader_calls.specs.Reading.{done}
use Rattle.reader_calls.proofs.Computed.{reading, admitting}
use Rattle.reader_laws.specs.Samples.{strips_lines, strips_road, strips_wants, Reads}
use Rattle.reader_laws.proofs.Memory.{these, blanks, numbers, noughts, taken, standing, structuring, reads}

abbrev pub memory_words : List ℕ
memory_words =
    these (1 ∷ 0 ∷ 0 ∷ 0 ∷ 0 ∷ 1 ∷ []) (
    blanks 1297 (
    these (2 ∷ 3 ∷ 1 ∷ 0 ∷ 0 ∷ 0 ∷ 0 ∷ 4 ∷ 2 ∷ 0 ∷ 0 ∷ 1 ∷ 0 ∷ 0 ∷ 6 ∷ 1 ∷ []) (
    blanks 6 (
    these (2 ∷ 0 ∷ 0 ∷ 0 ∷ 0 ∷ 7 ∷ 1 ∷ 0 ∷ 0 ∷ 0 ∷ 0 ∷ 2 ∷ 0 ∷ 1 ∷ 1 ∷ 1 ∷ 0 ∷ 0 ∷ 0 ∷ 0 ∷ 2 ∷ 1 ∷ []) (
    blanks 544 (
    []))))))

abbrev pub memory_numbers : List Float
memory_numbers =
    numbers (0x4024000000000000 ∷ 0x0000000000000000 ∷ 0x405d300000000000 ∷ 0xc04d500000000000 ∷ 0x3fc1c00000000000 ∷ 0x4009240000000000 ∷ []) (
    noughts 7131 (
    numbers (0x3ff2000000000000 ∷ 0x3f28000000000000 ∷ 0xbf24000000000000 ∷ 0x3f1c000000000000 ∷ 0x3f12000000000000 ∷ 0x4007000000000000 ∷ 0x3f46000000000000 ∷ 0xbf3a000000000000 ∷ 0x3f2e000000000000 ∷ 0x3f21000000000000 ∷ 0x4014800000000000 ∷ 0x3df3000000000000 ∷ 0xbde5000000000000 ∷ 0x3dd7000000000000 ∷ 0x3dc9000000000000 ∷ 0x3ff6000000000000 ∷ 0x3f5b000000000000 ∷ 0xbf4d000000000000 ∷ 0x3f3f000000000000 ∷ 0x3f30800000000000 ∷ 0x400b000000000000 ∷ 0x3e81800000000000 ∷ 0xbe72800000000000 ∷ 0x3e63800000000000 ∷ 0x3e54800000000000 ∷ 0x4015000000000000 ∷ 0x3e85800000000000 ∷ 0xbe76800000000000 ∷ 0x3e67800000000000 ∷ 0x3e58800000000000 ∷ 0x4011800000000000 ∷ 0x3f69800000000000 ∷ 0xbf5a800000000000 ∷ 0x3f4b800000000000 ∷ 0x3f3c800000000000 ∷ 0x401d800000000000 ∷ 0x3efd800000000000 ∷ 0xbeee800000000000 ∷ 0x3edf800000000000 ∷ 0x3ed0400000000000 ∷ []) (
    noughts 1272 (
    []))))

abbrev memory_wants : List ℕ
memory_wants = these strips_wants (blanks 32 [])

abbrev progress : Progress
progress = record { sound = true; last = 0; strips = Some 1 ∷ Some 2 ∷ Some 3 ∷ Some 0 ∷ [] }

strips-taken : taken strips_lines ≡ done 1086 0 progress memory_words memory_numbers memory_wants
unfolding reading
strips-taken = refl

strips-stands : records-roads.road_of memory_words memory_numbers ≡ strips_road
unfolding standing
strips-stands = refl

strips-structured : structure-structure.structured memory_words memory_numbers ≡ true
unfolding structuring
strips-structured = refl

strips-admitted : (structure-order.ordered strips_road ≡ true) × (limits-limits.limited strips_road ≡ true) × (leb (reference-line-spiral.samples_needed strips_road) 2000 ≡ true)
unfolding admitting
strips-admitted = (refl, refl, refl)

pub strips-read : Reads strips_lines strips_road strips_wants 0
strips-read =
    reads strips_lines strips_road strips_wants 0 1086 progress memory_words memory_numbers memory_wants refl strips-taken refl strips-stands refl strips-structured strips-admitted.0 strips-admitted.1 strips-admitted.2
