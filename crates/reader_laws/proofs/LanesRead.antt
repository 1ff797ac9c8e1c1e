-- The sample lanes of specs/Samples, read by computation: its memory, the road that the memory stands for, admission.
use Prim.Native.Nat.{ℕ}
use mathlib.Core.Path.{◌≡◌, refl}
use mathlib.Core.Bool.{true}
use mathlib.Core.List.{List, [], ◌∷◌}
use lib.Dec.{leb}
use lib.Ieee.{Float}
use Rattle.records.specs.Roads as records-roads
use Rattle.admission_structure.specs.Structure as structure-structure
use Rattle.admission_order.specs.Order as structure-order
use Rattle.admission.specs.Limits as limits-limits
use Rattle.line_samples.specs.Samples as reference-line-spiral
use Rattle.reader_store.specs.declared.progress.Progress.{Progress}
use Rattle.std.specs.Prelude.{None, replicate}
use Rattle.reader_calls.specs.Reading.{done}
use Rattle.reader_calls.proofs.Computed.{reading, admitting}
use Rattle.reader_laws.specs.Samples.{lanes_lines, lanes_road, lanes_wants, Reads}
use Rattle.reader_laws.proofs.Memory.{these, blanks, numbers, noughts, taken, standing, structuring, reads}

abbrev pub memory_words : List ℕ
memory_words =
    these (1 ∷ 0 ∷ 0 ∷ 0 ∷ 0 ∷ 2 ∷ []) (
    blanks 66 (
    these (2 ∷ 2 ∷ 4 ∷ 1 ∷ 1 ∷ []) (
    blanks 43 (
    these (1 ∷ 0 ∷ 2 ∷ 0 ∷ 1 ∷ 1 ∷ 0 ∷ 0 ∷ 0 ∷ 0 ∷ 0 ∷ 1 ∷ 1 ∷ 2 ∷ 1 ∷ []) (
    blanks 6 (
    these (1 ∷ 2 ∷ 1 ∷ 0 ∷ 3 ∷ 1 ∷ 0 ∷ 0 ∷ 0 ∷ 1 ∷ 4 ∷ 1 ∷ 3 ∷ 1 ∷ []) (
    blanks 1193 (
    these (2 ∷ 2 ∷ 2 ∷ []) (
    blanks 29 (
    these (7 ∷ 3 ∷ 255 ∷ 1 ∷ 12 ∷ 0 ∷ 3 ∷ []) (
    blanks 504 (
    []))))))))))))

abbrev pub memory_numbers : List Float
memory_numbers =
    numbers (0x4024000000000000 ∷ 0x0000000000000000 ∷ 0x405cb00000000000 ∷ 0xc04cd00000000000 ∷ 0x3fbf800000000000 ∷ 0x4009040000000000 ∷ []) (
    noughts 1724 (
    numbers (0x4014000000000000 ∷ []) (
    noughts 14 (
    numbers (0x3fd0000000000000 ∷ 0x3f48000000000000 ∷ 0xbf44000000000000 ∷ 0x3f3c000000000000 ∷ 0x3f22000000000000 ∷ 0x3ff4000000000000 ∷ 0x3f66000000000000 ∷ 0xbf5a000000000000 ∷ 0x3f4e000000000000 ∷ 0x3f31000000000000 ∷ 0x3fd8000000000000 ∷ 0x3f73000000000000 ∷ 0xbf65000000000000 ∷ 0x3f57000000000000 ∷ 0x3f39000000000000 ∷ 0x3fdc000000000000 ∷ 0x3f7b000000000000 ∷ 0xbf6d000000000000 ∷ 0x3f5f000000000000 ∷ 0x3f40800000000000 ∷ 0x3ff8000000000000 ∷ 0x3f81800000000000 ∷ 0xbf72800000000000 ∷ 0x3f63800000000000 ∷ 0x3f44800000000000 ∷ []) (
    noughts 2535 (
    numbers (0x3fc0000000000000 ∷ 0x3f95800000000000 ∷ 0xbf96800000000000 ∷ 0x4002000000000000 ∷ 0x3f97800000000000 ∷ 0x3f98800000000000 ∷ 0x4003000000000000 ∷ 0x3f99800000000000 ∷ 0x3f9a800000000000 ∷ 0x4004000000000000 ∷ 0xbf9b800000000000 ∷ 0x3f9c800000000000 ∷ []) (
    noughts 3620 (
    numbers (0x3fb8000000000000 ∷ 0x3ff0800000000000 ∷ 0x3fe2000000000000 ∷ 0x4001000000000000 ∷ 0x3ff9000000000000 ∷ 0x400a000000000000 ∷ 0x3fe6000000000000 ∷ 0x3fee000000000000 ∷ []) (
    noughts 504 (
    []))))))))))

abbrev memory_wants : List ℕ
memory_wants = these lanes_wants (blanks 32 [])

abbrev progress : Progress
progress = record { sound = true; last = 0; strips = replicate 4 None }

lanes_taken : taken lanes_lines ≡ done 1282 0 progress memory_words memory_numbers memory_wants
unfolding reading
lanes_taken = refl

lanes-stands : records-roads.road_of memory_words memory_numbers ≡ lanes_road
unfolding standing
lanes-stands = refl

lanes-structured : structure-structure.structured memory_words memory_numbers ≡ true
unfolding structuring
lanes-structured = refl

lanes-admitted : (structure-order.ordered lanes_road ≡ true) × (limits-limits.limited lanes_road ≡ true) × (leb (reference-line-spiral.samples_needed lanes_road) 2000 ≡ true)
unfolding admitting
lanes-admitted = (refl, refl, refl)

pub lanes-read : Reads lanes_lines lanes_road lanes_wants 0
lanes-read =
    reads lanes_lines lanes_road lanes_wants 0 1282 progress memory_words memory_numbers memory_wants refl lanes_taken refl lanes-stands refl lanes-structured lanes-admitted.0 lanes-admitted.1 lanes-admitted.2
