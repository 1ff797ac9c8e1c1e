-- The sample aside of specs/Samples, read by computation: its memory, the road that the memory stands for, admission.
use Prim.Native.Nat.{ℕ}
use mathlib.Core.Path.{◌≡◌, refl}
use mathlib.Core.Bool.{true}
use mathlib.Core.List.{List, [], ◌∷◌}
use lib.Dec.{leb}
use lib.Ieee.{Float}
use Rattle.records.specs.Roads as records-roads
use Rattle.admission_structure.specs.Structure as structure-structure
use Rattle.admission_order.specs.Order as structure-order
use Rattle.admission.specs.Limits as limits-limits
use Rattle.line_samples.specs.Samples as reference-line-spiral
use Rattle.reader_store.specs.declared.progress.Progress.{Progress}
use Rattle.std.specs.Prelude.{None, replicate}
use Rattle.reader_calls.specs.Reading.{done}
use Rattle.reader_calls.proofs.Computed.{reading, admitting}
use Rattle.reader_laws.specs.Samples.{aside_lines, aside_road, aside_wants, Reads}
use Rattle.reader_laws.proofs.Memory.{these, blanks, numbers, noughts, taken, standing, structuring, reads}

abbrev pub memory_words : List ℕ
memory_words =
    these (1 ∷ 0 ∷ 0 ∷ 2 ∷ 2 ∷ 1 ∷ 2 ∷ []) (
    blanks 1265 (
    these (2 ∷ 2 ∷ 2 ∷ []) (
    blanks 616 (
    []))))

abbrev pub memory_numbers : List Float
memory_numbers =
    numbers (0x4024000000000000 ∷ 0x0000000000000000 ∷ 0x405d300000000000 ∷ 0xc04d500000000000 ∷ 0x3fc1c00000000000 ∷ 0x4009240000000000 ∷ []) (
    noughts 1083 (
    numbers (0x3fe8000000000000 ∷ 0x3f48000000000000 ∷ 0xbf44000000000000 ∷ 0x3f3c000000000000 ∷ 0x3f22000000000000 ∷ 0x4013000000000000 ∷ 0x3f66000000000000 ∷ 0xbf5a000000000000 ∷ 0x3f4e000000000000 ∷ 0x3f31000000000000 ∷ []) (
    noughts 310 (
    numbers (0x3fec000000000000 ∷ 0x3f73000000000000 ∷ 0xbf65000000000000 ∷ 0x3f57000000000000 ∷ 0x3f39000000000000 ∷ 0x4013800000000000 ∷ 0x3f7b000000000000 ∷ 0xbf6d000000000000 ∷ 0x3f5f000000000000 ∷ 0x3f40800000000000 ∷ []) (
    noughts 4422 (
    numbers (0x3ff0000000000000 ∷ 0x401c000000000000 ∷ []) (
    noughts 14 (
    numbers (0xc044000000000000 ∷ 0x3f81800000000000 ∷ 0xbf02800000000000 ∷ 0x3e83800000000000 ∷ 0x3e04800000000000 ∷ 0x4034000000000000 ∷ 0x3f85800000000000 ∷ 0xbf06800000000000 ∷ 0x3e87800000000000 ∷ 0x3e08800000000000 ∷ 0xc03e000000000000 ∷ 0x3f89800000000000 ∷ 0xbf0a800000000000 ∷ 0x3e8b800000000000 ∷ 0x3e0c800000000000 ∷ 0x403e000000000000 ∷ 0x3f8d800000000000 ∷ 0xbf0e800000000000 ∷ 0x3e8f800000000000 ∷ 0x3e10400000000000 ∷ []) (
    noughts 2572 (
    []))))))))))

abbrev memory_wants : List ℕ
memory_wants = these aside_wants (blanks 32 [])

abbrev progress : Progress
progress = record { sound = true; last = 0; strips = replicate 4 None }

aside-taken : taken aside_lines ≡ done 1022 0 progress memory_words memory_numbers memory_wants
unfolding reading
aside-taken = refl

aside-stands : records-roads.road_of memory_words memory_numbers ≡ aside_road
unfolding standing
aside-stands = refl

aside-structured : structure-structure.structured memory_words memory_numbers ≡ true
unfolding structuring
aside-structured = refl

aside-admitted : (structure-order.ordered aside_road ≡ true) × (limits-limits.limited aside_road ≡ true) × (leb (reference-line-spiral.samples_needed aside_road) 2000 ≡ true)
unfolding admitting
aside-admitted = (refl, refl, refl)

pub aside-read : Reads aside_lines aside_road aside_wants 0
aside-read =
    reads aside_lines aside_road aside_wants 0 1022 progress memory_words memory_numbers memory_wants refl aside-taken refl aside-stands refl aside-structured aside-admitted.0 aside-admitted.1 aside-admitted.2
