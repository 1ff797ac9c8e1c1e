-- A text that is printed, to be read beside `printed`: three tables with lines, in which every kind of cell stands; the others have none.
use Rattle.std.specs.Prelude.{ℕ, ◌≡◌, List, [], ◌∷◌, get_or}
use Prim.Native.String.{String}
use Rattle.reader_lines.specs.declared.columns.Cells.{Cells}
use Rattle.reader_laws.specs.Samples.{text_of}
use Rattle.reader_print_laws.specs.Printing.{printed}

-- a line of table 0 (road) and of table 1 (geom), two lines of table 7 (lane)
abbrev pub sample_lines : List (List (List ℕ))
sample_lines =
    ((0x4024000000000000 ∷ 0 ∷ 0 ∷ 0 ∷ 0 ∷ 0 ∷ 0 ∷ 0 ∷ []) ∷ []) ∷
    ((0 ∷ 0x4059b00000000000 ∷ 0xc049500000000000 ∷ 0xffffffffffffffff ∷ 0x0123456789abcdef ∷ 2 ∷ 1 ∷ 0x8000000000000000 ∷ []) ∷ []) ∷
    [] ∷
    [] ∷
    [] ∷
    [] ∷
    [] ∷
    ((10000 ∷ 10002 ∷ 0 ∷ 0 ∷ 0 ∷ 0 ∷ 0 ∷ 0 ∷ []) ∷ (19999 ∷ 9988 ∷ 1 ∷ 1 ∷ 0 ∷ 0 ∷ 0 ∷ 0 ∷ []) ∷ []) ∷
    []

abbrev pub cells_of : List (List ℕ) → List Cells
cells_of [] = []
cells_of (xs ∷ xss) = record { of = xs } ∷ cells_of xss

abbrev pub sample_text : List String
sample_text =
    "road length" ∷
    "4024000000000000" ∷
    "" ∷
    "geom s x y hdg length kind k0 k1" ∷
    "0000000000000000 4059b00000000000 c049500000000000 ffffffffffffffff 0123456789abcdef spiral 0000000000000001 8000000000000000" ∷
    "" ∷
    "elev start a b c d" ∷
    "" ∷
    "bank start a b c d" ∷
    "" ∷
    "offset start a b c d" ∷
    "" ∷
    "tshift start a b c d" ∷
    "" ∷
    "section start" ∷
    "" ∷
    "lane section id extent level" ∷
    "0 2 width 0" ∷
    "9999 -12 border 1" ∷
    "" ∷
    "extent section id start a b c d" ∷
    "" ∷
    "height section id start inner outer" ∷
    "" ∷
    "profile s" ∷
    "" ∷
    "shape profile t a b c d" ∷
    "" ∷
    "strip side place relative" ∷
    "" ∷
    "cubic side place term start a b c d" ∷
    "" ∷
    "mark section id start end kind" ∷
    "" ∷
    "want s t" ∷
    "" ∷
    []

abbrev pub SamplePrinted : Type 0
SamplePrinted = printed (λ table. cells_of (get_or sample_lines table [])) ≡ text_of sample_text
