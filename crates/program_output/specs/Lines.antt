-- Document 01, "The program `surface`": the lines that it writes. "names `s t x y z`, then a line per want (f32 as 8 digits); a refused want writes s, t, `-` and the number. A refused job writes only the line `refused` and the number."
-- s and t have the bits that were read. A zero of x, y or z is written with its own sign. Every line ends in LF.
use Rattle.std.specs.Prelude.{ℕ, List, [], ◌∷◌, ◌++◌, Float}
use Rattle.std.specs.Float.{binary32}
use Rattle.std.specs.Float.Ieee.{to_bits}
use Rattle.refusals.specs.Answer.{Answer, value, refused}
use Rattle.records.specs.declared.points.Point.{Point}
use Rattle.surface_points.specs.declared.points.SurfacePoint32.{SurfacePoint32}
use Rattle.reader_hex.specs.Digits.{bytes_of, hex_of, decimal_of}

abbrev pub space : ℕ
space = 32

abbrev pub line_end : ℕ
line_end = 10

abbrev pub names_line : List ℕ
names_line = bytes_of "s t x y z\n"

-- a number in decimal, at the end of a line
unfoldable pub number_line : ℕ → List ℕ
unfolding decimal_of
number_line n = decimal_of n ++ (line_end ∷ [])

-- ---- a point: each of x, y and z has the one pattern of its value, as none is a NaN; by demand 3 every point that is written is finite (program_laws, Written)

-- "f32 as 8 digits"
abbrev pub digits_of : Float → List ℕ
digits_of x = hex_of 8 (to_bits binary32 x)

-- x, y and z, at the end of a line
unfoldable pub point_line : Point → List ℕ
point_line p = digits_of p.x ++ (space ∷ (digits_of p.y ++ (space ∷ (digits_of p.z ++ (line_end ∷ [])))))

-- ---- a want, and a refused job

-- the end of a want's line: its point, or "`-` and the number"
abbrev pub answer_line : Answer SurfacePoint32 → List ℕ
answer_line (value p) = point_line p.point
answer_line (refused n) = bytes_of "- " ++ number_line n

-- the line of a want, by the patterns of its s and t and what `surface` answers there
unfoldable pub output_line : ℕ → ℕ → Answer SurfacePoint32 → List ℕ
output_line s t answer = hex_of 16 s ++ (space ∷ (hex_of 16 t ++ (space ∷ answer_line answer)))

-- "A refused job writes only the line `refused` and the number"
unfoldable pub refused_line : ℕ → List ℕ
refused_line n = bytes_of "refused " ++ number_line n
