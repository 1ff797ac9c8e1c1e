-- The lines, part by part, and their lengths: a point's digits 27, a want at most 61.
use Rattle.std.proofs.Common.{◌≡◌, ℕ, suc, ◌+◌, ◌-◌, ◌*◌, ◌/◌, ◌%◌, ◌^◌, ◌≤◌, ◌<◌, Bool, true, false, cond, [], ◌∷◌, ◌++◌, length, sym, ap, ◌∙◌, arith, length-append}
use Rattle.std.proofs.lemmas.Nat.{pow-add}
use native.Mathlib.Nat.{div-div-eq-div-mul}
use lib.Dec.{ltb}
use lib.Ieee.{binary32, to_bits}
use borrow.Author.Tests.{lt-ltb, le-ltb}
use Rattle.refusals.specs.Answer.{Answer, value, refused}
use Rattle.records.specs.declared.points.Point.{Point}
use Rattle.surface_points.specs.declared.points.SurfacePoint32.{SurfacePoint32}
use Rattle.reader_hex.specs.Digits.{glyph_of, hex_of, decimal_of}
use Rattle.reader_hex.proofs.HexWritten.{hex-length}
use Rattle.program_output.specs.Lines.{number_line, point_line, answer_line, output_line}

-- ---- digits

-- a number's digits before a place, one place on
pub hex-turn : (digits place n : ℕ) → 0 < place → place ≤ digits
    → hex_of (digits - place) (n / 2 ^ (4 * place)) ++ (glyph_of (n / 2 ^ (4 * (place - 1)) % 16) ∷ []) ≡ hex_of (digits - (place - 1)) (n / 2 ^ (4 * (place - 1)))
unfolding hex_of
hex-turn digits place n h k =
    let d : digits - (place - 1) ≡ suc (digits - place) = omega arith in
    let e : 4 * place ≡ 4 * (place - 1) + 4 = omega arith in
    let q : n / 2 ^ (4 * place) ≡ n / 2 ^ (4 * (place - 1)) / 16 =
    ap (λ (j : ℕ). n / 2 ^ j) e ∙ ap (λ (m : ℕ). n / m) (pow-add 2 (4 * (place - 1)) 4) ∙ sym (div-div-eq-div-mul n (2 ^ (4 * (place - 1))) 16) in
    rw (q, d)

-- ---- the number of a refusal

pub number-short : (n : ℕ) → n < 10 → (48 + n % 10) ∷ 10 ∷ [] ≡ number_line n
unfolding number_line decimal_of
number-short n h = let e : n % 10 ≡ n = omega arith in rw (lt-ltb n 10 h, e)

pub number-long : (n : ℕ) → 10 ≤ n → (48 + n / 10) ∷ (48 + n % 10) ∷ 10 ∷ [] ≡ number_line n
unfolding number_line decimal_of
number-long n h = rw (le-ltb n 10 h)

number-bits : (b : Bool) (n : ℕ) → length (cond b ((48 + n) ∷ []) ((48 + n / 10) ∷ (48 + n % 10) ∷ []) ++ (10 ∷ [])) ≤ 3
number-bits true n = omega arith
number-bits false n = omega arith

pub length-number : (n : ℕ) → length (number_line n) ≤ 3
unfolding number_line decimal_of
length-number n = number-bits (ltb n 10) n

-- ---- a point, a want

pub length-point : (p : Point) → length (point_line p) ≡ 27
unfolding point_line
length-point p =
    let a = hex-length 8 (to_bits binary32 p.x) in
    let b = hex-length 8 (to_bits binary32 p.y) in
    let c = hex-length 8 (to_bits binary32 p.z) in
    simp length-append (omega arith)

length-line : (s t : ℕ) (a : Answer SurfacePoint32) → length (output_line s t a) ≡ 34 + length (answer_line a)
unfolding output_line
length-line s t a =
    let x = hex-length 16 s in
    let y = hex-length 16 t in
    simp length-append (omega arith)

length-answer : (a : Answer SurfacePoint32) → length (answer_line a) ≤ 27
length-answer (value p) = let e = length-point p.point in omega arith
length-answer (refused n) = let e = length-number n in omega arith

pub line-few : (s t : ℕ) (a : Answer SurfacePoint32) → length (output_line s t a) ≤ 61
line-few s t a = let e = length-line s t a in let f = length-answer a in omega arith
