-- Document 01, "Stand-ins": sine, cosine and tangent, operation by operation, each rounded once.
use Rattle.std.specs.Prelude.{ℕ, zero, suc, ◌*◌, ◌%◌, Bool, cond, List, [], ◌∷◌, leb, eqb, pos, negsuc, Float}
use Rattle.std.specs.List.{fold}
use Rattle.std.specs.Float.{nan, binary64}
use Rattle.std.specs.Float.Ieee.{of_int, neg}
use Rattle.float_laws.specs.Binary64.{◌⊕◌, ◌⊖◌, ◌⊗◌, ◌⊘◌, f64}
use Rattle.arithmetic_ranges.specs.Ranges.{in_range}
use Rattle.arithmetic_sine.specs.Floor.{floor_of, quarter_of}
use Rattle.arithmetic_sine.specs.declared.sine.SinCos.{SinCos}

-- "NaN beyond ±12,000"
abbrev pub sine_range : Float
sine_range = f64 0x40c7_7000_0000_0000

-- "I = 3fe45f306dc9c883", "P = 3ff921fb54400000, Q = 3dd0b4611a626331"
abbrev pub I : Float
I = f64 0x3fe4_5f30_6dc9_c883

abbrev pub P : Float
P = f64 0x3ff9_21fb_5440_0000

abbrev pub Q : Float
Q = f64 0x3dd0_b461_1a62_6331

-- 0.5
abbrev pub half : Float
half = f64 0x3fe0_0000_0000_0000

-- 1
abbrev pub one : Float
one = f64 0x3ff0_0000_0000_0000

-- h×I + 0.5, what the floor is taken of
unfoldable pub turn : Float → Float
turn h = h ⊗ I ⊕ half

-- "n = floor(h×I + 0.5)"
unfoldable pub turns : Float → Float
turns h = floor_of binary64 (turn h)

-- "r = (h - n×P) - n×Q"
unfoldable pub rest : Float → Float → Float
rest h n = (h ⊖ n ⊗ P) ⊖ n ⊗ Q

unfoldable pub factorial : ℕ → ℕ
factorial zero = 1
factorial (suc n) = suc n * factorial n

-- "-1/15!..-1/3!", "1/16!..-1/2!", "signs alternating, each the rounded quotient": 1/n!, negative where n mod 4 is 2 or 3
unfoldable pub quotient : ℕ → Float
quotient n = of_int binary64 (cond (leb 2 (n % 4)) (negsuc 0) (pos 1)) ⊘ of_int binary64 (pos (factorial n))

-- "by Horner": the first coefficient, and those that follow it
unfoldable pub horner : Float → Float → List Float → Float
horner z c ds = fold (λ p d. p ⊗ z ⊕ d) c ds

-- "S = r + r×(z×p), C = 1 + z×q", "z = r×r"
unfoldable pub sine_kernel : Float → Float
sine_kernel r =
    let z = r ⊗ r in
    let p = horner z (quotient 15) (quotient 13 ∷ quotient 11 ∷ quotient 9 ∷ quotient 7 ∷ quotient 5 ∷ quotient 3 ∷ []) in
    r ⊕ r ⊗ (z ⊗ p)

unfoldable pub cosine_kernel : Float → Float
cosine_kernel r =
    let z = r ⊗ r in
    let q = horner z (quotient 16) (quotient 14 ∷ quotient 12 ∷ quotient 10 ∷ quotient 8 ∷ quotient 6 ∷ quotient 4 ∷ quotient 2 ∷ []) in
    one ⊕ z ⊗ q

-- "n mod 4 = 0,1,2,3: sine S, C, -S, -C; cosine C, -S, -C, S"
unfoldable pub sine_by : ℕ → Float → Float → Float
sine_by k s c = cond (eqb k 0) s (cond (eqb k 1) c (cond (eqb k 2) (neg s) (neg c)))

unfoldable pub cosine_by : ℕ → Float → Float → Float
cosine_by k s c = cond (eqb k 0) c (cond (eqb k 1) (neg s) (cond (eqb k 2) (neg c) s))

-- both, by the quarter
abbrev pub sin_cos_by : ℕ → Float → Float → SinCos
sin_cos_by k s c = record { sin = sine_by k s c; cos = cosine_by k s c }

-- "NaN beyond ±12,000"; both comparisons have to pass, so a NaN is outside
unfoldable pub in_sine_range : Float → Bool
in_sine_range h = in_range (neg sine_range) sine_range h

-- "Sine and cosine: NaN beyond ±12,000"; else from n and r
unfoldable pub sine_of : Float → Float
sine_of h =
    let n = turns h in
    let r = rest h n in
    cond (in_sine_range h) (sine_by (quarter_of n) (sine_kernel r) (cosine_kernel r)) nan

unfoldable pub cosine_of : Float → Float
cosine_of h =
    let n = turns h in
    let r = rest h n in
    cond (in_sine_range h) (cosine_by (quarter_of n) (sine_kernel r) (cosine_kernel r)) nan

-- sine and cosine of one angle
abbrev pub sin_cos_of : Float → SinCos
sin_cos_of h = record { sin = sine_of h; cos = cosine_of h }

-- "tan: sin / cos"
unfoldable pub tan_of : Float → Float
tan_of h = sine_of h ⊘ cosine_of h
