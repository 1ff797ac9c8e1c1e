-- Document 02, Point 1: "all in f32". The four operations of an f32, each rounded once, and the constants that several definitions name, as a reader writes them.
use Rattle.std.specs.Prelude.{ℕ, cond, Float}
use Rattle.std.specs.Float.{binary32}
use Rattle.std.specs.Float.Ieee.{of_bits, add, sub, mul, div, lt}

infixl 20 ◌⊕◌
infixl 20 ◌⊖◌
infixl 30 ◌⊗◌
infixl 30 ◌⊘◌
abbrev pub ◌⊕◌ : Float → Float → Float
x ⊕ y = add binary32 x y

abbrev pub ◌⊖◌ : Float → Float → Float
x ⊖ y = sub binary32 x y

abbrev pub ◌⊗◌ : Float → Float → Float
x ⊗ y = mul binary32 x y

abbrev pub ◌⊘◌ : Float → Float → Float
x ⊘ y = div binary32 x y

-- an f32 by its 8 hexadecimal digits
abbrev pub f32 : ℕ → Float
f32 b = of_bits binary32 b

abbrev pub zero32 : Float
zero32 = f32 0

abbrev pub one32 : Float
one32 = f32 0x3f80_0000

-- the largest finite f32
abbrev pub largest32 : Float
largest32 = f32 0x7f7f_ffff

abbrev pub infinity32 : Float
infinity32 = f32 0x7f80_0000

-- Rust's `clamp`, where low ≤ high (else it panics): low below it, high above it, else x; a NaN stays
abbrev pub clamp_of : Float → Float → Float → Float
clamp_of low high x = cond (lt x low) low (cond (lt high x) high x)
