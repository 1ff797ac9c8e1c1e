-- Document 01, "Values": "Every operation is f64, rounded once". The four operations, and the constants that several definitions name, as a reader writes them.
use Rattle.std.specs.Prelude.{ℕ, cond, Float}
use Rattle.std.specs.Float.{binary64}
use Rattle.std.specs.Float.Ieee.{of_bits, add, sub, mul, div, lt, neg}

infixl 20 ◌⊕◌
infixl 20 ◌⊖◌
infixl 30 ◌⊗◌
infixl 30 ◌⊘◌
abbrev pub ◌⊕◌ : Float → Float → Float
x ⊕ y = add binary64 x y

abbrev pub ◌⊖◌ : Float → Float → Float
x ⊖ y = sub binary64 x y

abbrev pub ◌⊗◌ : Float → Float → Float
x ⊗ y = mul binary64 x y

abbrev pub ◌⊘◌ : Float → Float → Float
x ⊘ y = div binary64 x y

-- an f64 by its 16 digits
abbrev pub f64 : ℕ → Float
f64 b = of_bits binary64 b

abbrev pub zero64 : Float
zero64 = f64 0

-- the size of x: -x below 0, else x
abbrev pub abs_of : Float → Float
abs_of x = cond (lt x zero64) (neg x) x
