-- What the private functions of `root_digits` and `square_root` promise one another. Nothing public is said in these words: see Root.antt.
use Rattle.std.specs.Prelude.{ℕ, ◌+◌, ◌*◌, ◌^◌, ◌<◌, ◌≡◌, ◌==◌, cond}
use Rattle.std.specs.Float.{Format, binary32, binary64}
use Rattle.std.specs.Float.Ieee.{of_bits, prec, hid, ones}
use Rattle.arithmetic.specs.Root.{root_units}
use Rattle.arithmetic.specs.declared.root_digits.Partial.{Partial}

-- the number under a root so far: its square and what is left
abbrev pub under : Partial → ℕ
under s = s.root * s.root + s.rem

-- the pattern r, below the infinity's, is the root of m * 2 ^ j smallest values
pub record RootsTo (f : Format) (m j r : ℕ) : Type 0 where
  pub small : r < ones f * hid f
  pub is : of_bits f r ≡ root_units f (m * 2 ^ j)

-- the format that keeps p digits
abbrev pub format_of : ℕ → Format
format_of p = cond (p == 24) binary32 binary64

-- there is a format of p digits, and the exponent's field of its infinity is o
abbrev pub Width : ℕ → ℕ → Type 0
Width p o = (p ≡ prec (format_of p)) × (o ≡ ones (format_of p))
