-- Hexadecimal digits as they are written: as many as are asked for.
use Prim.Native.Nat.{ℕ, zero, suc, ◌/◌, ◌%◌}
use native.Mathlib.Omega.{arith}
use mathlib.Core.Path.{◌≡◌, refl, ◌∙◌}
use mathlib.Core.List.{[], ◌∷◌}
use lib.ListN.{length, length-append}
use Rattle.reader_hex.specs.Digits.{glyph_of, hex_of}

pub hex-length : (k n : ℕ) → length (hex_of k n) ≡ k
unfolding hex_of
hex-length zero n = refl
hex-length (suc k) n = length-append (hex_of k (n / 16)) (glyph_of (n % 16) ∷ []) ∙ (let e = hex-length k (n / 16) in omega arith)
