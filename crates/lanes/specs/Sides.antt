-- A side by a flag, right of the center or left of it: which way it goes, and where its strips are.
use Rattle.std.specs.Prelude.{ℕ, Bool, true, false, Float}
use Rattle.float_laws.specs.Binary64.{f64}

-- "side sign", by which t counts outward: 1 left, -1 right
abbrev pub sign_of : Bool → Float
sign_of false = f64 0x3ff0_0000_0000_0000
sign_of true = f64 0xbff0_0000_0000_0000

-- "strip: side place relative (left/right, 0 inner/1 outer, ..)": of the four in that order, the inner and the outer of a side
abbrev pub inner_of : Bool → ℕ
inner_of false = 0
inner_of true = 2

abbrev pub outer_of : Bool → ℕ
outer_of false = 1
outer_of true = 3
