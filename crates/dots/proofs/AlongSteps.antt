-- The arc length at a station, put together.
use Prim.Native.Nat.{ℕ, ◌+◌}
use native.Mathlib.Numerals.{add-one}
use mathlib.Core.Path.{◌≡◌}
use lib.Ieee.{Float}
use Rattle.float_laws.specs.Binary32.{◌⊕◌, ◌⊗◌, clamp_of}
use Rattle.float_laws.specs.Binary64.{zero64}
use Rattle.arithmetic.specs.Narrow.{narrowed}
use Rattle.arithmetic_ranges.specs.Ranges.{fraction}
use Rattle.records.specs.declared.points.Point.{Point}
use Rattle.tracks.specs.declared.segments.Segment.{Segment}
use Rattle.tracks.specs.Lines.{segment_at}
use Rattle.tracks.specs.Poses.{segment_in}
use Rattle.tracks.specs.Lengths.{distance_of, length_to}
use Rattle.dots.specs.Along.{one64, along}

pub along_is : (p : ℕ → Point) (c : ℕ → Float) (n : ℕ) (s : Float) {i : ℕ} {a b q f g before d : Float} {on : Segment} → i ≡ segment_in c n s → a ≡ c i → b ≡ c (i + 1) → q ≡ fraction a b s → f ≡ clamp_of zero64 one64 q
    → before ≡ length_to p i → on ≡ segment_at p i → d ≡ distance_of on.from on.to → g ≡ narrowed f → before ⊕ d ⊗ g ≡ along p c n s
unfolding along
along_is p c n s {i} hi ha hb hq hf hbefore ho hd hg = rw (hg, hf, hq, ha, hb, add-one i, hbefore, hd, ho, hi)
