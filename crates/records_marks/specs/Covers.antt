-- Document 02, point 2: where a mark span covers its lane. `covered` is what the function computes; `CoveredIs` says what it means.
use Rattle.std.specs.Prelude.{ℕ, ◌<◌, ◌≡◌, Bool, true, ◌&&◌, length, T, eqb, Float}
use Rattle.std.specs.Float.Ieee.{le, lt}
use Rattle.float_laws.specs.Binary64.{◌⊖◌}
use Rattle.records_lent.specs.Lists.{any_below}
use Rattle.records.specs.declared.points.Mark.{Mark}
use Rattle.records.specs.Roads.{Road, section_of, mark_at}

-- "A span covers its lane where s less the section's start is from start to just below end": d is that f64 difference
abbrev pub covers : Mark → Float → Bool
covers mark d = le mark.start d && lt d mark.end

-- a mark of a kind on a lane covers d
abbrev pub paints : Mark → ℕ → ℕ → Float → Bool
paints mark lane kind d = eqb mark.lane lane && eqb mark.kind kind && covers mark d

-- some mark of section i is on the lane, of the kind, and covers it at s; the lane by its place in the section, left ones outward, then right ones
unfoldable pub covered : Road → ℕ → ℕ → ℕ → Float → Bool
unfolding any_below
covered road i lane kind s = any_below (λ j. paints (mark_at road i j) lane kind (s ⊖ (section_of road i).start)) (length (section_of road i).marks)

-- one of the section's marks is on the lane, of the kind, and its span has s
pub record Covering (road : Road) (i lane kind : ℕ) (s : Float) : Type 0 where
  pub j : ℕ
  pub there : j < length (section_of road i).marks
  pub on : (mark_at road i j).lane ≡ lane
  pub of : (mark_at road i j).kind ≡ kind
  pub from : T (le (mark_at road i j).start (s ⊖ (section_of road i).start))
  pub below : T (lt (s ⊖ (section_of road i).start) (mark_at road i j).end)

abbrev pub CoveredIs : Type 0
CoveredIs = (road : Road) (i lane kind : ℕ) (s : Float) → (covered road i lane kind s ≡ true → Covering road i lane kind s) × (Covering road i lane kind s → covered road i lane kind s ≡ true)
