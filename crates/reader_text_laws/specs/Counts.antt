-- Document 01, "The job text": the counts that stand beside its tables, as lengths of a road's lists, with no word on memory. "Too few, or too many under one parent, is 3". Read `counts_said`, then `said_rows`, at the end.
use Rattle.std.specs.Prelude.{ℕ, Bool, true, ◌&&◌, List, [], ◌∷◌, length, leb}
use Rattle.refusals.specs.Answer.{Row, row}
use Rattle.refusals.specs.declared.refusals.Refusal.TheVariants.{Structure, Range, SampleBudget}
use Rattle.records_cubic.specs.declared.cubics.Cubic.{Cubic}
use Rattle.records.specs.Roads.{Road, Section, Lane, Profile, Strip, absent, present}
use Rattle.admission_order.specs.Order.{ordered}
use Rattle.admission.specs.Limits.{limited}
use Rattle.line_samples.specs.Samples.{most_samples, samples_needed}

-- least to most, both included
abbrev pub within : ℕ → ℕ → ℕ → Bool
within least most n = leb least n && leb n most

-- each of a list passes a test
unfoldable pub every : {A : Type 0} → (A → Bool) → List A → Bool
every p [] = true
every p (x ∷ xs) = p x && every p xs

unfoldable pub lane_counts : Lane → Bool
lane_counts lane =
    within 0 16 (length lane.extents)  -- "extent: .. (0..16 a lane)"
    && within 0 8 (length lane.heights)  -- "height: .. (0..8 a lane)"

unfoldable pub section_counts : Section → Bool
unfolding every lane_counts
section_counts section =
    within 0 6 (length section.left)  -- "Per section ids 1,2.. left then -1,-2.. right, at most 6 a side"
    && within 0 6 (length section.right)  -- "at most 6 a side", right
    && every lane_counts section.left  -- "a lane" is one of either side: left
    && every lane_counts section.right  -- "a lane", right
    && within 0 16 (length section.marks)  -- document 02, point 2: "mark, .. at most 16 a section"

unfoldable pub profile_counts : Profile → Bool
profile_counts profile = within 1 16 (length profile.shapes)  -- "shape: .. (1..16 a profile; ..)"

unfoldable pub term_counts : List Cubic → Bool
term_counts cubics = within 0 8 (length cubics)  -- "cubic: .. (term width or 0..3, ..; 0..8 a term)"

-- "0..8 a term": of a strip that is there, its width and each of its terms 0 to 3; one that is not there has none
abbrev pub strip_counts : Strip → Bool
strip_counts absent = true
strip_counts (present strip) = term_counts strip.width && every term_counts strip.terms

unfoldable pub counts_said : Road → Bool
unfolding every section_counts profile_counts term_counts
counts_said road =
    within 1 64 (length road.geoms)  -- "geom: .. (1..64)"
    && within 0 64 (length road.elevations)  -- elev of "elev, bank, offset, tshift: .. (0..64 each)"
    && within 0 64 (length road.superelevations)  -- bank, "0..64 each"
    && within 0 64 (length road.offsets)  -- offset, "0..64 each"
    && within 0 64 (length road.tshifts)  -- tshift, "0..64 each"
    && within 1 16 (length road.sections)  -- "section: start (1..16)"
    && every section_counts road.sections  -- each section's lanes, their extents and heights, its marks
    && within 0 16 (length road.profiles)  -- "profile: s (0..16)"
    && every profile_counts road.profiles  -- each profile's shapes
    && every strip_counts road.strips  -- each strip's cubics

-- rows 3, 4 and 5 of a road: those that a lent road is judged by (admission specs/Admission.antt `road_rows`), with the lengths of its lists in place of the tests on words
abbrev pub said_rows : Road → List Row
said_rows road = row Structure (counts_said road && ordered road) ∷ row Range (limited road) ∷ row SampleBudget (leb (samples_needed road) most_samples) ∷ []
