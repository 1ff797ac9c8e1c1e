-- What the program's text holds of an accepted job (specs/Written). Reading has passed rows 3 to 5 and the samples are the road's own, so of the surface call's rows 7 and 8 are left; and demand 3 on that call is demand 3 on the points written. The road in memory is the one that the text says (reader_text_laws), and so are the wants.
use Prim.Native.Nat.{ℕ, zero, suc, ◌+◌, ◌-◌, ◌*◌, ◌/◌, ◌≤◌}
use native.Mathlib.Omega.{arith}
use mathlib.Core.Path.{◌≡◌, refl, sym, ◌∙◌, ap, subst}
use mathlib.Core.Bool.{Bool, true, false, cond}
use mathlib.Core.List.{List, [], ◌∷◌, ◌++◌, append-nil, append_assoc}
use lib.ListN.{length, get_or}
use lib.Dec.{leb}
use lib.Ieee.{Float, binary64}
use lib.Ieee.Bits.{of_bits-fits}
use borrow.Author.Tests.{le-leb}
use Rattle.float_laws.specs.Binary64.{f64}
use Rattle.refusals.specs.Answer.{Answer, value, refused, checked}
use Rattle.records.specs.Roads.{Road, road_of}
use Rattle.line_samples.specs.Samples.{samples_needed, samples_of}
use Rattle.line_samples.proofs.SpiralLaws.{length-samples_of}
use Rattle.admission.specs.Limits.{on_road}
use Rattle.admission.specs.Admission.{admitted}
use Rattle.admission.proofs.AdmissionLaws.{value-admitted, road-admitted}
use Rattle.admission_arguments.specs.Arguments.{station_row, across_road, across_row}
use Rattle.reader_lines.specs.Columns.{cell_of}
use Rattle.reader_lines.specs.declared.columns.Cells.{Cells}
use Rattle.reader_store.specs.declared.progress.Progress.{Progress}
use Rattle.surface_points.specs.declared.points.SurfacePoint32.{SurfacePoint32}
use Rattle.surface_laws.specs.Sizes.{SizedPoint}
use Rattle.surface_calls.specs.SurfaceCalls.{across_rows, place_rows, surface_here, surface_call}
use Rattle.surface_laws.proofs.OwnSamples.{own-surface-kept}
use Rattle.reader_calls.specs.Reading.{Outcome, done, stop, verdict_of, zeros, reading_of}
use Rattle.reader_laws.specs.Lines.{lines_of}
use Rattle.reader_laws.proofs.ReadTables.{accepted}
use Rattle.reader_text_laws.specs.Said.{road_said, patterns}
use Rattle.reader_text_laws.specs.TextSays.{AsSaid}
use Rattle.reader_text_laws.proofs.TextSays.{read-says}
use Rattle.reader_hex.specs.Digits.{bytes_of, hex_of, decimal_of}
use Rattle.program_output.specs.Lines.{space, names_line, number_line, point_line, output_line}
use Rattle.program_output.specs.Output.{want_line, want_lines, wants_text, written_for, output_of}
use Rattle.program_laws.specs.Written.{point_at, want_said, lines_said, WrittenSays, WrittenKept}
use Rattle.program_laws.proofs.NumbersFit.{read_fits}

-- ---- the wants' lines from the first on

module _ (words : List ℕ) (numbers samples : List Float) where
  first_line_lem : (a b : ℕ) (ws : List ℕ) (k : ℕ) → want_lines words numbers samples (a ∷ b ∷ ws) (suc k) ≡ want_line words numbers samples a b ++ want_lines words numbers samples ws k
  unfolding want_lines
  first_line_lem a b ws zero = sym (append-nil (want_line words numbers samples a b))
  first_line_lem a b ws (suc k) =
      let i : suc k * 2 ≡ suc (suc (k * 2)) = omega arith in
      let j : suc k * 2 + 1 ≡ suc (suc (k * 2 + 1)) = omega arith in
      ap (λ (n : ℕ). want_lines words numbers samples (a ∷ b ∷ ws) (suc k) ++ want_line words numbers samples (get_or (a ∷ b ∷ ws) n 0) (get_or (a ∷ b ∷ ws) (suc k * 2 + 1) 0)) i
      ∙ ap (λ (n : ℕ). want_lines words numbers samples (a ∷ b ∷ ws) (suc k) ++ want_line words numbers samples (get_or ws (k * 2) 0) (get_or (a ∷ b ∷ ws) n 0)) j
      ∙ ap (λ (l : List ℕ). l ++ want_line words numbers samples (get_or ws (k * 2) 0) (get_or ws (k * 2 + 1) 0)) (first_line_lem a b ws k)
      ∙ append_assoc (want_line words numbers samples a b) (want_lines words numbers samples ws k) (want_line words numbers samples (get_or ws (k * 2) 0) (get_or ws (k * 2 + 1) 0))

-- a want's line by its two rows
by_rows : (b c : Bool) (s t : ℕ) (p : SurfacePoint32) → output_line s t (cond b (cond c (value p) (refused 8)) (refused 7))
    ≡ hex_of 16 s ++ (space ∷ (hex_of 16 t ++ (space ∷ cond b (cond c (point_line p.point) (bytes_of "- 8\n")) (bytes_of "- 7\n"))))
unfolding output_line number_line decimal_of
by_rows true true s t p = refl
by_rows true false s t p = refl
by_rows false c s t p = refl

-- ---- an accepted text

module _ (text : List ℕ) (at count : ℕ) (progress : Progress) (words : List ℕ) (numbers : List Float) (wants : List ℕ) (read : reading_of text 1891 8449 32 ≡ done at count progress words numbers wants) where
  ok : admitted words numbers ≡ true
  ok = value-admitted words numbers (accepted text 1891 8449 32 at count progress words numbers wants read).admits

  abbrev road : Road
  road = road_of words numbers

  abbrev own : List Float
  own = samples_of road

  said : AsSaid text 1891 8449 32 at count progress words numbers wants
  said = read-says text 1891 8449 32 at count progress words numbers wants read

  room : leb (samples_needed road) (length own / 4) ≡ true
  room =
      let k = length-samples_of road in
      let l : samples_needed road ≤ length own / 4 = omega arith in
      le-leb (samples_needed road) (length own / 4) l

  abbrev here : ℕ → ℕ → SurfacePoint32
  here s t = surface_here words numbers own (f64 s) (f64 t)

  rows : (s t : ℕ) → surface_call words numbers own (f64 s) (f64 t) ≡ checked (station_row road (f64 s) ∷ across_row (f64 t) ∷ []) (value (here s t))
  unfolding surface_call
  rows s t = road-admitted words numbers (place_rows words numbers own (f64 s) ++ across_rows (f64 t)) (value (here s t)) ok ∙ rw room

  -- by which rows pass
  line-is : (s t : ℕ) → want_line words numbers own s t ≡ want_said road s t
  line-is s t = ap (λ (a : Answer SurfacePoint32). output_line s t a) (rows s t) ∙ by_rows (on_road road (f64 s)) (across_road (f64 t)) s t (here s t)

  lines_are : (rows : List Cells) (zs : List ℕ) → want_lines words numbers own (patterns rows ++ zs) (length rows) ≡ lines_said road rows
  unfolding want_lines
  lines_are [] zs = refl
  lines_are (r ∷ rs) zs =
      first_line_lem words numbers own (cell_of r 0) (cell_of r 1) (patterns rs ++ zs) (length rs)
      ∙ ap (λ (l : List ℕ). l ++ want_lines words numbers own (patterns rs ++ zs) (length rs)) (line-is (cell_of r 0) (cell_of r 1))
      ∙ ap (λ (l : List ℕ). want_said road (cell_of r 0) (cell_of r 1) ++ l) (lines_are rs zs)

  written : output_of text ≡ names_line ++ lines_said (road_said (lines_of text)) (lines_of text 15)
  unfolding output_of wants_text
  written =
      ap written_for read
      ∙ ap (λ (k : ℕ). names_line ++ want_lines words numbers own wants k) said.wants
      ∙ ap (λ (vs : List ℕ). names_line ++ want_lines words numbers own vs (length (lines_of text 15))) said.of_wants_held
      ∙ ap (λ (l : List ℕ). names_line ++ l) (lines_are (lines_of text 15) (zeros (32 - length (patterns (lines_of text 15)))))
      ∙ ap (λ (r : Road). names_line ++ lines_said r (lines_of text 15)) said.road

  point-called : (s t : ℕ) → on_road road (f64 s) ≡ true → across_road (f64 t) ≡ true → surface_call words numbers own (f64 s) (f64 t) ≡ value (here s t)
  point-called s t on across = rows s t ∙ rw (on, across)

  kept : (s t : ℕ) → on_road road (f64 s) ≡ true → across_road (f64 t) ≡ true → SizedPoint (point_at road s t).x (point_at road s t).y (point_at road s t).z
  kept s t on across =
      let fitting = read_fits text 1891 8449 32 at count progress words numbers wants read in
      own-surface-kept words numbers ok fitting (f64 s) (f64 t) (of_bits-fits binary64 s) (of_bits-fits binary64 t) (here s t) (point-called s t on across)

  kept-said : (s t : ℕ) → on_road (road_said (lines_of text)) (f64 s) ≡ true → across_road (f64 t) ≡ true
      → SizedPoint (point_at (road_said (lines_of text)) s t).x (point_at (road_said (lines_of text)) s t).y (point_at (road_said (lines_of text)) s t).z
  kept-said s t =
      subst (λ (r : Road). on_road r (f64 s) ≡ true → across_road (f64 t) ≡ true → SizedPoint (point_at r s t).x (point_at r s t).y (point_at r s t).z)
      said.road (kept s t)

-- ---- whatever was read

-- a text that is accepted has an outcome
by_outcome_lem : (P : Type 0) (o : Outcome) (n : ℕ) → verdict_of o ≡ value n
    → ((at count : ℕ) (progress : Progress) (words : List ℕ) (numbers : List Float) (wants : List ℕ) → o ≡ done at count progress words numbers wants → P) → P
by_outcome_lem P (done at count progress words numbers wants) n e f = f at count progress words numbers wants refl
by_outcome_lem P (stop m) n e f = let z : ◌≡◌ {A = ℕ} 0 1 = ap tag e in absurd (omega arith)
  where
    tag : Answer ℕ → ℕ
    tag (value k) = 1
    tag (refused k) = 0

pub written-says : WrittenSays
written-says text job = by_outcome_lem (output_of text ≡ names_line ++ lines_said (road_said (lines_of text)) (lines_of text 15)) (reading_of text 1891 8449 32) job.count job.accepted (written text)

pub written-kept : WrittenKept
written-kept text job s t on across =
    by_outcome_lem (SizedPoint (point_at (road_said (lines_of text)) s t).x (point_at (road_said (lines_of text)) s t).y (point_at (road_said (lines_of text)) s t).z)
    (reading_of text 1891 8449 32) job.count job.accepted
    (λ at count progress words numbers wants e. kept-said text at count progress words numbers wants e s t on across)
