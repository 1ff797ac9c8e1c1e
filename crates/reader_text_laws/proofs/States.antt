-- The states of a text of right form that is sound up to a table, table by table: all sound, each table begun anew, the counts in their words, and the words from the sections' on still zero before the lanes (`blank`).
use Prim.Native.Nat.{ℕ, zero, suc, ◌+◌, ◌-◌, ◌*◌, ◌<◌, ◌≤◌}
use native.Mathlib.Omega.{arith}
use native.Mathlib.Nat.{zero-add}
use mathlib.Core.Path.{◌≡◌, refl, sym, ◌∙◌, ap, subst}
use mathlib.Core.Bool.{true}
use mathlib.Core.List.{List, [], ◌∷◌}
use lib.ListN.{length, get_or, set, replicate}
use lib.Seq.{get_or-set_other}
use lib.Ieee.{Float}
use Rattle.reader_schema.specs.Schema.{limit_of}
use Rattle.reader_lines.specs.Columns.{cell_of, no_cells}
use Rattle.reader_lines.specs.declared.columns.Cells.{Cells}
use Rattle.std.specs.Prelude.{Some, None}
use Rattle.reader_store.specs.Layout.{word_lines, word_columns, code_of, cells_kept, codes_kept, count_place, rule_of}
use Rattle.reader_store.specs.Keep.{ruled_words, ruled_progress, kept_words, kept_progress}
use Rattle.reader_store.specs.declared.progress.Progress.{Progress}
use Rattle.reader_calls.specs.Reading.{done, zeros}
use Rattle.reader_laws.specs.Lines.{tables_lines, lines_of}
use Rattle.reader_laws.proofs.LineLimits.{line_limits}
use Rattle.reader_laws.proofs.ReadTables.{RightForm}
use Rattle.reader_laws.proofs.CountsKept.{count-owner, count_kept_lem, zeros-blank}
use Rattle.reader_laws.proofs.TablesKept.{rows_few}
use Rattle.reader_text_laws.proofs.Folds.{track_after, words_after, after-sound, after-lines, State, Step, Chain, start_state, chain}

-- ---- a table whose lines keep no word and follow no rule

abbrev Quiet : ℕ → Type 0
Quiet t = (k : ℕ) (cells : Cells) (progress : Progress) (ws : List ℕ) → (kept_words t k cells progress ws ≡ ws) × (kept_progress t k cells progress ws ≡ progress)

quiet-lines : (t : ℕ) → Quiet t → (rows : List Cells) (k : ℕ) (progress : Progress) (ws : List ℕ) → (words_after t k rows progress ws ≡ ws) × (track_after t k rows progress ws ≡ progress)
unfolding words_after track_after
quiet-lines t q [] k progress ws = (refl, refl)
quiet-lines t q (r ∷ rs) k progress ws =
    let l = q k r progress ws in
    let i = quiet-lines t q rs (k + 1) (kept_progress t k r progress ws) (kept_words t k r progress ws) in
    (i.0 ∙ l.0, i.1 ∙ l.1)

quiet : Quiet 0 × Quiet 2 × Quiet 3 × Quiet 4 × Quiet 5 × Quiet 6 × Quiet 10 × Quiet 15
unfolding kept_words ruled_words kept_progress ruled_progress rule_of codes_kept cells_kept word_columns
quiet = (λ k c t w. (refl, refl), λ k c t w. (refl, refl), λ k c t w. (refl, refl), λ k c t w. (refl, refl), λ k c t w. (refl, refl), λ k c t w. (refl, refl), λ k c t w. (refl, refl), λ k c t w. (refl, refl))

-- geom keeps a kind for each line, and follows no rule
geom-line : (k : ℕ) (cells : Cells) (progress : Progress) (ws : List ℕ) → (kept_words 1 k cells progress ws ≡ set ws (7 + k * 1) (code_of (cell_of cells 5))) × (kept_progress 1 k cells progress ws ≡ progress)
unfolding kept_words ruled_words kept_progress ruled_progress rule_of codes_kept cells_kept word_columns word_lines
geom-line k cells progress ws = (refl, refl)

-- what is known of the states of a text of right form, the tables before u sound
pub record Reading (text : List ℕ) (l n u : ℕ) (state : ℕ → State) : Type 0 where
  pub first : state 0 ≡ start_state l n
  pub step : (t : ℕ) → t < 16 → Step t (lines_of text t) (state t) (state (suc t))
  pub long : 1891 ≤ length (zeros l)
  pub few : (t : ℕ) → t < 16 → length (lines_of text t) ≤ limit_of t
  pub sections : (t : ℕ) → 7 ≤ t → t ≤ 16 → get_or (state t).words 5 0 ≡ length (lines_of text 6)
  pub profiles : (t : ℕ) → 11 ≤ t → t ≤ 16 → get_or (state t).words 6 0 ≡ length (lines_of text 10)
  pub sound : (t : ℕ) → t < u → (track_after t 0 (lines_of text t) (state t).progress (state t).words).sound ≡ true

-- ---- a text of right form

module _ (text : List ℕ) (l m n at count : ℕ) (progress : Progress) (ws : List ℕ) (ns : List Float) (vs : List ℕ) (form : RightForm text l m n (done at count progress ws ns vs)) where
  abbrev all : Chain 16 0 (start_state l n) (tables_lines 16 0 text 0) (record { progress = progress; words = ws; wants = vs }) 0 count
  all = chain text l m n at count progress ws ns vs form.tables

  pub state : ℕ → State
  state t = all.at t

  pub state-step : (t : ℕ) → t < 16 → Step t (lines_of text t) (state t) (state (suc t))
  unfolding lines_of state
  state-step t h = subst (λ (u : ℕ). Step u (get_or (tables_lines 16 0 text 0) t []) (all.at t) (all.at (suc t))) (zero-add t) (all.step t h)

  pub state-first : state 0 ≡ start_state l n
  unfolding state
  state-first = all.first

  pub state-end : state 16 ≡ record { progress = progress; words = ws; wants = vs }
  unfolding state
  state-end = all.end

  low-from : (p q : ℕ) → p < 7 → ((t : ℕ) → q ≤ t → t < 16 → count_place t ≡ Some p → ⊥) → (d t : ℕ) → t + d ≡ 16 → q ≤ t → get_or (state t).words p 0 ≡ get_or ws p 0
  low-from p q h f zero t e g =
      let z : 16 ≡ t = omega arith in
      subst (λ (u : ℕ). get_or (state u).words p 0 ≡ get_or ws p 0) z (ap (λ (s : State). get_or s.words p 0) state-end)
  low-from p q h f (suc d) t e g = sym ((state-step t (omega arith)).low p h (f t g (omega arith))) ∙ low-from p q h f d (suc t) (omega arith) (omega arith)

  -- no other table has the words of the counts of section and profile
  sections-word : (t : ℕ) → 7 ≤ t → t ≤ 16 → get_or (state t).words 5 0 ≡ length (lines_of text 6)
  unfolding count_place
  sections-word t g h =
      low-from 5 7 (omega arith) (λ t a b e. let o : t ≡ 6 = count-owner t b 5 e in omega arith) (16 - t) t (omega arith) g
      ∙ count_kept_lem text l m n at count progress ws ns vs form 6 5 (omega arith) refl

  profiles-word : (t : ℕ) → 11 ≤ t → t ≤ 16 → get_or (state t).words 6 0 ≡ length (lines_of text 10)
  unfolding count_place
  profiles-word t g h =
      low-from 6 11 (omega arith) (λ t a b e. let o : t ≡ 10 = count-owner t b 6 e in omega arith) (16 - t) t (omega arith) g
      ∙ count_kept_lem text l m n at count progress ws ns vs form 10 6 (omega arith) refl

  pub reading : (u : ℕ) → ((t : ℕ) → t < u → (track_after t 0 (lines_of text t) (state t).progress (state t).words).sound ≡ true) → Reading text l n u state
  reading u s = record { first = state-first; step = state-step; long = form.words_long; few = rows_few text l m n at count progress ws ns vs form; sections = sections-word; profiles = profiles-word; sound = s }

  -- a text that ends sound was sound throughout
  sound-from : progress.sound ≡ true → (d t : ℕ) → t + d ≡ 16 → (state t).progress.sound ≡ true
  sound-from s zero t e = let z : 16 ≡ t = omega arith in subst (λ (u : ℕ). (state u).progress.sound ≡ true) z (ap (λ (s : State). s.progress.sound) state-end ∙ s)
  sound-from s (suc d) t e = after-sound t 0 (lines_of text t) (state t).progress (state t).words ((state-step t (omega arith)).sound (sound-from s d (suc t) (omega arith)))

  pub sound-reading : progress.sound ≡ true → Reading text l n 16 state
  sound-reading s = reading 16 (λ t h. (state-step t h).sound (sound-from s (15 - t) (suc t) (omega arith)))

-- ---- what the states hold, while they are sound

module _ (text : List ℕ) (l n u : ℕ) (state : ℕ → State) (reading : Reading text l n u state) where
  pub state-last : (t : ℕ) → t ≤ 16 → (state t).progress.last ≡ 0
  state-last zero h = ap (λ (s : State). s.progress.last) reading.first
  state-last (suc t) h = (reading.step t (omega arith)).last (state-last t (omega arith))

  pub state-size : (t : ℕ) → t ≤ 16 → length (state t).words ≡ length (zeros l)
  state-size zero h = ap (λ (s : State). length s.words) reading.first
  state-size (suc t) h = (reading.step t (omega arith)).size ∙ state-size t (omega arith)

  pub state-long : (t : ℕ) → t ≤ 16 → 1891 ≤ length (state t).words
  state-long t h = let e = state-size t h in let a = reading.long in omega arith

  -- the words from 71 on, and the strips, are as they were
  abbrev pub Still : State → State → Type 0
  Still s s' = (s'.progress.strips ≡ s.progress.strips) × ((p : ℕ) → 71 ≤ p → get_or s'.words p 0 ≡ get_or s.words p 0)

  still-quiet : (t : ℕ) → t < 16 → Quiet t → Still (state t) (state (suc t))
  still-quiet t h q =
      let e = quiet-lines t q (lines_of text t) 0 (state t).progress (state t).words in
      ((reading.step t h).strips ∙ ap (λ (x : Progress). x.strips) e.1, λ p g. (reading.step t h).high p (omega arith) ∙ ap (λ (zs : List ℕ). get_or zs p 0) e.0)

  abbrev GeomStill : ℕ → Progress → List ℕ → Type 0
  GeomStill k x us = (x.strips ≡ (state 1).progress.strips) × ((p : ℕ) → 71 ≤ p → get_or us p 0 ≡ get_or (state 1).words p 0)

  still-geom : 1 < u → Still (state 1) (state 2)
  still-geom s1 = ((reading.step 1 (omega arith)).strips ∙ kept.0, λ p g. (reading.step 1 (omega arith)).high p (omega arith) ∙ kept.1 p g)
    where
      line : (k : ℕ) (x : Progress) (us : List ℕ) → k < length (lines_of text 1) → (kept_progress 1 k (get_or (lines_of text 1) k no_cells) x us).sound ≡ true → GeomStill k x us
          → GeomStill (k + 1) (kept_progress 1 k (get_or (lines_of text 1) k no_cells) x us) (kept_words 1 k (get_or (lines_of text 1) k no_cells) x us)
      line k x us h s p =
          let g = geom-line k (get_or (lines_of text 1) k no_cells) x us in
          let f = reading.few 1 (omega arith) in
          let i = line_limits.geoms in
          (ap (λ (y : Progress). y.strips) g.1 ∙ p.0, λ q b. ap (λ (zs : List ℕ). get_or zs q 0) g.0 ∙ get_or-set_other us (7 + k * 1) q (code_of (cell_of (get_or (lines_of text 1) k no_cells) 5)) 0 (λ e. omega arith) ∙ p.1 q b)

      kept : GeomStill (length (lines_of text 1)) (track_after 1 0 (lines_of text 1) (state 1).progress (state 1).words) (words_after 1 0 (lines_of text 1) (state 1).progress (state 1).words)
      kept = after-lines 1 (lines_of text 1) GeomStill line (state 1).progress (state 1).words (reading.sound 1 s1) (refl, λ p g. refl)

  still-then : (s s' s'' : State) → Still s s' → Still s' s'' → Still s s''
  still-then s s' s'' a b = (b.0 ∙ a.0, λ p h. b.1 p h ∙ a.1 p h)

  pub still-10 : Still (state 10) (state 11)
  still-10 = still-quiet 10 (omega arith) quiet.6

  pub still-15 : Still (state 15) (state 16)
  still-15 = still-quiet 15 (omega arith) quiet.7

  still-7 : 1 < u → Still (state 0) (state 7)
  still-7 s1 =
      still-then (state 0) (state 1) (state 7) (still-quiet 0 (omega arith) quiet.0)
      (still-then (state 1) (state 2) (state 7) (still-geom s1)
      (still-then (state 2) (state 3) (state 7) (still-quiet 2 (omega arith) quiet.1)
      (still-then (state 3) (state 4) (state 7) (still-quiet 3 (omega arith) quiet.2)
      (still-then (state 4) (state 5) (state 7) (still-quiet 4 (omega arith) quiet.3) (still-then (state 5) (state 6) (state 7) (still-quiet 5 (omega arith) quiet.4) (still-quiet 6 (omega arith) quiet.5))))))

  pub blank : 1 < u → (p : ℕ) → 71 ≤ p → get_or (state 7).words p 0 ≡ 0
  blank s1 p h = (still-7 s1).1 p h ∙ ap (λ (s : State). get_or s.words p 0) reading.first ∙ zeros-blank l p

  pub blank-strips : 1 < u → (state 7).progress.strips ≡ replicate 4 None
  blank-strips s1 = (still-7 s1).0 ∙ ap (λ (s : State). s.progress.strips) reading.first
