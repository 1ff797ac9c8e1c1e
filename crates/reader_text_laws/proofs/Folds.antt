-- A text's tables as they are kept: a state before each table and after it, the words, wants and progress of its lines kept one after another (`Chain`, `chain`).
-- What holds before a table and is kept by each of its lines holds after it (`after-lines`).
use Prim.Native.Nat.{ℕ, zero, suc, ◌+◌, ◌<◌, ◌≤◌}
use native.Mathlib.Omega.{arith}
use native.Mathlib.Nat.{le_of_suc-le-suc, not-suc-le-zero, zero-add, add-zero}
use mathlib.Core.Path.{◌≡◌, refl, sym, ◌∙◌, ap, subst}
use Rattle.reader_store.proofs.Puts.{one_on}
use mathlib.Core.Bool.{Bool, true, false, ◌&&◌, cond}
use mathlib.Core.List.{List, [], ◌∷◌}
use lib.ListN.{length, get_or, length-set}
use lib.Seq.{get_or-set_other}
use lib.Dec.{eqb, ltb}
use lib.Ieee.{Float}
use borrow.Author.Tests.{eqb-true, eq-eqb}
use Rattle.std.proofs.lemmas.Bool.{false≢true}
use Rattle.reader_schema.specs.Schema.{name_of, limit_of}
use Rattle.reader_cells.specs.Cells.{byte_at, name_span}
use Rattle.reader_lines.specs.Columns.{no_cells}
use Rattle.reader_lines.specs.NamesLine.{head_at}
use Rattle.reader_lines.specs.ValuesLine.{values_at}
use Rattle.std.specs.Prelude.{Option, Some, None}
use Rattle.reader_cells.specs.declared.names.Span.{Span}
use Rattle.reader_lines.specs.declared.columns.Order.{Order}
use Rattle.reader_lines.specs.declared.columns.Cells.{Cells}
use Rattle.reader_store.specs.Layout.{count_place, put_at, count_kept, rule_of, numbers_kept, wants_kept}
use Rattle.reader_store.specs.Progress.{start_progress, unsound_progress, ended_progress}
use Rattle.reader_store.specs.Keep.{ruled_progress, kept_words, kept_progress}
use Rattle.reader_store.specs.declared.progress.Progress.{Progress}
use Rattle.reader_calls.specs.Reading.{Outcome, done, stop, by_outcome, lines_from, table_at, counted_progress, tables_from, zeros, zero_numbers, by_values, by_head}
use Rattle.reader_laws.specs.Lines.{Lines, lines, broken, after, by_lines, lines_at, table_lines, tables_lines, by_row, by_names}
use Rattle.reader_laws.proofs.LowWords.{Low, low_same, low-then, kept_low}
use Rattle.reader_laws.proofs.CountsKept.{word-past, count-few}
use Rattle.reader_laws.proofs.RoadLine.{kept-sound, counted-sound}

-- ---- the lines of a table, from line k on

unfoldable pub track_after : ℕ → ℕ → List Cells → Progress → List ℕ → Progress
track_after t k [] progress ws = progress
track_after t k (r ∷ rs) progress ws = track_after t (k + 1) rs (kept_progress t k r progress ws) (kept_words t k r progress ws)

unfoldable pub words_after : ℕ → ℕ → List Cells → Progress → List ℕ → List ℕ
words_after t k [] progress ws = ws
words_after t k (r ∷ rs) progress ws = words_after t (k + 1) rs (kept_progress t k r progress ws) (kept_words t k r progress ws)

unfoldable pub wants_after : ℕ → ℕ → List Cells → List ℕ → List ℕ
wants_after t k [] vs = vs
wants_after t k (r ∷ rs) vs = wants_after t (k + 1) rs (wants_kept t k r vs)

pub after-sound : (t k : ℕ) (rows : List Cells) (progress : Progress) (ws : List ℕ) → (track_after t k rows progress ws).sound ≡ true → progress.sound ≡ true
unfolding track_after
after-sound t k [] progress ws e = e
after-sound t k (r ∷ rs) progress ws e = kept-sound t k r progress ws (after-sound t (k + 1) rs (kept_progress t k r progress ws) (kept_words t k r progress ws) e)

-- what each line keeps of the lines to come, the table keeps
module _ (t : ℕ) (all : List Cells) (R : ℕ → List Cells → Progress → List ℕ → Type 0)
    (line : (k : ℕ) (rest : List Cells) (progress : Progress) (ws : List ℕ) → k < length all → R k (get_or all k no_cells ∷ rest) progress ws → R (k + 1) rest (kept_progress t k (get_or all k no_cells) progress ws) (kept_words t k (get_or all k no_cells) progress ws)) where
  fold-from : (rest : List Cells) (k : ℕ) (progress : Progress) (ws : List ℕ) → k + length rest ≡ length all → ((i : ℕ) → get_or rest i no_cells ≡ get_or all (k + i) no_cells) → R k rest progress ws
      → R (length all) [] (track_after t k rest progress ws) (words_after t k rest progress ws)
  unfolding track_after words_after
  fold-from [] k progress ws e same p = subst (λ (n : ℕ). R n [] progress ws) (sym (add-zero k) ∙ e) p
  fold-from (r ∷ rs) k progress ws e same p =
      fold-from rs (k + 1) (kept_progress t k r progress ws) (kept_words t k r progress ws) (omega arith) (λ i. same (suc i) ∙ ap (λ (n : ℕ). get_or all n no_cells) (one_on k i))
      (subst (λ (cells : Cells). R (k + 1) rs (kept_progress t k cells progress ws) (kept_words t k cells progress ws)) (sym here)
      (line k rs progress ws (omega arith) (subst (λ (cells : Cells). R k (cells ∷ rs) progress ws) here p)))
    where
      here : r ≡ get_or all k no_cells
      here = same 0 ∙ ap (λ (n : ℕ). get_or all n no_cells) (add-zero k)

  lines-fold : (progress : Progress) (ws : List ℕ) → R 0 all progress ws → R (length all) [] (track_after t 0 all progress ws) (words_after t 0 all progress ws)
  lines-fold progress ws = fold-from all 0 progress ws (zero-add (length all)) (λ i. ap (λ (n : ℕ). get_or all n no_cells) (sym (zero-add i)))

module _ (t : ℕ) (all : List Cells) (P : ℕ → Progress → List ℕ → Type 0) where
  -- what each line of a sound table keeps, the table keeps
  pub after-lines : ((k : ℕ) (progress : Progress) (ws : List ℕ) → k < length all → (kept_progress t k (get_or all k no_cells) progress ws).sound ≡ true → P k progress ws → P (k + 1) (kept_progress t k (get_or all k no_cells) progress ws) (kept_words t k (get_or all k no_cells) progress ws))
      → (progress : Progress) (ws : List ℕ) → (track_after t 0 all progress ws).sound ≡ true → P 0 progress ws → P (length all) (track_after t 0 all progress ws) (words_after t 0 all progress ws)
  unfolding track_after
  after-lines line progress ws s p =
      (lines-fold t all (λ k rest x us. ((track_after t k rest x us).sound ≡ true) × P k x us)
      (λ k rest x us h q. (q.0, line k x us h (after-sound t (k + 1) rest (kept_progress t k (get_or all k no_cells) x us) (kept_words t k (get_or all k no_cells) x us) q.0) q.1)) progress ws (s, p)).1

  -- where each line, being right, is shown to be sound on the way, what each keeps the table keeps
  pub right-lines : ((k : ℕ) (progress : Progress) (ws : List ℕ) → k < length all → P k progress ws → P (k + 1) (kept_progress t k (get_or all k no_cells) progress ws) (kept_words t k (get_or all k no_cells) progress ws))
      → (progress : Progress) (ws : List ℕ) → P 0 progress ws → P (length all) (track_after t 0 all progress ws) (words_after t 0 all progress ws)
  right-lines line = lines-fold t all (λ k rest x us. P k x us) (λ k rest x us h p. line k x us h p)

-- a table that follows no rule leaves the progress alone
module _ (t : ℕ) (none : rule_of t ≡ None) where
  plain-line : (k : ℕ) (cells : Cells) (progress : Progress) (ws : List ℕ) → kept_progress t k cells progress ws ≡ progress
  unfolding kept_progress ruled_progress
  plain-line k cells progress ws = rw none

  pub plain-track : (rows : List Cells) (k : ℕ) (progress : Progress) (ws : List ℕ) → track_after t k rows progress ws ≡ progress
  unfolding track_after
  plain-track [] k progress ws = refl
  plain-track (r ∷ rs) k progress ws = plain-track rs (k + 1) (kept_progress t k r progress ws) (kept_words t k r progress ws) ∙ plain-line k r progress ws

words-low : (t : ℕ) → t < 16 → (rows : List Cells) (k : ℕ) (progress : Progress) (ws : List ℕ) → Low 7 (words_after t k rows progress ws) ws
unfolding words_after
words-low t h [] k progress ws = low_same 7 ws
words-low t h (r ∷ rs) k progress ws =
    low-then 7 (words_after t (k + 1) rs (kept_progress t k r progress ws) (kept_words t k r progress ws)) (kept_words t k r progress ws) ws (words-low t h rs (k + 1) (kept_progress t k r progress ws) (kept_words t k r progress ws)) (kept_low 7 (omega arith) t (word-past t h) k r progress ws)

-- ---- a table

-- before a table and after it
pub record State : Type 0 where
  pub progress : Progress
  pub words : List ℕ
  pub wants : List ℕ

pub record Step (t : ℕ) (rows : List Cells) (s s' : State) : Type 0 where
  pub sound : s'.progress.sound ≡ true → (track_after t 0 rows s.progress s.words).sound ≡ true
  pub sound_if : (track_after t 0 rows s.progress s.words).sound ≡ true → (t ≡ 0 → 0 < length rows) → s'.progress.sound ≡ true
  pub road_line : t ≡ 0 → s'.progress.sound ≡ true → 0 < length rows
  pub strips : s'.progress.strips ≡ (track_after t 0 rows s.progress s.words).strips
  pub last : s.progress.last ≡ 0 → s'.progress.last ≡ 0
  pub size : length s'.words ≡ length s.words
  pub low : (p : ℕ) → p < 7 → (count_place t ≡ Some p → ⊥) → get_or s'.words p 0 ≡ get_or s.words p 0
  pub high : (p : ℕ) → 7 ≤ p → get_or s'.words p 0 ≡ get_or (words_after t 0 rows s.progress s.words) p 0
  pub wants : s'.wants ≡ wants_after t 0 rows s.wants

abbrev LinesBy : ℕ → ℕ → Progress → List ℕ → List ℕ → Lines → Outcome → Type 0
LinesBy t k progress ws vs p (stop m) = Unit {0}
LinesBy t k progress ws vs broken (done at n progress' us ns xs) = ⊥
LinesBy t k progress ws vs (lines rows next) (done at n progress' us ns xs) =
    (at ≡ next) × (n ≡ k + length rows) × (progress' ≡ ended_progress (track_after t k rows progress ws)) × (us ≡ count_kept t n (words_after t k rows progress ws)) × (xs ≡ wants_after t k rows vs)

lines_next : (t k : ℕ) (cells : Cells) (progress : Progress) (ws vs : List ℕ) (p : Lines) (o : Outcome) → LinesBy t (k + 1) (kept_progress t k cells progress ws) (kept_words t k cells progress ws) (wants_kept t k cells vs) p o → LinesBy t k progress ws vs (after cells p) o
unfolding track_after words_after wants_after
lines_next t k cells progress ws vs p (stop m) a = tt
lines_next t k cells progress ws vs broken (done at n progress' us ns xs) a = a
lines_next t k cells progress ws vs (lines rows next) (done at n progress' us ns xs) a = (a.0, (let e = a.1 in omega arith), a.2, a.3, a.4)

lines-by : (fuel t : ℕ) (order : Order) (text : List ℕ) (at k : ℕ) (progress : Progress) (ws : List ℕ) (ns : List Float) (vs : List ℕ) → LinesBy t k progress ws vs (lines_at fuel t order text at) (lines_from fuel t order text at k progress ws ns vs)
unfolding lines_at lines_from track_after words_after wants_after
lines-by zero t order text at k progress ws ns vs = go (eqb (byte_at text at) 10) (values_at text at t order)
  where
    go : (a : Bool) (x : Option (Span Cells)) → LinesBy t k progress ws vs (cond a (lines [] (at + 1)) broken) (cond a (done (at + 1) k (ended_progress progress) (count_kept t k ws) ns vs) (by_values x (λ cells next. stop 2)))
    go true x = (refl, omega arith, refl, refl, refl)
    go false (Some row) = tt
    go false None = tt
lines-by (suc fuel) t order text at k progress ws ns vs = go (eqb (byte_at text at) 10) (values_at text at t order) (λ cells next. lines-by fuel t order text next (k + 1) (kept_progress t k cells progress ws) (kept_words t k cells progress ws) (numbers_kept t k cells ns) (wants_kept t k cells vs))
  where
    go : (a : Bool) (x : Option (Span Cells))
        → ((cells : Cells) (next : ℕ) → LinesBy t (k + 1) (kept_progress t k cells progress ws) (kept_words t k cells progress ws) (wants_kept t k cells vs) (lines_at fuel t order text next) (lines_from fuel t order text next (k + 1) (kept_progress t k cells progress ws) (kept_words t k cells progress ws) (numbers_kept t k cells ns) (wants_kept t k cells vs)))
        → LinesBy t k progress ws vs (cond a (lines [] (at + 1)) (by_row x (λ cells next. after cells (lines_at fuel t order text next)))) (cond a (done (at + 1) k (ended_progress progress) (count_kept t k ws) ns vs) (by_values x (λ cells next. lines_from fuel t order text next (k + 1) (kept_progress t k cells progress ws) (kept_words t k cells progress ws) (numbers_kept t k cells ns) (wants_kept t k cells vs))))
    go true x ih = (refl, omega arith, refl, refl, refl)
    go false (Some row) ih = lines_next t k row.value progress ws vs (lines_at fuel t order text row.next) _ (ih row.value row.next)
    go false None ih = tt

module _ (t : ℕ) (small : t < 16) where
  count_other : (n p : ℕ) (ws : List ℕ) → (count_place t ≡ Some p → ⊥) → get_or (count_kept t n ws) p 0 ≡ get_or ws p 0
  unfolding count_kept
  count_other n p ws h = go (count_place t) refl
    where
      go : (o : Option ℕ) → count_place t ≡ o → get_or (put_at o n ws) p 0 ≡ get_or ws p 0
      go (Some q) e = get_or-set_other ws q p n 0 (λ z. h (e ∙ ap (λ (k : ℕ). Some k) (sym z)))
      go None e = refl

  count-high : (n p : ℕ) (ws : List ℕ) → 7 ≤ p → get_or (count_kept t n ws) p 0 ≡ get_or ws p 0
  count-high n p ws h = count_other n p ws (λ e. let f = count-few t small p e in omega arith)

  count-size : (n : ℕ) (ws : List ℕ) → length (count_kept t n ws) ≡ length ws
  unfolding count_kept
  count-size n ws = go (count_place t)
    where
      go : (o : Option ℕ) → length (put_at o n ws) ≡ length ws
      go (Some q) = length-set ws q n
      go None = refl

  counted-strips : (n : ℕ) (progress : Progress) → ((counted_progress t n progress).strips ≡ progress.strips) × ((counted_progress t n progress).last ≡ progress.last)
  unfolding counted_progress
  counted-strips n progress = go (eqb t 0 && eqb n 0)
    where
      go : (b : Bool) → ((cond b (unsound_progress progress) progress).strips ≡ progress.strips) × ((cond b (unsound_progress progress) progress).last ≡ progress.last)
      go true = (refl, refl)
      go false = (refl, refl)

  counted_if : (n : ℕ) (progress : Progress) → progress.sound ≡ true → (t ≡ 0 → 0 < n) → (counted_progress t n progress).sound ≡ true
  unfolding counted_progress
  counted_if n progress e f = go (eqb t 0) (eqb n 0) refl refl
    where
      go : (a b : Bool) → eqb t 0 ≡ a → eqb n 0 ≡ b → (cond (a && b) (unsound_progress progress) progress).sound ≡ true
      go true true p q = let z = f (eqb-true t 0 p) in let y = eqb-true n 0 q in absurd (omega arith)
      go true false p q = e
      go false b p q = e

  counted-line : (n : ℕ) (progress : Progress) → t ≡ 0 → (counted_progress t n progress).sound ≡ true → 0 < n
  unfolding counted_progress
  counted-line zero progress z e = absurd (false≢true (ap (λ (b : Bool). (cond (b && true) (unsound_progress progress) progress).sound) (sym (eq-eqb t 0 z)) ∙ e))
  counted-line (suc n) progress z e = omega arith

  abbrev TableBy : Progress → List ℕ → List ℕ → Lines → Outcome → Type 0
  TableBy progress ws vs p (stop m) = Unit {0}
  TableBy progress ws vs broken (done at n progress' us ns xs) = ⊥
  TableBy progress ws vs (lines rows next) (done at n progress' us ns xs) =
      (at ≡ next) × (n ≡ length rows) × Step t rows (record { progress = progress; words = ws; wants = vs }) (record { progress = counted_progress t n progress'; words = us; wants = xs })

  there-by : (progress : Progress) (ws vs : List ℕ) (p : Lines) (o : Outcome) → LinesBy t 0 progress ws vs p o → TableBy progress ws vs p o
  there-by progress ws vs p (stop m) a = tt
  there-by progress ws vs broken (done at n progress' us ns xs) a = a
  there-by progress ws vs (lines rows next) (done at n progress' us ns xs) a =
      let c = counted-strips n progress' in
      let w = words-low t small rows 0 progress ws in (
        a.0,
        (let e = a.1 in omega arith),
        record {
          sound = λ e. ap (λ (x : Progress). x.sound) (sym a.2) ∙ counted-sound t n progress' e;
          sound_if = λ e f. counted_if n progress' (ap (λ (x : Progress). x.sound) a.2 ∙ e) (λ z. let g = f z in let h = a.1 in omega arith);
          road_line = λ z e. let g = counted-line n progress' z e in let h = a.1 in omega arith;
          strips = c.0 ∙ ap (λ (x : Progress). x.strips) a.2;
          last = λ e. c.1 ∙ ap (λ (x : Progress). x.last) a.2;
          size = ap (λ (zs : List ℕ). length zs) a.3 ∙ count-size n (words_after t 0 rows progress ws) ∙ w.0;
          low = λ p h f. ap (λ (zs : List ℕ). get_or zs p 0) a.3 ∙ count_other n p (words_after t 0 rows progress ws) f ∙ w.1 p h;
          high = λ p h. ap (λ (zs : List ℕ). get_or zs p 0) a.3 ∙ count-high n p (words_after t 0 rows progress ws) h;
          wants = a.4;
        },
      )

  table-by : (text : List ℕ) (at : ℕ) (progress : Progress) (ws : List ℕ) (ns : List Float) (vs : List ℕ) → TableBy progress ws vs (table_lines t text at) (table_at t text at progress ws ns vs)
  unfolding table_lines table_at track_after words_after wants_after
  table-by text at progress ws ns vs =
      go (eqb (name_span text at).value (name_of t)) (head_at text (name_span text at).next t) (λ order next. lines-by (limit_of t) t order text next 0 progress ws ns vs)
    where
      go : (a : Bool) (x : Option (Span Order)) → ((order : Order) (next : ℕ) → LinesBy t 0 progress ws vs (lines_at (limit_of t) t order text next) (lines_from (limit_of t) t order text next 0 progress ws ns vs))
          → TableBy progress ws vs (cond a (by_names x (λ order next. lines_at (limit_of t) t order text next)) (lines [] at)) (cond a (by_head x (λ order next. lines_from (limit_of t) t order text next 0 progress ws ns vs)) (done at 0 progress ws ns vs))
      go true (Some head) ih = there-by progress ws vs (lines_at (limit_of t) t head.value text head.next) _ (ih head.value head.next)
      go true None ih = tt
      go false x ih =
          let c = counted-strips 0 progress in
          (refl, refl, record { sound = counted-sound t 0 progress; sound_if = λ e f. counted_if 0 progress e f; road_line = λ z e. counted-line 0 progress z e; strips = c.0; last = λ e. c.1 ∙ e; size = refl; low = λ p h f. refl; high = λ p h. refl; wants = refl })

-- ---- tables, one after another

pub record Chain (n t : ℕ) (s : State) (tables : List (List Cells)) (f : State) (c0 c : ℕ) : Type 0 where
  pub at : ℕ → State
  pub first : at 0 ≡ s
  pub end : at n ≡ f
  pub step : (i : ℕ) → i < n → Step (t + i) (get_or tables i []) (at i) (at (suc i))
  pub none : n ≡ 0 → c ≡ c0
  pub count : (i : ℕ) → n ≡ suc i → c ≡ length (get_or tables i [])

abbrev ChainBy : ℕ → ℕ → State → List (List Cells) → ℕ → Outcome → Type 0
ChainBy n t s tables c0 (stop m) = Unit {0}
ChainBy n t s tables c0 (done at c progress ws ns vs) = Chain n t s tables (record { progress = progress; words = ws; wants = vs }) c0 c

shift : State → (ℕ → State) → ℕ → State
shift s g zero = s
shift s g (suc i) = g i

join : (n t : ℕ) (s s' : State) (rows : List Cells) (tables : List (List Cells)) (c0 c1 : ℕ) → c1 ≡ length rows → Step t rows s s' → (o : Outcome) → ChainBy n (t + 1) s' tables c1 o → ChainBy (suc n) t s (rows ∷ tables) c0 o
unfolding shift
join n t s s' rows tables c0 c1 e a (stop m) h = tt
join n t s s' rows tables c0 c1 e a (done at c progress ws ns vs) h =
    record { at = shift s h.at; first = refl; end = h.end; step = steps; none = λ z. absurd (omega arith); count = counts }
  where
    steps : (i : ℕ) → i < suc n → Step (t + i) (get_or (rows ∷ tables) i []) (shift s h.at i) (h.at i)
    steps zero l = subst (λ (u : ℕ). Step u rows s (h.at 0)) (sym (add-zero t)) (subst (λ (q : State). Step t rows s q) (sym h.first) a)
    steps (suc i) l = subst (λ (u : ℕ). Step u (get_or tables i []) (h.at i) (h.at (suc i))) (sym (one_on t i)) (h.step i (le_of_suc-le-suc l))

    counts : (i : ℕ) → suc n ≡ suc i → c ≡ length (get_or (rows ∷ tables) i [])
    counts zero z = h.none (omega arith) ∙ e
    counts (suc i) z = h.count i (omega arith)

chain_by : (n t : ℕ) (text : List ℕ) (at c0 : ℕ) (s : State) (ns : List Float) → t + n ≤ 16 → ChainBy n t s (tables_lines n t text at) c0 (tables_from n t text at c0 s.progress s.words ns s.wants)
unfolding tables_lines tables_from
chain_by zero t text at c0 s ns most = go (ltb at (length text))
  where
    go : (b : Bool) → ChainBy 0 t s [] c0 (cond b (stop 1) (done at c0 s.progress s.words ns s.wants))
    go true = tt
    go false = record { at = λ i. s; first = refl; end = refl; step = λ i h. absurd (not-suc-le-zero h); none = λ e. refl; count = λ i e. absurd (omega arith) }
chain_by (suc n) t text at c0 s ns most =
    step (table_lines t text at) (table_at t text at s.progress s.words ns s.wants) (table-by t (omega arith) text at s.progress s.words ns s.wants)
    (λ at' c' s' ns'. chain_by n (t + 1) text at' c' s' ns' (omega arith))
  where
    step : (p : Lines) (o : Outcome) → TableBy t (omega arith) s.progress s.words s.wants p o
        → ((at' c' : ℕ) (s' : State) (ns' : List Float) → ChainBy n (t + 1) s' (tables_lines n (t + 1) text at') c' (tables_from n (t + 1) text at' c' s'.progress s'.words ns' s'.wants))
        → ChainBy (suc n) t s (by_lines p (λ rows next. rows ∷ tables_lines n (t + 1) text next)) c0
        (by_outcome o (λ at' count' progress' ws' ns' vs'. tables_from n (t + 1) text at' count' (counted_progress t count' progress') ws' ns' vs'))
    step p (stop m) a ih = tt
    step broken (done at' c' progress' us xs vs') a ih = absurd a
    step (lines rows next) (done at' c' progress' us xs vs') a ih =
        join n t s (record { progress = counted_progress t c' progress'; words = us; wants = vs' }) rows (tables_lines n (t + 1) text next) c0 c' a.1 a.2 (tables_from n (t + 1) text at' c' (counted_progress t c' progress') us xs vs')
        (subst (λ (q : ℕ). ChainBy n (t + 1) (record { progress = counted_progress t c' progress'; words = us; wants = vs' }) (tables_lines n (t + 1) text q) c' (tables_from n (t + 1) text at' c' (counted_progress t c' progress') us xs vs')) a.0
        (ih at' c' (record { progress = counted_progress t c' progress'; words = us; wants = vs' }) xs))

abbrev pub start_state : ℕ → ℕ → State
start_state l n = record { progress = start_progress; words = zeros l; wants = zeros n }

-- the states of a text of right form
pub chain : (text : List ℕ) (l m n at count : ℕ) (progress : Progress) (ws : List ℕ) (ns : List Float) (vs : List ℕ) → tables_from 16 0 text 0 0 start_progress (zeros l) (zero_numbers m) (zeros n) ≡ done at count progress ws ns vs
    → Chain 16 0 (start_state l n) (tables_lines 16 0 text 0) (record { progress = progress; words = ws; wants = vs }) 0 count
chain text l m n at count progress ws ns vs form =
    subst (λ (o : Outcome). ChainBy 16 0 (start_state l n) (tables_lines 16 0 text 0) 0 o) form (chain_by 16 0 text 0 0 (start_state l n) (zero_numbers m) (omega arith))
