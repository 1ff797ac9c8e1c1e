-- An accepted text's numbers: for every table, line and column that holds a number, memory holds the cell's float where the layout says (`number-kept`).
-- What the layout must have for this is three computed tests: numbers inside their line, tables one after another, all within 8,449 numbers.
use Prim.Native.Nat.{ℕ, zero, suc, ◌+◌, ◌-◌, ◌*◌, ◌<◌, ◌≤◌}
use native.Mathlib.Omega.{arith}
use native.Mathlib.Nat.{le_of_suc-le-suc, not-suc-le-zero, mul-le-mul_right, zero-add}
use mathlib.Core.Path.{◌≡◌, refl, sym, ◌∙◌, ap, subst}
use mathlib.Core.Bool.{Bool, true, false, ◌||◌, cond}
use mathlib.Core.List.{List, [], ◌∷◌}
use lib.ListN.{length, get_or}
use lib.Dec.{eqb, ltb, leb}
use lib.Ieee.{Float, nan, binary64, of_bits}
use borrow.Author.Tests.{leb-true, ne_eqb, lt-leb}
use Rattle.records_lent.specs.Lists.{all_below}
use Rattle.records_lent.proofs.TestLaws.{all-at}
use Rattle.reader_schema.specs.Schema.{limits, limit_of}
use Rattle.reader_lines.specs.Columns.{cell_of, no_cells}
use Rattle.reader_lines.specs.declared.columns.Cells.{Cells}
use Rattle.reader_store.specs.Layout.{number_lines, number_columns}
use Rattle.reader_store.specs.Progress.{start_progress}
use Rattle.reader_store.specs.declared.progress.Progress.{Progress}
use Rattle.reader_calls.specs.Reading.{Outcome, done, stop, by_outcome, table_at, counted_progress, tables_from, zeros, zero_numbers}
use Rattle.reader_laws.specs.Lines.{Lines, lines, broken, by_lines, table_lines, tables_lines, lines_of}
use Rattle.reader_laws.proofs.LowWords.{or_else}
use Rattle.reader_laws.proofs.ColumnPlaces.{place_in, number_place, place-found}
use Rattle.reader_laws.proofs.NumbersKept.{place_at, rows_put, rows-length, rows_other, rows_same}
use Rattle.reader_laws.proofs.ReadTables.{RightForm}
use Rattle.reader_laws.proofs.LinesKept.{Agree, table-agree}

-- ---- the layout's tests

inside-test : all_below (λ t. leb (length (number_columns t)) (number_lines t).stride) 16 ≡ true
unfolding all_below number_lines number_columns
inside-test = refl

region-test : all_below (λ t. all_below (λ u. leb u t || (eqb (number_lines t).stride 0 || (eqb (number_lines u).stride 0 || leb ((number_lines t).first + limit_of t * (number_lines t).stride) (number_lines u).first))) 16) 16 ≡ true
unfolding all_below number_lines limit_of limits
region-test = refl

room-test : all_below (λ t. leb ((number_lines t).first + limit_of t * (number_lines t).stride) 8449) 16 ≡ true
unfolding all_below number_lines limit_of limits
room-test = refl

module _ (t : ℕ) (small : t < 16) where
  inside : length (number_columns t) ≤ (number_lines t).stride
  inside = leb-true (length (number_columns t)) (number_lines t).stride (all-at (λ t. leb (length (number_columns t)) (number_lines t).stride) 16 inside-test t small)

  room : (number_lines t).first + limit_of t * (number_lines t).stride ≤ 8449
  room = leb-true ((number_lines t).first + limit_of t * (number_lines t).stride) 8449 (all-at (λ t. leb ((number_lines t).first + limit_of t * (number_lines t).stride) 8449) 16 room-test t small)

  region : (u : ℕ) → u < 16 → t < u → 0 < (number_lines t).stride → 0 < (number_lines u).stride → (number_lines t).first + limit_of t * (number_lines t).stride ≤ (number_lines u).first
  region u l h p q =
      let last = leb ((number_lines t).first + limit_of t * (number_lines t).stride) (number_lines u).first in
      let a = all-at (λ t. all_below (λ u. leb u t || (eqb (number_lines t).stride 0 || (eqb (number_lines u).stride 0 || leb ((number_lines t).first + limit_of t * (number_lines t).stride) (number_lines u).first))) 16) 16 region-test t small in
      let b = all-at (λ u. leb u t || (eqb (number_lines t).stride 0 || (eqb (number_lines u).stride 0 || leb ((number_lines t).first + limit_of t * (number_lines t).stride) (number_lines u).first))) 16 a u l in
      let c = or_else (leb u t) (eqb (number_lines t).stride 0 || (eqb (number_lines u).stride 0 || last)) b (lt-leb u t h) in
      let d = or_else (eqb (number_lines t).stride 0) (eqb (number_lines u).stride 0 || last) c (ne_eqb (number_lines t).stride 0 (λ z. omega arith)) in
      leb-true ((number_lines t).first + limit_of t * (number_lines t).stride) (number_lines u).first (or_else (eqb (number_lines u).stride 0) last d (ne_eqb (number_lines u).stride 0 (λ z. omega arith)))

-- ---- tables, one after another

-- n tables from t on, kept in ns as xs: places before them all are as they were, and every cell stands at its own
pub record Holds (n t : ℕ) (ns xs : List Float) (tables : List (List Cells)) : Type 0 where
  pub same : length xs ≡ length ns
  pub other : (p : ℕ) → ((u : ℕ) → t ≤ u → u < t + n → 0 < (number_lines u).stride → p < (number_lines u).first) → get_or xs p nan ≡ get_or ns p nan
  pub few : (i u : ℕ) → u ≡ t + i → i < n → length (get_or tables i []) ≤ limit_of u
  pub cell : (i u k j : ℕ) → u ≡ t + i → i < n → k < length (get_or tables i []) → j < length (number_columns u)
      → get_or xs (place_at u k j) nan ≡ of_bits binary64 (cell_of (get_or (get_or tables i []) k no_cells) (get_or (number_columns u) j 0))

abbrev pub Kept : ℕ → ℕ → List Float → List (List Cells) → Outcome → Type 0
Kept n t ns tables (stop m) = Unit {0}
Kept n t ns tables (done at count progress ws xs vs) = Holds n t ns xs tables

module _ (n t : ℕ) (most : t + suc n ≤ 16) (ns : List Float) (long : 8449 ≤ length ns) (rows : List Cells) (few : length rows ≤ limit_of t) where
  small : t < 16
  small = omega arith

  end_below : (k : ℕ) → k < length rows → (number_lines t).first + k * (number_lines t).stride + (number_lines t).stride ≤ (number_lines t).first + limit_of t * (number_lines t).stride
  end_below k l = let m : (k + 1) * (number_lines t).stride ≤ limit_of t * (number_lines t).stride = mul-le-mul_right (number_lines t).stride (let f = few in omega arith) in omega arith

  join : (tables : List (List Cells)) (xs : List Float) (o : Outcome) → xs ≡ rows_put t 0 rows ns → Kept n (t + 1) xs tables o → Kept (suc n) t ns (rows ∷ tables) o
  join tables xs (stop m) e h = tt
  join tables xs (done at count progress ws ys vs) e h =
      record {
        same = h.same ∙ ap (λ (zs : List Float). length zs) e ∙ rows-length t rows 0 ns;
        other = λ p f. h.other p (λ u a b. f u (omega arith) (omega arith)) ∙ ap (λ (zs : List Float). get_or zs p nan) e ∙ rows_other t rows 0 p ns (λ j c a b g q. let i = inside t small in let l = f t (omega arith) (omega arith) (omega arith) in omega arith);
        few = fewer;
        cell = cells;
      }
    where
      fewer : (i u : ℕ) → u ≡ t + i → i < suc n → length (get_or (rows ∷ tables) i []) ≤ limit_of u
      fewer zero u q l = subst (λ (w : ℕ). length rows ≤ limit_of w) (omega arith) few
      fewer (suc i) u q l = h.few i u (omega arith) (le_of_suc-le-suc l)

      first : (k j : ℕ) → k < length rows → j < length (number_columns t) → get_or ys (place_at t k j) nan ≡ of_bits binary64 (cell_of (get_or rows k no_cells) (get_or (number_columns t) j 0))
      first k j l p =
          let i = inside t small in
          let m = end_below k l in
          h.other (place_at t k j) (λ u a b g. let r = region t small u (omega arith) (omega arith) (omega arith) g in omega arith)
          ∙ ap (λ (zs : List Float). get_or zs (place_at t k j) nan) e
          ∙ ap (λ (q : ℕ). get_or (rows_put t 0 rows ns) (place_at t q j) nan) (sym (zero-add k))
          ∙ rows_same t (inside t small) j p rows 0 k ns l (let r = room t small in let f : length rows * (number_lines t).stride ≤ limit_of t * (number_lines t).stride = mul-le-mul_right (number_lines t).stride few in omega arith)

      cells : (i u k j : ℕ) → u ≡ t + i → i < suc n → k < length (get_or (rows ∷ tables) i []) → j < length (number_columns u)
          → get_or ys (place_at u k j) nan ≡ of_bits binary64 (cell_of (get_or (get_or (rows ∷ tables) i []) k no_cells) (get_or (number_columns u) j 0))
      cells zero u k j q l m p =
          let r : t ≡ u = omega arith in
          subst (λ (w : ℕ). get_or ys (place_at w k j) nan ≡ of_bits binary64 (cell_of (get_or rows k no_cells) (get_or (number_columns w) j 0))) r (first k j m (subst (λ (w : ℕ). j < length (number_columns w)) (sym r) p))
      cells (suc i) u k j q l m p = h.cell i u k j (omega arith) (le_of_suc-le-suc l) m p

no_cell : (i : ℕ) {A : Type 0} → i < 0 → A
no_cell i h = absurd (not-suc-le-zero h)

pub tables-kept : (n t : ℕ) (text : List ℕ) (at count : ℕ) (progress : Progress) (ws : List ℕ) (ns : List Float) (vs : List ℕ) → t + n ≤ 16 → 8449 ≤ length ns
    → Kept n t ns (tables_lines n t text at) (tables_from n t text at count progress ws ns vs)
unfolding tables_lines tables_from
tables-kept zero t text at count progress ws ns vs most long = go (ltb at (length text))
  where
    go : (b : Bool) → Kept 0 t ns [] (cond b (stop 1) (done at count progress ws ns vs))
    go true = tt
    go false = record { same = refl; other = λ p f. refl; few = λ i u e h. no_cell i h; cell = λ i u k c e h. no_cell i h }
tables-kept (suc n) t text at count progress ws ns vs most long =
    step (table_lines t text at) (table_at t text at progress ws ns vs) (table-agree t text at progress ws ns vs)
    (λ at' count' progress' ws' ns' vs' long'. tables-kept n (t + 1) text at' count' progress' ws' ns' vs' (omega arith) long')
  where
    step : (p : Lines) (o : Outcome) → Agree t (limit_of t) 0 ns p o
        → ((at' count' : ℕ) (progress' : Progress) (ws' : List ℕ) (ns' : List Float) (vs' : List ℕ) → 8449 ≤ length ns' → Kept n (t + 1) ns' (tables_lines n (t + 1) text at') (tables_from n (t + 1) text at' count' progress' ws' ns' vs'))
        → Kept (suc n) t ns (by_lines p (λ rows next. rows ∷ tables_lines n (t + 1) text next))
        (by_outcome o (λ at' count' progress' ws' ns' vs'. tables_from n (t + 1) text at' count' (counted_progress t count' progress') ws' ns' vs'))
    step p (stop m) a ih = tt
    step broken (done at' count' progress' ws' xs vs') a ih = absurd a
    step (lines rows next) (done at' count' progress' ws' xs vs') a ih =
        let l : 8449 ≤ length xs = subst (λ (zs : List Float). 8449 ≤ length zs) (sym a.3) (let e = rows-length t rows 0 ns in omega arith) in
        join n t most ns long rows a.2 (tables_lines n (t + 1) text next) xs (tables_from n (t + 1) text at' count' (counted_progress t count' progress') ws' xs vs') a.3
        (subst (λ (q : ℕ). Kept n (t + 1) xs (tables_lines n (t + 1) text q) (tables_from n (t + 1) text at' count' (counted_progress t count' progress') ws' xs vs')) a.0 (ih at' count' (counted_progress t count' progress') ws' xs vs' l))

-- ---- a whole text

module _ (text : List ℕ) (l m n at count : ℕ) (progress : Progress) (ws : List ℕ) (ns : List Float) (vs : List ℕ) (form : RightForm text l m n (done at count progress ws ns vs)) where
  holds : Holds 16 0 (zero_numbers m) ns (tables_lines 16 0 text 0)
  holds = subst (λ (o : Outcome). Kept 16 0 (zero_numbers m) (tables_lines 16 0 text 0) o) form.tables (tables-kept 16 0 text 0 0 start_progress (zeros l) (zero_numbers m) (zeros n) (omega arith) form.numbers_long)

  -- every cell of the text that is a number
  pub number-kept : (t k c : ℕ) → t < 16 → k < length (lines_of text t) → 0 < number_place t c
      → get_or ns ((number_lines t).first + k * (number_lines t).stride + (number_place t c - 1)) nan ≡ of_bits binary64 (cell_of (get_or (lines_of text t) k no_cells) c)
  unfolding lines_of number_place
  number-kept t k c h l p =
      let f = place-found (number_columns t) c (place_in (number_columns t) c - 1) (omega arith) in
      holds.cell t t k (place_in (number_columns t) c - 1) (sym (zero-add t)) h l f.0
      ∙ ap (λ (d : ℕ). of_bits binary64 (cell_of (get_or (get_or (tables_lines 16 0 text 0) t []) k no_cells) d)) f.1

  pub rows_few : (t : ℕ) → t < 16 → length (lines_of text t) ≤ limit_of t
  unfolding lines_of
  rows_few t h = holds.few t t (sym (zero-add t)) h

  -- memory keeps its length
  pub numbers-length : length ns ≡ length (zero_numbers m)
  numbers-length = holds.same

  -- a table with all the lines that the text has of it ends inside memory
  pub rows_inside : (t : ℕ) → t < 16 → (number_lines t).first + length (lines_of text t) * (number_lines t).stride ≤ length ns
  rows_inside t h =
      let a = form.numbers_long in
      let r = room t h in
      let f : length (lines_of text t) * (number_lines t).stride ≤ limit_of t * (number_lines t).stride = mul-le-mul_right (number_lines t).stride (rows_few t h) in
      let e = numbers-length in
      omega arith
