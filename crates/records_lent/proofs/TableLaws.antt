-- The lists of `Lists`: a table's length and its lines, the elements of a span, where a test of `any_below` passes, and what `last_that` depends on. By induction.
use Prim.Native.Nat.{ℕ, zero, suc, ◌+◌, ◌*◌, ◌/◌, ◌<◌, ◌≤◌}
use native.Mathlib.Omega.{arith}
use native.Mathlib.Nat.{add-zero, zero-mul, le_of_suc-le-suc, not-suc-le-zero, eq-or-lt_of_le}
use mathlib.Core.Path.{◌≡◌, refl, sym, ap, ap₂, ◌∙◌}
use mathlib.Core.Bool.{Bool, true, false, ◌||◌, or-true}
use mathlib.Core.List.{List, [], ◌∷◌}
use mathlib.Core.Logic.{⊎_elim}
use lib.ListN.{length, get_or, take, drop, get_or-eq_default, length-take, length-drop}
use lib.Seq.{get_or-take, get_or-drop, drop-drop}
use Rattle.std.proofs.Math.Nat.{div-eq_of_lt, div-mul-le_self, mul-le-mul_right, add-div_right}
use Rattle.std.proofs.lemmas.Bool.{cases_lt}
use Rattle.std.specs.Prelude.{Float}
use Rattle.records_lent.specs.Lists.{tabulate, records_of, span, all_below, any_below, last_that}

-- ---- tables

pub length-table : {A : Type 0} (f : ℕ → A) (n : ℕ) → length (tabulate f n) ≡ n
unfolding tabulate
length-table f zero = refl
length-table f (suc n) = ap suc (length-table (λ k. f (suc k)) n)

pub table_at : {A : Type 0} (f : ℕ → A) (n i : ℕ) (d : A) → i < n → get_or (tabulate f n) i d ≡ f i
unfolding tabulate
table_at f zero i d h = absurd (not-suc-le-zero h)
table_at f (suc n) zero d h = refl
table_at f (suc n) (suc i) d h = table_at (λ k. f (suc k)) n i d (le_of_suc-le-suc h)

pub table-past : {A : Type 0} (f : ℕ → A) (n i : ℕ) (d : A) → n ≤ i → get_or (tabulate f n) i d ≡ d
table-past f n i d h = get_or-eq_default (tabulate f n) d (rw length-table h)

-- how many lines a table has, from the list that it is
pub table-count : {A : Type 0} (f : ℕ → A) {m n : ℕ} {xs : List A} → n ≡ length xs → tabulate f m ≡ xs → n ≡ m
table-count f {m = m} e v = e ∙ sym (ap length v) ∙ length-table f m

-- the first line, and the others
pub table-step : {A : Type 0} (f : ℕ → A) (first : ℕ) {n m : ℕ} → n ≡ suc m → tabulate (λ k. f (first + k)) n ≡ f first ∷ tabulate (λ k. f (first + 1 + k)) m
unfolding tabulate
table-step f first {m = m} e =
    ap (tabulate (λ k. f (first + k))) e ∙ ap₂ (λ x xs. x ∷ xs) (ap f (add-zero first)) (ap (λ (q : ℕ → ℕ). tabulate (λ k. f (q k)) m) (λ i k. over first k i))
  where
    over : (a k : ℕ) → a + suc k ≡ a + 1 + k
    over a k = omega arith

-- ---- records

-- a record that is counted is held whole
pub record-whole : {A : Type 0} (from : List Float → ℕ → A) (stride : ℕ) (xs : List Float) {rs : List A} {n i : ℕ} → n ≡ length rs → records_of from stride xs ≡ rs → i < n
    → (i < length xs / stride) × (i * stride + stride ≤ length xs)
record-whole from stride xs {n = n} {i = i} e f h = (counted, whole (mul-le-mul_right stride counted) (div-mul-le_self (length xs) stride))
  where
    counted : i < length xs / stride
    counted = let a = ap length f in let b = length-table (λ i. from xs (i * stride)) (length xs / stride) in omega arith

    whole : suc i * stride ≤ length xs / stride * stride → length xs / stride * stride ≤ length xs → i * stride + stride ≤ length xs
    whole a b = omega arith

-- fewer numbers than one takes hold no record
pub records-none : {A : Type 0} (from : List Float → ℕ → A) (stride : ℕ) (xs : List Float) → length xs < stride → records_of from stride xs ≡ []
unfolding tabulate
records-none from stride xs h = ap (tabulate (λ i. from xs (i * stride))) (div-eq_of_lt h)

-- the first record, and those of the other numbers
pub records-step :
    {A : Type 0} (from : List Float → ℕ → A) (stride : ℕ) (own : (xs : List Float) (at : ℕ) → from (span xs at stride) 0 ≡ from xs at) (xs : List Float)
    → 0 < stride → stride ≤ length xs → records_of from stride xs ≡ from (take stride xs) 0 ∷ records_of from stride (drop stride xs)
unfolding tabulate
records-step {A} from stride own xs p h =
    ap (tabulate (λ i. from xs (i * stride))) count ∙ ap₂ (λ x rs. x ∷ rs) (ap (from xs) (zero-mul stride) ∙ sym (own xs 0)) (ap (λ (f : ℕ → A). tabulate f (length (drop stride xs) / stride)) (λ i k. later k i))
  where
    count : length xs / stride ≡ suc (length (drop stride xs) / stride)
    count =
        let l = length-drop stride xs in
        ap (λ (n : ℕ). n / stride) (let t : length xs ≡ length (drop stride xs) + stride = omega arith in t) ∙ add-div_right (length (drop stride xs)) p ∙ omega arith

    later : (i : ℕ) → from xs (suc i * stride) ≡ from (drop stride xs) (i * stride)
    later i = sym (own xs (suc i * stride)) ∙ ap (λ (ys : List Float). from (take stride ys) 0) (ap (λ (n : ℕ). drop n xs) (omega arith) ∙ sym (drop-drop (i * stride) stride xs)) ∙ own (drop stride xs) (i * stride)

-- ---- spans

module _ {A : Type 0} (xs : List A) (start count : ℕ) where
  pub span-at : (i : ℕ) (d : A) → i < count → get_or (span xs start count) i d ≡ get_or xs (start + i) d
  span-at i d h = get_or-take count (drop start xs) i d h ∙ get_or-drop start xs i d

  pub span-first : (d : A) → 0 < count → get_or (span xs start count) 0 d ≡ get_or xs start d
  span-first d h = span-at 0 d h ∙ ap (λ (k : ℕ). get_or xs k d) (add-zero start)

  pub span-past : (i : ℕ) (d : A) → count ≤ i → get_or (span xs start count) i d ≡ d
  span-past i d h = let l = length-take count (drop start xs) in get_or-eq_default (span xs start count) d (omega arith)

-- a part whose elements are values of a table's lines, by place, and the value of none past them
pub span-table :
    {A B : Type 0} (f : ℕ → B) (value : B → A) (none : B) (xs : List A) (start n i : ℕ) → ((k : ℕ) → k < n → get_or xs (start + k) (value none) ≡ value (f k))
    → get_or (span xs start n) i (value none) ≡ value (get_or (tabulate f n) i none)
span-table f value none xs start n i h =
    ⊎_elim
    (λ l. span-at xs start n i (value none) l ∙ h i l ∙ sym (ap value (table_at f n i none l)))
    (λ l. span-past xs start n i (value none) l ∙ sym (ap value (table-past f n i none l)))
    (cases_lt i n)

-- ---- a test at every index

module _ (p : ℕ → Bool) where
  pub all_none : all_below p 0 ≡ true
  unfolding all_below
  all_none = refl

-- ---- a test at some index

module _ (p : ℕ → Bool) where
  pub any_at : (i n : ℕ) → i < n → p i ≡ true → any_below p n ≡ true
  unfolding any_below
  any_at i zero l k = absurd (not-suc-le-zero l)
  any_at i (suc n) l k =
      ⊎_elim
      (λ e. rw (← e, k) (or-true (any_below p i)))
      (λ lt. rw (any_at i n lt k))
      (eq-or-lt_of_le (le_of_suc-le-suc l))

  -- the index at which it passes
  pub any_found : (n : ℕ) → any_below p n ≡ true → (i : ℕ) × (i < n) × (p i ≡ true)
  unfolding any_below
  any_found zero e = absurd (let z : ◌≡◌ {A = ℕ} 0 1 = cc in omega arith)
  any_found (suc n) e = go (any_below p n) (λ f. any_found n f) e
    where
      go : (a : Bool) → (a ≡ true → (i : ℕ) × (i < n) × (p i ≡ true)) → a || p n ≡ true → (i : ℕ) × (i < suc n) × (p i ≡ true)
      go true f e = let m = f refl in let l = m.1 in (m.0, omega arith, m.2)
      go false f e = (n, omega arith, e)

-- ---- the last that passes: the tests below n alone decide

pub last_that-same : (p q : ℕ → Bool) (n : ℕ) → ((i : ℕ) → i < n → p i ≡ q i) → last_that p n ≡ last_that q n
unfolding last_that
last_that-same p q zero h = refl
last_that-same p q (suc n) h = rw (h n (omega arith), last_that-same p q n (λ i l. h i (omega arith)))
