-- A test on each of a list against a test at each index (`all_below`): on the values of a function (`every-table`), on the lines that pass another test (`every-part`), on lines with their numbers (`every-numbered`). By induction, and by the lists of `Those`.
use Prim.Native.Nat.{ℕ, zero, suc, ◌+◌, ◌<◌}
use native.Mathlib.Omega.{arith}
use native.Mathlib.Nat.{add-zero, add-suc, add_assoc}
use mathlib.Core.Path.{◌≡◌, refl, sym, ◌∙◌, ap}
use mathlib.Core.Bool.{Bool, true, false, ◌&&◌, and-true, and_assoc}
use mathlib.Core.List.{List, map}
use lib.ListN.{length, get_or}
use Rattle.records_lent.specs.Lists.{tabulate, all_below}
use Rattle.records_lent.proofs.TableLaws.{all_none}
use Rattle.records_lent.proofs.RangeLaws.{all-front}
use Rattle.reader_lines.specs.Columns.{no_cells}
use Rattle.reader_lines.specs.declared.columns.Cells.{Cells}
use Rattle.reader_text_laws.specs.Said.{those, numbered}
use Rattle.reader_text_laws.specs.Counts.{every}
use Rattle.reader_text_laws.proofs.Those.{Part, those-part, table-part, table-numbered}

both-same : {a a' b b' : Bool} → a ≡ a' → b ≡ b' → a && b ≡ a' && b'
both-same e f = rw (e, f)

pub all_same : (p q : ℕ → Bool) (n : ℕ) → ((i : ℕ) → i < n → p i ≡ q i) → all_below p n ≡ all_below q n
unfolding all_below
all_same p q zero h = refl
all_same p q (suc n) h = both-same (all_same p q n (λ i l. h i (omega arith))) (h n (omega arith))

pub all_pass : (p : ℕ → Bool) (n : ℕ) → ((i : ℕ) → i < n → p i ≡ true) → all_below p n ≡ true
unfolding all_below
all_pass p zero h = refl
all_pass p (suc n) h = both-same (all_pass p n (λ i l. h i (omega arith))) (h n (omega arith))

-- two tests at each index
pub all_both : (p q : ℕ → Bool) (n : ℕ) → all_below (λ i. p i && q i) n ≡ all_below p n && all_below q n
unfolding all_below
all_both p q zero = refl
all_both p q (suc n) = ap (λ (x : Bool). x && (p n && q n)) (all_both p q n) ∙ four (all_below p n) (all_below q n) (p n)
  where
    four : (a b c : Bool) → (a && b) && (c && q n) ≡ (a && c) && (b && q n)
    four false b c = refl
    four true false false = refl
    four true false true = refl
    four true true c = refl

-- a indices from f on, then b more
pub all_split : (p : ℕ → Bool) (f a b : ℕ) → all_below (λ j. p (f + j)) (a + b) ≡ all_below (λ j. p (f + j)) a && all_below (λ j. p (f + a + j)) b
unfolding all_below
all_split p f a zero = ap (all_below (λ j. p (f + j))) (add-zero a) ∙ sym (and-true (all_below (λ j. p (f + j)) a))
all_split p f a (suc b) =
    ap (all_below (λ j. p (f + j))) (add-suc a b) ∙ both-same (all_split p f a b) (ap p (sym (add_assoc f a b))) ∙ and_assoc (all_below (λ j. p (f + j)) a) (all_below (λ j. p (f + a + j)) b) (p (f + a + b))

module _ {A : Type 0} (p : A → Bool) where
  pub every-table : (f : ℕ → A) (n : ℕ) → every p (tabulate f n) ≡ all_below (λ i. p (f i)) n
  unfolding every tabulate
  every-table f zero = sym (all_none (λ i. p (f i)))
  every-table f (suc n) = ap (λ (x : Bool). p (f 0) && x) (every-table (λ i. f (suc i)) n) ∙ sym (all-front (λ i. p (f i)) n)

  module _ (ok : ℕ → Bool) (rows : List Cells) where
    -- lines of a part, each by itself
    pub every-part : (s : Cells → A) (t : Cells → Bool) (f c : ℕ) → Part t rows f c → ((j : ℕ) → j < length rows → ok j ≡ p (s (get_or rows j no_cells))) → all_below (λ j. ok (f + j)) c ≡ every p (map s (those t rows))
    every-part s t f c part h =
        let fits = part.fits in
        all_same (λ j. ok (f + j)) (λ j. p (s (get_or rows (f + j) no_cells))) c (λ j l. h (f + j) (omega arith))
        ∙ sym (every-table (λ j. s (get_or rows (f + j) no_cells)) c)
        ∙ ap (every p) (table-part (λ j. s (get_or rows j no_cells)) s rows f c fits (λ j a b. refl) ∙ ap (map s) (sym (those-part t rows f c part)))

    -- every line with its number
    pub every-numbered : (s : ℕ → Cells → A) → ((i : ℕ) → i < length rows → ok i ≡ p (s i (get_or rows i no_cells))) → all_below ok (length rows) ≡ every p (numbered s 0 rows)
    every-numbered s h =
        all_same ok (λ i. p (s i (get_or rows i no_cells))) (length rows) h
        ∙ sym (every-table (λ i. s i (get_or rows i no_cells)) (length rows))
        ∙ ap (every p) (table-numbered (λ i. s i (get_or rows i no_cells)) s rows (λ i l. refl))
