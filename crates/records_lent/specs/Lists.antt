-- Lists as the tables of a road hold them.
use Rattle.std.specs.Prelude.{ℕ, zero, suc, ◌+◌, ◌*◌, ◌/◌, leb, Bool, true, false, cond, ◌&&◌, ◌||◌, List, [], ◌∷◌, length, take, drop, Float, Option, Some, None}

-- the first n values of a function
unfoldable pub tabulate : {A : Type 0} → (ℕ → A) → ℕ → List A
tabulate f zero = []
tabulate f (suc n) = f zero ∷ tabulate (λ k. f (suc k)) n

-- the records that numbers hold, one each stride, read from its place on; what is left over at the end is none
abbrev pub records_of : {A : Type 0} → (List Float → ℕ → A) → ℕ → List Float → List A
records_of from stride xs = tabulate (λ i. from xs (i * stride)) (length xs / stride)

-- count elements from a start on, fewer where the list ends before
abbrev pub span : {A : Type 0} → List A → ℕ → ℕ → List A
span xs start count = take count (drop start xs)

-- the test passes at every index below n
unfoldable pub all_below : (ℕ → Bool) → ℕ → Bool
all_below p zero = true
all_below p (suc n) = all_below p n && p n

-- the test passes at some index below n
unfoldable pub any_below : (ℕ → Bool) → ℕ → Bool
any_below p zero = false
any_below p (suc n) = any_below p n || p n

-- the last index below n at which the test passes
unfoldable pub last_that : (ℕ → Bool) → ℕ → Option ℕ
last_that p zero = None
last_that p (suc n) = cond (p n) (Some n) (last_that p n)
