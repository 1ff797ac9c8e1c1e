-- The kinds of a table's columns, and the same with zeros up to the eighth column.
use Prim.Native.Nat.{ℕ, zero, suc, ◌≤◌}
use native.Mathlib.Omega.{arith}
use mathlib.Core.Path.{◌≡◌, refl, sym}
use mathlib.Core.Bool.{Bool, true, false, ◌&&◌, cond}
use mathlib.Core.List.{List, [], ◌∷◌, map}
use borrow.Author.Tests.{le-ltb}
use lib.Dec.{T, leb, leb→le, ltb}
use lib.ListN.{length, get_or, get_or-eq_default}
use Rattle.reader_schema.specs.Schema.{Table, Column, tables, keywords, word_number, kind_by, eight}

-- the kinds of each table's columns
abbrev pub rows : List (List ℕ)
rows = map (λ (t : Table). map (λ (c : Column). kind_by c.holds) t.columns) tables

-- the names of each table's columns, and the words of the keyword lists
abbrev pub titles : List (List ℕ)
titles = map (λ (t : Table). map (λ (c : Column). word_number c.title) t.columns) tables

abbrev pub keys : List (List ℕ)
keys = map (map word_number) keywords

past_eight : (xs : List ℕ) → length xs ≤ 8 → (i : ℕ) → 8 ≤ i → cond (ltb i 8) (get_or (eight xs) i 0) 0 ≡ get_or xs i 0
past_eight xs h i l = rw (le-ltb i 8 l) (sym (get_or-eq_default xs 0 (omega arith)))

-- a row of at most eight numbers, and the same with zeros up to the eighth
padded : (xs : List ℕ) → length xs ≤ 8 → (i : ℕ) → cond (ltb i 8) (get_or (eight xs) i 0) 0 ≡ get_or xs i 0
padded xs h zero = refl
padded xs h (suc zero) = refl
padded xs h (suc (suc zero)) = refl
padded xs h (suc (suc (suc zero))) = refl
padded xs h (suc (suc (suc (suc zero)))) = refl
padded xs h (suc (suc (suc (suc (suc zero))))) = refl
padded xs h (suc (suc (suc (suc (suc (suc zero)))))) = refl
padded xs h (suc (suc (suc (suc (suc (suc (suc zero))))))) = refl
padded xs h (suc (suc (suc (suc (suc (suc (suc (suc i)))))))) = past_eight xs h (suc (suc (suc (suc (suc (suc (suc (suc i)))))))) (omega arith)

-- no row has more than eight numbers
abbrev pub short : List (List ℕ) → Bool
short [] = true
short (xs ∷ xss) = leb (length xs) 8 && short xss

left : (a b : Bool) → T (a && b) → T a
left true b t = tt
left false b t = t

right : (a b : Bool) → T (a && b) → T b
right true b t = t
right false b t = absurd t

pub row_short : (xss : List (List ℕ)) → T (short xss) → (k : ℕ) → length (get_or xss k []) ≤ 8
row_short [] t k = omega arith
row_short (xs ∷ xss) t zero = leb→le (length xs) 8 (left (leb (length xs) 8) (short xss) t)
row_short (xs ∷ xss) t (suc k) = row_short xss (right (leb (length xs) 8) (short xss) t) k

none_read : (b : Bool) → ◌≡◌ {A = ℕ} (cond b 0 0) 0
none_read true = refl
none_read false = refl

pub row_padded : (xss : List (List ℕ)) → T (short xss) → (k i : ℕ) → cond (ltb i 8) (get_or (get_or (map eight xss) k []) i 0) 0 ≡ get_or (get_or xss k []) i 0
row_padded [] t k i = none_read (ltb i 8)
row_padded (xs ∷ xss) t zero i = padded xs (leb→le (length xs) 8 (left (leb (length xs) 8) (short xss) t)) i
row_padded (xs ∷ xss) t (suc k) i = row_padded xss (right (leb (length xs) 8) (short xss) t) k i
