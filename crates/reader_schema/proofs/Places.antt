-- A list's words, by list and where they stand among all words; and the place of a word in its list, by a search through it.
use Prim.Native.Nat.{ℕ, zero, suc, ◌+◌, ◌<◌, ◌≤◌}
use Prim.Native.String.{String}
use native.Mathlib.Omega.{arith}
use mathlib.Core.Path.{◌≡◌, refl, sym, ap, subst, ◌∙◌}
use mathlib.Core.Bool.{Bool, true, false, cond, not}
use mathlib.Core.List.{List, [], ◌∷◌, map}
use lib.Dec.{eqb, ltb}
use lib.ListN.{length, get_or}
use Rattle.std.specs.Prelude.{Some, None}
use Rattle.std.specs.List.{position_or_len}
use Rattle.std.proofs.lemmas.List.{length-map, map-append, get_or-map, get_or_append_left, get_or-append-add}
use Rattle.reader_schema.proofs.Rows.{row_short}
use Rattle.reader_schema.specs.Schema.{word_number, lists, joined, starts_from, words, word_of, firsts, first_of, counts, word_count, word_lists, list_words, seek, place_of, listed_place}

-- as many words as the list has
counted : (xss : List (List String)) (list : ℕ) → get_or (map (λ (xs : List String). length xs) xss) list 0 ≡ length (get_or (map (map word_number) xss) list [])
counted [] list = refl
counted (xs ∷ xss) zero = sym (length-map xs word_number)
counted (xs ∷ xss) (suc list) = counted xss list

pub word_count_is : (list : ℕ) → word_count list ≡ length (list_words list)
unfolding word_count counts list_words word_lists
word_count_is list = counted lists list

-- all words from the place n on are those of the lists that are left
module _ (ws : List ℕ) where
  placed : (xss : List (List String)) (n : ℕ) → ((k : ℕ) → get_or ws (n + k) 0 ≡ get_or (map word_number (joined xss)) k 0)
      → (list k : ℕ) → k < length (get_or (map (map word_number) xss) list [])
      → get_or ws (get_or (starts_from n xss) list 0 + k) 0 ≡ get_or (get_or (map (map word_number) xss) list []) k 0
  placed [] n h list k l = absurd (omega arith)
  placed (xs ∷ xss) n h zero k l = h k ∙ rw (map-append word_number xs (joined xss)) (get_or_append_left (map word_number xs) (map word_number (joined xss)) 0 k l)
  placed (xs ∷ xss) n h (suc list) k l = placed xss (n + length xs) on list k l
    where
      on : (j : ℕ) → get_or ws (n + length xs + j) 0 ≡ get_or (map word_number (joined xss)) j 0
      on j =
          let e : n + length xs + j ≡ n + (length xs + j) = omega arith in
          rw e (h (length xs + j) ∙ rw (map-append word_number xs (joined xss), ← length-map xs word_number) (get_or-append-add (map word_number xs) (map word_number (joined xss)) j 0))

word_is : (list k : ℕ) → k < length (list_words list) → word_of (first_of list + k) ≡ get_or (list_words list) k 0
unfolding word_of words first_of firsts list_words word_lists
word_is list k l = placed (map word_number (joined lists)) lists 0 (λ j. let z : 0 + j ≡ j = omega arith in rw z) list k l

few_words : (list : ℕ) → length (list_words list) ≤ 8
unfolding list_words word_lists
few_words = row_short word_lists tt

-- a search from word i of a list on
module _ {X : Type 0} (p : X → Bool) (d : X) (first word : ℕ) where
  sought : (xs : List X) (i : ℕ) → ((k : ℕ) → k < length xs → p (get_or xs k d) ≡ eqb (word_of (first + (i + k))) word)
      → seek (length xs) first word i ≡ i + position_or_len p xs
  unfolding seek
  sought [] i h = omega arith
  sought (x ∷ xs) i h =
      let z : i + 0 ≡ i = omega arith in
      let rest = sought xs (i + 1) (λ k l. let e : i + suc k ≡ i + 1 + k = omega arith in subst (λ (j : ℕ). p (get_or xs k d) ≡ eqb (word_of (first + j)) word) e (h (suc k) (omega arith))) in
      rw (subst (λ (j : ℕ). eqb (word_of (first + j)) word ≡ p x) z (sym (h 0 (omega arith)))) (by_test (p x) rest)
    where
      by_test : (t : Bool) {m : ℕ} → m ≡ i + 1 + position_or_len p xs → cond t i m ≡ i + cond (not t) (1 + position_or_len p xs) 0
      by_test true e = omega arith
      by_test false e = omega (arith, e)

-- things whose titles are the words of a list: as many, and no more than a line has columns
module _ {X : Type 0} (title : X → ℕ) (xs : List X) (list : ℕ) (e : map title xs ≡ list_words list) where
  pub as_many : word_count list ≡ length xs
  as_many = word_count_is list ∙ rw (← e) (length-map xs title)

  pub few : length xs ≤ 8
  few = rw (← length-map xs title, e) (few_words list)

  -- the place of the first whose title is the word sought
  pub listed_by : (p : X → Bool) (d : X) (word : ℕ) → ((x : X) → p x ≡ eqb (title x) word)
      → cond (ltb (position_or_len p xs) (length xs)) (Some (position_or_len p xs)) None ≡ listed_place list word
  unfolding listed_place place_of
  listed_by p d word h =
      let z : 0 + position_or_len p xs ≡ position_or_len p xs = omega arith in
      rw (as_many, sought p d (first_of list) word xs 0 asked, z)
    where
      asked : (k : ℕ) → k < length xs → p (get_or xs k d) ≡ eqb (word_of (first_of list + (0 + k))) word
      asked k l =
          let z : 0 + k ≡ k = omega arith in
          let m : k < length (list_words list) = rw (← e, length-map xs title) l in
          h (get_or xs k d) ∙ ap (λ (w : ℕ). eqb w word) (sym (get_or-map title xs k d 0 l) ∙ rw (z, word_is list k m, e))
