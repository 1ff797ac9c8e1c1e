-- What a section, a lane's side and a lane's place are, where they are there, and what a parent that is there tells.
use Prim.Native.Nat.{ℕ, ◌+◌, ◌-◌, ◌<◌, ◌≤◌}
use native.Mathlib.Omega.{arith}
use mathlib.Core.Path.{◌≡◌, refl, sym, ◌∙◌, ap}
use mathlib.Core.Bool.{Bool, true, false, ◌&&◌, cond}
use borrow.Author.Tests.{lt-ltb, le-ltb, eq-eqb, ne_eqb, lt-leb, ltb-false, leb-false}
use lib.Dec.{eqb, ltb, leb}
use Rattle.std.specs.Prelude.{Option, Some, None, is_some, unwrap_or, option_map}
use Rattle.std.proofs.lemmas.Bool.{false≢true}
use Rattle.std.proofs.lemmas.Option.{none-some, same_Some}
use Rattle.reader_store.specs.Parents.{index_at, ranked_among, section_with, left_word, right_word, side_word, lane_among}
use Rattle.reader_store.specs.declared.parents.Ranked.{Ranked}
use Rattle.reader_store.specs.declared.parents.SectionRecord.{SectionRecord}

-- the parent that is found; where there is none it means nothing
abbrev pub found : Option Ranked → Ranked
found o = unwrap_or o (index_at 0)

abbrev pub There : Option Ranked → Type 0
There o = o ≡ Some (found o)

pub there : {o : Option Ranked} {x : Ranked} → o ≡ Some x → There o
there e = e ∙ ap (λ (p : Option Ranked). Some (found p)) (sym e)

pub there_if : (o : Option Ranked) → is_some o ≡ true → There o
there_if (Some x) e = refl
there_if None e = absurd (false≢true e)

-- what a value that is mapped was
pub map_some : {A B P : Type 0} (f : A → B) (o : Option A) (y : B) → option_map f o ≡ Some y → ((x : A) → o ≡ Some x → f x ≡ y → P) → P
map_some f (Some x) y e go = go x refl (same_Some (f x) y e)
map_some f None y e go = absurd (none-some y e)

module _ (number n : ℕ) where
  pub counted-in : 10000 ≤ number → number - 10000 < n → ranked_among number n ≡ Some (index_at (number - 10000))
  unfolding ranked_among
  counted-in h k = rw (le-ltb number 10000 h, lt-leb n (number - 10000) k)

  pub counted-there : (x : Ranked) → ranked_among number n ≡ Some x → (10000 ≤ number) × (number - 10000 < n) × (x ≡ index_at (number - 10000))
  unfolding ranked_among
  counted-there x e = go (ltb number 10000) (leb n (number - 10000)) refl refl e
    where
      go : (a b : Bool) → ltb number 10000 ≡ a → leb n (number - 10000) ≡ b → cond a None (cond b None (Some (index_at (number - 10000)))) ≡ Some x → (10000 ≤ number) × (number - 10000 < n) × (x ≡ index_at (number - 10000))
      go true b p q s = absurd (none-some x s)
      go false true p q s = absurd (none-some x s)
      go false false p q s = (ltb-false number 10000 p, leb-false n (number - 10000) q, sym (same_Some (index_at (number - 10000)) x s))

-- what depends on a section's record alone
pub section_record-same : {A : Type 0} {a b c a' b' c' : ℕ} (f : SectionRecord → A) → a ≡ a' → b ≡ b' → c ≡ c' → f (section_with a b c) ≡ f (section_with a' b' c')
section_record-same f p q r = cc

module _ (section : SectionRecord) (id : ℕ) where
  pub side_left : eqb id (section.left + 10001) && eqb section.right 0 ≡ true → side_word section id ≡ Some left_word
  unfolding side_word
  side_left h = rw h

  pub side_right : eqb id (section.left + 10001) && eqb section.right 0 ≡ false → id + section.right + 1 ≡ 10000 → side_word section id ≡ Some right_word
  unfolding side_word
  side_right h k = rw (h, eq-eqb (id + section.right + 1) 10000 k)

  pub by_left : 10000 < id → id ≤ section.left + 10000 → lane_among section id ≡ Some (index_at (section.first + (id - 10001)))
  unfolding lane_among
  by_left h k = rw (ne_eqb id 10000 (λ z. omega arith), lt-ltb 10000 id h, le-ltb (section.left + 10000) id k)

  pub by_right : id < 10000 → 10000 ≤ id + section.right → lane_among section id ≡ Some (index_at (section.first + section.left + (9999 - id)))
  unfolding lane_among
  by_right h k = rw (ne_eqb id 10000 (λ z. omega arith), le-ltb 10000 id (omega arith), le-ltb (id + section.right) 10000 k)
