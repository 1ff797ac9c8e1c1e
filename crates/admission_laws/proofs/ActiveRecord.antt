-- What it says that a record is the active one: it is there, its start is reached, and the next one's is not. By induction along the scan. And starts past the limit, or past a list's end, decide nothing.
use Prim.Native.Nat.{ℕ, zero, suc, ◌+◌, ◌*◌, ◌≤◌, ◌<◌}
use native.Mathlib.Omega.{arith}
use mathlib.Core.Path.{◌≡◌, refl, sym, ap, ◌∙◌, subst}
use mathlib.Core.Bool.{Bool, true, false, not, cond}
use mathlib.Core.List.{List}
use mathlib.Core.Logic.{⊎_elim}
use native.Mathlib.Nat.{eq-or-lt_of_le, le_of_suc-le-suc, not-suc-le-zero}
use lib.ListN.{length, get_or, get_or-eq_default}
use lib.Dec.{T}
use lib.Ieee.{Float, nan, le}
use Rattle.records_cubic.specs.declared.cubics.Cubic.{Cubic}
use Rattle.std.specs.declared.option.Option.{Option}
use Rattle.std.specs.declared.option.Option.TheVariants.{Some, None}
use Rattle.records_cubic.specs.Cubics.{cubic_at}
use Rattle.records_lent.specs.Lists.{last_that}
use Rattle.records.specs.Active.{last_start, active_in, or_first, active_up_to}

never : ◌≡◌ {A = ℕ} 0 1 → ⊥
never z = absurd (omega arith)

both : (b : Bool) → T b → T (not b) → ⊥
both true p q = q
both false p q = p

pub record Active (start : ℕ → Float) (limit : Float) (n i : ℕ) : Type 0 where
  pub below : i < n
  pub hit : T (le (start i) limit)
  pub miss : i + 1 < n → T (not (le (start (i + 1)) limit))

module _ (start : ℕ → Float) (limit : Float) where
  here : (n i : ℕ) → Some n ≡ Some i → T (le (start n) limit) → Active start limit (suc n) i
  here n i e h =
      let g : n ≡ i = cc in
      record { below = omega arith; hit = subst (λ (k : ℕ). T (le (start k) limit)) g h; miss = λ l. absurd (omega arith) }

  last : (n i : ℕ) → i < n → i + 1 < suc n → (i + 1 < n → T (not (le (start (i + 1)) limit))) → T (not (le (start n) limit)) → T (not (le (start (i + 1)) limit))
  last n i a l m h =
      ⊎_elim (λ (e : i + 1 ≡ n). subst (λ (k : ℕ). T (not (le (start k) limit))) (sym e) h) m (eq-or-lt_of_le (omega arith))

  earlier : (n i : ℕ) → Active start limit n i → T (not (le (start n) limit)) → Active start limit (suc n) i
  earlier n i a h =
      let b = a.below in
      record { below = omega arith; hit = a.hit; miss = λ l. last n i b l a.miss h }

  -- the last start that is at most the limit
  pub found_at : (n i : ℕ) → last_start start limit n ≡ Some i → Active start limit n i
  unfolding last_start last_that
  found_at zero i e = absurd (no e)
    where
      no : None ≡ Some i → ⊥
      no e = let z : ◌≡◌ {A = ℕ} 0 1 = cc in omega arith
  found_at (suc n) i e = go (le (start n) limit) refl e (λ q. found_at n i q)
    where
      go : (b : Bool) → le (start n) limit ≡ b → cond b (Some n) (last_start start limit n) ≡ Some i → (last_start start limit n ≡ Some i → Active start limit n i) → Active start limit (suc n) i
      go true q e r = here n i e (subst T (sym q) tt)
      go false q e r = earlier n i (r e) (subst (λ (b : Bool). T (not b)) (sym q) tt)

module _ (start : ℕ → Float) (limit : Float) where
  none-reached : (n : ℕ) → last_start start limit n ≡ None → (k : ℕ) → k < n → T (not (le (start k) limit))
  unfolding last_start last_that
  none-reached zero e k h = absurd (not-suc-le-zero h)
  none-reached (suc n) e k h = go (le (start n) limit) refl e (λ q. none-reached n q k)
    where
      go : (b : Bool) → le (start n) limit ≡ b → cond b (Some n) (last_start start limit n) ≡ None → (last_start start limit n ≡ None → k < n → T (not (le (start k) limit))) → T (not (le (start k) limit))
      go true q e r = absurd (let z : ◌≡◌ {A = ℕ} 0 1 = cc in never z)
      go false q e r =
          ⊎_elim (λ (s : k ≡ n). subst (λ (b : Bool). T (not b)) (sym (ap (λ (j : ℕ). le (start j) limit) s ∙ q)) tt) (r e) (eq-or-lt_of_le (le_of_suc-le-suc h))

  -- where the first start is reached, `or_first` is the active record's place
  pub index-active : (n : ℕ) → 0 < n → T (le (start 0) limit) → Active start limit n (or_first (last_start start limit n))
  index-active n h l = go (last_start start limit n) refl
    where
      go : (x : Option ℕ) → last_start start limit n ≡ x → Active start limit n (or_first x)
      go (Some i) e = found_at start limit n i e
      go None e = absurd (both (le (start 0) limit) l (none-reached n e 0 h))

pub active-at : (cs : List Cubic) (s : Float) (i : ℕ) → active_in cs s ≡ Some i → Active (λ k. (cubic_at cs k).start) (active_up_to s) (length cs) i
unfolding active_in
active-at cs s i e = found_at (λ k. (cubic_at cs k).start) (active_up_to s) (length cs) i e

-- ---- starts that decide nothing

-- those past the limit, from the m-th on
past-none :
    (f : ℕ → Float) (limit : Float) (m n : ℕ) → m ≤ n → ((i : ℕ) → m ≤ i → i < n → le (f i) limit ≡ false)
    → last_start f limit m ≡ last_start f limit n
unfolding last_start last_that
past-none f limit m zero h k = let e : m ≡ 0 = omega arith in rw e
past-none f limit m (suc n) h k =
    ⊎_elim
    (λ (e : m ≡ suc n). ap (last_start f limit) e)
    (λ (l : m < suc n). past-none f limit m n (omega arith) (λ i a b. k i a (omega arith)) ∙ (let e = k n (omega arith) (omega arith) in rw e))
    (eq-or-lt_of_le h)

nan-past : (limit : Float) → le nan limit ≡ false
unfolding le
nan-past limit = refl

-- of a table in a list, those past the list's end
pub past_end :
    (xs : List Float) (base stride : ℕ) (limit : Float) (m n : ℕ) → m ≤ n → ((i : ℕ) → m ≤ i → i < n → length xs ≤ base + i * stride)
    → last_start (λ (i : ℕ). get_or xs (base + i * stride) nan) limit m ≡ last_start (λ (i : ℕ). get_or xs (base + i * stride) nan) limit n
past_end xs base stride limit m n h k =
    past-none (λ (i : ℕ). get_or xs (base + i * stride) nan) limit m n h
    (λ i l u. ap (λ (x : Float). le x limit) (get_or-eq_default xs nan (k i l u)) ∙ nan-past limit)
