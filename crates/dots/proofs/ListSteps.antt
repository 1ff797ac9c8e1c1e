-- The dots counted, and written into a list, one multiple after another.
use Prim.Native.Nat.{ℕ, zero, suc, ◌+◌, ◌-◌, ◌≤◌, ◌<◌}
use native.Mathlib.Omega.{arith}
use native.Mathlib.Numerals.{add-one}
use mathlib.Core.Path.{◌≡◌, refl, sym, ap, ◌∙◌, subst}
use mathlib.Core.Bool.{Bool, true, false, cond, ◌&&◌}
use borrow.Author.Tests.{le-leb, lt-leb}
use mathlib.Core.List.{List, [], ◌∷◌, ◌++◌, append-nil}
use lib.ListN.{length, drop, set, length-append}
use lib.Ieee.{Float}
use Rattle.std.specs.Prelude.{Option, Some, None}
use Rattle.std.specs.Option.{is_some}
use Rattle.float_laws.proofs.Nearest.{apart}
use Rattle.tracks.proofs.StoreLaws.{one-store}
use Rattle.refusals.specs.LentLists.{list_left}
use Rattle.records.specs.declared.points.Point.{Point}
use Rattle.records.specs.Roads.{Road}
use Rattle.dots.specs.Dots.{multiples_on, kept_of, dot_by, dots_to, dots_on, dots_fit}

module _ (at : ℕ → Float) (keep : Float → Bool) where
  abbrev dots : ℕ → List Float
  dots k = kept_of at keep k

  next : (k : ℕ) → dots (k + 1) ≡ dots k ++ cond (keep (at k)) (at k ∷ []) []
  unfolding kept_of
  next k = ap (kept_of at keep) (add-one k)

  next_kept : (k : ℕ) {s : Float} → dot_by keep (at k) ≡ Some s → dots (k + 1) ≡ dots k ++ (s ∷ [])
  next_kept k {s} = go (keep (at k)) refl
    where
      go : (b : Bool) → keep (at k) ≡ b → cond b (Some (at k)) None ≡ Some s → dots (k + 1) ≡ dots k ++ (s ∷ [])
      go true e f = next k ∙ ap (λ (b : Bool). dots k ++ cond b (at k ∷ []) []) e ∙ ap (λ (o : Option Float). dots k ++ listed o) f
        where
          listed : Option Float → List Float
          listed (Some x) = x ∷ []
          listed None = []
      go false e f = absurd (apart (sym (ap is_some f)))

  next_left : (k : ℕ) → dot_by keep (at k) ≡ None → dots (k + 1) ≡ dots k
  next_left k = go (keep (at k)) refl
    where
      go : (b : Bool) → keep (at k) ≡ b → cond b (Some (at k)) None ≡ None → dots (k + 1) ≡ dots k
      go true e f = absurd (apart (ap is_some f))
      go false e f = next k ∙ ap (λ (b : Bool). dots k ++ cond b (at k ∷ []) []) e ∙ append-nil (dots k)

  -- ---- counted

  pub count_none : 0 ≡ length (dots 0)
  unfolding kept_of
  count_none = refl

  pub count_kept : (k : ℕ) {n : ℕ} {s : Float} → n ≡ length (dots k) → dot_by keep (at k) ≡ Some s → n + 1 ≡ length (dots (k + 1))
  count_kept k {n} {s} h e = let l = length-append (dots k) (s ∷ []) in let f = ap length (next_kept k e) in omega (arith, h, l, f)

  pub count_left : (k : ℕ) {n : ℕ} → n ≡ length (dots k) → dot_by keep (at k) ≡ None → n ≡ length (dots (k + 1))
  count_left k h e = h ∙ ap length (sym (next_left k e))

  -- by the test whether there is one
  pub count_next : (k : ℕ) {n d : ℕ} {o : Option Float} {b : Bool} → n ≡ length (dots k) → o ≡ dot_by keep (at k) → b ≡ is_some o → d ≡ cond b 1 0 → n + d ≡ length (dots (k + 1))
  count_next k {n} {d} {o} {b} h ho hb hd = go o ho hb
    where
      go : (o : Option Float) → o ≡ dot_by keep (at k) → b ≡ is_some o → n + d ≡ length (dots (k + 1))
      go (Some s) e f = let g : d ≡ 1 = rw (hd, f) in rw g (count_kept k h (sym e))
      go None e f = let g : d ≡ 0 = rw (hd, f) in let z : n + 0 ≡ n = omega arith in rw (g, z) (count_left k h (sym e))

  grows : (k : ℕ) → length (dots k) ≤ length (dots (suc k))
  unfolding kept_of
  grows k = let l = length-append (dots k) (cond (keep (at k)) (at k ∷ []) []) in omega (arith, l)

  rises : (k d : ℕ) → length (dots k) ≤ length (dots (k + d))
  rises k zero = let e : k + 0 ≡ k = omega arith in rw e (omega arith)
  rises k (suc d) = let e : k + suc d ≡ suc (k + d) = omega arith in let h = rises k d in let g = grows (k + d) in rw e (omega (arith, h, g))

  -- ---- written

  -- the list that holds the first dots, and room for those of m multiples
  pub record Written (old list : List Float) (m k n : ℕ) : Type 0 where
    pub count : n ≡ length (dots k)
    pub list_is : list ≡ dots k ++ drop n old
    pub room : length (dots m) ≤ length old

  pub written_none : (old : List Float) (m : ℕ) → length (dots m) ≤ length old → Written old old m 0 0
  unfolding kept_of
  written_none old m h = record { count = refl; list_is = refl; room = h }

  module _ {old list : List Float} {m k n : ℕ} (w : Written old list m k n) (l : k < m) where
    pub fits_next : {s : Float} → dot_by keep (at k) ≡ Some s → n < length old
    fits_next e =
        let c = count_kept k w.count e in
        let d : k + 1 + (m - (k + 1)) ≡ m = omega arith in
        let r = subst (λ (j : ℕ). length (dots (k + 1)) ≤ length (dots j)) d (rises (k + 1) (m - (k + 1))) in
        let h = w.room in
        omega (arith, c, r, h)

    pub written_kept : {s : Float} → dot_by keep (at k) ≡ Some s → Written old (set list n s) m (k + 1) (n + 1)
    written_kept {s} e =
        record {
          count = count_kept k w.count e;
          list_is = ap (λ (xs : List Float). set xs n s) w.list_is ∙ one-store (dots k) old n s (sym w.count) (fits_next e) ∙ ap (λ (xs : List Float). xs ++ drop (n + 1) old) (sym (next_kept k e));
          room = w.room;
        }

    pub written_left : dot_by keep (at k) ≡ None → Written old list m (k + 1) n
    written_left e =
        record {
          count = count_left k w.count e;
          list_is = w.list_is ∙ ap (λ (xs : List Float). xs ++ drop n old) (sym (next_left k e));
          room = w.room;
        }

-- ---- all of them, where they fit

module _ (road : Road) (i lane : ℕ) (p : ℕ → Point) (c : ℕ → Float) (n : ℕ) (spacing : Float) (old : List Float) where
  abbrev fit : Bool
  fit = dots_fit road i lane p c n spacing (length old)

  abbrev all : List Float
  all = dots_on road i lane p c n spacing

  all-is : {m : ℕ} → m ≡ multiples_on p c n spacing → dots_to road i lane p c n spacing m ≡ all
  unfolding dots_on
  all-is e = rw e

  over : {m : ℕ} → m ≡ multiples_on p c n spacing → 65536 < m → fit ≡ false
  over e l = rw (lt-leb _ 65536 (subst (λ (k : ℕ). 65536 < k) e l))

  off : (a : Bool) {b : Bool} → b ≡ false → a && b ≡ false
  off true e = e
  off false e = refl

  short : {m k : ℕ} → m ≡ multiples_on p c n spacing → k ≡ length (dots_to road i lane p c n spacing m) → length old < k → fit ≡ false
  short e f l = off _ (lt-leb _ (length old) (subst (λ (j : ℕ). length old < j) (f ∙ ap length (all-is e)) l))

  room : {m k : ℕ} → m ≡ multiples_on p c n spacing → k ≡ length (dots_to road i lane p c n spacing m) → m ≤ 65536 → k ≤ length old → fit ≡ true
  room e f l h = rw (le-leb _ 65536 (subst (λ (j : ℕ). j ≤ 65536) e l), le-leb _ (length old) (subst (λ (j : ℕ). j ≤ length old) (f ∙ ap length (all-is e)) h))

  -- what is answered, and what the list holds
  abbrev answer : Bool → Option ℕ
  answer b = cond b (Some (length all)) None

  pub none_fits : fit ≡ false → (None ≡ answer fit) × (old ≡ list_left fit all old)
  none_fits e = (rw e, rw e)

  pub none-over : {m : ℕ} → m ≡ multiples_on p c n spacing → 65536 < m → (None ≡ answer fit) × (old ≡ list_left fit all old)
  none-over e l = none_fits (over e l)

  pub none-short : {m k : ℕ} → m ≡ multiples_on p c n spacing → k ≡ length (dots_to road i lane p c n spacing m) → length old < k → (None ≡ answer fit) × (old ≡ list_left fit all old)
  none-short e f l = none_fits (short e f l)

  pub all_listed : {m k : ℕ} {xs : List Float} → m ≡ multiples_on p c n spacing → k ≡ length (dots_to road i lane p c n spacing m) → m ≤ 65536 → k ≤ length old → xs ≡ list_left true (dots_to road i lane p c n spacing m) old
      → (Some k ≡ answer fit) × (xs ≡ list_left fit all old)
  all_listed e f l h g = let r = room e f l h in (rw (r, ← all-is e, f), rw (r, ← all-is e, g))

pub ruleset counting = (count_none, count_next)

pub ruleset writing = (written_none, written_kept, written_left, fits_next)
