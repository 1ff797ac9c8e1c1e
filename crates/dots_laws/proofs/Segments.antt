-- The segment of an arc length: it never falls as the arc length grows (`segment_rise`), and it starts at or before it (`starts`).
use Prim.Native.Nat.{ℕ, zero, suc, ◌+◌, ◌-◌, ◌≤◌, ◌<◌}
use native.Mathlib.Nat.{eq-or-lt_of_le}
use native.Mathlib.Omega.{arith}
use mathlib.Core.Path.{◌≡◌, refl, sym, ◌∙◌, subst}
use mathlib.Core.Logic.{⊎_elim}
use mathlib.Core.Bool.{Bool, true, false, cond}
use lib.Dec.{T}
use lib.Ieee.{Float, le}
use lib.Ieee.Bits.{is_true}
use Rattle.std.proofs.lemmas.Float.{le_trans as float_trans, le_of_lt as float-le_of_lt, lt_of_not-le as float-lt_of_not-le, le_right, T_from_true, T_from_false}
use Rattle.float_laws.specs.Binary32.{zero32}
use Rattle.float_laws.proofs.Nearest.{apart}
use Rattle.records.specs.declared.points.Point.{Point}
use Rattle.tracks.specs.Lengths.{length_to}
use Rattle.dots.specs.Along.{reached_from, segment_of_arc}

module _ (p : ℕ → Point) where
  reached-after : (arc : Float) (i k : ℕ) → i ≤ reached_from p arc i k
  unfolding reached_from
  reached-after arc i zero = omega arith
  reached-after arc i (suc k) = go (le arc (length_to p (suc i))) (reached-after arc (suc i) k)
    where
      go : (b : Bool) → suc i ≤ reached_from p arc (suc i) k → i ≤ cond b i (reached_from p arc (suc i) k)
      go true h = omega arith
      go false h = omega arith

  reached-within : (arc : Float) (i k : ℕ) → reached_from p arc i k ≤ i + k
  unfolding reached_from
  reached-within arc i zero = omega arith
  reached-within arc i (suc k) = go (le arc (length_to p (suc i))) (reached-within arc (suc i) k)
    where
      go : (b : Bool) → reached_from p arc (suc i) k ≤ suc i + k → cond b i (reached_from p arc (suc i) k) ≤ i + suc k
      go true h = omega arith
      go false h = omega arith

  reached-rise : (a b : Float) → T (le a b) → (i k : ℕ) → reached_from p a i k ≤ reached_from p b i k
  unfolding reached_from
  reached-rise a b h i zero = omega arith
  reached-rise a b h i (suc k) = go (le a end) (le b end) refl refl (reached-after b (suc i) k) (reached-rise a b h (suc i) k)
    where
      end : Float
      end = length_to p (suc i)

      go : (u v : Bool) → le a end ≡ u → le b end ≡ v → suc i ≤ reached_from p b (suc i) k → reached_from p a (suc i) k ≤ reached_from p b (suc i) k
          → cond u i (reached_from p a (suc i) k) ≤ cond v i (reached_from p b (suc i) k)
      go true true e f l r = omega arith
      go true false e f l r = omega arith
      go false true e f l r = absurd (apart (sym (is_true (le a end) (float_trans a b end h (T_from_true (le b end) f))) ∙ e))
      go false false e f l r = r

  -- it ends before the arc length wherever a later one is taken
  pub passed : (arc : Float) (i k j : ℕ) → i ≤ j → j < reached_from p arc i k → le arc (length_to p (suc j)) ≡ false
  unfolding reached_from
  passed arc i zero j h l = absurd (omega arith)
  passed arc i (suc k) j h l = go (le arc (length_to p (suc i))) refl l (passed arc (suc i) k j)
    where
      go : (b : Bool) → le arc (length_to p (suc i)) ≡ b → j < cond b i (reached_from p arc (suc i) k) → (suc i ≤ j → j < reached_from p arc (suc i) k → le arc (length_to p (suc j)) ≡ false) → le arc (length_to p (suc j)) ≡ false
      go true e l r = absurd (omega arith)
      go false e l r = ⊎_elim (λ (m : i ≡ j). subst (λ (x : ℕ). le arc (length_to p (suc x)) ≡ false) m e) (λ (m : i < j). r m l) (eq-or-lt_of_le h)

  -- and the one that is taken does not, where it is not the last
  pub stops : (arc : Float) (i k : ℕ) → reached_from p arc i k < i + k → le arc (length_to p (suc (reached_from p arc i k))) ≡ true
  unfolding reached_from
  stops arc i zero h = absurd (omega arith)
  stops arc i (suc k) h = go (le arc (length_to p (suc i))) refl h (stops arc (suc i) k)
    where
      next : ℕ
      next = reached_from p arc (suc i) k

      go : (b : Bool) → le arc (length_to p (suc i)) ≡ b → cond b i next < i + suc k → (next < suc i + k → le arc (length_to p (suc next)) ≡ true) → le arc (length_to p (suc (cond b i next))) ≡ true
      go true e l r = e
      go false e l r = r (omega arith)

  module _ (n : ℕ) where
    pub segment_there : (arc : Float) → segment_of_arc p n arc ≤ n - 2
    segment_there arc = let h = reached-within arc 0 (n - 2) in omega arith

    pub segment_rise : (a b : Float) → T (le a b) → segment_of_arc p n a ≤ segment_of_arc p n b
    segment_rise a b h = reached-rise a b h 0 (n - 2)

    -- the arc lengths that a segment's start is compared with are numbers
    pub starts : ((i : ℕ) → i ≤ n - 2 → T (le zero32 (length_to p i))) → (arc : Float) → T (le zero32 arc) → T (le (length_to p (segment_of_arc p n arc)) arc)
    unfolding length_to
    starts above arc h = go (segment_of_arc p n arc) refl
      where
        go : (i : ℕ) → segment_of_arc p n arc ≡ i → T (le (length_to p i) arc)
        go zero e = h
        go (suc j) e =
            let l = segment_there arc in
            let o = passed arc 0 (n - 2) j (omega arith) (omega arith) in
            float-le_of_lt (length_to p (suc j)) arc (float-lt_of_not-le arc (length_to p (suc j)) (le_right zero32 arc h) (le_right zero32 (length_to p (suc j)) (above (suc j) (omega arith))) (T_from_false (le arc (length_to p (suc j))) o))
