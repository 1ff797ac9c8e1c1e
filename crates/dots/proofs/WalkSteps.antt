-- The walk along a line. It goes on past each segment that ends short of its arc length; a later arc length is not in those either, since `le` is transitive.
use Prim.Native.Nat.{ℕ, zero, suc, ◌+◌, ◌-◌, ◌≤◌, ◌<◌}
use native.Mathlib.Omega.{arith}
use native.Mathlib.Numerals.{add-one}
use mathlib.Core.Path.{◌≡◌, refl, sym, ap, ◌∙◌}
use mathlib.Core.Bool.{Bool, true, false, cond}
use lib.Dec.{not_T}
use lib.Ieee.{Float, le}
use lib.Ieee.Bits.{is_true, is_false}
use Rattle.std.proofs.lemmas.Float.{le_trans as float_trans, T_from_true}
use Rattle.std.specs.Prelude.{Option, Some, None}
use Rattle.float_laws.specs.Binary32.{◌⊕◌, zero32}
use Rattle.float_laws.proofs.Nearest.{apart}
use Rattle.records.specs.declared.points.Point.{Point}
use Rattle.tracks.specs.declared.segments.Segment.{Segment}
use Rattle.tracks.specs.Lines.{segment_at}
use Rattle.tracks.specs.Lengths.{distance_of, length_to}
use Rattle.tracks.proofs.LengthSteps.{length_none, length_next}
use Rattle.dots.specs.declared.stations.Walk.{Walk}
use Rattle.dots.specs.Along.{reached_from, segment_of_arc, station_on, station_at}
use Rattle.dots.specs.Dots.{multiple, station_of_multiple, dot_by}
use Rattle.dots.specs.Walks.{Stands}

-- `le` of floats is transitive, said of the tests
le_chain : (a b c : Float) → le a b ≡ true → le b c ≡ true → le a c ≡ true
le_chain a b c e f = is_true (le a c) (float_trans a b c (T_from_true _ e) (T_from_true _ f))

module _ (p : ℕ → Point) (arc : Float) where
  pub reach-stop : (i k : ℕ) → le arc (length_to p (suc i)) ≡ true → reached_from p arc i k ≡ i
  unfolding reached_from
  reach-stop i zero e = refl
  reach-stop i (suc k) e = rw e

  pub reach-next : (i k : ℕ) → 0 < k → le arc (length_to p (suc i)) ≡ false → reached_from p arc i k ≡ reached_from p arc (suc i) (k - 1)
  unfolding reached_from
  reach-next i zero l e = absurd (omega arith)
  reach-next i (suc k) l e = let d : suc k - 1 ≡ k = omega arith in rw (e, d)

  pub reach-end : (i k : ℕ) → k ≡ 0 → reached_from p arc i k ≡ i
  unfolding reached_from
  reach-end i k e = rw e

module _ (p : ℕ → Point) (n : ℕ) where
  pub starts : (arc : Float) {on : Segment} {d : Float} → on ≡ segment_at p 0 → d ≡ distance_of on.from on.to → Stands p n (record { arc = arc; segment = 0; before = zero32; step = d })
  starts arc ho hd =
      let e : n - 2 - 0 ≡ n - 2 = omega arith in
      record {
        within = omega arith;
        before = length_none p;
        step = rw (hd, ho);
        sought = ap (reached_from p arc 0) (sym e);
        ahead = λ b _. ap (reached_from p b 0) (sym e);
      }

  -- to find a later arc length where it is
  pub stays : {w : Walk} (arc : Float) → Stands p n w → le w.arc arc ≡ true → Stands p n (record { arc = arc; segment = w.segment; before = w.before; step = w.step })
  stays {w} arc h e =
      record {
        within = h.within;
        before = h.before;
        step = h.step;
        sought = h.ahead arc e;
        ahead = λ b f. h.ahead b (le_chain w.arc arc b e f);
      }

  -- past its segment
  pub goes : {w : Walk} {on : Segment} {end d : Float} → Stands p n w → w.segment < n - 2 → end ≡ w.before ⊕ w.step → le w.arc end ≡ false → on ≡ segment_at p (w.segment + 1) → d ≡ distance_of on.from on.to
      → Stands p n (record { arc = w.arc; segment = w.segment + 1; before = end; step = d })
  goes {w} {on} {end} {d} h l he e ho hd =
      let i = w.segment in
      let one : i + 1 ≡ suc i = add-one i in
      let to : end ≡ length_to p (suc i) = he ∙ ap (λ (x : Float). x ⊕ w.step) h.before ∙ ap (λ (x : Float). length_to p i ⊕ x) h.step ∙ length_next p i refl refl refl ∙ ap (length_to p) one in
      let k : n - 2 - i - 1 ≡ n - 2 - suc i = omega arith in
      let past = λ (b : Float) (f : le b (length_to p (suc i)) ≡ false). reach-next p b i (n - 2 - i) (omega arith) f ∙ ap (reached_from p b (suc i)) k in
      let short : le w.arc (length_to p (suc i)) ≡ false = ap (le w.arc) (sym to) ∙ e in
      rw one (record {
        within = omega arith;
        before = to;
        step = rw (hd, ho, one);
        sought = h.sought ∙ past w.arc short;
        ahead = λ b f. h.ahead b f ∙ past b (later b f short);
      })
    where
      later : (b : Float) → le w.arc b ≡ true → le w.arc (length_to p (suc w.segment)) ≡ false → le b (length_to p (suc w.segment)) ≡ false
      later b f g = is_false _ (not_T _ (λ t. apart (sym (le_chain w.arc b _ f (is_true _ t)) ∙ g)))

  -- at its segment
  pub found : {w : Walk} {end : Float} → Stands p n w → end ≡ w.before ⊕ w.step → le w.arc end ≡ true → w.segment ≡ segment_of_arc p n w.arc
  found {w} {end} h he e =
      let i = w.segment in
      let to : end ≡ length_to p (suc i) = he ∙ ap (λ (x : Float). x ⊕ w.step) h.before ∙ ap (λ (x : Float). length_to p i ⊕ x) h.step ∙ length_next p i refl refl refl ∙ ap (length_to p) (add-one i) in
      sym (h.sought ∙ reach-stop p w.arc i (n - 2 - i) (ap (le w.arc) (sym to) ∙ e))

  pub ends : {w : Walk} → Stands p n w → n - 2 ≤ w.segment → w.segment ≡ segment_of_arc p n w.arc
  ends {w} h l = let z : n - 2 - w.segment ≡ 0 = omega arith in sym (h.sought ∙ reach-end p w.arc w.segment (n - 2 - w.segment) z)

-- the station where a walk stands is its arc length's, and the dot there
pub dot_is : (p : ℕ → Point) (c : ℕ → Float) (n : ℕ) (spacing : Float) (k : ℕ) (keep : Float → Bool) {arc s : Float} {i : ℕ} {b : Bool} {o : Option Float} → arc ≡ multiple spacing k → i ≡ segment_of_arc p n arc → s ≡ station_on p c i arc → b ≡ keep s → o ≡ cond b (Some s) None
    → o ≡ dot_by keep (station_of_multiple p c n spacing k)
unfolding station_at
dot_is p c n spacing k keep ha hi hs hb ho = rw (ho, hb, hs, hi, ha)

pub ruleset walking = (starts, stays, goes, found, ends)
