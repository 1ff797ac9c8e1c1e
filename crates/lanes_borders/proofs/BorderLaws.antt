-- Demand 3 on borders, from bounds on each lane's widths or borders: every inner border is the outer one of the lane before, no border lies behind
-- the one before it, and none lies beyond 80. By induction outward: after k lanes a border is at most 29 + 8k in size, a whole number.
use mathlib.Core.Path.{◌≡◌, refl, sym, subst}
use mathlib.Core.Bool.{Bool, true, false, cond}
use mathlib.Core.List.{List}
use Prim.Native.Nat.{ℕ, zero, suc, ◌+◌, ◌*◌, ◌^◌, ◌≤◌, ◌<◌}
use native.Mathlib.Nat.{le_trans, le_of_eq, le_of_suc-le, le-add_right, mul-le-mul_right}
use native.Mathlib.Omega.{arith}
use lib.Dec.{lit≤}
use lib.ListN.{length, get_or}
use lib.Ieee.{Float, binary64, prec, low, le, neg, of_bits, fits}
use Rattle.float_laws.specs.Binary64.{f64, zero64}
use Rattle.float_laws.proofs.Value.{mag, pl, mi, Real}
use Rattle.float_laws.proofs.Size.{Within, within-const}
use Rattle.float_laws.proofs.Whole.{Whole}
use Rattle.std.specs.declared.option.Option.{Option}
use Rattle.std.specs.declared.option.Option.TheVariants.{Some, None}
use Rattle.records_cubic.specs.Cubics.{cubic_at, eval_at}
use Rattle.records.specs.Active.{active_in, value_in}
use Rattle.records.specs.Roads.{Lane, no_lane}
use Rattle.arithmetic_ranges.specs.Ranges.{width_or_zero}
use Rattle.lanes.specs.Sides.{sign_of}
use Rattle.lanes_borders.specs.Borders.{border_width, width_of, outer_after, borders_at}
use Rattle.lanes_borders.proofs.Outward.{SideSign, Ahead, Fitted, fitted-width, fitted-border, step-outward}

-- ---- the premises, which admission gives: widths of size 8 at most, borders of size 36 at most

abbrev pub eight : Float
eight = f64 0x4020_0000_0000_0000

abbrev pub thirty_six : Float
thirty_six = f64 0x4042_0000_0000_0000

abbrev pub eighty : Float
eighty = f64 0x4054_0000_0000_0000

pub record ExtentWithin (lane : Lane) (s : Float) : Type 0 where
  pub width : lane.border ≡ false → Within binary64 (value_in lane.extents s) eight
  pub border : lane.border ≡ true → (i : ℕ) → active_in lane.extents s ≡ Some i → Within binary64 (eval_at (cubic_at lane.extents i) s) thirty_six

-- ---- the constants

eight-whole : Whole binary64 eight 8 0
unfolding of_bits fits pl mi
eight-whole = record { value = record { finite = tt; fits = tt }; plus = refl; minus = refl }

thirty_six-whole : Whole binary64 thirty_six 36 0
unfolding of_bits fits pl mi
thirty_six-whole = record { value = record { finite = tt; fits = tt }; plus = refl; minus = refl }

eighty-whole : Whole binary64 eighty 80 0
unfolding of_bits fits pl mi
eighty-whole = record { value = record { finite = tt; fits = tt }; plus = refl; minus = refl }

pub zero-whole : Whole binary64 zero64 0 0
unfolding of_bits fits pl mi
zero-whole = record { value = record { finite = tt; fits = tt }; plus = refl; minus = refl }

zero-eight : Within binary64 zero64 eight
unfolding of_bits fits le neg
zero-eight = within-const binary64 zero64 eight tt

pub sign-whole : (right : Bool) → SideSign binary64 right (sign_of right)
unfolding of_bits fits pl mi
sign-whole false = record { value = record { finite = tt; fits = tt }; plus = refl; minus = refl }
sign-whole true = record { value = record { finite = tt; fits = tt }; plus = refl; minus = refl }

-- ---- the chain: every inner border is the outer one of the lane before

pub inner-is-outer : (lanes : List Lane) (sign base s : Float) (k : ℕ) → (borders_at lanes sign base s (suc k)).inner ≡ (borders_at lanes sign base s k).outer
unfolding borders_at outer_after
inner-is-outer lanes sign base s k = refl

-- ---- a lane's width

width_fits : (lane : Lane) (right : Bool) (t s : Float) (M : ℕ) → ExtentWithin lane s → Real binary64 t → mag binary64 t ≤ M * 2 ^ low binary64 → 29 ≤ M → M ≤ 92 → Fitted binary64 right t (width_of lane (sign_of right) t s) (M + 8)
unfolding width_of
width_fits lane right t s M e r h l u = by_kind lane.border e.width e.border
  where
    by-active : (a : Option ℕ) → ((i : ℕ) → a ≡ Some i → Within binary64 (eval_at (cubic_at lane.extents i) s) thirty_six) → Fitted binary64 right t (width_or_zero (border_width lane (sign_of right) t s a)) (M + 8)
    by-active (Some i) w = fitted-border binary64 right (sign_of right) (eval_at (cubic_at lane.extents i) s) thirty_six zero64 t M (M + 8) (sign-whole right) (w i refl) thirty_six-whole zero-whole r h u (omega arith) (omega arith)
    by-active None w = fitted-width binary64 right zero64 eight zero64 t M (M + 8) zero-eight eight-whole zero-whole h (omega arith)

    by_kind :
        (b : Bool) → (b ≡ false → Within binary64 (value_in lane.extents s) eight) → (b ≡ true → (i : ℕ) → active_in lane.extents s ≡ Some i → Within binary64 (eval_at (cubic_at lane.extents i) s) thirty_six)
        → Fitted binary64 right t (width_or_zero (cond b (border_width lane (sign_of right) t s (active_in lane.extents s)) (value_in lane.extents s))) (M + 8)
    by_kind false w b = fitted-width binary64 right (value_in lane.extents s) eight zero64 t M (M + 8) (w refl) eight-whole zero-whole h (omega arith)
    by_kind true w b = by-active (active_in lane.extents s) (b refl)

-- ---- a side's borders, outward

-- a whole number up to 80, as a size
up_to-eighty : (x : Float) (n : ℕ) → n ≤ 80 → Real binary64 x → mag binary64 x ≤ n * 2 ^ low binary64 → Within binary64 x eighty
up_to-eighty x n h r m =
    record { value = r; bound = eighty-whole.value; plus = eighty-whole.minus; le = le_trans m (le_trans (mul-le-mul_right (2 ^ low binary64) h) (le_of_eq (sym eighty-whole.plus))) }

small : (k n : ℕ) → k < n → n ≤ 6 → 29 + k * 8 ≤ 92
small k n h l = omega arith

fits-format : (k n : ℕ) → k < n → n ≤ 6 → 29 + k * 8 + 8 ≤ 2 ^ prec binary64
fits-format k n h l = let a : 29 + k * 8 + 8 ≤ 80 = omega arith in le_trans a (lit≤ tt)

first : 8 ≤ 29 + 0 * 8
first = omega arith

next : (k : ℕ) → 29 + k * 8 + 8 ≡ 29 + suc k * 8
next k = omega arith

under-eighty : (k n : ℕ) → k ≤ n → n ≤ 6 → 29 + k * 8 ≤ 80
under-eighty k n h l = omega arith

-- at most six lanes, on either side of a base of size 8 at most
module _ (lanes : List Lane) (right : Bool) (base s : Float) (few : length lanes ≤ 6) (center : Within binary64 base eight) (extents : (k : ℕ) → k < length lanes → ExtentWithin (get_or lanes k no_lane) s) where
  abbrev outer : ℕ → Float
  outer k = outer_after lanes (sign_of right) base s k

  abbrev Reached : ℕ → Type 0
  Reached k = Real binary64 (outer k) × (mag binary64 (outer k) ≤ (29 + k * 8) * 2 ^ low binary64)

  fitted : (k : ℕ) → k < length lanes → Reached k → Fitted binary64 right (outer k) (width_of (get_or lanes k no_lane) (sign_of right) (outer k) s) (29 + k * 8 + 8)
  fitted k h p = width_fits (get_or lanes k no_lane) right (outer k) s (29 + k * 8) (extents k h) p.0 p.1 (le-add_right 29 (k * 8)) (small k (length lanes) h few)

  step : (k : ℕ) → k < length lanes → Reached k → Real binary64 (outer (suc k)) × (mag binary64 (outer (suc k)) ≤ (29 + k * 8 + 8) * 2 ^ low binary64) × Ahead right (outer k) (outer (suc k))
  unfolding outer_after
  step k h p =
      step-outward binary64 right (sign_of right) (outer k) (width_of (get_or lanes k no_lane) (sign_of right) (outer k) s) (29 + k * 8) (29 + k * 8 + 8) (sign-whole right) p.0 p.1 (le-add_right (29 + k * 8) 8) (fits-format k (length lanes) h few)
      (fitted k h p)

  reached : (k : ℕ) → k ≤ length lanes → Reached k
  reached zero h = unfold outer_after in (center.value, le_trans center.le (le_trans (le_of_eq eight-whole.plus) (mul-le-mul_right (2 ^ low binary64) first)))
  reached (suc k) h =
      let g = step k h (reached k (le_of_suc-le h)) in
      (g.0, subst (λ (n : ℕ). mag binary64 (outer (suc k)) ≤ n * 2 ^ low binary64) (next k) g.1)

  -- after any number of lanes the border is finite and at most 80 in size
  pub outer-within : (k : ℕ) → k ≤ length lanes → Within binary64 (outer k) eighty
  outer-within k h = let p = reached k h in up_to-eighty (outer k) (29 + k * 8) (under-eighty k (length lanes) h few) p.0 p.1

  -- "none beyond 80"
  pub inner-within : (k : ℕ) → k < length lanes → Within binary64 (borders_at lanes (sign_of right) base s k).inner eighty
  unfolding borders_at
  inner-within k h = outer-within k (le_of_suc-le h)

  pub outer-border-within : (k : ℕ) → k < length lanes → Within binary64 (borders_at lanes (sign_of right) base s k).outer eighty
  unfolding borders_at outer_after
  outer-border-within k h = outer-within (suc k) h

  -- left borders never fall outward, right ones never rise
  pub outer-ahead : (k : ℕ) → k < length lanes → Ahead right (borders_at lanes (sign_of right) base s k).inner (borders_at lanes (sign_of right) base s k).outer
  unfolding borders_at outer_after
  outer-ahead k h = (step k h (reached k (le_of_suc-le h))).2
