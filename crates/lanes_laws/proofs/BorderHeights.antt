-- Heights at borders, of a road that `Admits` at a station on it, with a tangent of size 1 at most: those at the borders of the section's lanes are within 840.
-- By induction outward: after k lanes the height is at most 121 + 119k, a whole number, since a level lane adds its width, at most 116, times the tangent, and its own height, at most 3.
use mathlib.Core.Path.{◌≡◌, refl, subst}
use mathlib.Core.Bool.{Bool, true, false, cond}
use Prim.Native.Nat.{ℕ, zero, suc, ◌+◌, ◌*◌, ◌^◌, ◌≤◌, ◌<◌}
use native.Mathlib.Nat.{le_trans, le_of_suc-le, le-add_right}
use native.Mathlib.Omega.{arith}
use lib.Dec.{T, lit≤}
use lib.ListN.{length, get_or}
use lib.Ieee.{Float, binary64, prec, low, le, lt, neg, add, mul, of_bits, fits}
use lib.Ieee.Scale.{finite}
use Rattle.float_laws.specs.Binary64.{◌⊕◌, ◌⊖◌, ◌⊗◌, f64, zero64}
use Rattle.float_laws.proofs.Value.{pl, mi}
use Rattle.float_laws.proofs.Size.{Within, within-mono, within-const, sub_within, mul-within}
use Rattle.float_laws.proofs.Whole.{Whole}
use Rattle.arithmetic_sine.specs.Sine.{one}
use Rattle.std.specs.declared.option.Option.{Option}
use Rattle.std.specs.declared.option.Option.TheVariants.{Some, None}
use Rattle.records_cubic.specs.Cubics.{cubic_at, eval_at}
use Rattle.records.specs.Active.{active_in, value_in}
use Rattle.records.specs.Roads.{Road, Lane, no_lane, section_index}
use Rattle.admission_laws.proofs.RoadBounds.{OnRoad}
use Rattle.lanes.specs.declared.border_heights.BorderHeights.{BorderHeights}
use Rattle.lanes.specs.Lateral.{height_toward}
use Rattle.arithmetic_ranges.specs.Ranges.{width_or_zero}
use Rattle.lanes_laws.proofs.LateralBounds.{two-wide, height-most}
use Rattle.lanes.specs.Sides.{sign_of}
use Rattle.lanes_borders.specs.Borders.{border_width, width_of, base_at, side_lanes, borders_at, borders_of}
use Rattle.lanes_heights.specs.Heights.{level_up_to, level_heights, tilted_heights, own_heights, heights_from, height_after, heights_at}
use Rattle.lanes_borders.specs.declared.borders.LaneBorders.{LaneBorders}
use Rattle.lanes_borders.proofs.BorderLaws.{eight, thirty_six, eighty, ExtentWithin}
use Rattle.lanes_laws.proofs.AdmittedRoad.{Admits, eighty-own, across-within, into}
use Rattle.lanes_laws.proofs.BordersKept.{center, extents, inner-kept, outer-kept}
use Rattle.lanes_laws.proofs.RoadHeights.{toward-kept, own-kept}
use Rattle.lanes_laws.proofs.WholeSizes.{AtMost, at_most-of, at_most-more, at_most-within, at_most-sum, at_most-difference}

-- ---- the constants

-- 36 and 80
abbrev pub widest : Float
widest = f64 0x405d_0000_0000_0000

-- 840
abbrev pub border-most : Float
border-most = f64 0x408a_4000_0000_0000

pub border-whole : Whole binary64 border-most 840 0
unfolding of_bits fits pl mi
border-whole = record { value = record { finite = tt; fits = tt }; plus = refl; minus = refl }

widest-own : Within binary64 widest widest
unfolding of_bits fits le neg
widest-own = within-const binary64 widest widest tt

zero-widest : Within binary64 zero64 widest
unfolding of_bits fits le neg
zero-widest = within-const binary64 zero64 widest tt

eight-below : T (le eight widest) × T (le eight eighty)
unfolding of_bits le
eight-below = (tt, tt)

sign-within : (right : Bool) → Within binary64 (sign_of right) one
unfolding of_bits fits le neg
sign-within false = within-const binary64 (sign_of false) one tt
sign-within true = within-const binary64 (sign_of true) one tt

border-sum : T (finite (thirty_six ⊕ eighty)) × (thirty_six ⊕ eighty ≡ widest)
unfolding of_bits add
border-sum = (tt, refl)

one-times : T (finite (one ⊗ widest)) × (one ⊗ widest ≡ widest)
unfolding of_bits mul
one-times = (tt, refl)

times-one : T (finite (widest ⊗ one)) × (widest ⊗ one ≡ widest)
unfolding of_bits mul
times-one = (tt, refl)

toward-size : pl binary64 height-most ≤ 121 * 2 ^ low binary64
unfolding of_bits pl
toward-size = lit≤ tt

own-size : pl binary64 two-wide ≤ 3 * 2 ^ low binary64
unfolding of_bits pl
own-size = lit≤ tt

width-size : pl binary64 widest ≤ 116 * 2 ^ low binary64
unfolding of_bits pl
width-size = lit≤ tt

-- ---- a width, and what a level lane falls or rises across it

signed-within : (right : Bool) (x : Float) → Within binary64 x widest → Within binary64 (sign_of right ⊗ x) widest
signed-within right x w =
    subst (λ (A : Float). Within binary64 (sign_of right ⊗ x) A) one-times.1 (mul-within binary64 (sign_of right) x one widest (sign-within right) w one-times.0)

slope_within_lem : (right : Bool) (width tangent : Float) → Within binary64 width widest → Within binary64 tangent one → Within binary64 (sign_of right ⊗ width ⊗ tangent) widest
slope_within_lem right width tangent w t =
    subst (λ (A : Float). Within binary64 (sign_of right ⊗ width ⊗ tangent) A) times-one.1 (mul-within binary64 (sign_of right ⊗ width) tangent widest one (signed-within right width w) t times-one.0)

raised-within : (w : Float) → Within binary64 w widest → Within binary64 (width_or_zero w) widest
raised-within w h = go (lt zero64 w)
  where
    go : (b : Bool) → Within binary64 (cond b w zero64) widest
    go true = h
    go false = zero-widest

-- a width lane's is at most 8, a border lane's 36 and 80
pub width-most : (lane : Lane) (right : Bool) (inner s : Float) → ExtentWithin lane s → Within binary64 inner eighty → Within binary64 (width_of lane (sign_of right) inner s) widest
unfolding width_of
width-most lane right inner s e w = by_kind lane.border e.width e.border
  where
    by-active : (x : Option ℕ) → ((i : ℕ) → x ≡ Some i → Within binary64 (eval_at (cubic_at lane.extents i) s) thirty_six) → Within binary64 (border_width lane (sign_of right) inner s x) widest
    by-active (Some i) h =
        signed-within right (eval_at (cubic_at lane.extents i) s ⊖ inner)
        (subst (λ (A : Float). Within binary64 (eval_at (cubic_at lane.extents i) s ⊖ inner) A) border-sum.1 (sub_within binary64 (eval_at (cubic_at lane.extents i) s) inner thirty_six eighty (h i refl) w border-sum.0))
    by-active None h = zero-widest

    by_kind :
        (b : Bool) → (b ≡ false → Within binary64 (value_in lane.extents s) eight) → (b ≡ true → (i : ℕ) → active_in lane.extents s ≡ Some i → Within binary64 (eval_at (cubic_at lane.extents i) s) thirty_six)
        → Within binary64 (width_or_zero (cond b (border_width lane (sign_of right) inner s (active_in lane.extents s)) (value_in lane.extents s))) widest
    by_kind false p q = raised-within (value_in lane.extents s) (within-mono binary64 (value_in lane.extents s) eight widest (p refl) widest-own.bound eight-below.0)
    by_kind true p q = raised-within (border_width lane (sign_of right) inner s (active_in lane.extents s)) (by-active (active_in lane.extents s) (q refl))

-- ---- the lanes of the section at s

module _ (road : Road) (a : Admits road) (s : Float) (o : OnRoad road s) (right : Bool) where
  abbrev at : ℕ
  at = section_index road s

  abbrev count : ℕ
  count = length (side_lanes road at right)

  pub base-within : Within binary64 (base_at road s) eighty
  base-within = within-mono binary64 (base_at road s) eight eighty (center road a s o) eighty-own.bound eight-below.1

  width-kept : (k : ℕ) → k < count → Within binary64 (borders_of road at s right k).width widest
  unfolding borders_at
  width-kept k l = width-most (get_or (side_lanes road at right) k no_lane) right (borders_of road at s right k).inner (into road s) (extents road a s o right k l) (inner-kept road a s o right k l)

  -- ---- one lane, where its inner neighbour ends at a height of at most m
  module _ (tangent : Float) (slope : Within binary64 tangent one) where
    toward-at : (t : Float) → Within binary64 t eighty → AtMost binary64 121 (height_toward road s t (sign_of right))
    toward-at t w = at_most-of binary64 (height_toward road s t (sign_of right)) height-most 121 (toward-kept road a s o t (across-within t w) (sign_of right)) toward-size

    own_at : (k : ℕ) → k < count → AtMost binary64 3 (own_heights road at s tangent right k).inner × AtMost binary64 3 (own_heights road at s tangent right k).outer
    own_at k l =
        let w = own-kept road a s o right k l in
        let own = own_heights road at s tangent right k in
        (at_most-of binary64 own.inner two-wide 3 w.0 own-size, at_most-of binary64 own.outer two-wide 3 w.1 own-size)

    small : (m : ℕ) → m ≤ 840 → m ≤ 2 ^ prec binary64
    small m h = le_trans h (lit≤ tt)

    level-most : (k : ℕ) → k < count → (outer : Float) (m : ℕ) → AtMost binary64 m outer → m + 119 ≤ 840
        → AtMost binary64 (m + 119) ((outer ⊖ sign_of right ⊗ (borders_of road at s right k).width ⊗ tangent) ⊕ (own_heights road at s tangent right k).outer)
    level-most k l outer m w h =
        let fall = sign_of right ⊗ (borders_of road at s right k).width ⊗ tangent in
        let own = own_heights road at s tangent right k in
        let x = at_most-of binary64 fall widest 116 (slope_within_lem right (borders_of road at s right k).width tangent (width-kept k l) slope) width-size in
        let y = at_most-difference binary64 outer fall m 116 w x (small (m + 116) (omega arith)) in
        subst (λ (n : ℕ). AtMost binary64 n ((outer ⊖ fall) ⊕ own.outer)) (let e : m + 116 + 3 ≡ m + 119 = omega arith in e)
        (at_most-sum binary64 (outer ⊖ fall) own.outer (m + 116) 3 y (own_at k l).1 (small (m + 116 + 3) (omega arith)))

    heights-most : (k : ℕ) → k < count → (outer : Float) (m : ℕ) → AtMost binary64 m outer → 121 ≤ m → m + 119 ≤ 840
        → AtMost binary64 (m + 119) (heights_from road at s tangent right outer k).inner × AtMost binary64 (m + 119) (heights_from road at s tangent right outer k).outer
    heights-most k l outer m w f h = go (level_up_to (side_lanes road at right) k)
      where
        own : BorderHeights
        own = own_heights road at s tangent right k

        b : LaneBorders
        b = borders_of road at s right k

        tilted : (x t : Float) → AtMost binary64 3 x → Within binary64 t eighty → AtMost binary64 (m + 119) (x ⊕ height_toward road s t (sign_of right))
        tilted x t u v =
            at_most-more binary64 (x ⊕ height_toward road s t (sign_of right)) (3 + 121) (m + 119)
            (at_most-sum binary64 x (height_toward road s t (sign_of right)) 3 121 u (toward-at t v) (small (3 + 121) (omega arith))) (omega arith)

        go : (c : Bool) → AtMost binary64 (m + 119) (cond c (level_heights own outer (sign_of right) b.width tangent) (tilted_heights road s own b (sign_of right))).inner
            × AtMost binary64 (m + 119) (cond c (level_heights own outer (sign_of right) b.width tangent) (tilted_heights road s own b (sign_of right))).outer
        go true = (
          at_most-more binary64 (outer ⊕ own.inner) (m + 3) (m + 119) (at_most-sum binary64 outer own.inner m 3 w (own_at k l).0 (small (m + 3) (omega arith))) (omega arith),
          level-most k l outer m w h,
        )
        go false = (tilted own.inner b.inner (own_at k l).0 (inner-kept road a s o right k l), tilted own.outer b.outer (own_at k l).1 (outer-kept road a s o right k l))

    -- ---- outward

    next : (k : ℕ) → 121 + k * 119 + 119 ≡ 121 + suc k * 119
    next k = omega arith

    under : (k n : ℕ) → k < n → n ≤ 6 → 121 + k * 119 + 119 ≤ 840
    under k n h l = omega arith

    most : (k n : ℕ) → k ≤ n → n ≤ 6 → 121 + k * 119 ≤ 840
    most k n h l = omega arith

    after : (k : ℕ) → k ≤ count → AtMost binary64 (121 + k * 119) (height_after road at s tangent right k)
    unfolding height_after
    after zero h = toward-at (base_at road s) base-within
    after (suc k) h =
        subst (λ (n : ℕ). AtMost binary64 n (height_after road at s tangent right (suc k))) (next k)
        (heights-most k h (height_after road at s tangent right k) (121 + k * 119) (after k (le_of_suc-le h)) (le-add_right 121 (k * 119)) (under k count h (a.few at right))).1

    -- the height at the outer border after k lanes
    pub after_kept : (k : ℕ) → k ≤ count → Within binary64 (height_after road at s tangent right k) border-most
    after_kept k h = at_most-within binary64 (height_after road at s tangent right k) border-most (121 + k * 119) 840 (after k h) (most k count h (a.few at right)) border-whole

    -- a lane's heights at its borders
    pub border-heights-kept : (k : ℕ) → k < count → Within binary64 (heights_at road at s tangent right k).inner border-most × Within binary64 (heights_at road at s tangent right k).outer border-most
    unfolding heights_at
    border-heights-kept k h =
        let u = under k count h (a.few at right) in
        let w = heights-most k h (height_after road at s tangent right k) (121 + k * 119) (after k (le_of_suc-le h)) (le-add_right 121 (k * 119)) u in
        let b = heights_at road at s tangent right k in (
          at_most-within binary64 b.inner border-most (121 + k * 119 + 119) 840 w.0 u border-whole,
          at_most-within binary64 b.outer border-most (121 + k * 119 + 119) 840 w.1 u border-whole,
        )
