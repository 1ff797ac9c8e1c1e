-- How large the heights across a road can be, from how large its records are. The premises are bounds on values, so whoever knows that a road is admitted can meet them.
-- Profiles and lane heights by `along-within`; the cross section by Horner's rule, term by term.
use mathlib.Core.Path.{◌≡◌, refl, sym, subst}
use Prim.Native.Nat.{ℕ, ◌+◌}
use mathlib.Core.Bool.{Bool, true, false, cond}
use mathlib.Core.List.{List}
use lib.ListN.{length}
use lib.Dec.{T, ltb, eqb, lit≤, lit<}
use lib.Ieee.{Float, binary64, add, div, fits, of_bits}
use lib.Ieee.Scale.{finite}
use Rattle.float_laws.specs.Binary64.{◌⊕◌, ◌⊖◌, ◌⊘◌, f64, zero64}
use Rattle.float_laws.proofs.Value.{pl, mi}
use Rattle.float_laws.proofs.Size.{Within, add-within, sub_within}
use Rattle.float_laws.proofs.Checker.{good-real}
use Rattle.records.specs.declared.points.HeightDef.{HeightDef}
use Rattle.std.specs.declared.option.Option.{Option}
use Rattle.std.specs.declared.option.Option.TheVariants.{Some, None}
use Rattle.records_cubic.specs.Cubics.{cubic_at, eval_at}
use Rattle.records.specs.Active.{active_in, value_in, last_start, active_up_to}
use Rattle.records.specs.Roads.{Road, StripDef, present, profile_at, strip_at, height_def_at}
use Rattle.lanes.specs.declared.border_heights.BorderHeights.{BorderHeights}
use Rattle.arithmetic_ranges.specs.Ranges.{largest, blend}
use Rattle.admission.specs.Limits.{greatest_lane_height, greatest_shift, greatest_shape, farthest_across, greatest_strip_height}
use Rattle.admission_arguments.specs.Arguments.{half_width}
use Rattle.lanes.specs.Lateral.{shape_by, profile_height, shape_between, shape_from, shape_of, height_between, height_held, no_heights, height_from, height_of, cross_height, height_toward}
use Rattle.lanes_laws.proofs.StationBounds.{Stations, Wider, starts-far, starts-any, far, between, along, along-within}
use Rattle.lanes_laws.proofs.StripBounds.{StripWithin, cross-within}

-- ---- a lane's heights

-- the stations of a lane's heights, with the heights at the inner or at the outer border
abbrev pub HeightsAt : List HeightDef → (HeightDef → Float) → Float → Type 0
HeightsAt hs border A = Stations (λ (i : ℕ). (height_def_at hs i).s_offset) (λ (i : ℕ). border (height_def_at hs i)) (length hs) largest A

abbrev pub inner_of : HeightDef → Float
inner_of h = h.inner

abbrev pub outer_of : HeightDef → Float
outer_of h = h.outer

-- one border's height of a pair, by what it is of a height held, between two, and with none
module _ (hs : List HeightDef) (s : Float) (border : HeightDef → Float) (part : BorderHeights → Float) (held : (h : HeightDef) → part (height_held h) ≡ border h)
    (mid : (a b : HeightDef) → part (height_between a b s) ≡ blend (border a) (border b) ((s ⊖ a.s_offset) ⊘ (b.s_offset ⊖ a.s_offset))) (none : part no_heights ≡ zero64) where
  border-along : (f : Option ℕ) → along (λ (i : ℕ). (height_def_at hs i).s_offset) (λ (i : ℕ). border (height_def_at hs i)) (length hs) s f ≡ part (height_from hs s f)
  border-along (Some i) = go (ltb (i + 1) (length hs))
    where
      go : (b : Bool) → cond b (between (λ (i : ℕ). (height_def_at hs i).s_offset) (λ (i : ℕ). border (height_def_at hs i)) (length hs) s i) (border (height_def_at hs i))
          ≡ part (cond b (height_between (height_def_at hs i) (height_def_at hs (i + 1)) s) (height_held (height_def_at hs i)))
      go true = sym (mid (height_def_at hs i) (height_def_at hs (i + 1)))
      go false = sym (held (height_def_at hs i))
  border-along None = go (eqb (length hs) 0)
    where
      go : (b : Bool) → cond b zero64 (border (height_def_at hs 0)) ≡ part (cond b no_heights (height_held (height_def_at hs 0)))
      go true = sym none
      go false = sym (held (height_def_at hs 0))

  border-within : {A B : Float} {j : ℕ} → Wider A B j → HeightsAt hs border A → Within binary64 s far → Within binary64 (part (height_of hs s)) B
  unfolding height_of
  border-within {A} {B} {j} w k ws =
      subst (λ (x : Float). Within binary64 x B) (border-along (last_start (λ (i : ℕ). (height_def_at hs i).s_offset) (active_up_to s) (length hs)))
      (along-within (λ (i : ℕ). (height_def_at hs i).s_offset) (λ (i : ℕ). border (height_def_at hs i)) (length hs) s largest A B j starts-any w k ws)

-- heights within A, and B a little larger, s metres into the section
pub height_within_lem : (hs : List HeightDef) (s : Float) {A B : Float} {j : ℕ} → Wider A B j → HeightsAt hs inner_of A → HeightsAt hs outer_of A → Within binary64 s far
    → Within binary64 (height_of hs s).inner B × Within binary64 (height_of hs s).outer B
height_within_lem hs s w ki ko ws = (
  border-within hs s inner_of (λ (p : BorderHeights). p.inner) (λ h. refl) (λ a b. refl) refl w ki ws,
  border-within hs s outer_of (λ (p : BorderHeights). p.outer) (λ h. refl) (λ a b. refl) refl w ko ws,
)

-- a lane's heights are limited to 2; the f64 below 2.00001
abbrev pub two-wide : Float
two-wide = f64 0x4000_0005_3e2d_6238

pub wider-two : Wider greatest_lane_height two-wide 1075
unfolding of_bits fits mi pl div
wider-two = record { size = lit≤ tt; exponent = lit< tt; real = good-real binary64 two-wide tt; plus = refl; room = lit≤ tt }

-- ---- profiles

-- a profile at t, by the cubic that is active there or the first one's a
pub profile-within :
    (road : Road) (i : ℕ) (t A : Float) → ((k : ℕ) → active_in (profile_at road i).shapes t ≡ Some k → Within binary64 (eval_at (cubic_at (profile_at road i).shapes k) t) A)
    → (active_in (profile_at road i).shapes t ≡ None → Within binary64 (cubic_at (profile_at road i).shapes 0).a A) → Within binary64 (profile_height road i t) A
unfolding profile_height
profile-within road i t A h g = go (active_in (profile_at road i).shapes t) h g
  where
    go : (f : Option ℕ) → ((k : ℕ) → f ≡ Some k → Within binary64 (eval_at (cubic_at (profile_at road i).shapes k) t) A) → (f ≡ None → Within binary64 (cubic_at (profile_at road i).shapes 0).a A)
        → Within binary64 (shape_by (profile_at road i).shapes t f) A
    go (Some k) h g = h k refl
    go None h g = g refl

-- the stations of the profiles, with their heights at t
abbrev pub ProfilesAt : Road → Float → Float → Type 0
ProfilesAt road t A = Stations (λ (i : ℕ). (profile_at road i).s) (λ (i : ℕ). profile_height road i t) (length road.profiles) far A

shape-along : (road : Road) (s t : Float) (f : Option ℕ) → along (λ (i : ℕ). (profile_at road i).s) (λ (i : ℕ). profile_height road i t) (length road.profiles) s f ≡ shape_from road s t f
unfolding shape_between
shape-along road s t (Some i) = refl
shape-along road s t None = refl

-- profiles within A at t, and B a little larger
pub shape-within : (road : Road) (s t : Float) {A B : Float} {j : ℕ} → Wider A B j → ProfilesAt road t A → Within binary64 s far → Within binary64 (shape_of road s t) B
unfolding shape_of
shape-within road s t {A} {B} {j} w k ws =
    subst (λ (x : Float). Within binary64 x B) (shape-along road s t (last_start (λ (i : ℕ). (profile_at road i).s) (active_up_to s) (length road.profiles)))
    (along-within (λ (i : ℕ). (profile_at road i).s) (λ (i : ℕ). profile_height road i t) (length road.profiles) s far A B j starts-far w k ws)

-- a shape is limited to 40; an f64 below 40.001
abbrev pub forty-wide : Float
forty-wide = f64 0x4044_0020_c49b_a5e2

pub wider-forty : Wider greatest_shape forty-wide 1080
unfolding of_bits fits mi pl div
wider-forty = record { size = lit≤ tt; exponent = lit< tt; real = good-real binary64 forty-wide tt; plus = refl; room = lit≤ tt }

-- ---- the cross section and the whole

-- t within 80 and a shift within 8: within 88 of the ridge
pub shift-within : (t v : Float) → Within binary64 t half_width → Within binary64 v greatest_shift → Within binary64 (t ⊖ v) farthest_across
unfolding of_bits add
shift-within t v w u = sub_within binary64 t v half_width greatest_shift w u tt

-- profiles and cross section together
pub toward-within :
    (road : Road) (s t toward B C : Float) → Within binary64 (shape_of road s t) B → Within binary64 (cross_height road s t toward) C → T (finite (B ⊕ C)) → Within binary64 (height_toward road s t toward) (B ⊕ C)
unfolding height_toward
toward-within road s t toward B C v w f = add-within binary64 (shape_of road s t) (cross_height road s t toward) B C v w f

-- that and 2 × 40, the f64 below 120.001
abbrev pub height-most : Float
height-most = f64 0x405e_0010_624d_d2f1

-- profiles within 40 at t, strips within 40 as far out as 88, and t within 88 of the ridge: the height is within 120.001
pub toward-most :
    (road : Road) (s t toward : Float) → ProfilesAt road t greatest_shape → Within binary64 s far → Within binary64 (t ⊖ value_in road.tshifts s) farthest_across
    → ((i : ℕ) (d : StripDef) → strip_at road i ≡ present d → StripWithin s farthest_across greatest_strip_height d) → Within binary64 (height_toward road s t toward) height-most
unfolding of_bits add fits mi
toward-most road s t toward k ws wt h =
    toward-within road s t toward forty-wide (greatest_strip_height ⊕ greatest_strip_height) (shape-within road s t wider-forty k ws) (cross-within road s t toward farthest_across greatest_strip_height wt (good-real binary64 greatest_strip_height tt) refl tt h) tt
