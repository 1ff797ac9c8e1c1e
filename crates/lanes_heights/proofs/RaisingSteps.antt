-- The steps of a side's heights as the code takes them: level from its lane outward and one lane across from where its inner neighbour ends.
use mathlib.Core.Path.{◌≡◌, refl, ap, ◌∙◌, sym}
use mathlib.Core.Bool.{Bool, false, ◌||◌}
use mathlib.Core.List.{List, [], ◌∷◌}
use Prim.Native.Nat.{ℕ, zero, suc, ◌+◌}
use native.Mathlib.Numerals.{add-one}
use lib.ListN.{get_or, take}
use lib.Ieee.{Float}
use Rattle.float_laws.specs.Binary64.{◌⊖◌}
use Rattle.std.specs.List.{list_any}
use Rattle.records_lent.specs.Lists.{any_below}
use Rattle.records_lent.proofs.RangeLaws.{any-front}
use Rattle.records.specs.Roads.{Road, Lane, no_lane, section_of, lane_of}
use Rattle.lanes.specs.Lateral.{height_toward}
use Rattle.lanes_heights.specs.declared.across.Across.{Across}
use Rattle.lanes.specs.Sides.{sign_of}
use Rattle.lanes_borders.specs.Borders.{outer_after, borders_from, borders_at, base_at, side_lanes, borders_of}
use Rattle.lanes_heights.specs.Heights.{level_up_to, across_by, own_heights, height_after, heights_at, across_at}

-- ---- level

-- some of the first n, those past the last counted as none
pub any_first : {A : Type 0} (p : A → Bool) (d : A) → p d ≡ false → (n : ℕ) (xs : List A) → list_any p (take n xs) ≡ any_below (λ i. p (get_or xs i d)) n
unfolding any_below
any_first p d e zero xs = refl
any_first {A} p d e (suc n) [] = sym (none (suc n))
  where
    none : (n : ℕ) → any_below (λ (i : ℕ). p (get_or {A = A} [] i d)) n ≡ false
    none zero = refl
    none (suc n) = rw (none n, e)
any_first p d e (suc n) (x ∷ xs) = ap (λ b. p x || b) (any_first p d e n xs) ∙ sym (any-front (λ i. p (get_or (x ∷ xs) i d)) n)

abbrev pub is_level : List Lane → ℕ → Bool
is_level lanes k = (get_or lanes k no_lane).level

module _ (lanes : List Lane) where
  level-any : (k : ℕ) → any_below (is_level lanes) k || is_level lanes k ≡ level_up_to lanes k
  unfolding any_below level_up_to
  level-any zero = refl
  level-any (suc k) = ap (λ b. b || is_level lanes (suc k)) (level-any k)

  pub level-none : false ≡ any_below (is_level lanes) 0
  unfolding any_below
  level-none = refl

  -- from the lanes below the k-th and the k-th
  pub level-here : (k : ℕ) {l m : Bool} → l ≡ any_below (is_level lanes) k → m ≡ is_level lanes k → l || m ≡ level_up_to lanes k
  level-here k e f = rw (e, f) (level-any k)

  pub level-next : (k : ℕ) {l : Bool} → l ≡ level_up_to lanes k → l ≡ any_below (is_level lanes) (k + 1)
  unfolding any_below
  level-next k e = rw add-one (e ∙ sym (level-any k))

-- ---- a lane across

module _ (road : Road) (i : ℕ) (s tangent : Float) (right : Bool) (k : ℕ) where
  -- from the running border, height and level
  pub across-here :
      {inner outer : Float} {level : Bool} {a : Across} → inner ≡ (borders_of road i s right k).inner → outer ≡ height_after road i s tangent right k → level ≡ level_up_to (side_lanes road i right) k
      → a ≡ across_by road s (own_heights road i s tangent right k) (borders_from (lane_of road i right k) (sign_of right) inner (s ⊖ (section_of road i).start)) outer (sign_of right) tangent level
      → a ≡ across_at road i s tangent right k
  unfolding across_at heights_at borders_at
  across-here e f g h = rw (h, g, f, e)

  -- where it ends
  pub border-after : {a : Across} → a ≡ across_at road i s tangent right k → a.outer_t ≡ (borders_of road i s right (k + 1)).inner
  unfolding across_at borders_at outer_after
  border-after e = rw (add-one, e)

  pub height_after_lem : {a : Across} → a ≡ across_at road i s tangent right k → a.outer_height ≡ height_after road i s tangent right (k + 1)
  unfolding across_at heights_at height_after
  height_after_lem e = rw (add-one, e)

pub height-first : (road : Road) (i : ℕ) (s tangent : Float) (right : Bool) {base sign h : Float} → base ≡ base_at road s → sign ≡ sign_of right → h ≡ height_toward road s base sign → h ≡ height_after road i s tangent right 0
unfolding height_after
height-first road i s tangent right e f g = rw (g, f, e)
