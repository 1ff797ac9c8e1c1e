-- The steps of a side's borders as the code takes them: the running outer border, and a side's numbers written into a list.
use mathlib.Core.Path.{◌≡◌, refl, sym, ap, ◌∙◌}
use mathlib.Core.Bool.{Bool, true, false}
use mathlib.Core.List.{List, [], ◌∷◌, ◌++◌, append-nil, append_assoc}
use mathlib.Core.Logic.{⊎_elim}
use Prim.Native.Nat.{ℕ, zero, suc, ◌+◌, ◌-◌, ◌*◌, ◌<◌}
use native.Mathlib.Nat.{eq-or-lt_of_le, le_of_suc-le-suc}
use native.Mathlib.Omega.{arith}
use native.Mathlib.Numerals.{add-one}
use lib.ListN.{length, get_or, take, drop, length-append, drop_of_length-le, get_or-append}
use lib.Seq.{get_or-append-add, take_at, drop_at, drop-drop}
use lib.Ieee.{Float}
use Rattle.float_laws.specs.Binary64.{◌⊖◌}
use Rattle.records.specs.Roads.{Road, Lane, no_lane, section_of}
use Rattle.lanes_borders.specs.declared.borders.LaneBorders.{LaneBorders}
use Rattle.lanes.specs.Sides.{sign_of}
use Rattle.lanes_borders.specs.Borders.{outer_after, borders_from, borders_at, base_at, side_lanes, lanes_of, borders_of, side_list, border_list}

-- ---- the running outer border

module _ (lanes : List Lane) (sign base s : Float) where
  pub outer-none : base ≡ outer_after lanes sign base s 0
  unfolding outer_after
  outer-none = refl

  pub outer-turn : (k : ℕ) {t : Float} {b : LaneBorders} → t ≡ outer_after lanes sign base s k → b ≡ borders_from (get_or lanes k no_lane) sign t s → b.outer ≡ outer_after lanes sign base s (k + 1)
  unfolding outer_after
  outer-turn k e f = rw (add-one, f, e)

  pub borders-turn : (k : ℕ) {t : Float} {b : LaneBorders} → t ≡ outer_after lanes sign base s k → b ≡ borders_from (get_or lanes k no_lane) sign t s → b ≡ borders_at lanes sign base s k
  unfolding borders_at
  borders-turn k e f = rw (f, e)

-- ---- a side written into a list: its numbers, and the old list from there on

abbrev pub three : LaneBorders → List Float
three b = b.inner ∷ b.outer ∷ b.width ∷ []

pub side-length : (b : ℕ → LaneBorders) (n : ℕ) → length (side_list b n) ≡ n * 3
unfolding side_list
side-length b zero = refl
side-length b (suc n) = length-append (side_list b n) ((b n).inner ∷ (b n).outer ∷ (b n).width ∷ []) ∙ (let e = side-length b n in omega arith)

side-suc : (b : ℕ → LaneBorders) (k : ℕ) → side_list b (k + 1) ≡ side_list b k ++ ((b k).inner ∷ (b k).outer ∷ (b k).width ∷ [])
unfolding side_list
side-suc b k = rw add-one

module _ (b : ℕ → LaneBorders) (old : List Float) where
  pub side-none : old ≡ side_list b 0 ++ drop (0 * 3) old
  unfolding side_list
  side-none = refl

  -- one lane more: the three numbers of its part of the list
  pub side-turn :
      (list : List Float) (k : ℕ) {x : LaneBorders} {ys : List Float} → x ≡ b k → ys ≡ three x → list ≡ side_list b k ++ drop (k * 3) old
      → take (k * 3) list ++ (ys ++ drop (k * 3 + 3 - k * 3) (drop (k * 3) list)) ≡ side_list b (k + 1) ++ drop ((k + 1) * 3) old
  side-turn list k e g f =
      let i = k * 3 in
      let p = side_list b k in
      let n : i + (i + 3 - i) ≡ (k + 1) * 3 = omega arith in
      let l = side-length b k in
      rw (f, take_at p (drop i old) i l, drop_at p (drop i old) i l, g, e, drop-drop (i + 3 - i) i old, n, side-suc b k) (sym (append_assoc p (three (b k)) (drop ((k + 1) * 3) old)))

  pub side-all : (list : List Float) (k : ℕ) → length old ≡ k * 3 → list ≡ side_list b k ++ drop (k * 3) old → list ≡ side_list b k
  side-all list k e f = f ∙ ap (λ (r : List Float). side_list b k ++ r) (drop_of_length-le old (omega arith)) ∙ append-nil (side_list b k)

-- ---- what stands where in a written list: number j of lane k at the place k * 3 + j, the right lanes after the left ones

pub side-at : (b : ℕ → LaneBorders) (n k j : ℕ) (d : Float) → k < n → j < 3 → get_or (side_list b n) (k * 3 + j) d ≡ get_or (three (b k)) j d
side-at b zero k j d h l = absurd (omega arith)
side-at b (suc n) k j d h l =
    let e = side-length b n in
    ap (λ (xs : List Float). get_or xs (k * 3 + j) d) (side-last b n) ∙ ⊎_elim
    (λ (s : k ≡ n).
    ap (λ (m : ℕ). get_or (side_list b n ++ three (b n)) m d) (let g : k * 3 + j ≡ length (side_list b n) + j = omega arith in g)
    ∙ get_or-append-add (side_list b n) (three (b n)) j d
    ∙ ap (λ (i : ℕ). get_or (three (b i)) j d) (sym s))
    (λ (s : k < n). get_or-append (side_list b n) (three (b n)) d (k * 3 + j) (omega arith) ∙ side-at b n k j d s l)
    (eq-or-lt_of_le (le_of_suc-le-suc h))
  where
    side-last : (b : ℕ → LaneBorders) (n : ℕ) → side_list b (suc n) ≡ side_list b n ++ three (b n)
    side-last b n = unfold side_list in refl

module _ (road : Road) (i : ℕ) (s : Float) (k j : ℕ) (d : Float) where
  pub left-written : k < length (side_lanes road i false) → j < 3 → get_or (border_list road i s) (k * 3 + j) d ≡ get_or (three (borders_of road i s false k)) j d
  unfolding border_list
  left-written h l =
      let n = length (side_lanes road i false) in
      let b = borders_of road i s false in
      let e = side-length b n in
      get_or-append (side_list b n) (side_list (borders_of road i s true) (length (side_lanes road i true))) d (k * 3 + j) (omega arith) ∙ side-at b n k j d h l

  pub right-written :
      k < length (side_lanes road i true) → j < 3
      → get_or (border_list road i s) ((length (side_lanes road i false) + k) * 3 + j) d ≡ get_or (three (borders_of road i s true k)) j d
  unfolding border_list
  right-written h l =
      let n = length (side_lanes road i false) in
      let b = borders_of road i s false in
      let c = borders_of road i s true in
      let r = length (side_lanes road i true) in
      let e = side-length b n in
      ap (λ (m : ℕ). get_or (side_list b n ++ side_list c r) m d) (let g : (n + k) * 3 + j ≡ length (side_list b n) + (k * 3 + j) = omega arith in g)
      ∙ get_or-append-add (side_list b n) (side_list c r) (k * 3 + j) d
      ∙ side-at c r k j d h l

pub list_length : (road : Road) (i : ℕ) (s : Float) → length (border_list road i s) ≡ (length (side_lanes road i false) + length (side_lanes road i true)) * 3
unfolding border_list
list_length road i s =
    let n = length (side_lanes road i false) in
    let r = length (side_lanes road i true) in
    let e = side-length (borders_of road i s false) n in
    let f = side-length (borders_of road i s true) r in
    length-append (side_list (borders_of road i s false) n) (side_list (borders_of road i s true) r) ∙ (omega arith)

-- the two sides written, and the rest of the old list
pub borders_written_lem :
    (road : Road) (i : ℕ) (s : Float) (old : List Float) {l₁ l₂ rest : List Float} {start base : Float} {n : ℕ} → start ≡ (section_of road i).start → base ≡ base_at road s
    → n ≡ lanes_of road i
    → l₁ ≡ side_list (borders_at (side_lanes road i false) (sign_of false) base (s ⊖ start)) (length (side_lanes road i false))
    → l₂ ≡ side_list (borders_at (side_lanes road i true) (sign_of true) base (s ⊖ start)) (length (side_lanes road i true))
    → rest ≡ drop (n * 3) old → (l₁ ++ l₂) ++ rest ≡ border_list road i s ++ drop (length (border_list road i s)) old
borders_written_lem road i s old {l₁} {l₂} {rest} {start} {base} {n} p q a e f h =
    let g : l₁ ++ l₂ ≡ border_list road i s = unfold border_list in rw (e, f, p, q) in
    let k = list_length road i s in
    let j : n * 3 ≡ length (border_list road i s) = omega arith in
    ap (λ (r : List Float). r ++ rest) g ∙ ap (λ (r : List Float). border_list road i s ++ r) (h ∙ ap (λ (x : ℕ). drop x old) j)

-- the first lane's inner border is the base
pub inner_first : (road : Road) (i : ℕ) (s : Float) (right : Bool) {base : Float} → base ≡ base_at road s → base ≡ (borders_of road i s right 0).inner
unfolding borders_at outer_after
inner_first road i s right e = e
