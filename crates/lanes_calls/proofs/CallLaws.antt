-- How the two calls go on after the road's rows: each way out is the tests on its way.
use Prim.Native.Nat.{ℕ, ◌/◌}
use mathlib.Core.Path.{◌≡◌, refl, sym, ◌∙◌, ap}
use mathlib.Core.Bool.{Bool, true, false, cond}
use mathlib.Core.List.{List, []}
use lib.Dec.{leb}
use lib.Ieee.{Float}
use lib.IntN.{ℤ}
use lib.ListN.{length}
use Rattle.std.specs.Prelude.{ok_or}
use Rattle.std.specs.declared.option.Option.{Option}
use Rattle.std.specs.declared.option.Option.TheVariants.{Some, None}
use Rattle.std.specs.declared.result.Result.{Result}
use Rattle.refusals.specs.declared.refusals.Refusal.{Refusal}
use Rattle.refusals.specs.declared.refusals.Refusal.TheVariants.{BorderSpace}
use Rattle.refusals.specs.Answer.{Answer, value, refused, checked, answered}
use Rattle.records.specs.Roads.{Road, road_of, section_index}
use Rattle.admission.specs.Limits.{on_road}
use Rattle.admission_arguments.specs.Arguments.{across_road}
use Rattle.admission.specs.Admission.{road_rows}
use Rattle.admission_calls.proofs.RowLaws.{first-refused, first-passed}
use Rattle.lanes_borders.specs.Borders.{lanes_of}
use Rattle.lanes_border_list.specs.BorderList.{listed_by}
use Rattle.lanes_naming.specs.Naming.{lane_named}
use Rattle.lanes_calls.specs.LaneCalls.{lanes_at, list_rows, borders_call, borders_written, borders_list, name_rows, name_at, lane_named_call}

module _ (words : List ℕ) (numbers : List Float) where
  abbrev lent : Road
  lent = road_of words numbers

  pub admitted-road : {road : Road} → value road ≡ checked (road_rows words numbers) (value lent) → road ≡ lent
  admitted-road e = (first-passed (road_rows words numbers) [] lent (value lent) e).0

  on-lent : (s : Float) {road : Road} → road ≡ lent → {a : Bool} → a ≡ on_road road s → on_road lent s ≡ a
  on-lent s r e = sym (e ∙ ap (λ (x : Road). on_road x s) r)

  -- ---- the borders

  -- by what was read of the admitted road
  module _ (s : Float) (len : ℕ) {road : Road} (r : road ≡ lent) {a : Bool} (e : a ≡ on_road road s) where
    pub list-off : a ≡ false → refused 7 ≡ checked (list_rows words numbers s len) (value (lanes_at words numbers s))
    list-off h = rw (on-lent s r e, h)

    pub list-asked :
        a ≡ true → {i : ℕ} → i ≡ section_index road s → {x : Option ℕ} {y : Result ℕ Refusal} → x ≡ cond (leb (lanes_of road i) (len / 3)) (Some (lanes_of road i)) None → y ≡ ok_or x BorderSpace
        → answered y ≡ checked (list_rows words numbers s len) (value (lanes_at words numbers s))
    list-asked h g k m = rw (on-lent s r e, h, m, k, g, r) (by_room (leb (lanes_at words numbers s) (len / 3)))
      where
        by_room : (b : Bool) → answered (ok_or (cond b (Some (lanes_at words numbers s)) None) BorderSpace) ≡ cond b (value (lanes_at words numbers s)) (refused 11)
        by_room true = refl
        by_room false = refl

  -- the list as `list_borders` leaves it
  pub list-left :
      (s : Float) (xs : List Float) {road : Road} {i : ℕ} {ys : List Float} {x : Option ℕ} {y : Result ℕ Refusal} → road ≡ lent → i ≡ section_index road s
      → ys ≡ listed_by (leb (lanes_of road i) (length xs / 3)) road i s xs → x ≡ cond (leb (lanes_of road i) (length xs / 3)) (Some (lanes_of road i)) None → y ≡ ok_or x BorderSpace
      → ys ≡ borders_written words numbers (answered y) s xs
  list-left s xs {road} {i} r g f k m = f ∙ rw (m, k) (by_room (leb (lanes_of road i) (length xs / 3)))
    where
      by_room : (b : Bool) → listed_by b road i s xs ≡ borders_written words numbers (answered (ok_or (cond b (Some (lanes_of road i)) None) BorderSpace)) s xs
      by_room true = rw (g, r)
      by_room false = refl

  -- the road is refused, or its own rows decide
  pub borders-refused : (s : Float) (len : ℕ) {n : ℕ} → refused n ≡ checked (road_rows words numbers) (value lent) → refused n ≡ borders_call words numbers s len
  unfolding borders_call
  borders-refused s len e = first-refused (road_rows words numbers) (list_rows words numbers s len) lent (value (lanes_at words numbers s)) e

  pub borders-admitted : (s : Float) (len : ℕ) {road : Road} {a : Answer ℕ} → value road ≡ checked (road_rows words numbers) (value lent)
      → (road ≡ lent → a ≡ checked (list_rows words numbers s len) (value (lanes_at words numbers s))) → a ≡ borders_call words numbers s len
  unfolding borders_call
  borders-admitted s len e f =
      let p = first-passed (road_rows words numbers) (list_rows words numbers s len) lent (value (lanes_at words numbers s)) e in
      f p.0 ∙ sym p.1

  -- the list by the answer
  pub list-by : (s : Float) (xs : List Float) {ys : List Float} {a : Answer ℕ} → a ≡ borders_call words numbers s (length xs) → ys ≡ borders_written words numbers a s xs → ys ≡ borders_list words numbers s xs
  unfolding borders_list
  list-by s xs e f = f ∙ ap (λ (a : Answer ℕ). borders_written words numbers a s xs) e

  -- a refusal changes nothing
  pub borders-unchanged : (s : Float) (xs : List Float) (n : ℕ) → borders_call words numbers s (length xs) ≡ refused n → borders_list words numbers s xs ≡ xs
  borders-unchanged s xs n e = sym (list-by s xs (sym e) refl)

  -- ---- the name

  module _ (s t : Float) {road : Road} (r : road ≡ lent) {a : Bool} (e : a ≡ on_road road s) where
    pub name-off : a ≡ false → refused 7 ≡ checked (name_rows words numbers s t) (value (name_at words numbers s t))
    name-off h = rw (on-lent s r e, h)

    module _ (h : a ≡ true) {b : Bool} (f : b ≡ across_road t) where
      pub name-beyond : b ≡ false → refused 8 ≡ checked (name_rows words numbers s t) (value (name_at words numbers s t))
      name-beyond k = rw (on-lent s r e, h, sym f ∙ k)

      pub name-found : b ≡ true → {i : ℕ} → i ≡ section_index road s → {m : Option ℤ} → m ≡ lane_named road i s t → value m ≡ checked (name_rows words numbers s t) (value (name_at words numbers s t))
      name-found k g l = rw (on-lent s r e, h, sym f ∙ k, l, g, r)

  pub named-refused : (s t : Float) {n : ℕ} → refused n ≡ checked (road_rows words numbers) (value lent) → refused n ≡ lane_named_call words numbers s t
  unfolding lane_named_call
  named-refused s t e = first-refused (road_rows words numbers) (name_rows words numbers s t) lent (value (name_at words numbers s t)) e

  pub named-admitted : (s t : Float) {road : Road} {a : Answer (Option ℤ)} → value road ≡ checked (road_rows words numbers) (value lent)
      → (road ≡ lent → a ≡ checked (name_rows words numbers s t) (value (name_at words numbers s t))) → a ≡ lane_named_call words numbers s t
  unfolding lane_named_call
  named-admitted s t e f =
      let p = first-passed (road_rows words numbers) (name_rows words numbers s t) lent (value (name_at words numbers s t)) e in
      f p.0 ∙ sym p.1
