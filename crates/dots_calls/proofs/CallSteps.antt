-- The ways out of the call: the line is no track, the dots do not fit, or they are listed; and what the lent list then holds.
use Prim.Native.Nat.{ℕ, ◌*◌, ◌≤◌}
use mathlib.Core.Path.{◌≡◌, refl, sym, ap, ◌∙◌}
use mathlib.Core.Bool.{Bool, true, false, cond, ◌&&◌}
use mathlib.Core.List.{List, [], ◌∷◌, ◌++◌}
use lib.IntN.{ℤ}
use lib.ListN.{length, take, drop}
use lib.Seq.{take_at}
use lib.Ieee.{Float}
use borrow.Author.Tests.{leb-true}
use Rattle.std.specs.Option.{ok_or}
use Rattle.std.specs.Result.{is_ok}
use Rattle.float_laws.proofs.Nearest.{apart}
use Rattle.std.specs.declared.option.Option.{Option}
use Rattle.std.specs.declared.option.Option.TheVariants.{Some, None}
use Rattle.std.specs.declared.result.Result.{Result}
use Rattle.std.specs.declared.result.Result.TheVariants.{Ok, Err}
use Rattle.std.proofs.lemmas.Bool.{and_parts}
use Rattle.refusals.specs.Answer.{Answer, value, refused, answered, Row, checked}
use Rattle.refusals.specs.LentLists.{list_left}
use Rattle.refusals.specs.Refusal.{number_of}
use Rattle.refusals.specs.declared.refusals.Refusal.{Refusal}
use Rattle.refusals.specs.declared.refusals.Refusal.TheVariants.{Lane, DotSpace}
use Rattle.records.specs.declared.points.LanePlace.{LanePlace}
use Rattle.records.specs.Roads.{Road, road_of}
use Rattle.admission.specs.Admission.{pass}
use Rattle.admission_calls.proofs.RowLaws.{rows-refused, rows-passed}
use Rattle.surface_calls.specs.SurfaceCalls.{place_of_id, lane_there}
use Rattle.coordinates.specs.Points.{point_at}
use Rattle.tracks_calls.specs.TrackCalls.{all_inside, track_rows, track_call}
use Rattle.tracks_calls.proofs.CallSteps.{Refused, by_count, by_range, counted, why, passed}
use Rattle.dots.specs.Along.{nth_station}
use Rattle.dots.specs.Dots.{dots_on, dots_fit}
use Rattle.dots_calls.specs.DotsCall.{stations_listed, line_of, lane_rank, line_ok, dots_of, line_rows, dot_rows, dots_by, dots_left, lane_asked, first_rows, dots_call, dots_written, dots_list}
use Rattle.dots_calls.proofs.LineSteps.{line-length}

-- ---- a track, by its rows

module _ (xs : List Float) {r : Result (List Float) Refusal} (h : answered r ≡ track_call xs) where
  track-off : {e : Refusal} → r ≡ Err e → pass (track_rows xs) ≡ false
  track-off k = go (why xs h k)
    where
      go : {n : ℕ} → Refused (counted xs) (all_inside xs) n → pass (track_rows xs) ≡ false
      go (by_count e f) = rw f
      go (by_range e f g) = rw (f, g)

  track_on : {ys : List Float} → r ≡ Ok ys → (ys ≡ xs) × (pass (track_rows xs) ≡ true)
  track_on k = let ok = passed xs h k in (ok.0, rw (ok.1, ok.2))

-- a list with few enough stations
pub listed_few : (road : Road) (i : ℕ) (stations : List Float) {b : Bool} → b ≡ stations_listed road i stations → b ≡ true → length stations ≤ 512
unfolding stations_listed
listed_few road i stations e f = leb-true (length stations) 512 (and_parts _ _ (and_parts _ _ (and_parts _ _ (and_parts _ _ (sym e ∙ f)).0).0).0).1

-- ---- along a line

module _ (road : Road) (samples : List Float) (spacing : Float) (stations : List Float) (place : LanePlace) (old : List Float) where
  abbrev line : List Float
  line = line_of road samples place stations

  abbrev dots : List Float
  dots = dots_of road samples spacing stations place

  abbrev rows : List Row
  rows = line_rows road samples spacing stations place (length old)

  -- what is answered, and what the list holds
  abbrev Done : Answer ℕ → List Float → Type 0
  Done a list = (a ≡ checked rows (value (length dots))) × (list ≡ list_left (pass rows) dots old)

  -- the slice that the line is in
  pub line-taken : (tail : List Float) {zs xs : List Float} → zs ≡ line ++ drop (length stations * 3) tail → xs ≡ take (length stations * 3) zs → xs ≡ line
  line-taken tail {zs} e f = f ∙ ap (take (length stations * 3)) e ∙ take_at line (drop (length stations * 3) tail) (length stations * 3) (line-length road samples place (nth_station stations) (length stations))

  pub no_track : {xs : List Float} {r : Result (List Float) Refusal} {e : Refusal} → xs ≡ line → answered r ≡ track_call xs → r ≡ Err e → Done (refused 16) old
  no_track {xs} g h k = let off = ap (λ (zs : List Float). pass (track_rows zs)) (sym g) ∙ track-off xs h k in (rw off, rw off)

  pub on_track :
      {xs ys zs : List Float} {r : Result (List Float) Refusal} {rank : ℕ} {o : Option ℕ} {res : Result ℕ Refusal} → xs ≡ line → answered r ≡ track_call xs → r ≡ Ok ys → rank ≡ lane_rank road place
      → o ≡ cond (dots_fit road place.section rank (point_at ys) (nth_station stations) (length stations) spacing (length old)) (Some (length (dots_on road place.section rank (point_at ys) (nth_station stations) (length stations) spacing))) None
      → zs ≡ list_left (dots_fit road place.section rank (point_at ys) (nth_station stations) (length stations) spacing (length old)) (dots_on road place.section rank (point_at ys) (nth_station stations) (length stations) spacing) old
      → res ≡ ok_or o DotSpace → Done (answered res) zs
  on_track {xs} {ys} {zs} {r} {rank} {o} {res} g h k hr ho hz hres =
      let t = track_on xs h k in
      let same : ys ≡ line = t.0 ∙ g in
      let ok : line_ok road samples spacing stations place ≡ true = ap (λ (ws : List Float). pass (track_rows ws)) (sym g) ∙ t.1 in
      rw (hres, ho, hz, hr, same, ok) (by_room (dots_fit road place.section (lane_rank road place) (point_at line) (nth_station stations) (length stations) spacing (length old)))
    where
      by_room : (b : Bool) → (answered (ok_or (cond b (Some (length dots)) None) DotSpace) ≡ cond b (value (length dots)) (refused 17)) × (list_left b dots old ≡ list_left (b && true) dots old)
      by_room true = (refl, refl)
      by_room false = (refl, refl)

-- ---- the call

-- a list is changed where all rows pass, which is where there is a value
by-pass : (rs : List Row) (n : ℕ) (f : Answer ℕ → List Float) {ys xs : List Float} → f (value n) ≡ ys → ((m : ℕ) → f (refused m) ≡ xs) → cond (pass rs) ys xs ≡ f (checked rs (value n))
by-pass [] n f e g = sym e
by-pass (r ∷ rs) n f {ys} {xs} e g = go r.passes (by-pass rs n f e g)
  where
    go : (b : Bool) → cond (pass rs) ys xs ≡ f (checked rs (value n)) → cond (b && pass rs) ys xs ≡ f (cond b (checked rs (value n)) (refused (number_of r.refusal)))
    go true h = h
    go false h = sym (g (number_of r.refusal))

by_bool : (b : Bool) (xs old : List Float) → list_left b xs old ≡ cond b (list_left true xs old) old
by_bool true xs old = refl
by_bool false xs old = refl

-- an option that is asked for
none-of : {A : Type 0} (o : Option A) (why : Refusal) {e : Refusal} {r : Result A Refusal} → r ≡ ok_or o why → r ≡ Err e → (o ≡ None) × (e ≡ why)
none-of None reason {e} g k = (refl, ap or-it (sym k ∙ g))
  where
    or-it : {A : Type 0} → Result A Refusal → Refusal
    or-it (Ok a) = e
    or-it (Err d) = d
none-of (Some a) reason g k = absurd (apart (ap is_ok (sym g ∙ k)))

some-of : {A : Type 0} (o : Option A) (why : Refusal) {a : A} {r : Result A Refusal} → r ≡ ok_or o why → r ≡ Ok a → o ≡ Some a
some-of None reason g k = absurd (apart (ap is_ok (sym k ∙ g)))
some-of {A} (Some b) reason {a} g k = ap or-it (sym g ∙ k)
  where
    or-it : Result A Refusal → Option A
    or-it (Ok c) = Some c
    or-it (Err e) = Some b

module _ (words : List ℕ) (numbers samples : List Float) (i : ℕ) (lane : ℤ) (spacing : Float) (stations old : List Float) where
  abbrev road : Road
  road = road_of words numbers

  abbrev place : Option LanePlace
  place = lane_asked words numbers samples i lane spacing stations

  abbrev Called : Answer ℕ → List Float → Type 0
  Called a list = (a ≡ dots_call words numbers samples i lane spacing stations (length old)) × (list ≡ dots_list words numbers samples i lane spacing stations old)

  -- the list by the answer
  list-by : {a : Answer ℕ} {list : List Float} → a ≡ dots_call words numbers samples i lane spacing stations (length old) → list ≡ dots_written words numbers samples i lane spacing stations a old → list ≡ dots_list words numbers samples i lane spacing stations old
  unfolding dots_list
  list-by e f = f ∙ ap (λ (a : Answer ℕ). dots_written words numbers samples i lane spacing stations a old) e

  refused-call : {A : Type 0} (x : A) {n : ℕ} → refused n ≡ checked (first_rows words numbers samples i lane spacing stations) (value x) → refused n ≡ dots_call words numbers samples i lane spacing stations (length old)
  unfolding dots_call
  refused-call x e = rows-refused (first_rows words numbers samples i lane spacing stations) x (dots_by road samples spacing stations place (length old)) e

  pub call-refused : {A : Type 0} (x : A) {n : ℕ} → refused n ≡ checked (first_rows words numbers samples i lane spacing stations) (value x) → Called (refused n) old
  call-refused x e = let a = refused-call x e in (a, list-by a refl)

  -- where the road and its samples pass, the lane decides
  called : {A : Type 0} (x : A) {y : A} {a : Answer ℕ} → value y ≡ checked (first_rows words numbers samples i lane spacing stations) (value x) → a ≡ dots_by road samples spacing stations place (length old)
      → a ≡ dots_call words numbers samples i lane spacing stations (length old)
  unfolding dots_call
  called x e f = f ∙ sym (rows-passed (first_rows words numbers samples i lane spacing stations) x (dots_by road samples spacing stations place (length old)) e).1

  pub entered : {A : Type 0} (x : A) {y : A} → value y ≡ checked (first_rows words numbers samples i lane spacing stations) (value x) → y ≡ x
  entered x e = (rows-passed (first_rows words numbers samples i lane spacing stations) x (value x) e).0

  -- the lane that was asked of the road that was entered
  module _ {A : Type 0} (x : A) {y : A} (e : value y ≡ checked (first_rows words numbers samples i lane spacing stations) (value x)) {rd : Road} (r : rd ≡ road) {o : Option LanePlace} (f : o ≡ lane_there rd (place_of_id i lane)) {res : Result LanePlace Refusal}
      (g : res ≡ ok_or o Lane) where
    asked : o ≡ place
    asked = f ∙ ap (λ (d : Road). lane_there d (place_of_id i lane)) r

    pub no-lane : {why : Refusal} → res ≡ Err why → Called (refused (number_of why)) old
    no-lane {why} k =
        let n = none-of o Lane g k in
        let there : place ≡ None = sym asked ∙ n.0 in
        let a = called x e (ap (λ (d : Refusal). refused (number_of d)) n.1 ∙ rw there refl) in
        (a, list-by a refl)

    pub of-lane :
        {p : LanePlace} {sm : List Float} {a : Answer ℕ} {list : List Float} → res ≡ Ok p → sm ≡ samples
        → a ≡ checked (dot_rows rd sm spacing stations p (length old)) (value (length (dots_of rd sm spacing stations p)))
        → list ≡ list_left (pass (dot_rows rd sm spacing stations p (length old))) (dots_of rd sm spacing stations p) old → Called a list
    of-lane {p} {sm} {a} {list} k m ha hl =
        let there : place ≡ Some p = sym asked ∙ some-of o Lane g k in
        let rs = dot_rows road samples spacing stations p (length old) in
        let n = length (dots_of road samples spacing stations p) in
        let b : a ≡ checked rs (value n) = rw (ha, r, m) in
        let c = called x e (b ∙ rw there refl) in
        let left = λ (b : Answer ℕ). dots_written words numbers samples i lane spacing stations b old in
        let l : list ≡ list_left (pass rs) (dots_of road samples spacing stations p) old = rw (hl, r, m) in
        (c, list-by c (l ∙ by_bool (pass rs) (dots_of road samples spacing stations p) old ∙ by-pass rs n left (ap (λ (q : Option LanePlace). dots_left road samples spacing stations q old) there) (λ k. refl) ∙ ap left (sym b)))
