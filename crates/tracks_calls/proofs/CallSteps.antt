-- The ways out of a call on a track: row 13 fails, row 14 fails, or both pass; and what the lent list then holds.
use Prim.Native.Nat.{ℕ, ◌/◌, ◌≤◌, ◌<◌}
use mathlib.Core.Path.{◌≡◌, refl, sym, ap, ◌∙◌}
use mathlib.Core.Bool.{Bool, true, false, ◌&&◌}
use mathlib.Core.List.{List, [], ◌∷◌}
use lib.Dec.{leb}
use borrow.Author.Tests.{le-leb, lt-leb}
use lib.ListN.{length}
use lib.Ieee.{Float}
use Rattle.std.specs.declared.option.Option.{Option}
use Rattle.std.specs.declared.option.Option.TheVariants.{Some}
use Rattle.std.specs.declared.result.Result.{Result}
use Rattle.std.specs.declared.result.Result.TheVariants.{Ok, Err}
use Rattle.std.specs.Option.{ok_or}
use Rattle.float_laws.proofs.Nearest.{apart}
use Rattle.refusals.specs.Answer.{Answer, value, refused, answered, row, checked}
use Rattle.refusals.specs.Refusal.{number_of}
use Rattle.refusals.specs.declared.refusals.Refusal.{Refusal}
use Rattle.refusals.specs.declared.refusals.Refusal.TheVariants.{TrackCount, TrackRange}
use Rattle.records.specs.declared.points.Point.{Point}
use Rattle.coordinates.specs.Points.{point_at}
use Rattle.tracks.specs.declared.poses.TrackPose.{TrackPose}
use Rattle.tracks.specs.declared.projections.Projection.{Projection}
use Rattle.tracks.specs.Tangents.{tangents_listed, tangents_left}
use Rattle.tracks.specs.Poses.{track_pose_of}
use Rattle.tracks.specs.Projections.{project_of}
use Rattle.tracks_calls.specs.TrackCalls.{track_counted, all_inside, point_inside, track_call, tangents_call, tangents_after, tangents_list, track_pose_call, project_call}

-- ---- a track is refused by one of the rows, or passes both

pub data Refused (a b : Bool) (n : ℕ) : Type 0 where
  by_count : n ≡ 13 → a ≡ false → Refused a b n
  by_range : n ≡ 14 → a ≡ true → b ≡ false → Refused a b n

pass : {A : Type 0} (v : Answer A) (a b : Bool) → a ≡ true → b ≡ true → v ≡ checked (row TrackCount a ∷ row TrackRange b ∷ []) v
pass v a b e f = rw (e, f)

module _ (xs : List Float) where
  abbrev pub counted : Bool
  counted = track_counted (length xs)

  abbrev number : Answer (List Float) → ℕ
  number (value ys) = 0
  number (refused n) = n

  abbrev is_value : Answer (List Float) → Bool
  is_value (value ys) = true
  is_value (refused n) = false

  abbrev numbers : List Float → Answer (List Float) → List Float
  numbers xs (value ys) = ys
  numbers xs (refused n) = xs

  module _ {r : Result (List Float) Refusal} (h : answered r ≡ track_call xs) where
    pub why : {e : Refusal} → r ≡ Err e → Refused counted (all_inside xs) (number_of e)
    unfolding track_call
    why {e} k = go counted (all_inside xs) refl refl (rw k at h)
      where
        go : (a b : Bool) → counted ≡ a → all_inside xs ≡ b → refused (number_of e) ≡ track_call xs → Refused counted (all_inside xs) (number_of e)
        go false b f g i = by_count (ap number (rw f at i)) f
        go true false f g i = by_range (ap number (rw (f, g) at i)) f g
        go true true f g i = absurd (apart (sym (ap is_value (rw (f, g) at i))))

    pub passed : {ys : List Float} → r ≡ Ok ys → (ys ≡ xs) × (counted ≡ true) × (all_inside xs ≡ true)
    unfolding track_call
    passed {ys} k = go counted (all_inside xs) refl refl (rw k at h)
      where
        go : (a b : Bool) → counted ≡ a → all_inside xs ≡ b → value ys ≡ track_call xs → (ys ≡ xs) × (counted ≡ true) × (all_inside xs ≡ true)
        go false b f g i = absurd (apart (ap is_value (rw f at i)))
        go true false f g i = absurd (apart (ap is_value (rw (f, g) at i)))
        go true true f g i = (ap (numbers xs) (rw (f, g) at i), f, g)

    -- ---- pose

    module _ (s : Float) where
      pub pose_refused : {e : Refusal} → r ≡ Err e → refused (number_of e) ≡ track_pose_call xs s
      unfolding track_pose_call
      pose_refused k = go (why k)
        where
          go : {n : ℕ} → Refused counted (all_inside xs) n → refused n ≡ track_pose_call xs s
          go (by_count e f) = rw (e, f)
          go (by_range e f g) = rw (e, f, g)

      pub pose_passed : {ys : List Float} {v : TrackPose} → r ≡ Ok ys → v ≡ track_pose_of (point_at ys) (length ys / 3) s → value v ≡ track_pose_call xs s
      unfolding track_pose_call
      pose_passed k e =
          let ok = passed k in
          let pose = λ (zs : List Float). track_pose_of (point_at zs) (length zs / 3) s in
          ap value (e ∙ ap pose ok.0) ∙ pass (value (pose xs)) counted (all_inside xs) ok.1 ok.2

    -- ---- projection

    module _ (at : Point) where
      pub project_refused : {e : Refusal} → r ≡ Err e → refused (number_of e) ≡ project_call xs at
      unfolding project_call
      project_refused k = go (why k)
        where
          go : {n : ℕ} → Refused counted (all_inside xs) n → refused n ≡ project_call xs at
          go (by_count e f) = rw (e, f)
          go (by_range e f g) = rw (e, f, g)

      pub project_outside : {ys : List Float} → r ≡ Ok ys → point_inside at ≡ false → refused 14 ≡ project_call xs at
      unfolding project_call
      project_outside k e = let ok = passed k in rw (ok.1, ok.2, e)

      pub project_passed : {ys : List Float} {v : Projection} → r ≡ Ok ys → point_inside at ≡ true → v ≡ project_of (point_at ys) (length ys / 3) at → value v ≡ project_call xs at
      unfolding project_call
      project_passed k e f =
          let ok = passed k in
          let found = λ (zs : List Float). project_of (point_at zs) (length zs / 3) at in
          ap value (f ∙ ap found ok.0) ∙ pass (value (found xs)) counted (all_inside xs && point_inside at) ok.1 (rw ok.2 e)

    -- ---- tangents

    module _ (len : ℕ) (room : leb (length xs / 3) (len / 3) ≡ true) where
      pub tangents_refused : {e : Refusal} → r ≡ Err e → refused (number_of e) ≡ tangents_call xs len
      unfolding tangents_call
      tangents_refused k = go (why k)
        where
          go : {n : ℕ} → Refused counted (all_inside xs) n → refused n ≡ tangents_call xs len
          go (by_count e f) = rw (e, f)
          go (by_range e f g) = rw (e, f, room, g)

      pub tangents_passed : {ys : List Float} → r ≡ Ok ys → value (length xs / 3) ≡ tangents_call xs len
      unfolding tangents_call
      tangents_passed k = let ok = passed k in rw (ok.1, ok.2, room)

  pub no_room : (len : ℕ) → len / 3 < length xs / 3 → refused 13 ≡ tangents_call xs len
  unfolding tangents_call
  no_room len l = let e : counted && leb (length xs / 3) (len / 3) ≡ false = go counted (lt-leb (length xs / 3) (len / 3) l) in rw e
    where
      go : (a : Bool) {b : Bool} → b ≡ false → a && b ≡ false
      go true e = e
      go false e = refl

pub room : (n len : ℕ) → n ≤ len / 3 → leb n (len / 3) ≡ true
room n len l = le-leb n (len / 3) l

-- ---- the list of tangents

pub counted_new : (xs : List Float) {ys : List Float} {n : ℕ} → ys ≡ xs → n ≡ length ys / 3 → n ≡ length xs / 3
counted_new xs e f = rw (f, e)

-- an answer that is there is the call's
pub answered_by : {o : Option ℕ} (e : Refusal) {r : Result ℕ Refusal} {n : ℕ} → r ≡ ok_or o e → o ≡ Some n → answered r ≡ value n
answered_by e f g = rw (f, g)

-- a list with room is written, and the answer is how many points it has
pub listed : (xs list : List Float) {ys : List Float} {o : Option ℕ} → ys ≡ xs → leb (length xs / 3) (length list / 3) ≡ true → o ≡ tangents_listed (length ys / 3) (length list / 3) → o ≡ Some (length xs / 3)
listed xs list e l f = rw (f, e, l)

pub list_written : (xs list : List Float) {ys zs : List Float} {o : Option ℕ} → ys ≡ xs → o ≡ Some (length xs / 3) → zs ≡ tangents_left o (point_at ys) (length ys / 3) list → zs ≡ tangents_left (Some (length xs / 3)) (point_at xs) (length xs / 3) list
list_written xs list e f h = rw (h, f, e)

pub list_by : (xs list : List Float) {ys : List Float} {a : Answer ℕ} → a ≡ tangents_call xs (length list) → ys ≡ tangents_after a xs list → ys ≡ tangents_list xs list
unfolding tangents_list
list_by xs list e f = f ∙ ap (λ (a : Answer ℕ). tangents_after a xs list) e
