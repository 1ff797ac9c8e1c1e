-- The tangents' numbers written into a list.
use Prim.Native.Nat.{ℕ, zero, suc, ◌+◌, ◌*◌, ◌≤◌, ◌<◌}
use native.Mathlib.Omega.{arith}
use native.Mathlib.Numerals.{add-one}
use mathlib.Core.Path.{◌≡◌, refl, ◌∙◌}
use mathlib.Core.List.{List, [], ◌∷◌, ◌++◌}
use borrow.Author.Tests.{lt-ltb}
use lib.ListN.{length, drop, set, length-append}
use lib.Ieee.{Float}
use Rattle.records.specs.declared.points.Point.{Point}
use Rattle.coordinates.specs.declared.vectors.Vector.{Vector}
use Rattle.coordinates.specs.Vectors.{sum_of, unit_of}
use Rattle.tracks.proofs.StoreLaws.{three-stores}
use Rattle.tracks.specs.Tangents.{incoming_of, outgoing_of, tangent_of, tangent_numbers}

module _ (p : ℕ → Point) (n : ℕ) where
  -- the direction that leaves a point comes in at the next, where there is one
  pub incoming_kept : (k : ℕ) {d : Vector} → d ≡ outgoing_of p n k → k + 1 < n → d ≡ incoming_of p (k + 1)
  incoming_kept k h l = rw (h, lt-ltb (k + 1) n l, add-one k)

  pub tangent_made : (k : ℕ) {before after s t : Vector} → before ≡ incoming_of p k → after ≡ outgoing_of p n k → s ≡ sum_of before after → t ≡ unit_of s → t ≡ tangent_of p n k
  unfolding tangent_of
  tangent_made k hb ha hs h = rw (h, hs, hb, ha)

  pub written_none : (old : List Float) → old ≡ tangent_numbers p n 0 ++ drop (0 * 3) old
  unfolding tangent_numbers
  written_none old = refl

  pub numbers-length : (k : ℕ) → length (tangent_numbers p n k) ≡ k * 3
  unfolding tangent_numbers
  numbers-length zero = refl
  numbers-length (suc k) = length-append (tangent_numbers p n k) ((tangent_of p n k).x ∷ (tangent_of p n k).y ∷ (tangent_of p n k).z ∷ []) ∙ (let e = numbers-length k in omega arith)

  -- one point more: its three numbers stored
  pub written_next : (old list : List Float) (k : ℕ) {t : Vector} → t ≡ tangent_of p n k → k * 3 + 3 ≤ length old → list ≡ tangent_numbers p n k ++ drop (k * 3) old
      → set (set (set list (k * 3) t.x) (k * 3 + 1) t.y) (k * 3 + 2) t.z ≡ tangent_numbers p n (k + 1) ++ drop ((k + 1) * 3) old
  unfolding tangent_numbers
  written_next old list k e h f =
      let i : (k + 1) * 3 ≡ k * 3 + 3 = omega arith in
      let t = tangent_of p n k in
      rw (i, add-one k, f, e) (three-stores (tangent_numbers p n k) old (k * 3) t.x t.y t.z (numbers-length k) h)
