-- The list that `tangents` writes, by place: number i * 3 + j is component j of the tangent at point i (`numbers-at`, `listed_at`).
use Prim.Native.Nat.{ℕ, zero, suc, ◌+◌, ◌*◌, ◌<◌}
use native.Mathlib.Nat.{eq-or-lt_of_le, le_of_suc-le-suc}
use native.Mathlib.Omega.{arith}
use mathlib.Core.Path.{◌≡◌, refl, sym, ap, ◌∙◌}
use mathlib.Core.Logic.{⊎_elim}
use mathlib.Core.List.{List, [], ◌∷◌, ◌++◌}
use lib.ListN.{length, get_or, get_or-append}
use lib.Seq.{get_or-append-add}
use lib.Ieee.{Float, nan}
use Rattle.records.specs.declared.points.Point.{Point}
use Rattle.coordinates.specs.declared.vectors.Vector.{Vector}
use Rattle.tracks.specs.Tangents.{tangent_of, tangent_numbers}
use Rattle.tracks.proofs.TangentSteps.{numbers-length}

abbrev pub three : Vector → List Float
three v = v.x ∷ v.y ∷ v.z ∷ []

module _ (p : ℕ → Point) (n : ℕ) where
  last : (k : ℕ) → tangent_numbers p n (suc k) ≡ tangent_numbers p n k ++ three (tangent_of p n k)
  unfolding tangent_numbers
  last k = refl

  numbers-at : (k i j : ℕ) → i < k → j < 3 → get_or (tangent_numbers p n k) (i * 3 + j) nan ≡ get_or (three (tangent_of p n i)) j nan
  numbers-at zero i j h l = absurd (omega arith)
  numbers-at (suc k) i j h l =
      let e = numbers-length p n k in
      let before = tangent_numbers p n k in
      let own = three (tangent_of p n k) in
      ap (λ (xs : List Float). get_or xs (i * 3 + j) nan) (last k) ∙ ⊎_elim
      (λ (s : i ≡ k).
      ap (λ (m : ℕ). get_or (before ++ own) m nan) (let g : i * 3 + j ≡ length before + j = omega arith in g)
      ∙ get_or-append-add before own j nan
      ∙ ap (λ (m : ℕ). get_or (three (tangent_of p n m)) j nan) (sym s))
      (λ (s : i < k). get_or-append before own nan (i * 3 + j) (omega arith) ∙ numbers-at k i j s l)
      (eq-or-lt_of_le (le_of_suc-le-suc h))

  -- with the list's old rest behind them
  pub listed_at : (rest : List Float) (i j : ℕ) → i < n → j < 3 → get_or (tangent_numbers p n n ++ rest) (i * 3 + j) nan ≡ get_or (three (tangent_of p n i)) j nan
  listed_at rest i j h l =
      let e = numbers-length p n n in
      get_or-append (tangent_numbers p n n) rest nan (i * 3 + j) (omega arith) ∙ numbers-at n i j h l
