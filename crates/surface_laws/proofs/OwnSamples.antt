-- Demand 3 on the surface call with the road's own samples and nothing behind them: they are what the samples call writes into a slice of just their size.
use Prim.Native.Nat.{ℕ, ◌*◌, ◌≤◌}
use native.Mathlib.Omega.{arith}
use mathlib.Core.Path.{◌≡◌, ◌∙◌, ap}
use mathlib.Core.Bool.{true}
use mathlib.Core.List.{List, ◌++◌, append-nil}
use lib.ListN.{length, drop_of_length-le}
use lib.Ieee.{Float}
use Rattle.refusals.specs.Answer.{value}
use Rattle.records.specs.Roads.{road_of}
use Rattle.line_samples.specs.Samples.{samples_needed, samples_of}
use Rattle.line_samples.proofs.SpiralLaws.{length-samples_of}
use Rattle.admission_laws.proofs.Fitting.{Fits64, Fitting}
use Rattle.admission.specs.Admission.{admitted}
use Rattle.line_calls.specs.SampleCall.{samples_list}
use Rattle.line_calls.proofs.SampleCalls.{samples-made, samples_written_lem}
use Rattle.surface_points.specs.declared.points.SurfacePoint32.{SurfacePoint32}
use Rattle.surface_laws.specs.Sizes.{SizedPoint}
use Rattle.surface_calls.specs.SurfaceCalls.{surface_call}
use Rattle.surface_laws.proofs.CallsKept.{surface-kept}

module _ (words : List ℕ) (numbers : List Float) (ok : admitted words numbers ≡ true) where
  abbrev own : List Float
  own = samples_of (road_of words numbers)

  room : 4 * samples_needed (road_of words numbers) ≤ length own
  room = let k = length-samples_of (road_of words numbers) in omega arith

  own-written : samples_list words numbers (samples_of (road_of words numbers)) ≡ samples_of (road_of words numbers)
  own-written =
      let k = length-samples_of (road_of words numbers) in
      let l : length own ≤ 4 * samples_needed (road_of words numbers) = omega arith in
      samples_written_lem words numbers ok own room
      ∙ ap (λ (z : List Float). own ++ z) (drop_of_length-le own l)
      ∙ append-nil own

  pub own-surface-kept : Fitting numbers → (s t : Float) → Fits64 s → Fits64 t → (p : SurfacePoint32) → surface_call words numbers (samples_of (road_of words numbers)) s t ≡ value p → SizedPoint p.point.x p.point.y p.point.z
  own-surface-kept fitting s t fits-s fits-t p e =
      surface-kept words numbers fitting own (samples_needed (road_of words numbers)) (samples-made words numbers ok (length own) room)
      s t fits-s fits-t p
      (ap (λ (z : List Float). surface_call words numbers z s t) own-written ∙ e)
