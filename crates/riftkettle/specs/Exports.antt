-- Document 01, "What a call gives back", as a C function gives it: 0 and the values behind its pointers, or the number of the refusal, and what is behind them stays. The number is `answer_number` (refusals, Answer).
use Rattle.std.specs.Prelude.{ℕ, List, [], ◌∷◌, ℤ, pos, Float, Option, Some, None}
use Rattle.std.specs.Int.{from_bool}
use Rattle.refusals.specs.Answer.{Answer, value, refused}
use Rattle.records.specs.declared.points.RefPoint.{RefPoint}
use Rattle.surface_station.specs.declared.axis.Axes.{Axes}
use Rattle.surface_points.specs.declared.points.SurfacePoint32.{SurfacePoint32}
use Rattle.surface_locate.specs.declared.points.Position.{Position}

-- what is behind a pointer afterwards, where the part f of the answer belongs there; a refusal "changes no memory"
abbrev pub left_by : {A B : Type 0} → (A → B) → Answer A → B → B
left_by f (value a) before = f a
left_by f (refused n) before = before

-- a lane's id; 0, which no lane has, where none is named
abbrev pub id_returned : Option ℤ → ℤ
id_returned (Some n) = n
id_returned None = pos 0

-- ---- in arrays

-- s x y heading z grade bank bank_rate
abbrev pub station_list : RefPoint → List Float
station_list p = p.s ∷ p.x ∷ p.y ∷ p.heading ∷ p.z ∷ p.grade ∷ p.bank ∷ p.bank_rate ∷ []

-- along, across, up
abbrev pub axes_list : Axes → List Float
axes_list a = a.along.x ∷ a.along.y ∷ a.along.z ∷ a.across.x ∷ a.across.y ∷ a.across.z ∷ a.up.x ∷ a.up.y ∷ a.up.z ∷ []

-- x, y, z in f32
abbrev pub point_list : SurfacePoint32 → List Float
point_list p = p.point.x ∷ p.point.y ∷ p.point.z ∷ []

abbrev pub heading_of : SurfacePoint32 → Float
heading_of p = p.heading

-- ---- where a point lies: s and t, the count of moves, 1 for met and 0 for astray
abbrev pub pair_list : Position → List Float
pair_list p = p.s ∷ p.t ∷ []

abbrev pub moves_of : Position → ℕ
moves_of p = p.moves

abbrev pub met_of : Position → ℕ
met_of p = from_bool p.converged
