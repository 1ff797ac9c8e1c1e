-- Document 01, "Values": "`Cubic::eval`, `slope` as written", grouped as in src/road.rs; and the cubics that a part of the lent numbers holds, five numbers each.
use Rattle.std.specs.Prelude.{ℕ, ◌+◌, ◌*◌, ◌/◌, List, length, get_or, Float}
use Rattle.std.specs.Float.{nan}
use Rattle.float_laws.specs.Binary64.{◌⊕◌, ◌⊖◌, ◌⊗◌, f64}
use Rattle.records_cubic.specs.declared.cubics.Cubic.{Cubic}
use Rattle.records_lent.specs.Lists.{tabulate}

-- ((a + b×ds) + (c×ds)×ds) + ((d×ds)×ds)×ds
abbrev pub eval_by : Cubic → Float → Float
eval_by c ds = ((c.a ⊕ c.b ⊗ ds) ⊕ c.c ⊗ ds ⊗ ds) ⊕ c.d ⊗ ds ⊗ ds ⊗ ds

-- (b + (2×c)×ds) + ((3×d)×ds)×ds
abbrev pub slope_by : Cubic → Float → Float
slope_by c ds = (c.b ⊕ f64 0x4000_0000_0000_0000 ⊗ c.c ⊗ ds) ⊕ f64 0x4008_0000_0000_0000 ⊗ c.d ⊗ ds ⊗ ds

-- with ds = s less the cubic's start
abbrev pub eval_at : Cubic → Float → Float
eval_at c s = eval_by c (s ⊖ c.start)

abbrev pub slope_at : Cubic → Float → Float
slope_at c s = slope_by c (s ⊖ c.start)

-- five numbers from a place on: start a b c d
abbrev pub cubic_stride : ℕ
cubic_stride = 5

abbrev pub cubic_from : List Float → ℕ → Cubic
cubic_from xs k =
    record {
      start = get_or xs k nan;
      a = get_or xs (k + 1) nan;
      b = get_or xs (k + 2) nan;
      c = get_or xs (k + 3) nan;
      d = get_or xs (k + 4) nan;
    }

abbrev pub no_cubic : Cubic
no_cubic = record { start = nan; a = nan; b = nan; c = nan; d = nan }

unfoldable pub cubics_of : List Float → List Cubic
unfolding tabulate
cubics_of xs = tabulate (λ i. cubic_from xs (i * cubic_stride)) (length xs / cubic_stride)

-- the i-th cubic of a list, one of NaNs past its end
abbrev pub cubic_at : List Cubic → ℕ → Cubic
cubic_at cs i = get_or cs i no_cubic
