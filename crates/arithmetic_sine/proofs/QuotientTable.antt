-- The table of src/quotients.rt holds the quotients of the rule. One test, computed over the whole table, and one law that gives each entry.
use mathlib.Core.Path.{◌≡◌, refl, sym, ap, ◌∙◌}
use mathlib.Core.List.{List, [], ◌∷◌}
use Prim.Native.Nat.{ℕ, zero, suc, ◌+◌, ◌<◌}
use native.Mathlib.Nat.{add-zero, add-suc, suc-add, add_comm, le_of_suc-le-suc, not-suc-le-zero}
use lib.ListN.{get_or}
use lib.Ieee.{Float, nan, binary64, of_bits, of_int, div}
use Rattle.arithmetic_sine.specs.Sine.{factorial, quotient}

abbrev pub table : List Float
table =
    of_bits binary64 0xbfe0_0000_0000_0000
    ∷ of_bits binary64 0xbfc5_5555_5555_5555
    ∷ of_bits binary64 0x3fa5_5555_5555_5555
    ∷ of_bits binary64 0x3f81_1111_1111_1111
    ∷ of_bits binary64 0xbf56_c16c_16c1_6c17
    ∷ of_bits binary64 0xbf2a_01a0_1a01_a01a
    ∷ of_bits binary64 0x3efa_01a0_1a01_a01a
    ∷ of_bits binary64 0x3ec7_1de3_a556_c734
    ∷ of_bits binary64 0xbe92_7e4f_b778_9f5c
    ∷ of_bits binary64 0xbe5a_e645_67f5_44e4
    ∷ of_bits binary64 0x3e21_eed8_eff8_d898
    ∷ of_bits binary64 0x3de6_1246_13a8_6d09
    ∷ of_bits binary64 0xbda9_3974_a8c0_7c9d
    ∷ of_bits binary64 0xbd6a_e7f3_e733_b81f
    ∷ of_bits binary64 0x3d2a_e7f3_e733_b81f
    ∷ []

-- the quotients of n, n + 1, .., k of them
ruled : ℕ → ℕ → List Float
ruled n zero = []
ruled n (suc k) = quotient n ∷ ruled (suc n) k

passes : table ≡ ruled 2 15
unfolding ruled quotient factorial of_bits of_int div
passes = refl

ruled-at : (n k i : ℕ) → i < k → get_or (ruled n k) i nan ≡ quotient (n + i)
unfolding ruled
ruled-at n zero i h = absurd (not-suc-le-zero h)
ruled-at n (suc k) zero h = ap quotient (sym (add-zero n))
ruled-at n (suc k) (suc i) h = ruled-at (suc n) k i (le_of_suc-le-suc h) ∙ ap quotient (suc-add n i ∙ sym (add-suc n i))

-- entry i is the quotient of i + 2
pub entry : (i : ℕ) → i < 15 → get_or table i nan ≡ quotient (i + 2)
entry i h = ap (λ (t : List Float). get_or t i nan) passes ∙ ruled-at 2 15 i h ∙ ap quotient (add_comm 2 i)
