-- A root digit by digit: two digits of the number n under the root come down at a time, and with k places left `under` is the digits of n that came down.
-- One step (`digit`) is `omega`'s: from root² + rem to (2 * root + b)² + rem' of four times that number and two digits more.
use mathlib.Core.Path.{◌≡◌, sym, ap, ◌∙◌}
use mathlib.Core.Logic.{◌⊎◌}
use Prim.Native.Nat.{ℕ, suc, ◌+◌, ◌*◌, ◌/◌, ◌%◌, ◌^◌, ◌≤◌, ◌<◌}
use native.Mathlib.Nat.{le_trans, lt_of_lt_of_le, lt_of_le_of_lt, le_of_suc-le-suc, div-div-eq-div-mul, div-add-mod'}
use native.Mathlib.Omega.{arith}
use lib.Pow.{pow-add, pow_mono}
use Rattle.arithmetic.proofs.RootRounded.{RootOf, sq-lt, root-whole}

-- what `next_digit` promises
abbrev pub Digit : ℕ → ℕ → ℕ → Type 0
Digit trial rem d = ((d ≡ 1) × (trial ≤ rem)) ⊎ ((d ≡ 0) × (rem < trial))

pub two-small : (n : ℕ) → n % 4 < 4
two-small n = omega arith

-- ---- k places of n are left

quarter : (w : ℕ) → w / 4 * 4 + w % 4 ≡ w
quarter w = div-add-mod' w 4

-- one place more, by what `digit` promises
pub root-next : (n k : ℕ) {u v two : ℕ} → u ≡ n / 2 ^ (2 * suc k) → two ≡ n / 2 ^ (2 * k) % 4 → v ≡ u * 4 + two → v ≡ n / 2 ^ (2 * k)
root-next n k {u} {v} {two} h e g =
    let w = n / 2 ^ (2 * k) in
    let s : 2 * suc k ≡ 2 * k + 2 = omega arith in
    let a : n / 2 ^ (2 * suc k) ≡ w / 4 = ap (λ (z : ℕ). n / 2 ^ z) s ∙ ap (λ (z : ℕ). n / z) (pow-add 2 (2 * k) 2) ∙ sym (div-div-eq-div-mul n (2 ^ (2 * k)) 4) in
    let b : u ≡ w / 4 = h ∙ a in
    let q = quarter w in
    omega arith

-- ---- how large a root is

-- at most 27 digits, of a number w that is no more than an m of twice as many
pub root-small : (m n w r q : ℕ) → n ≤ 27 → m < 2 ^ (2 * n) → w ≤ m → RootOf w r q → r < 2 ^ 27
root-small m n w r q N M W R =
    let l : 2 * n ≤ 54 = omega arith in
    sq-lt r (2 ^ 27) (lt_of_le_of_lt (le_trans (root-whole R).at_most W) (lt_of_lt_of_le M (pow_mono l)))

-- and no less than a number whose square is no more than m
pub root-least : (h m r q : ℕ) → h * h ≤ m → RootOf m r q → h ≤ r
root-least h m r q l R = le_of_suc-le-suc (sq-lt h (suc r) (lt_of_le_of_lt l (root-whole R).above))
