-- A cell that a text has of a number: an f64's pattern is below 2 ^ 64, a whole number within -9,999 to 9,999. By the digits read: n of them are below the n-th power of their base.
use Prim.Native.Nat.{ℕ, zero, suc, ◌+◌, ◌-◌, ◌*◌, ◌^◌, ◌<◌, ◌≤◌}
use native.Mathlib.Omega.{arith}
use native.Mathlib.Nat.{pow-le-pow_right}
use mathlib.Core.Path.{◌≡◌, refl, ap, subst}
use mathlib.Core.Bool.{Bool, true, false, cond}
use mathlib.Core.List.{List}
use lib.Dec.{leb, eqb}
use borrow.Author.Tests.{leb-false, eqb-false}
use Rattle.reader_cells.specs.Cells.{byte_at, digit_of, span_of, decimal_from, natural_at, negative, positive, whole_at, hex_from, hex_at, cell_at}
use Rattle.reader_cells.specs.declared.names.Span.{Span}
use Rattle.std.specs.Prelude.{Option, Some, None}
use Rattle.std.proofs.lemmas.Option.{none-some, same_Some}
use Rattle.reader_cells.proofs.Digits.{more-below}

no_value : {A : Type 0} {v q : ℕ} → None ≡ Some (span_of v q) → A
no_value {A} {v} {q} e = absurd (none-some (span_of v q) e)

value_is : {u a v q : ℕ} → Some (span_of u a) ≡ Some (span_of v q) → u ≡ v
value_is e = ap (λ (s : Span ℕ). s.value) (same_Some _ _ e)

hex-below : (n m u : ℕ) (text : List ℕ) (at v q : ℕ) → u < 16 ^ m → hex_from n text at u ≡ Some (span_of v q) → v < 16 ^ (m + n)
unfolding hex_from
hex-below zero m u text at v q l e = let p : u ≡ v = value_is e in let r : m ≡ m + 0 = omega arith in subst (λ (w : ℕ). w < 16 ^ (m + 0)) p (subst (λ (k : ℕ). u < 16 ^ k) r l)
hex-below (suc n) m u text at v q l e = go (leb 16 (digit_of (byte_at text at))) refl e (λ d. hex-below n (m + 1) (u * 16 + digit_of (byte_at text at)) text (at + 1) v q (more-below 16 m u (digit_of (byte_at text at)) l d))
  where
    go : (b : Bool) → leb 16 (digit_of (byte_at text at)) ≡ b → cond b None (hex_from n text (at + 1) (u * 16 + digit_of (byte_at text at))) ≡ Some (span_of v q)
        → (digit_of (byte_at text at) < 16 → hex_from n text (at + 1) (u * 16 + digit_of (byte_at text at)) ≡ Some (span_of v q) → v < 16 ^ (m + 1 + n)) → v < 16 ^ (m + suc n)
    go true t f ih = no_value f
    go false t f ih = let p : m + 1 + n ≡ m + suc n = omega arith in subst (λ (k : ℕ). v < 16 ^ k) p (ih (leb-false 16 (digit_of (byte_at text at)) t) f)

decimal-below : (n m u : ℕ) (text : List ℕ) (at : ℕ) → u < 10 ^ m → (decimal_from n text at u).value < 10 ^ (m + n)
unfolding decimal_from
decimal-below zero m u text at l = let r : m ≡ m + 0 = omega arith in subst (λ (k : ℕ). u < 10 ^ k) r l
decimal-below (suc n) m u text at l = go (leb 10 (digit_of (byte_at text at))) refl (λ d. decimal-below n (m + 1) (u * 10 + digit_of (byte_at text at)) text (at + 1) (more-below 10 m u (digit_of (byte_at text at)) l d))
  where
    go : (b : Bool) → leb 10 (digit_of (byte_at text at)) ≡ b → (digit_of (byte_at text at) < 10 → (decimal_from n text (at + 1) (u * 10 + digit_of (byte_at text at))).value < 10 ^ (m + 1 + n))
        → (cond b (span_of u at) (decimal_from n text (at + 1) (u * 10 + digit_of (byte_at text at)))).value < 10 ^ (m + suc n)
    go true t ih = let o : 0 < 10 = omega arith in let p : 10 ^ m ≤ 10 ^ (m + suc n) = pow-le-pow_right o (omega arith) in omega arith
    go false t ih = let p : m + 1 + n ≡ m + suc n = omega arith in subst (λ (k : ℕ). (decimal_from n text (at + 1) (u * 10 + digit_of (byte_at text at))).value < 10 ^ k) p (ih (leb-false 10 (digit_of (byte_at text at)) t))

natural-below : (text : List ℕ) (at : ℕ) (s : Span ℕ) → natural_at text at ≡ Some s → s.value < 10000
unfolding natural_at
natural-below text at s = go (eqb (byte_at text at) 48) (leb 10 (digit_of (byte_at text at)))
  where
    go : (b c : Bool) → cond b (Some (span_of 0 (at + 1))) (cond c None (Some (decimal_from 4 text at 0))) ≡ Some s → s.value < 10000
    go true c e = let p : 0 ≡ s.value = ap (λ (t : Span ℕ). t.value) (same_Some _ _ e) in omega arith
    go false true e = absurd (none-some s e)
    go false false e = subst (λ (t : Span ℕ). t.value < 10000) (same_Some _ _ e) (decimal-below 4 0 0 text at (omega arith))

abbrev IsWhole : ℕ → Type 0
IsWhole v = (1 ≤ v) × (v ≤ 19999)

negative-whole : (n : Option (Span ℕ)) (v q : ℕ) → ((s : Span ℕ) → n ≡ Some s → s.value < 10000) → negative n ≡ Some (span_of v q) → IsWhole v
negative-whole None v q l e = no_value e
negative-whole (Some s) v q l e = go (eqb s.value 0) refl e (l s refl)
  where
    go : (b : Bool) → eqb s.value 0 ≡ b → cond b None (Some (span_of (10000 - s.value) s.next)) ≡ Some (span_of v q) → s.value < 10000 → IsWhole v
    go true t e below = no_value e
    go false t e below = let z = eqb-false s.value 0 t in let p : 10000 - s.value ≡ v = value_is e in (omega arith, omega arith)

positive-whole : (n : Option (Span ℕ)) (v q : ℕ) → ((s : Span ℕ) → n ≡ Some s → s.value < 10000) → positive n ≡ Some (span_of v q) → IsWhole v
positive-whole None v q l e = no_value e
positive-whole (Some s) v q l e = let below = l s refl in let p : 10000 + s.value ≡ v = value_is e in (omega arith, omega arith)

whole-whole : (text : List ℕ) (at v q : ℕ) → whole_at text at ≡ Some (span_of v q) → IsWhole v
unfolding whole_at
whole-whole text at v q = go (eqb (byte_at text at) 45)
  where
    go : (b : Bool) → cond b (negative (natural_at text (at + 1))) (positive (natural_at text at)) ≡ Some (span_of v q) → IsWhole v
    go true = negative-whole (natural_at text (at + 1)) v q (natural-below text (at + 1))
    go false = positive-whole (natural_at text at) v q (natural-below text at)

-- a cell of a kind, where it is a number's
abbrev pub Sized : ℕ → ℕ → Type 0
Sized kind v = (kind ≡ 0 → v < 2 ^ 64) × (kind ≡ 1 → (1 ≤ v) × (v ≤ 19999))

pub cell-sized : (text : List ℕ) (at kind v q : ℕ) → cell_at text at kind ≡ Some (span_of v q) → Sized kind v
unfolding cell_at hex_at
cell-sized text at kind v q e = (
  λ z. hex-below 16 0 0 text at v q (omega arith) (subst (λ (k : ℕ). cell_at text at k ≡ Some (span_of v q)) z e),
  λ z. whole-whole text at v q (subst (λ (k : ℕ). cell_at text at k ≡ Some (span_of v q)) z e),
)
