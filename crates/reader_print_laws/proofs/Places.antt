-- A text from a place on: what stands there is one equation, `drop at text ≡ bytes`. The byte there, what stands after a piece, and a word that is read there as it is read at the start of `drop at text`.
use Prim.Native.Nat.{ℕ, zero, suc, ◌+◌, ◌*◌}
use native.Mathlib.Nat.{add-zero, add_assoc}
use mathlib.Core.Path.{◌≡◌, refl, sym, ◌∙◌, ap}
use mathlib.Core.Bool.{Bool, true, false, cond}
use mathlib.Core.List.{List, [], ◌∷◌, ◌++◌}
use lib.ListN.{length, drop}
use lib.Seq.{get_or-drop, drop-drop, drop-append_seam}
use lib.Dec.{leb}
use Rattle.reader_cells.specs.Cells.{byte_at, span_of, name_from, name_span}
use Rattle.reader_cells.specs.declared.names.Span.{Span}

-- a line that is broken is not good
pub no-good : {A : Type 0} → false ≡ true → A
no-good e = absurd cc

module _ (text : List ℕ) (at : ℕ) where
  pub byte_at_lem : (k : ℕ) → byte_at text (at + k) ≡ byte_at (drop at text) k
  byte_at_lem k = sym (get_or-drop at text k 0)

  pub first : {bytes : List ℕ} → drop at text ≡ bytes → byte_at text at ≡ byte_at bytes 0
  first {bytes} e = ap (λ (n : ℕ). byte_at text n) (sym (add-zero at)) ∙ byte_at_lem 0 ∙ ap (λ (xs : List ℕ). byte_at xs 0) e

  pub here : {b : ℕ} {bs : List ℕ} → drop at text ≡ b ∷ bs → byte_at text at ≡ b
  here e = first e

  pub past : (piece : List ℕ) {rest : List ℕ} → drop at text ≡ piece ++ rest → drop (at + length piece) text ≡ rest
  past piece {rest} e = sym (drop-drop (length piece) at text) ∙ ap (λ (xs : List ℕ). drop (length piece) xs) e ∙ drop-append_seam piece rest

  pub next : {b : ℕ} {bs : List ℕ} → drop at text ≡ b ∷ bs → drop (at + 1) text ≡ bs
  next {b} {bs} e = past (b ∷ []) e

  -- a word
  pub name-moved : (n k v : ℕ) → name_from n text (at + k) v ≡ span_of (name_from n (drop at text) k v).value (at + (name_from n (drop at text) k v).next)
  unfolding name_from
  name-moved zero k v = refl
  name-moved (suc n) k v =
      rw (byte_at_lem k)
      (go (leb (byte_at (drop at text) k) 32) (name_from n (drop at text) (k + 1) (v * 256 + byte_at (drop at text) k))
      (ap (λ (m : ℕ). name_from n text m (v * 256 + byte_at (drop at text) k)) (add_assoc at k 1) ∙ name-moved n (k + 1) (v * 256 + byte_at (drop at text) k)))
    where
      go : (t : Bool) {s : Span ℕ} (r : Span ℕ) → s ≡ span_of r.value (at + r.next) → cond t (span_of v (at + k)) s ≡ span_of (cond t (span_of v k) r).value (at + (cond t (span_of v k) r).next)
      go true r e = refl
      go false r e = e

  pub name-here : name_span text at ≡ span_of (name_span (drop at text) 0).value (at + (name_span (drop at text) 0).next)
  unfolding name_span
  name-here = ap (λ (n : ℕ). name_from 8 text n 0) (sym (add-zero at)) ∙ name-moved 8 0 0
