-- The wants of an accepted text: the patterns of its lines, one after another, then zeros to the slice's end (`wants-say`), and how many lines (`count-says`).
use Prim.Native.Nat.{ℕ, zero, suc, ◌+◌, ◌-◌, ◌*◌, ◌≤◌}
use native.Mathlib.Omega.{arith}
use mathlib.Core.Path.{◌≡◌, refl, sym, ◌∙◌, ap}
use mathlib.Core.Bool.{Bool, cond}
use mathlib.Core.List.{List, [], ◌∷◌, ◌++◌, append_assoc}
use lib.ListN.{length, set, length-append, length-replicate}
use lib.Seq.{set-append_seam}
use lib.Ieee.{Float}
use borrow.Author.Tests.{ne_eqb}
use Rattle.reader_lines.specs.Columns.{cell_of}
use Rattle.reader_lines.specs.declared.columns.Cells.{Cells}
use Rattle.reader_store.specs.Layout.{wants_kept}
use Rattle.reader_store.specs.declared.progress.Progress.{Progress}
use Rattle.reader_calls.specs.Reading.{done, zeros}
use Rattle.reader_laws.specs.Lines.{lines_of}
use Rattle.reader_laws.proofs.LineLimits.{line_limits}
use Rattle.reader_laws.proofs.ReadTables.{Stored}
use Rattle.reader_laws.proofs.TablesKept.{rows_few}
use Rattle.reader_text_laws.specs.Said.{patterns, wants_said}
use Rattle.reader_text_laws.proofs.Folds.{wants_after, State, chain}
use Rattle.reader_text_laws.proofs.States.{state, state-step, state-first, state-end}

-- ---- tables other than want

none_kept : (t : ℕ) → (t ≡ 15 → ⊥) → (rows : List Cells) (k : ℕ) (vs : List ℕ) → wants_after t k rows vs ≡ vs
unfolding wants_after wants_kept
none_kept t h [] k vs = refl
none_kept t h (r ∷ rs) k vs = none_kept t h rs (k + 1) (wants_kept t k r vs) ∙ ap (λ (b : Bool). cond b (set (set vs (k * 2) (cell_of r 0)) (k * 2 + 1) (cell_of r 1)) vs) (ne_eqb t 15 h)

-- ---- the lines of want, from line k on

two-set : (pre : List ℕ) (n x y a b : ℕ) (rest : List ℕ) → length pre ≡ n → set (set (pre ++ (x ∷ y ∷ rest)) n a) (n + 1) b ≡ (pre ++ (a ∷ b ∷ [])) ++ rest
two-set pre n x y a b rest e =
    ap (λ (q : ℕ). set (set (pre ++ (x ∷ y ∷ rest)) q a) (n + 1) b) (sym e)
    ∙ ap (λ (zs : List ℕ). set zs (n + 1) b) (set-append_seam pre x (y ∷ rest) a)
    ∙ ap (λ (zs : List ℕ). set zs (n + 1) b) (sym (append_assoc pre (a ∷ []) (y ∷ rest)))
    ∙ ap (λ (q : ℕ). set ((pre ++ (a ∷ [])) ++ (y ∷ rest)) q b) (sym (length-append pre (a ∷ []) ∙ ap (λ (q : ℕ). q + 1) e))
    ∙ set-append_seam (pre ++ (a ∷ [])) y rest b
    ∙ append_assoc pre (a ∷ []) (b ∷ rest)
    ∙ sym (append_assoc pre (a ∷ b ∷ []) rest)

less_two : (z p : ℕ) → z - p ≡ suc (suc z) - suc (suc p)
less_two z p = omega arith

wants-from : (rows : List Cells) (k : ℕ) (pre : List ℕ) (z : ℕ) → length pre ≡ k * 2 → length rows * 2 ≤ z → wants_after 15 k rows (pre ++ zeros z) ≡ pre ++ wants_said rows z
unfolding wants_after wants_kept zeros
wants-from [] k pre z e h = ap (λ (q : ℕ). pre ++ zeros q) (whole z)
  where
    whole : (z : ℕ) → z ≡ z - 0
    whole z = omega arith
wants-from (r ∷ rs) k pre zero e h = absurd (omega arith)
wants-from (r ∷ rs) k pre (suc zero) e h = absurd (omega arith)
wants-from (r ∷ rs) k pre (suc (suc z)) e h =
    ap (λ (zs : List ℕ). wants_after 15 (k + 1) rs zs) (two-set pre (k * 2) 0 0 (cell_of r 0) (cell_of r 1) (zeros z) e)
    ∙ wants-from rs (k + 1) (pre ++ (cell_of r 0 ∷ cell_of r 1 ∷ [])) z (let l = length-append pre (cell_of r 0 ∷ cell_of r 1 ∷ []) in omega arith) (omega arith)
    ∙ append_assoc pre (cell_of r 0 ∷ cell_of r 1 ∷ []) (wants_said rs z)
    ∙ ap (λ (q : ℕ). pre ++ (cell_of r 0 ∷ cell_of r 1 ∷ (patterns rs ++ zeros q))) (less_two z (length (patterns rs)))

zeros-length : (n : ℕ) → length (zeros n) ≡ n
unfolding zeros
zeros-length n = length-replicate n 0

module _ (text : List ℕ) (l m n at count : ℕ) (progress : Progress) (ws : List ℕ) (ns : List Float) (vs : List ℕ) (read : Stored text l m n (done at count progress ws ns vs)) where
  before : (t : ℕ) → t ≤ 15 → (state text l m n at count progress ws ns vs read.form t).wants ≡ zeros n
  before zero h = ap (λ (s : State). s.wants) (state-first text l m n at count progress ws ns vs read.form)
  before (suc t) h =
      (state-step text l m n at count progress ws ns vs read.form t (omega arith)).wants
      ∙ none_kept t (λ e. omega arith) (lines_of text t) 0 (state text l m n at count progress ws ns vs read.form t).wants ∙ before t (omega arith)

  pub wants-say : vs ≡ wants_said (lines_of text 15) n
  wants-say =
      let f = rows_few text l m n at count progress ws ns vs read.form 15 (omega arith) in
      let g = line_limits.wants in
      let w = read.form.wants_long in
      let z = zeros-length n in
      ap (λ (s : State). s.wants) (sym (state-end text l m n at count progress ws ns vs read.form))
      ∙ (state-step text l m n at count progress ws ns vs read.form 15 (omega arith)).wants
      ∙ ap (λ (us : List ℕ). wants_after 15 0 (lines_of text 15) us) (before 15 (omega arith))
      ∙ wants-from (lines_of text 15) 0 [] n refl (omega arith)

  pub count-says : count ≡ length (lines_of text 15)
  unfolding lines_of
  count-says = (chain text l m n at count progress ws ns vs read.form.tables).count 15 refl
