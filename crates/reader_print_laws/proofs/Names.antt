-- The line of names of each table, at the start of a text and then at any place: it is read with its columns in the schema's order. Sixteen lines, each by computing, whatever stands after it.
use Prim.Native.Nat.{ℕ, zero, suc, ◌+◌, ◌<◌}
use native.Mathlib.Omega.{arith}
use native.Mathlib.Nat.{add_assoc}
use mathlib.Core.Path.{◌≡◌, refl, sym, ◌∙◌, ap, subst}
use mathlib.Core.Bool.{Bool, true, false, cond}
use mathlib.Core.List.{List, [], ◌∷◌, ◌++◌}
use lib.ListN.{length, drop}
use lib.Dec.{ltb, eqb}
use Rattle.reader_schema.specs.Schema as schema
use Rattle.reader_schema.specs.Schema.{name_of, word_count, listed_place}
use Rattle.reader_cells.specs.Cells.{byte_at, span_of, name_from, name_span}
use Rattle.reader_cells.specs.declared.names.Span.{Span}
use Rattle.reader_lines.specs.NamesLine.{head_at, column_at, names_from, by_name, named_by}
use Rattle.reader_lines.specs.Columns.{no_order, all_due, is_due, met_in, ordered_by}
use Rattle.reader_lines.specs.declared.columns.Order.{Order}
use Rattle.reader_lines.specs.declared.columns.Due.{Due}
use Rattle.std.specs.Prelude.{Option, Some, None, option_map}
use Rattle.std.proofs.lemmas.Option.{none-some, same_Some}
use Rattle.reader_print_laws.specs.Printing.{printed_line, words_of, title_of, columns_line}
use Rattle.reader_print_laws.proofs.Places.{byte_at_lem, name-moved, name-here}

-- the columns in the schema's order
abbrev pub in_order : ℕ → Order
in_order n =
    record {
      of = 0 ∷ cond (ltb 1 n) 1 0 ∷ cond (ltb 2 n) 2 0 ∷ cond (ltb 3 n) 3 0 ∷ cond (ltb 4 n) 4 0 ∷ cond (ltb 5 n) 5 0 ∷ cond (ltb 6 n) 6 0 ∷ cond (ltb 7 n) 7 0 ∷ [];
    }

abbrev pub good : ℕ → Order → Option (Span Order)
good at order = Some (record { value = order; next = at })

-- a name that stands, and the columns' names after it
abbrev NamesRead : ℕ → List ℕ → ℕ → Type 0
NamesRead table text at = ((name_span text 0).value ≡ name_of table) × (head_at text (name_span text 0).next table ≡ good at (in_order (word_count table)))

names-start : (table : ℕ) → table < 16 → (rest : List ℕ) → NamesRead table (columns_line table ++ rest) (length (columns_line table))
unfolding schema.names schema.name_of schema.words schema.word_of schema.firsts schema.counts schema.first_of schema.word_count schema.seek schema.place_of schema.listed_place name_from name_span column_at names_from head_at printed_line words_of title_of columns_line
names-start zero h rest = (refl, refl)
names-start (suc zero) h rest = (refl, refl)
names-start (suc (suc zero)) h rest = (refl, refl)
names-start (suc (suc (suc zero))) h rest = (refl, refl)
names-start (suc (suc (suc (suc zero)))) h rest = (refl, refl)
names-start (suc (suc (suc (suc (suc zero))))) h rest = (refl, refl)
names-start (suc (suc (suc (suc (suc (suc zero)))))) h rest = (refl, refl)
names-start (suc (suc (suc (suc (suc (suc (suc zero))))))) h rest = (refl, refl)
names-start (suc (suc (suc (suc (suc (suc (suc (suc zero)))))))) h rest = (refl, refl)
names-start (suc (suc (suc (suc (suc (suc (suc (suc (suc zero))))))))) h rest = (refl, refl)
names-start (suc (suc (suc (suc (suc (suc (suc (suc (suc (suc zero)))))))))) h rest = (refl, refl)
names-start (suc (suc (suc (suc (suc (suc (suc (suc (suc (suc (suc zero))))))))))) h rest = (refl, refl)
names-start (suc (suc (suc (suc (suc (suc (suc (suc (suc (suc (suc (suc zero)))))))))))) h rest = (refl, refl)
names-start (suc (suc (suc (suc (suc (suc (suc (suc (suc (suc (suc (suc (suc zero))))))))))))) h rest = (refl, refl)
names-start (suc (suc (suc (suc (suc (suc (suc (suc (suc (suc (suc (suc (suc (suc zero)))))))))))))) h rest = (refl, refl)
names-start (suc (suc (suc (suc (suc (suc (suc (suc (suc (suc (suc (suc (suc (suc (suc zero))))))))))))))) h rest = (refl, refl)
names-start (suc (suc (suc (suc (suc (suc (suc (suc (suc (suc (suc (suc (suc (suc (suc (suc n)))))))))))))))) h rest = absurd (omega arith)

-- ---- at any place

no_head_lem : {A : Type 0} {m : ℕ} {o : Order} → None ≡ good m o → A
no_head_lem e = absurd (none-some _ e)

-- a name that stands further on
abbrev shifted : ℕ → Option (Span ℕ) → Option (Span ℕ)
shifted at (Some named) = Some (record { value = named.value; next = at + named.next })
shifted at None = None

shifted-name : (at next : ℕ) (o : Option ℕ) → option_map (λ (column : ℕ). let w : Span ℕ = record { value = column; next = at + next } in w) o ≡ shifted at (option_map (λ (column : ℕ). let w : Span ℕ = record { value = column; next = next } in w) o)
shifted-name at next (Some column) = refl
shifted-name at next None = refl

module _ (text : List ℕ) (at : ℕ) where
  column-moved : (k table : ℕ) → column_at text (at + k) table ≡ shifted at (column_at (drop at text) k table)
  unfolding column_at name_span
  column-moved k table =
      rw (byte_at_lem text at k)
      (go (eqb (byte_at (drop at text) k) 32) (name_span (drop at text) (k + 1))
      (ap (λ (n : ℕ). name_span text n) (add_assoc at k 1) ∙ name-moved text at 8 (k + 1) 0))
    where
      go : (t : Bool) {s : Span ℕ} (r : Span ℕ) → s ≡ span_of r.value (at + r.next) → cond t (named_by table s) None ≡ shifted at (cond t (named_by table r) None)
      go true r e = ap (named_by table) e ∙ shifted-name at r.next (listed_place table r.value)
      go false r e = refl

  head-moved : (n k table i : ℕ) (due : Due) (order : Order) (m : ℕ) (o : Order) → names_from n (drop at text) k table i due order ≡ good m o → names_from n text (at + k) table i due order ≡ good (at + m) o
  unfolding names_from
  head-moved zero k table i due order m o e = rw (byte_at_lem text at k) (go (eqb (byte_at (drop at text) k) 10) e)
    where
      go : (t : Bool) → cond t (good (k + 1) order) None ≡ good m o → cond t (good (at + k + 1) order) None ≡ good (at + m) o
      go true f =
          let g = same_Some _ _ f in
          let a = ap (λ (h : Span Order). h.next) g in
          let b = ap (λ (h : Span Order). h.value) g in
          let c : at + k + 1 ≡ at + m = omega arith in
          rw (c, b)
      go false f = no_head_lem f
  head-moved (suc n) k table i due order m o e =
      rw (column-moved k table)
      (go (column_at (drop at text) k table) (λ column next. head-moved n next table (i + 1) (met_in due column) (ordered_by order i column) m o) e)
    where
      by : (t : Bool) {x y : Option (Span Order)} → (y ≡ good m o → x ≡ good (at + m) o) → cond t y None ≡ good m o → cond t x None ≡ good (at + m) o
      by true f g = f g
      by false f g = no_head_lem g

      go : (w : Option (Span ℕ))
          → ((column next : ℕ) → names_from n (drop at text) next table (i + 1) (met_in due column) (ordered_by order i column) ≡ good m o → names_from n text (at + next) table (i + 1) (met_in due column) (ordered_by order i column) ≡ good (at + m) o)
          → by_name w (λ column next. cond (is_due due column) (names_from n (drop at text) next table (i + 1) (met_in due column) (ordered_by order i column)) None) ≡ good m o
          → by_name (shifted at w) (λ column next. cond (is_due due column) (names_from n text next table (i + 1) (met_in due column) (ordered_by order i column)) None) ≡ good (at + m) o
      go (Some w) f g = by (is_due due w.value) (f w.value w.next) g
      go None f g = no_head_lem g

  -- the line of names of a table, read where it stands
  pub names-read : (table : ℕ) → table < 16 → (rest : List ℕ) → drop at text ≡ columns_line table ++ rest
      → ((name_span text at).value ≡ name_of table) × (head_at text (name_span text at).next table ≡ good (at + length (columns_line table)) (in_order (word_count table)))
  unfolding head_at
  names-read table h rest e =
      let s : NamesRead table (drop at text) (length (columns_line table)) = subst (λ (xs : List ℕ). NamesRead table xs (length (columns_line table))) (sym e) (names-start table h rest) in
      rw (name-here text at) (s.0, head-moved (word_count table) (name_span (drop at text) 0).next table 0 (all_due (word_count table)) no_order (length (columns_line table)) (in_order (word_count table)) s.1)
