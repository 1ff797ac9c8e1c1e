-- A kind by its number.
use Rattle.std.specs.Prelude.{◌≡◌, ℕ, Result, MatchResult}
use Rattle.reader_schema.specs.declared.tables.Kind.{Kind}
use Rattle.reader_schema.specs.declared.tables.NoKind.{NoKind}
use Rattle.reader_schema.specs.Schema.{kind_by}

-- the kind with this number, or an error where no kind has it
abbrev pub IsNumbered : ℕ → Result Kind NoKind → Type 0
IsNumbered number r = MatchResult r (λ kind. kind_by kind ≡ number) (λ e. (e.0 ≡ number) × ((kind : Kind) → kind_by kind ≡ number → ⊥))
