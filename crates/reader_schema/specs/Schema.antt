-- Document 01, "The job text": the tables in their order, each with its line limit and its columns, and each column with what it holds.
-- Read `tables` and `keywords` first; below them is how they are numbered.
use Rattle.std.specs.Prelude.{ℕ, zero, suc, ◌+◌, ◌*◌, cond, List, [], ◌∷◌, ◌++◌, Option, Some, None, map, length, get_or, eqb, ltb}
use Prim.Native.Char.{code}
use Prim.Native.String.{String}
use Prim.Native.String as text
use Rattle.records.specs.Layout.{most_geoms, most_elevs, most_banks, most_offsets, most_shifts, most_sections, most_lanes, most_extents, most_heights, most_profiles, most_shapes, most_cubics, most_marks, most_wants}
use Rattle.reader_schema.specs.declared.tables.Kind.{Kind}
use Rattle.reader_schema.specs.declared.tables.Kind.TheVariants.{Number, Whole, GeomKind, ExtentKind, Bit, Side, Term}
use Rattle.reader_schema.specs.Tables.{table_count, columns_most}

-- a column: what it holds, as the code has it (an f64; a whole number; or one of a list's words: a geometry's kind; an extent's; the words 0 and 1; a side; a
-- term), and its name
pub record Column : Type 0 where
  pub holds : Kind
  pub title : String

-- a table: its name, its limit of lines, its columns
pub record Table : Type 0 where
  pub name : String
  pub limit : ℕ
  pub columns : List Column

-- a column of f64, and one of whole numbers
abbrev pub number : String → Column
number s = record { holds = Number; title = s }

abbrev pub whole : String → Column
whole s = record { holds = Whole; title = s }

-- "A word outside a column's listed ones is 1": these are the listed ones. level, place and relative are the words 0 and 1, term is width or 0..3.
abbrev pub keywords : List (List String)
keywords =
    ("line" ∷ "arc" ∷ "spiral" ∷ []) ∷
    ("width" ∷ "border" ∷ []) ∷
    ("0" ∷ "1" ∷ []) ∷
    ("left" ∷ "right" ∷ []) ∷
    ("width" ∷ "0" ∷ "1" ∷ "2" ∷ "3" ∷ []) ∷
    []

-- a column of the words of each of these lists
abbrev pub geom_kind : String → Column
geom_kind s = record { holds = GeomKind; title = s }

abbrev pub extent_kind : String → Column
extent_kind s = record { holds = ExtentKind; title = s }

abbrev pub bit : String → Column
bit s = record { holds = Bit; title = s }

abbrev pub side : String → Column
side s = record { holds = Side; title = s }

abbrev pub term : String → Column
term s = record { holds = Term; title = s }

abbrev pub abcd : List Column
abcd = number "a" ∷ number "b" ∷ number "c" ∷ number "d" ∷ []

abbrev pub table : String → ℕ → List Column → Table
table s n cs = record { name = s; limit = n; columns = cs }

-- "Tables come in the order below": their columns, and the counts of lines given
abbrev pub tables : List Table
tables =
    table "road" 1 (number "length" ∷ []) ∷
    table "geom" most_geoms (number "s" ∷ number "x" ∷ number "y" ∷ number "hdg" ∷ number "length" ∷ geom_kind "kind" ∷ number "k0" ∷ number "k1" ∷ []) ∷
    table "elev" most_elevs (number "start" ∷ abcd) ∷
    table "bank" most_banks (number "start" ∷ abcd) ∷
    table "offset" most_offsets (number "start" ∷ abcd) ∷
    table "tshift" most_shifts (number "start" ∷ abcd) ∷
    table "section" most_sections (number "start" ∷ []) ∷
    table "lane" most_lanes (whole "section" ∷ whole "id" ∷ extent_kind "extent" ∷ bit "level" ∷ []) ∷
    table "extent" most_extents (whole "section" ∷ whole "id" ∷ number "start" ∷ abcd) ∷
    table "height" most_heights (whole "section" ∷ whole "id" ∷ number "start" ∷ number "inner" ∷ number "outer" ∷ []) ∷
    table "profile" most_profiles (number "s" ∷ []) ∷
    table "shape" most_shapes (whole "profile" ∷ number "t" ∷ abcd) ∷
    table "strip" 4 (side "side" ∷ bit "place" ∷ bit "relative" ∷ []) ∷
    table "cubic" most_cubics (side "side" ∷ bit "place" ∷ term "term" ∷ number "start" ∷ abcd) ∷
    table "mark" most_marks (whole "section" ∷ whole "id" ∷ number "start" ∷ number "end" ∷ whole "kind" ∷ []) ∷  -- document 02, point 2: "section id start end kind, kind a whole number"
    table "want" most_wants (number "s" ∷ number "t" ∷ []) ∷
    []

-- A word as one number: its bytes, base 256. No word above has more than eight bytes.
abbrev pub code_from : ℕ → String → ℕ
code_from v text.[] = v
code_from v (text.◌∷◌ c s) = code_from (v * 256 + code c) s

abbrev pub word_number : String → ℕ
word_number s = code_from 0 s

-- the tables' names, as numbers
unfoldable pub names : List ℕ
names = map (λ (t : Table). word_number t.name) tables

-- the name of a table, as a number
unfoldable pub name_of : ℕ → ℕ
name_of table = get_or names table 0

unfoldable pub limits : List ℕ
limits = map (λ (t : Table). t.limit) tables

-- "Line limits for 2 are the counts given"
unfoldable pub limit_of : ℕ → ℕ
limit_of table = get_or limits table 0

-- the lists of words by number: first each table's columns, by the table's number, then the keywords
abbrev pub lists : List (List String)
lists = map (λ (t : Table). map (λ (c : Column). c.title) t.columns) tables ++ keywords

abbrev pub joined : {A : Type 0} → List (List A) → List A
joined [] = []
joined (xs ∷ xss) = xs ++ joined xss

-- the words of a list
unfoldable pub word_lists : List (List ℕ)
word_lists = map (map word_number) lists

unfoldable pub list_words : ℕ → List ℕ
list_words list = get_or word_lists list []

-- all words of all lists, one list after another
unfoldable pub words : List ℕ
words = map word_number (joined lists)

unfoldable pub word_of : ℕ → ℕ
word_of i = get_or words i 0

-- where each list starts among all words, and how many words it has
abbrev pub starts_from : {A : Type 0} → ℕ → List (List A) → List ℕ
starts_from n [] = []
starts_from n (xs ∷ xss) = n ∷ starts_from (n + length xs) xss

unfoldable pub firsts : List ℕ
firsts = starts_from 0 lists

unfoldable pub counts : List ℕ
counts = map (λ (xs : List String). length xs) lists

unfoldable pub first_of : ℕ → ℕ
first_of list = get_or firsts list 0

unfoldable pub word_count : ℕ → ℕ
word_count list = get_or counts list 0

-- what a column holds, as one number: 0 an f64, 1 a whole number, else the number of its list of words, the keywords' lists being those after the tables'
abbrev pub kind_by : Kind → ℕ
kind_by Number = 0
kind_by Whole = 1
kind_by GeomKind = table_count
kind_by ExtentKind = table_count + 1
kind_by Bit = table_count + 2
kind_by Side = table_count + 3
kind_by Term = table_count + 4

-- the kinds of each table's columns, eight places to a table
abbrev pub eight : List ℕ → List ℕ
eight xs =
    get_or xs 0 0 ∷ get_or xs 1 0 ∷ get_or xs 2 0 ∷ get_or xs 3 0 ∷ get_or xs 4 0 ∷ get_or xs 5 0 ∷ get_or xs 6 0 ∷ get_or xs 7 0 ∷ []

unfoldable pub kinds : List (List ℕ)
kinds = map (λ (t : Table). eight (map (λ (c : Column). kind_by c.holds) t.columns)) tables

-- what a column of a table holds
unfoldable pub column_kind : ℕ → ℕ → ℕ
column_kind table column = cond (ltb column columns_most) (get_or (get_or kinds table []) column 0) 0

-- the place of a word among n words from a place on, counted from i; n + i where it is not there
unfoldable pub seek : ℕ → ℕ → ℕ → ℕ → ℕ
seek zero first word i = i
seek (suc n) first word i = cond (eqb (word_of (first + i)) word) i (seek n first word (i + 1))

-- the place of a word in a list, the list's count where it is not there
unfoldable pub place_of : ℕ → ℕ → ℕ
place_of list word = seek (word_count list) (first_of list) word 0

-- the place of a word in a list; none where it is not there
unfoldable pub listed_place : ℕ → ℕ → Option ℕ
listed_place list word = cond (ltb (place_of list word) (word_count list)) (Some (place_of list word)) None
