-- Document 01, "The job text": "Tables come in the order below", numbered from 0. Whatever speaks of a table by its number uses these names.
use Rattle.std.specs.Prelude.{ℕ}

abbrev pub road_table : ℕ
road_table = 0

abbrev pub geom_table : ℕ
geom_table = 1

abbrev pub elev_table : ℕ
elev_table = 2

abbrev pub bank_table : ℕ
bank_table = 3

abbrev pub offset_table : ℕ
offset_table = 4

abbrev pub tshift_table : ℕ
tshift_table = 5

abbrev pub section_table : ℕ
section_table = 6

abbrev pub lane_table : ℕ
lane_table = 7

abbrev pub extent_table : ℕ
extent_table = 8

abbrev pub height_table : ℕ
height_table = 9

abbrev pub profile_table : ℕ
profile_table = 10

abbrev pub shape_table : ℕ
shape_table = 11

abbrev pub strip_table : ℕ
strip_table = 12

abbrev pub cubic_table : ℕ
cubic_table = 13

-- document 02, point 2: "A new table, mark, after strip and cubic"
abbrev pub mark_table : ℕ
mark_table = 14

abbrev pub want_table : ℕ
want_table = 15

abbrev pub table_count : ℕ
table_count = 16

-- no table has more columns: a line's cells have as many places
abbrev pub columns_most : ℕ
columns_most = 8
