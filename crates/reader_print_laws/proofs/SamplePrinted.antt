-- The sample of specs/Sample, printed by computation.
use mathlib.Core.Path.{refl}
use Rattle.reader_schema.specs.Schema as schema
use Rattle.reader_hex.specs.Digits.{glyph_of, hex_of}
use Rattle.reader_print_laws.specs.Printing.{printed_line, words_of, title_of, columns_line, decimals_of, whole_of, printed_word, values_from, values_line, values_lines, table_of, tables_of, printed}
use Rattle.reader_print_laws.specs.Sample.{SamplePrinted}

pub sample-printed : SamplePrinted
unfolding schema.word_count schema.counts schema.column_kind schema.kinds glyph_of hex_of printed_line words_of title_of columns_line decimals_of whole_of printed_word values_from values_line values_lines table_of tables_of printed
sample-printed = refl
