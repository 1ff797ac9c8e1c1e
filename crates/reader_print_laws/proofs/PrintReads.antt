-- The statement of specs/PrintReads holds: the text is the sixteen tables, from its first byte to its end.
use native.Mathlib.Omega.{arith}
use native.Mathlib.Nat.{zero-add}
use mathlib.Core.Path.{refl, sym}
use Rattle.reader_laws.specs.Lines.{lines_of}
use Rattle.reader_print_laws.specs.Printing.{printed}
use Rattle.reader_print_laws.specs.PrintReads.{PrintReads}
use Rattle.reader_print_laws.proofs.Tables.{tables-read, tables-done}
use Rattle.reader_print_laws.proofs.Bytes.{tables-bytes}

pub print-reads : PrintReads
unfolding printed lines_of
print-reads T w =
    record {
      bytes = tables-bytes T w 16 0 (omega arith);
      rows = λ t l. tables-read (printed T) T w 16 0 0 (omega arith) refl t t (sym (zero-add t)) l;
      form = λ progress ws ns vs. tables-done (printed T) T w 16 0 0 (omega arith) refl 0 progress ws ns vs;
    }
