use Rattle.sheets.proofs.Lined.{Partly}
use Rattle.sheets.proofs.writing.text_of_marks.Given as goal

abbrev pub invariant-loop-mark : goal.invariant-loop-mark
invariant-loop-mark l = Partly l.fn.row.bits l.mark-iterator.rest.bits l.text.bytes
