use Rattle.found.proofs.Marked.{Partly}
use Rattle.found.proofs.lines.line.Given as goal

abbrev pub invariant-loop-mark : goal.invariant-loop-mark
invariant-loop-mark l = Partly l.fn.set.bits l.mark-iterator.rest.bits l.text.bytes
