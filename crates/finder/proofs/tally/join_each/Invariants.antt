use Rattle.finder.proofs.Tallying.{Joining}
use Rattle.finder.proofs.tally.join_each.Given as goal

abbrev pub invariant-loop-mark : goal.invariant-loop-mark
invariant-loop-mark l = Joining l.fn.some.bits l.row.bits l.mark-iterator.rest.bits l.initial.marks l.marks
