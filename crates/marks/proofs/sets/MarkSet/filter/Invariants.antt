use Rattle.marks.proofs.Gathering.{Within, Gathered}
use Rattle.marks.proofs.sets.MarkSet.filter.Given as goal

abbrev pub invariant-loop-mark : goal.invariant-loop-mark
invariant-loop-mark g l = Within l.fn.self.bits l.mark-iterator.rest.bits × Gathered (goal.F-post g l.test) l.fn.self.bits l.mark-iterator.rest.bits l.kept.bits
