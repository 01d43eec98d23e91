use Rattle.marks.specs.Sets.{size_of}
use Rattle.finder.specs.Asked.{asked}
use Rattle.finder.proofs.Descending.{Descending}
use Rattle.finder.proofs.narrowing.Query.descend.Given as goal
use Rattle.closed.proofs.WalkSteps.{free_marks}

abbrev pub invariant-loop-mark : goal.invariant-loop-mark
invariant-loop-mark g l =
    Descending (asked g.T.Table.meaning g.W.Limit.allowed l.self) l.fn.start l.fn.opened l.node l.turns.bits l.opened

abbrev pub decreases-loop-mark : goal.decreases-loop-mark
decreases-loop-mark g l = size_of (free_marks (g.T.Table.meaning l.self.table).width l.node.ins.bits l.node.outs.bits)
