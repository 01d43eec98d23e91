use Rattle.closed.specs.Closed.{query}
use Rattle.panel.proofs.Filling.{Filled}
use Rattle.panel.proofs.listing.write_list.Given as goal

abbrev pub invariant-loop-place : goal.invariant-loop-place
invariant-loop-place g l =
    Filled (query (g.T.Table.meaning l.table) (g.W.Limit.allowed l.limit) l.fn.support.number)
    l.fn.memory l.memory l.finder l.place
