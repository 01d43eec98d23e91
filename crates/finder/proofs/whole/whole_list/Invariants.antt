use Rattle.std.proofs.Common.{◌-◌, length}
use Rattle.closed.specs.Closed.{query}
use Rattle.finder.specs.Found.{how_many}
use Rattle.finder.proofs.Standing.{Standing}
use Rattle.finder.proofs.whole.whole_list.Given as goal

abbrev pub invariant-loop-records : goal.invariant-loop-records
invariant-loop-records g l =
    Standing (query (g.T.Table.meaning l.table) (g.W.Limit.allowed l.limit) l.fn.support.number) l.finder l.records.items

-- how many sets are still to come
abbrev pub decreases-loop-records : goal.decreases-loop-records
decreases-loop-records g l = how_many (query (g.T.Table.meaning l.table) (g.W.Limit.allowed l.limit) l.fn.support.number) - length l.records.items
