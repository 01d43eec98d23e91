use Rattle.tables.specs.Holding.{holding_of}
use Rattle.tables.proofs.Passing.{Passing}
use Rattle.tables.proofs.holding.Holding.of.Given as goal

abbrev pub invariant-loop-charge : goal.invariant-loop-charge
invariant-loop-charge g l =
    Passing (λ m. holding_of m l.set.bits) (g.T.Table.meaning l.table) l.yielded l.charge-iterator l.holding
