use Rattle.tables.proofs.Passing.{Passing}
use Rattle.finder.specs.Tallies.{tally_besides}
use Rattle.finder.proofs.tally.Tally.besides.Given as goal

abbrev pub invariant-loop-charge : goal.invariant-loop-charge
invariant-loop-charge g l = Passing (λ m. tally_besides m l.set.bits l.skipped.bits) (g.T.Table.meaning l.table) l.yielded l.charge-iterator l.tally
