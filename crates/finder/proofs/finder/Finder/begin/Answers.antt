use Rattle.std.proofs.Common.{refl, sym}
use Rattle.closed.proofs.Growing.{tree_law}
use Rattle.closed.proofs.Narrowing.{list_laws}
use Rattle.finder.proofs.Lawfulness.{fresh_lawful}
use Rattle.finder.proofs.Listing.{last_at_none}
use Rattle.finder.proofs.finder.Finder.begin.Goals as goal

pub invariant_of-result-clause-stands : goal.invariant_of-result-clause-stands
invariant_of-result-clause-stands g c = sym (last_at_none _)

pub returns-clause-list : goal.returns-clause-list
returns-clause-list g c = list_laws _

pub returns-clause-tree : goal.returns-clause-tree
returns-clause-tree g c = tree_law _ _

pub returns-clause-lawful : goal.returns-clause-lawful
returns-clause-lawful g c = fresh_lawful _ _ (refl, refl) (g.met.T.Table.proper c.args.table)
