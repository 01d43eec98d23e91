use Rattle.closed.specs.Closed.{query}
use Rattle.closed.proofs.Narrowing.{list_laws}
use Rattle.finder.proofs.Narrows.{exact_node, refuses}
use Rattle.finder.proofs.narrowing.narrow.Goals as goal

pub returns-clause-exact : goal.returns-clause-exact
returns-clause-exact g c =
    let q = query (g.T.Table.meaning c.args.table.now) (g.W.Limit.allowed c.args.limit.now) c.args.support.number in
    exact_node q c.args.ins.bits c.args.outs.bits c.narrow.result c.narrow.ensures

pub returns-clause-refusals : goal.returns-clause-refusals
returns-clause-refusals g c =
    let q = query (g.T.Table.meaning c.args.table.now) (g.W.Limit.allowed c.args.limit.now) c.args.support.number in
    refuses _ q c.args.ins.bits c.args.outs.bits c.narrow.result c.narrow.ensures

pub returns-clause-laws : goal.returns-clause-laws
returns-clause-laws g c = list_laws (query (g.T.Table.meaning c.args.table.now) (g.W.Limit.allowed c.args.limit.now) c.args.support.number)
