use Rattle.std.proofs.Common.{ap, ◌∙◌}
use Rattle.closed.proofs.Closing.{closure_laws}
use Rattle.finder.specs.Tallies.{tally_besides}
use Rattle.finder.proofs.Tallying.{besides_none, tally_above}
use Rattle.finder.proofs.tally.Tally.of.Goals as goal

pub returns-clause-value : goal.returns-clause-value
returns-clause-value g c =
    let m = g.T.Table.meaning c.args.table.now in
    let s = c.args.set.bits in
    c.besides.ensures ∙ ap (tally_besides m s) c.empty.ensures ∙ besides_none m s

pub returns-clause-above : goal.returns-clause-above
returns-clause-above g c =
    let m = g.T.Table.meaning c.args.table.now in
    let s = c.args.set.bits in
    tally_above m (g.met.T.Table.proper c.args.table.now) s c.besides.result (c.besides.ensures ∙ ap (tally_besides m s) c.empty.ensures ∙ besides_none m s)

pub returns-clause-laws : goal.returns-clause-laws
returns-clause-laws g c = closure_laws (g.T.Table.meaning c.args.table.now)
