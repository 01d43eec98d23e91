use Rattle.std.proofs.Common.{cond, ap, ◌∙◌}
use Rattle.tables.specs.Holding.{held_by, holding_of, joined}
use Rattle.tables.proofs.Passing.{passing_start, passing_more, holding_none, holding_more}
use Rattle.tables.proofs.holding.Holding.of.Goals as goal

pub loop-charge-init : goal.loop-charge-init
loop-charge-init g c =
    let m = g.T.Table.meaning c.args.table.now in
    let s = c.args.set.bits in
    passing_start (λ m. holding_of m s) m (g.met.T.Table.proper c.args.table.now) c.count.result c.count.ensures c.into_iter-charge-iterator.result (cc, cc) c.unheld-holding.result
    (c.unheld-holding.ensures ∙ holding_none m s c.width.result.number c.width.ensures)

pub loop-charge-preserved : goal.loop-charge-preserved
loop-charge-preserved g c =
    let m = g.T.Table.meaning c.args.table.now in
    let s = c.args.set.bits in
    passing_more (λ m. holding_of m s) m (λ row h. cond (held_by s row) (joined row h) h) (holding_more m s (g.met.T.Table.proper c.args.table.now).few)
    c.loop-charge.yielded c.loop-charge.charge-iterator c.next.new.self c.in-Some.charge c.in-Some.ensures.steps c.loop-charge.holding c.note.new.self c.loop-charge.invariant
    (c.note.ensures ∙ ap (λ row. cond (held_by s row) (joined row c.loop-charge.holding) c.loop-charge.holding) c.row.ensures)
