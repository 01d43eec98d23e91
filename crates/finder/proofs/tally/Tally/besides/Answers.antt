use Rattle.std.proofs.Common.{rules, ap, ◌∙◌}
use Rattle.tables.proofs.Passing.{passing_start, passing_more}
use Rattle.finder.specs.Tallies.{tally_besides, noted}
use Rattle.finder.proofs.Tallying.{tally_none, tally_more}
use Rattle.finder.proofs.tally.Tally.besides.Goals as goal

pub loop-charge-init : goal.loop-charge-init
loop-charge-init g c =
    let m = g.T.Table.meaning c.args.table.now in
    let s = c.args.set.bits in
    let skipped = c.args.skipped.bits in
    passing_start (λ m. tally_besides m s skipped) m (g.met.T.Table.proper c.args.table.now) c.count.result c.count.ensures
    c.into_iter-charge-iterator.result (cc, cc) _
    (tally_none m s skipped c.width.result.number c.unheld-none.result c.width.ensures c.unheld-none.ensures)

pub loop-charge-preserved : goal.loop-charge-preserved
loop-charge-preserved g c =
    let m = g.T.Table.meaning c.args.table.now in
    let proper = g.met.T.Table.proper c.args.table.now in
    let s = c.args.set.bits in
    let skipped = c.args.skipped.bits in
    passing_more (λ m. tally_besides m s skipped) m (noted s skipped) (tally_more m s skipped proper (search rules))
    c.loop-charge.yielded c.loop-charge.charge-iterator c.next.new.self c.in-Some.charge c.in-Some.ensures.steps c.loop-charge.tally c.note.new.self
    c.loop-charge.invariant (c.note.ensures ∙ ap (λ row. noted s skipped row c.loop-charge.tally) c.row.ensures)
