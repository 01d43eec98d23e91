use Rattle.std.proofs.Common.{◌&&◌, Some, get_or, not, sym, ap, ◌∙◌}
use Rattle.marks.specs.Sets.{has, picked}
use Rattle.closed.specs.Closed.{clash}
use Rattle.finder.specs.Asked.{asked}
use Rattle.finder.specs.Nodes.{holding_passes}
use Rattle.finder.specs.Tallies.{no_holding, tally_besides}
use Rattle.finder.proofs.Narrows.{refused_clash, refused_dead, accepted, narrowed_node}
use Rattle.finder.proofs.narrowing.Query.narrow.Goals as goal

pub returns-then-clashes : goal.returns-then-clashes
returns-then-clashes g c =
    let q = asked g.T.Table.meaning g.W.Limit.allowed c.args.self.now in
    let i = c.args.ins.bits in
    let o = c.args.outs.bits in
    refused_clash q i o (ap (λ n. clash n i o) (sym c.width-width.ensures) ∙ sym c.clashes.ensures ∙ c.if-clashes.true)
    ∙ ap (λ r. Some r) (sym c.unplaced.ensures)

pub returns-then-not-wants : goal.returns-then-not-wants
returns-then-not-wants g c =
    let q = asked g.T.Table.meaning g.W.Limit.allowed c.args.self.now in
    let i = c.args.ins.bits in
    let o = c.args.outs.bits in
    refused_dead q i o (ap (λ n. clash n i o) (sym c.width-width.ensures) ∙ sym c.clashes.ensures ∙ c.if-clashes.false)
    (g.met.T.Table.proper c.args.self.now.table).wide.1 (g.met.W.Limit.parts c.args.self.now.limit) c.besides-tally.result (c.besides-tally.ensures ∙ ap (tally_besides q.table i) c.union.ensures)
    (ap (holding_passes q o) (sym c.own-own.ensures) ∙ sym c.wants.ensures ∙ c.if-not-wants.true)
    ∙ ap (λ r. Some r) (sym c.unplaced-then-not-wants.ensures)

pub returns : goal.returns
returns g c =
    let q = asked g.T.Table.meaning g.W.Limit.allowed c.args.self.now in
    let i = c.args.ins.bits in
    let o = c.args.outs.bits in
    let tally = c.besides-tally.result in
    let fair = ap (λ n. clash n i o) (sym c.width-width.ensures) ∙ sym c.clashes.ensures ∙ c.if-clashes.false in
    let small = (g.met.T.Table.proper c.args.self.now.table).wide.1 in
    let parts = g.met.W.Limit.parts c.args.self.now.limit in
    let is = c.besides-tally.ensures ∙ ap (tally_besides q.table i) c.union.ensures in
    let alive = ap (holding_passes q o) (sym c.own-own.ensures) ∙ sym c.wants.ensures ∙ c.if-not-wants.false in (
      accepted q i o fair small parts tally is alive,
      narrowed_node q i o fair small parts tally is alive c.closure.result.bits c.excluded.result.bits c.support.result
          (ap (λ s. s.bits) c.closure.ensures ∙ ap (λ h. h.closure.bits) c.own-own.ensures)
          (c.support.ensures ∙ ap (λ h. h.support) c.own-own.ensures)
          (c.excluded.ensures ∙ ap (picked (λ b. not (has i b) && not (holding_passes q o (get_or tally.marks b no_holding)))) c.width-width.ensures),
    )
