use Rattle.std.proofs.Common.{rules, ℕ, Bool, not, ◌&&◌, get_or}
use Rattle.marks.proofs.Gathering.{filtered_picked}
use Rattle.marks.specs.Sets.{has}
use Rattle.finder.specs.Asked.{asked}
use Rattle.finder.specs.Nodes.{holding_passes}
use Rattle.finder.specs.Tallies.{no_holding}
use Rattle.finder.proofs.narrowing.Query.excluded.Goals as goal

pub returns : goal.returns
returns g c =
    let query = c.args.self.now in
    let test : ℕ → Bool = λ b. not (has c.args.ins.bits b) && not (holding_passes (asked g.T.Table.meaning g.W.Limit.allowed query) c.args.outs.bits (get_or c.args.tally.now.marks b no_holding)) in
    filtered_picked _ test c.up_to-all.result.bits c.filter.result.bits (λ mark answer held post. search rules) c.args.width.number c.up_to-all.ensures c.filter.ensures
