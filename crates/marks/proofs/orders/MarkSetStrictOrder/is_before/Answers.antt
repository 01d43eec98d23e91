use Rattle.std.proofs.Common.{rules}
use Rattle.marks.proofs.Decided.{decided}
use Rattle.marks.proofs.orders.MarkSetStrictOrder.is_before.Goals as goal

pub returns : goal.returns
returns c =
    decided c.args.self.now.bits c.args.other.now.bits c.symmetric_difference.result.bits c.symmetric_difference.ensures c.lowest.result c.lowest.ensures
    c.is_some_and.result _ c.is_some_and.ensures (λ mark h. search rules)
