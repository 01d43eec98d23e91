use Rattle.std.proofs.Common.{rules}
use Rattle.std.proofs.lemmas.Iterator.{YieldsList-from_slice}
use Rattle.std.proofs.lemmas.Iterator.Search.{any_from_yields_List}
use borrow.Author.Tests.{tests}
use Rattle.limits.specs.Pairs.{holds_pair, unbarred}
use Rattle.limits.proofs.bars.BarsLimit.allows.Goals as goal

pub returns : goal.returns
unfolding unbarred
returns c =
    let held = any_from_yields_List (holds_pair c.args.set.bits) _ _ c.any.result c.any.ensures.ran (YieldsList-from_slice c.args.self.now.pairs.now cc) (λ x b q k. search (rules, tests)) in
    cc
