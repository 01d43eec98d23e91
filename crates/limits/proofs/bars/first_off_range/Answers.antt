use Rattle.std.proofs.Common.{rules}
use borrow.Author.Tests.{tests}
use Rattle.marks.proofs.Places.{passing_first}
use Rattle.limits.specs.Pairs.{off_range}
use Rattle.limits.proofs.bars.first_off_range.Goals as goal

pub returns : goal.returns
returns c = passing_first _ off_range c.args.pairs.now c.first_passing.result c.first_passing.ensures (λ pair answer given. search (rules, tests))
