use Rattle.std.proofs.Common.{rules}
use borrow.Author.Tests.{tests}
use Rattle.marks.proofs.Places.{passing_first}
use Rattle.tables.specs.Layers.{outside}
use Rattle.tables.proofs.layers.choice.first_outside.Goals as goal

pub returns : goal.returns
returns c = passing_first _ outside c.args.numbers.now c.first_passing.result c.first_passing.ensures (λ number answer given. search (rules, tests))
