use Rattle.std.proofs.Common.{◌-◌, length, take, drop, rules, arith, ◌∙◌}
use Rattle.std.proofs.lemmas.Iterator.{YieldsList-from_slice}
use Rattle.std.proofs.lemmas.Iterator.Search.{position_from_yields_List}
use borrow.Author.Tests.{tests}
use Rattle.sheets.proofs.Runs.{RunFrom, stray, found}
use Rattle.sheets.proofs.reader.Reader.digits.Goals as goal
use Rattle.sheets.proofs.reader.Reader.digits.Goals.{After-unwrap_or-count}

run : (c : After-unwrap_or-count) → RunFrom c.args.self.now.text.now c.args.self.now.position c.unwrap_or-count.result
run c =
    let text = c.args.self.now.text.now in
    let at = c.args.self.now.position in
    let rest = take (length text - at) (drop at text) in
    let place = position_from_yields_List stray _ _ c.position.result c.position.ensures.ran (YieldsList-from_slice rest cc) (λ x b q k. search (rules, tests)) in
    found text at c.position.result c.unwrap_or-count.result c.requires.inside c.requires.at_digit place c.unwrap_or-count.ensures

pub invariant_of-self : goal.invariant_of-self
invariant_of-self c =
    let r = run c in
    let self = c.args.self.now in
    record {
      inside = r.inside;
      right_line = self.right_line ∙ r.line;
      right_column = (omega (arith, self.right_column, r.column));
      few_lines = omega (arith, self.few_lines);
      few_columns = omega (arith, self.few_columns);
    }

pub returns-clause-part : goal.returns-clause-part
returns-clause-part c = (run (goal.at.returns-clause-part c).After-unwrap_or-count).part
