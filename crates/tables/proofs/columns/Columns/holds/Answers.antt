use Rattle.std.proofs.Common.{◌∙◌}
use Rattle.marks.specs.Members.{has_shifted}
use Rattle.tables.proofs.columns.Columns.holds.Goals as goal

pub returns : goal.returns
returns c = has_shifted _ _ ∙ cc
