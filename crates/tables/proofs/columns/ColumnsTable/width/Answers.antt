use Rattle.std.proofs.Common.{arith}
use Rattle.tables.specs.Columned.{columns_width}
use Rattle.tables.proofs.columns.ColumnsTable.width.Goals as goal

pub returns : goal.returns
returns c = let t = c.args.self.now in omega (arith, t.width.range.0, t.width.range.1, columns_width t.words.now t.width.number t.count)
