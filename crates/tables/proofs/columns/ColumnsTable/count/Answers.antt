use Rattle.std.proofs.Common.{arith}
use Rattle.tables.specs.Columned.{columns_count}
use Rattle.tables.proofs.columns.ColumnsTable.count.Goals as goal

pub returns : goal.returns
returns c = let t = c.args.self.now in omega (arith, t.few, columns_count t.words.now t.width.number t.count)
