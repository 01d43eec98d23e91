use Rattle.tables.proofs.Passing.{Passing}
use Rattle.sheets.proofs.Lined.{lines_in}
use Rattle.sheets.proofs.writing.write_lines.Given as goal

abbrev pub invariant-loop-charge : goal.invariant-loop-charge
invariant-loop-charge g l = Passing (lines_in l.initial.text) (g.T.Table.meaning l.table) l.yielded l.charge-iterator (l.text, l.end)
