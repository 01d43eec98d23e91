use Rattle.std.proofs.Common.{refl, sym, subst}
use Rattle.sheets.specs.Knowing.{Takes}
use Rattle.sheets.specs.declared.piece.Piece.{Piece}
use Rattle.sheets.proofs.Passing.{take_number, take_blank, take_line_end}
use Rattle.sheets.proofs.reading.Sheet.take.Goals as goal

pub returns-in-Number-clause-taken : goal.returns-in-Number-clause-taken
returns-in-Number-clause-taken c =
    let old = c.args.self.now in
    let held = c.args.memory.now in
    subst (λ (p : Piece). Takes p c.args.ahead old (record old { line = c.add.new.self }) held held c.add.result) (sym c.in-Number.is)
    (take_number c.in-Number.place c.args.ahead old (record old { line = c.add.new.self }) held c.in-Number.digits c.add.result refl c.add.ensures)

pub returns-in-Blank-clause-taken : goal.returns-in-Blank-clause-taken
returns-in-Blank-clause-taken c =
    let old = c.args.self.now in
    let held = c.args.memory.now in
    subst (λ (p : Piece). Takes p c.args.ahead old (record old { line = c.part.new.self }) held held c.part.result) (sym c.in-Blank.is)
    (take_blank c.in-Blank.place c.args.ahead old (record old { line = c.part.new.self }) held c.part.result refl c.part.ensures)

pub returns-in-LineEnd-clause-taken : goal.returns-in-LineEnd-clause-taken
returns-in-LineEnd-clause-taken c =
    subst (λ (p : Piece). Takes p c.args.ahead c.args.self.now c.end_line.new.self c.args.memory.now c.end_line.new.memory c.end_line.result) (sym c.in-LineEnd.is)
    (take_line_end c.in-LineEnd.place c.args.ahead c.args.self.now c.end_line.new.self c.args.memory.now c.end_line.new.memory c.end_line.result c.end_line.ensures.answer)
