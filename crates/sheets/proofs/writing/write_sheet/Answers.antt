use Rattle.std.proofs.Common.{rules, arith}
use Rattle.sheets.specs.Written.{write_refusal}
use Rattle.sheets.proofs.Repacked.{sheeted}
use Rattle.sheets.proofs.Sheeted.{sheet_written}
use Rattle.sheets.proofs.writing.write_sheet.Goals as goal

pub returns-clause-answer : goal.returns-clause-answer
unfolding write_refusal
returns-clause-answer c = search rules

pub returns-clause-sheet : goal.returns-clause-sheet
returns-clause-sheet c =
    let a = returns-clause-answer c in
    let n = c.args.width.number in
    let bytes = c.args.bytes.now in
    sheet_written n bytes (omega (arith, c.args.width.range)) (λ i. (c.type_inv.bytes i).fits) (sheeted n _ bytes a.0) _ c.args.text.now c.write_lines.new.text a.1.0 a.1.1
