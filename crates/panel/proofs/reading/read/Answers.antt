use Rattle.std.proofs.Common.{rules, ◌≡◌, length, Err, ◌∙◌, subst}
use Rattle.marks.specs.Refusals.{Answers}
use Rattle.sheets.specs.Reading.{reading, packed_into}
use Rattle.panel.proofs.Told.{read_refused, read_kept, read_told, read_packed}
use Rattle.panel.proofs.reading.read.Goals as goal

pub returns-in_err-new-clause-answer : goal.returns-in_err-new-clause-answer
returns-in_err-new-clause-answer c =
    let is : c.from_residual.result ≡ Err c.in_err-new.field-0.0 = search rules in
    is ∙ read_refused c.args.width c.args.text.now c.args.memory.now c.in_err-new.field-0.0 c.in_err-new.ensures (length c.args.memory.now)

pub returns-in_err-new-clause-memory : goal.returns-in_err-new-clause-memory
returns-in_err-new-clause-memory c = read_kept c.args.width c.args.text.now c.args.memory.now c.in_err-new.field-0.0 c.in_err-new.ensures

pub returns-clause-answer : goal.returns-clause-answer
returns-clause-answer c =
    read_told c.args.width c.args.text.now c.args.memory.now c.in_ok-new.ensures.0 (length c.args.memory.now) c.read_sheet.result
    (subst (λ n. Answers (reading n (length c.args.memory.now) c.args.text.now).refusal (λ count. count ≡ length (reading n (length c.args.memory.now) c.args.text.now).rows) c.read_sheet.result)
    c.in_ok-new.ensures.1 c.read_sheet.ensures.answer)

pub returns-clause-memory : goal.returns-clause-memory
returns-clause-memory c =
    subst (λ n. c.read_sheet.new.memory ≡ packed_into (reading n (length c.args.memory.now) c.args.text.now).rows c.args.memory.now) c.in_ok-new.ensures.1 c.read_sheet.ensures.memory
    ∙ read_packed c.args.width c.args.text.now c.args.memory.now c.in_ok-new.ensures.0
