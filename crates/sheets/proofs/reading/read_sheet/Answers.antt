use Rattle.std.proofs.Common.{◌≡◌, length, refl, sym, ap, ◌∙◌, subst}
use Rattle.marks.specs.Refusals.{Answers}
use Rattle.sheets.specs.Reading.{Reading, packed_into}
use Rattle.sheets.proofs.Sheets.{long_reading, short_reading, Reads, sheets, only_sheets, one_sheet}
use Rattle.sheets.proofs.reading.read_sheet.Goals as goal
use Rattle.sheets.proofs.reading.read_sheet.Goals.{After-read_text}

pub returns-then-text-gt-MOST_BYTES-clause-answer :
    goal.returns-then-text-gt-MOST_BYTES-clause-answer
returns-then-text-gt-MOST_BYTES-clause-answer c =
    rw (long_reading c.args.width.number (length c.args.memory.now) c.args.text.now c.if-text-gt-MOST_BYTES.true) (cc)

pub returns-then-text-gt-MOST_BYTES-clause-memory :
    goal.returns-then-text-gt-MOST_BYTES-clause-memory
returns-then-text-gt-MOST_BYTES-clause-memory c =
    rw (long_reading c.args.width.number (length c.args.memory.now) c.args.text.now c.if-text-gt-MOST_BYTES.true) refl

-- what was read
reads : (c : After-read_text) → Reads c.args.width.number c.args.text.now c.args.memory.now c.read_text.new.memory c.read_text.result
reads c =
    let short = short_reading c.args.width.number (length c.args.memory.now) c.args.text.now c.if-text-gt-MOST_BYTES.false in
    record {
      answer = subst (λ (r : Reading). Answers r.refusal (λ count. count ≡ length r.rows) c.read_text.result) (sym short) c.read_text.ensures.answer;
      memory = c.read_text.ensures.memory ∙ ap (λ (r : Reading). packed_into r.rows c.args.memory.now) (sym short);
    }

pub returns-clause-answer : goal.returns-clause-answer
returns-clause-answer c = (reads (goal.at.returns-clause-answer c).After-read_text).answer

pub returns-clause-memory : goal.returns-clause-memory
returns-clause-memory c = (reads (goal.at.returns-clause-memory c).After-read_text).memory

pub returns-clause-sheets : goal.returns-clause-sheets
returns-clause-sheets c = sheets c.args.width.number c.args.text.now c.args.memory.now c.read_text.new.memory c.args.width.range.1 c.read_text.result (reads (goal.at.returns-clause-sheets c).After-read_text)

pub returns-clause-only_sheets : goal.returns-clause-only_sheets
returns-clause-only_sheets c = only_sheets c.args.width.number c.args.text.now c.args.memory.now c.read_text.new.memory c.args.width.range.1 c.read_text.result (reads (goal.at.returns-clause-only_sheets c).After-read_text)

pub returns-clause-one_sheet : goal.returns-clause-one_sheet
returns-clause-one_sheet c = one_sheet c.args.width.number c.args.text.now c.args.memory.now c.read_text.new.memory c.args.width.range.1
