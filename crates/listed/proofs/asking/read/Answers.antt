use Rattle.std.proofs.Common.{◌≡◌, length, None, sym, ap, ◌∙◌, arith}
use Rattle.sheets.specs.Reading.{Reading, reading, packed_into}
use Rattle.listed.proofs.Orders.{too_long, order_fault, sheet_fault, behind, same_reading, sheet_refused}
use Rattle.listed.proofs.Packing.{packed}
use Rattle.listed.proofs.Understanding.{long_understood, understood, faulty, asks}
use Rattle.listed.proofs.asking.read.Goals as goal

pub returns-then-input-ge-INPUT_LIMIT-clause-answer : goal.returns-then-input-ge-INPUT_LIMIT-clause-answer
returns-then-input-ge-INPUT_LIMIT-clause-answer c = rw c.unplaced.ensures (too_long c.args.input.now c.if-input-ge-INPUT_LIMIT.true)

pub returns-in_err-order-clause-answer : goal.returns-in_err-order-clause-answer
returns-in_err-order-clause-answer c = let e = order_fault c.args.input.now c.if-input-ge-INPUT_LIMIT.false in grind (arith, e)

pub returns-in_err-count-clause-answer : goal.returns-in_err-count-clause-answer
returns-in_err-count-clause-answer c =
    let e = sheet_refused c.args.input.now c.in_ok-order.order (length c.args.memory.now) c.if-input-ge-INPUT_LIMIT.false c.in_ok-order.ensures.answer c.requires in
    grind (arith, e)

pub returns-clause-answer : goal.returns-clause-answer
returns-clause-answer c =
    let r = reading c.in_ok-order.order.width.number (length c.args.memory.now) (behind c.in_ok-order.order c.args.input.now) in
    let e = sheet_fault c.args.input.now c.if-input-ge-INPUT_LIMIT.false c.in_ok-order.ensures.answer.0 in
    let f = same_reading c.args.input.now c.in_ok-order.order (length c.args.memory.now) c.in_ok-order.ensures.answer.1 c.requires in
    let none : r.refusal ≡ None = c.in_ok-count.ensures.answer.0 in
    let count : c.in_ok-count.count ≡ length r.rows = c.in_ok-count.ensures.answer.1 in
    (e ∙ ap (λ (s : Reading). s.refusal) (sym f) ∙ none, (c.in_ok-order.ensures.answer.1.0, count ∙ ap (λ (s : Reading). length s.rows) f))

pub returns-clause-charges : goal.returns-clause-charges
returns-clause-charges c =
    let r = reading c.in_ok-order.order.width.number (length c.args.memory.now) (behind c.in_ok-order.order c.args.input.now) in
    let f = same_reading c.args.input.now c.in_ok-order.order (length c.args.memory.now) c.in_ok-order.ensures.answer.1 c.requires in
    let none : r.refusal ≡ None = c.in_ok-count.ensures.answer.0 in
    let count : c.in_ok-count.count ≡ length r.rows = c.in_ok-count.ensures.answer.1 in
    let put : c.read_sheet.new.memory ≡ packed_into r.rows c.args.memory.now = c.read_sheet.ensures.memory in
    let p = packed (record { order = c.in_ok-order.order; count = c.in_ok-count.count }) (behind c.in_ok-order.order c.args.input.now) c.args.memory.now c.read_sheet.new.memory none count put in
    (p.0, p.1 ∙ ap (λ (s : Reading). s.rows) f)

pub returns-then-input-ge-INPUT_LIMIT-clause-understood : goal.returns-then-input-ge-INPUT_LIMIT-clause-understood
returns-then-input-ge-INPUT_LIMIT-clause-understood c = long_understood c.args.input.now c.if-input-ge-INPUT_LIMIT.true

pub returns-in_err-order-clause-understood : goal.returns-in_err-order-clause-understood
returns-in_err-order-clause-understood c = understood c.args.input.now c.read_order.result c.read_order.ensures.answer c.read_order.ensures.lines

pub returns-in_err-count-clause-understood : goal.returns-in_err-count-clause-understood
returns-in_err-count-clause-understood c = understood c.args.input.now c.read_order.result c.read_order.ensures.answer c.read_order.ensures.lines

pub returns-clause-understood : goal.returns-clause-understood
returns-clause-understood c = understood c.args.input.now c.read_order.result c.read_order.ensures.answer c.read_order.ensures.lines

pub returns-then-input-ge-INPUT_LIMIT-clause-faults : goal.returns-then-input-ge-INPUT_LIMIT-clause-faults
returns-then-input-ge-INPUT_LIMIT-clause-faults c = faulty c.args.input.now _ (too_long c.args.input.now c.if-input-ge-INPUT_LIMIT.true)

pub returns-in_err-order-clause-faults : goal.returns-in_err-order-clause-faults
returns-in_err-order-clause-faults c = faulty c.args.input.now _ (order_fault c.args.input.now c.if-input-ge-INPUT_LIMIT.false c.in_err-order.field-0.0 c.in_err-order.ensures.answer)

pub returns-in_err-count-clause-faults : goal.returns-in_err-count-clause-faults
returns-in_err-count-clause-faults c = asks c.args.input.now c.in_ok-order.order c.if-input-ge-INPUT_LIMIT.false c.in_ok-order.ensures.answer c.in_ok-order.ensures.lines

pub returns-clause-faults : goal.returns-clause-faults
returns-clause-faults c = asks c.args.input.now c.in_ok-order.order c.if-input-ge-INPUT_LIMIT.false c.in_ok-order.ensures.answer c.in_ok-order.ensures.lines
