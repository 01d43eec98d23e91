use Rattle.std.proofs.Common.{◌≡◌, ℕ, List, IfOk, length, ap, ◌∙◌, subst, arith}
use Rattle.std.proofs.lemmas.List.{with_items_is}
use Rattle.std.proofs.lemmas.Result.{IfOk-weaker}
use Rattle.listed.specs.Asking.{charge_bytes}
use Rattle.listed.specs.Answering.{answer_text, AnswersAsked}
use Rattle.tables.specs.Packed.{packed_rows, packed_meaning}
use Rattle.listed.proofs.Answered.{faulted, answered, asked_for}
use Rattle.listed.proofs.answering.answer.Goals as goal

pub returns-in-Ok-clause-text : goal.returns-in-Ok-clause-text
returns-in-Ok-clause-text c =
    let asked = c.in-Ok.asked in
    let kept : c.deref.result.now ≡ c.read.new.memory = c.deref.ensures.value ∙ with_items_is c.in_ok-memory.memory c.read.new.memory (omega (arith, ap length c.deref_mut.ensures.value)) in
    let rows = ap (λ (m : List ℕ). packed_rows (charge_bytes m asked)) kept ∙ c.in-Ok.ensures.charges.1 in
    let p = c.charges.result in
    subst (λ (t : List ℕ). IfOk c.list.result (λ text. text.items ≡ t))
    (answered c.args.input.now asked (packed_meaning p.width.number p.rows.now) (packed_rows (charge_bytes c.deref.result.now asked)) c.in-Ok.ensures.answer c.charges.ensures rows)
    c.list.ensures

pub returns-clause-text : goal.returns-clause-text
returns-clause-text c =
    subst (λ (t : List ℕ). IfOk c.fault.result (λ text. text.items ≡ t)) (faulted c.args.input.now c.in-Err.refusal c.in-Err.ensures.answer) c.fault.ensures

pub returns-in-Ok-clause-asked : goal.returns-in-Ok-clause-asked
returns-in-Ok-clause-asked c =
    IfOk-weaker c.list.result (λ text. text.items ≡ answer_text c.args.input.now) (λ text. AnswersAsked c.args.input.now text.items)
    (λ text e. asked_for c.args.input.now text.items c.read.ensures.understood c.read.ensures.faults e) (returns-in-Ok-clause-text c)

pub returns-clause-asked : goal.returns-clause-asked
returns-clause-asked c =
    IfOk-weaker c.fault.result (λ text. text.items ≡ answer_text c.args.input.now) (λ text. AnswersAsked c.args.input.now text.items)
    (λ text e. asked_for c.args.input.now text.items c.read.ensures.understood c.read.ensures.faults e) (returns-clause-text c)
