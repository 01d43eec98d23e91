use Rattle.std.proofs.Common.{◌≡◌, ◌+◌, [], ◌∷◌, rules, arith}
use Rattle.std.proofs.lemmas.Grind.{common_steps}
use Rattle.sheets.specs.OrderLines.{number_in, number_start, order_refusal}
use Rattle.sheets.proofs.Starts.{starts}
use Rattle.sheets.proofs.OrderLaw.{reads_right_lines, sheet_within}
use Rattle.sheets.proofs.order.read_order.Goals as goal

pub returns-clause-answer : goal.returns-clause-answer
unfolding order_refusal
returns-clause-answer c =
    let text = c.args.text.now in
    let s = starts text in
    let width : c.in_ok-of_kind.field-0.number ≡ number_in text 0 = grind (arith, common_steps) in
    let support : c.in_ok-of_kind-2.field-0.number ≡ number_in text 1 = grind (arith, common_steps) in
    let size : c.from.result ≡ number_in text 2 = grind (arith, common_steps) in
    let first : c.in_ok-of_kind-3.field-0.number ≡ number_in text 3 = grind (arith, common_steps) in
    let count : c.in_ok-up_to-2.field-0 ≡ number_in text 4 = grind (arith, common_steps) in
    let sheet : c.take-5.new.self.taken + 1 ≡ number_start text 5 + 1 = grind (arith, common_steps) in
    (grind (arith, common_steps), (λ i. width i ∷ support i ∷ size i ∷ first i ∷ count i ∷ [], sheet))

pub returns-clause-lines : goal.returns-clause-lines
returns-clause-lines c = reads_right_lines c.args.text.now _ (returns-clause-answer c)

pub returns-clause-place : goal.returns-clause-place
returns-clause-place c = sheet_within c.args.text.now _ (returns-clause-lines c)

pub returns-in_err-width-clause-lines : goal.returns-in_err-width-clause-lines
unfolding order_refusal
returns-in_err-width-clause-lines c = reads_right_lines c.args.text.now _ (let s = starts c.args.text.now in search rules)

pub returns-in_err-support-clause-lines : goal.returns-in_err-support-clause-lines
unfolding order_refusal
returns-in_err-support-clause-lines c = reads_right_lines c.args.text.now _ (let s = starts c.args.text.now in search rules)

pub returns-in_err-size-clause-lines : goal.returns-in_err-size-clause-lines
unfolding order_refusal
returns-in_err-size-clause-lines c = reads_right_lines c.args.text.now _ (let s = starts c.args.text.now in search rules)

pub returns-in_err-first-clause-lines : goal.returns-in_err-first-clause-lines
unfolding order_refusal
returns-in_err-first-clause-lines c = reads_right_lines c.args.text.now _ (let s = starts c.args.text.now in search rules)

pub returns-in_err-count-clause-lines : goal.returns-in_err-count-clause-lines
unfolding order_refusal
returns-in_err-count-clause-lines c = reads_right_lines c.args.text.now _ (let s = starts c.args.text.now in search rules)

pub returns-in_err-of_kind-clause-lines : goal.returns-in_err-of_kind-clause-lines
unfolding order_refusal
returns-in_err-of_kind-clause-lines c = reads_right_lines c.args.text.now _ (let s = starts c.args.text.now in search rules)

pub returns-in_err-of_kind-2-clause-lines : goal.returns-in_err-of_kind-2-clause-lines
unfolding order_refusal
returns-in_err-of_kind-2-clause-lines c = reads_right_lines c.args.text.now _ (let s = starts c.args.text.now in search rules)

pub returns-in_err-up_to-clause-lines : goal.returns-in_err-up_to-clause-lines
unfolding order_refusal
returns-in_err-up_to-clause-lines c = reads_right_lines c.args.text.now _ (let s = starts c.args.text.now in search rules)

pub returns-in_err-of_kind-3-clause-lines : goal.returns-in_err-of_kind-3-clause-lines
unfolding order_refusal
returns-in_err-of_kind-3-clause-lines c = reads_right_lines c.args.text.now _ (let s = starts c.args.text.now in search rules)

pub returns-in_err-up_to-2-clause-lines : goal.returns-in_err-up_to-2-clause-lines
unfolding order_refusal
returns-in_err-up_to-2-clause-lines c = reads_right_lines c.args.text.now _ (let s = starts c.args.text.now in search rules)
