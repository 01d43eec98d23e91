use Rattle.std.proofs.Common.{◌≡◌, ℕ, List, [], ◌++◌, ◌∷◌, length, codes, decimal, sym, ap, ◌∙◌, rules, arith}
use Rattle.std.proofs.lemmas.List.{length-append}
use Rattle.marks.specs.Numbers.{most_marks, bit_of}
use Rattle.marks.specs.Sets.{bits_below}
use Rattle.sheets.proofs.Lined.{words_none, first_mark, next_mark, next_room}
use Rattle.sheets.proofs.writing.text_of_marks.Goals as goal

pub returns-in_default-clause-value : goal.returns-in_default-clause-value
returns-in_default-clause-value c =
    let none : bits_below most_marks c.args.row.bits ≡ [] = search rules in
    c.push.ensures.ascii (omega arith) ∙ ap (λ (l : List ℕ). l ++ codes "0") c.new-text.ensures ∙ sym (words_none c.args.row.bits none)

pub loop-mark-init : goal.loop-mark-init
loop-mark-init c =
    let start : bits_below most_marks c.args.row.bits ≡ bit_of c.in-Some.first.number ∷ bits_below most_marks c.into_iter-mark-iterator.result.rest.bits = cc (c.in-Some.ensures.steps) in
    first_mark (omega (arith, c.in-Some.first.range)) start (c.add_mark.ensures ∙ ap (λ (l : List ℕ). l ++ decimal c.in-Some.first.number) c.new-text.ensures)

pub add_mark-requires-in-loop-mark : goal.add_mark-requires-in-loop-mark
add_mark-requires-in-loop-mark c =
    let n = c.in-Some-mark.mark.number in
    omega (
      arith,
      next_room c.next-in-loop-mark.new.self.rest.bits (omega arith) (omega arith) c.loop-mark.invariant c.in-Some-mark.ensures.steps,
      ap length (c.push-in-loop-mark.ensures.ascii (omega arith)),
      length-append c.loop-mark.text.bytes (codes " "),
    )

pub loop-mark-preserved : goal.loop-mark-preserved
loop-mark-preserved c =
    let written : c.add_mark-in-loop-mark.new.text.bytes ≡ (c.loop-mark.text.bytes ++ codes " ") ++ decimal c.in-Some-mark.mark.number =
    c.add_mark-in-loop-mark.ensures ∙ ap (λ (l : List ℕ). l ++ decimal c.in-Some-mark.mark.number) (c.push-in-loop-mark.ensures.ascii (omega arith))
    in
    rw written (next_mark (omega arith) c.loop-mark.invariant c.in-Some-mark.ensures.steps)
