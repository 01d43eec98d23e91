use Rattle.std.proofs.Common.{◌≡◌, List, length, get_or, Some, sym, ap, ◌∙◌, refl, inl, inr, [], ◌∷◌, arith, rules, tests}
use Rattle.std.proofs.lemmas.Bool.{cases_eq}
use Rattle.marks.specs.Kinds.{Mark}
use Rattle.marks.specs.declared.refusal.Refusal.{Refusal}
use Rattle.marks.specs.Numbers.{most_marks, InRange}
use Rattle.marks.proofs.Due.{range_due}
use Rattle.tables.specs.Chosen.{chosen}
use Rattle.tables.specs.Choosing.{chosen_all}
use Rattle.tables.proofs.Choices.{refused_empty, accepted, at_most, inside}
use Rattle.tables.proofs.Made.{made}
use Rattle.tables.proofs.layers.choice.Choice.new.Goals as goal

-- no width, and no repeat: there are no numbers
pub returns-in_default-new : goal.returns-in_default-new
returns-in_default-new c =
    let numbers = c.args.numbers.now in
    let none = sym c.in_default.ensures in
    elim (cases_eq (length numbers) 0) [
      | inl e ↦ refused_empty numbers none e ∙ ap (λ (e : Refusal). Some e) (sym c.at-in_default-new.ensures)
      | inr some ↦ absurd (range_due most_marks (length numbers) c.in_default-new.field-0 c.in_default-new.ensures
          (omega arith, at_most numbers none (sym c.in_default-first_repeat.ensures)))
    ]

one_of : (marks : List Mark) → length marks ≡ most_marks → Mark
one_of [] h = absurd (omega arith)
one_of (mark ∷ marks) h = mark

pub returns : goal.returns
returns c =
    let numbers = c.args.numbers.now in
    let none = sym c.in_default.ensures in
    let marks = c.from_fn.result in
    let items = c.from_fn.ensures.items in
    let few = at_most numbers none (sym c.in_default-first_repeat.ensures) in
    let width = c.in-Ok.ensures.1 in
    let d : Mark = one_of marks items.long in (
      accepted numbers none (λ e. omega (arith, width, c.in-Ok.width.range.0)) (sym c.in_default-first_repeat.ensures),
      ap (chosen marks) width
          ∙ chosen_all marks (length numbers) d numbers refl (omega (arith, items.long))
          (λ k h. made _ _ (λ i (mark : Mark). InRange most_marks (get_or numbers i 0) → mark.number ≡ get_or numbers i 0) (λ i x q call. search (rules, tests))
          marks 0 most_marks items.each k (omega arith) (omega arith) d (inside numbers none k h)),
    )
