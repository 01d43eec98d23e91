use Rattle.std.proofs.Common.{◌≡◌, None, [], ◌∷◌, refl}
use Rattle.marks.proofs.Due.{not_due}
use Rattle.tables.specs.Layers.{choice_refusal}
use Rattle.worked.proofs.lists.list.Goals as goal

-- the choice is accepted
accepted : choice_refusal (4 ∷ 2 ∷ []) ≡ None
unfolding choice_refusal
accepted = refl

pub unwrap-requires-in-InSelection : goal.unwrap-requires-in-InSelection
unwrap-requires-in-InSelection c = not_due _ _ c.new-in-InSelection.result accepted c.new-in-InSelection.ensures
