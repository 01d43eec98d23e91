use Rattle.std.proofs.Common.{◌≡◌, None, refl, ap, ◌∙◌}
use Rattle.marks.proofs.Due.{not_due}
use Rattle.tables.specs.Packed.{packed_refusal}
use Rattle.worked.specs.declared.charges.TheConstants.{CHARGES}
use Rattle.worked.proofs.charges.sample.Goals as goal

-- the sample is accepted
accepted : packed_refusal CHARGES 5 ≡ None
unfolding packed_refusal
accepted = refl

pub unwrap-requires : goal.unwrap-requires
unwrap-requires c =
    let five = (rw c.unwrap-width.ensures at c.new.ensures).1 in
    not_due _ _ c.new-2.result (ap (packed_refusal CHARGES) five ∙ accepted) c.new-2.ensures
