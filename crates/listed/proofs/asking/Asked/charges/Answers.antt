use Rattle.std.proofs.Common.{◌≡◌, ℕ, ◌-◌, ◌*◌, take, ap, ◌∙◌, arith}
use Rattle.marks.proofs.Due.{not_due}
use Rattle.tables.specs.Packed.{row_bytes, packed_refusal}
use Rattle.listed.proofs.asking.Asked.charges.Goals as goal

pub unwrap-requires : goal.unwrap-requires
unwrap-requires c =
    let size : row_bytes * c.args.self.count - 0 ≡ row_bytes * c.args.self.count = omega arith in
    not_due _ _ c.new.result (ap (λ (k : ℕ). packed_refusal (take k c.args.memory.now) c.args.self.order.width.number) size ∙ c.requires.accepted) c.new.ensures
