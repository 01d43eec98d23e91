use Rattle.std.proofs.Common.{◌≡◌, ◌∙◌, ap, arith, w32}
use Rattle.std.specs.Int.{to_le_bytes}
use Rattle.marks.specs.Bytes.{four_bytes, eight_bytes}
use Rattle.found.specs.Records.{record_bytes, record_at}
use Rattle.found.proofs.Laying.{record_back}
use Rattle.found.proofs.record.Record.to_bytes.Goals as goal

pub returns-clause-value : goal.returns-clause-value
unfolding record_bytes
returns-clause-value c =
    let set : c.copy_from_slice.new.self ≡ four_bytes c.args.self.set.bits = c.copy_from_slice.ensures.after ∙ c.to_le_bytes.ensures ∙ ap (to_le_bytes w32) c.bits.ensures in
    let support : c.copy_from_slice-2.new.self ≡ four_bytes c.args.self.support = c.copy_from_slice-2.ensures.after ∙ c.to_le_bytes-2.ensures in
    let ordinal : c.copy_from_slice-3.new.self ≡ eight_bytes c.args.self.ordinal = c.copy_from_slice-3.ensures.after ∙ c.to_le_bytes-3.ensures in
    let opened : c.copy_from_slice-4.new.self ≡ eight_bytes c.args.self.opened = c.copy_from_slice-4.ensures.after ∙ c.to_le_bytes-4.ensures in
    rw (set, support, ordinal, opened)

pub returns-clause-back : goal.returns-clause-back
returns-clause-back c = ap (λ l. record_at l 0) (returns-clause-value c) ∙ record_back c.args.self (omega arith) (omega arith) (omega arith) (omega arith)
