use Rattle.std.proofs.Common.{arith, replicate}
use Rattle.marks.specs.Refusals.{number_of}
use Rattle.found.specs.Lines.{fault_text}
use Rattle.listed.proofs.Rooms.{fits, fault_short, number_small}
use Rattle.listed.proofs.printing.add_fault.Goals as goal

pub unwrap-size-requires : goal.unwrap-size-requires
unwrap-size-requires c =
    let r = c.args.refusal in
    fits (fault_text (number_of r.reason) r.first r.second) (replicate 128 0) c.fault_line.new.memory c.fault_line.result
    (omega (arith, fault_short (number_of r.reason) r.first r.second (omega (arith, number_small r.reason)) (omega arith) (omega arith))) c.fault_line.ensures.answer
