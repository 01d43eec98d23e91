use Rattle.std.proofs.Common.{arith, replicate}
use Rattle.found.specs.Lines.{line_text}
use Rattle.listed.proofs.Rooms.{fits, line_short}
use Rattle.listed.proofs.printing.add_set.Goals as goal

pub unwrap-size-requires : goal.unwrap-size-requires
unwrap-size-requires c =
    let r = c.args.found.now in
    fits (line_text r.set.bits r.support) (replicate 128 0) c.line.new.memory c.line.result (omega (arith, line_short r.set.bits r.support (omega arith))) c.line.ensures.answer
