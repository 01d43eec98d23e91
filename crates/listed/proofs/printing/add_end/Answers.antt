use Rattle.std.proofs.Common.{arith, replicate}
use Rattle.found.specs.Lines.{end_text}
use Rattle.listed.proofs.Rooms.{fits, end_short}
use Rattle.listed.proofs.printing.add_end.Goals as goal

pub unwrap-size-requires : goal.unwrap-size-requires
unwrap-size-requires c =
    fits (end_text c.args.sets c.args.opened) (replicate 128 0) c.end_line.new.memory c.end_line.result (omega (arith, end_short c.args.sets c.args.opened (omega arith) (omega arith))) c.end_line.ensures.answer
