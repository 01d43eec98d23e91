use Rattle.std.proofs.Common.{◌≡◌, ◌++◌, codes, decimal, arith}
use Rattle.found.proofs.Marked.{at_start, next_mark}
use Rattle.found.proofs.lines.line.Goals as goal

pub loop-mark-init : goal.loop-mark-init
loop-mark-init c =
    let set : c.into_iter-mark-iterator.result.rest.bits ≡ c.args.set.bits = cc in
    rw (set, c.new-text.ensures) (at_start c.args.set.bits)

pub loop-mark-preserved : goal.loop-mark-preserved
loop-mark-preserved c =
    let written : c.push_str.new.self.bytes ≡ (c.loop-mark.text.bytes ++ decimal c.in-Some.mark.number) ++ codes " " = cc in
    rw written (next_mark (omega arith) c.loop-mark.invariant c.in-Some.ensures.steps)
