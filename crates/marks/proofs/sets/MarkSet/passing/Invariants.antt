use Rattle.std.proofs.Common.{◌≡◌, ◌+◌, ◌-◌, length}
use Rattle.std.specs.List.{range_with_len}
use Rattle.marks.proofs.Counting.{left}
use Rattle.marks.proofs.Gathering.{Asked}
use Rattle.marks.proofs.sets.MarkSet.passing.Given as goal

abbrev pub invariant-loop-mark : goal.invariant-loop-mark
invariant-loop-mark g l =
    (left l.fn.width.number (length l.yielded) ≡ range_with_len (l.mark-iterator.passed + 1) (l.mark-iterator.width.number - l.mark-iterator.passed))
    × Asked (goal.F-post g l.test) l.fn.width.number (length l.yielded) l.passed.bits
