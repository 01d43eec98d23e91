use Rattle.std.proofs.Common.{◌≡◌, subst, arith}
use lib.Count.{count_trailing_zeros}
use Rattle.marks.specs.Numbers.{most_marks, bit_of}
use Rattle.marks.specs.Sets.{Lowest}
use Rattle.marks.specs.Sizes.{trailing_lowest}
use Rattle.marks.proofs.sets.MarkSet.lowest.Goals as goal

pub returns : goal.returns
returns c =
    let s = c.args.self.bits in
    let e : count_trailing_zeros most_marks s ≡ bit_of c.at_bit.result.number = omega (arith, c.at_bit.ensures) in
    subst (Lowest s) e (trailing_lowest most_marks s (omega arith) (omega arith))
