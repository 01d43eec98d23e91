use Rattle.std.proofs.Common.{◌≡◌, ◌-◌, subst, arith}
use lib.Count.{count_leading_zeros}
use Rattle.marks.specs.Numbers.{most_marks, bit_of}
use Rattle.marks.specs.Sets.{Highest}
use Rattle.marks.specs.Sizes.{leading_highest}
use Rattle.marks.proofs.sets.MarkSet.highest.Goals as goal

pub returns : goal.returns
returns c =
    let s = c.args.self.bits in
    let e : most_marks - 1 - count_leading_zeros most_marks s ≡ bit_of c.at_bit.result.number = omega (arith, c.at_bit.ensures) in
    subst (Highest s) e (leading_highest most_marks s (omega arith) (omega arith))
