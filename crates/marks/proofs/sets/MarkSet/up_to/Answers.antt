use Rattle.std.proofs.Common.{◌-◌, ◌/◌, ◌^◌, ap, ◌∙◌, arith}
use Rattle.marks.specs.Numbers.{most_marks}
use Rattle.marks.specs.Sets.{all_below}
use Rattle.marks.proofs.Masks.{all_shifted}
use Rattle.marks.proofs.sets.MarkSet.up_to.Goals as goal

pub returns : goal.returns
returns c =
    ap (λ n. all_below most_marks / 2 ^ (most_marks - n)) c.get.ensures.value
    ∙ all_shifted c.args.width.number most_marks (omega arith)
