use Rattle.std.proofs.Common.{ap, ◌∙◌}
use Rattle.marks.specs.Sets.{has}
use Rattle.marks.specs.Members.{has_shifted}
use Rattle.marks.proofs.Membership.{membership}
use Rattle.marks.proofs.sets.MarkSet.holds.Goals as goal

pub returns : goal.returns
returns c =
    record {
      value = has_shifted c.args.self.bits c.place.result ∙ ap (has c.args.self.bits) c.place.ensures.value;
      laws = membership;
    }
