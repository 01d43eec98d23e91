use Rattle.std.proofs.Common.{sym}
use Rattle.finder.proofs.Listing.{last_at_none}
use Rattle.finder.proofs.finder.Finder.rewind.Goals as goal

pub invariant_of-self-clause-stands : goal.invariant_of-self-clause-stands
invariant_of-self-clause-stands g c = sym (last_at_none _)
