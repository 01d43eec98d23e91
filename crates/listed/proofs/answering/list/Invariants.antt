use Rattle.std.proofs.Common.{◌≡◌}
use Rattle.listed.proofs.Listing.{lines_of}
use Rattle.listed.proofs.answering.list.Given as goal

abbrev pub invariant-loop-found : goal.invariant-loop-found
invariant-loop-found l = l.text.items ≡ lines_of l.found-items l.found-index
