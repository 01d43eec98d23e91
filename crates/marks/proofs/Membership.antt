-- The laws of sets that a contract names, together.
use Rattle.marks.specs.Sets.{Membership}
use Rattle.marks.proofs.Enumerated.{length_bits}
use Rattle.marks.specs.Members.{has_none, has_only, has_all_below, has_or, has_and, has_xor}
use Rattle.marks.specs.Parts.{has_minus, same_members, part_decides}
use Rattle.marks.proofs.Picks.{has_picked}
use Rattle.marks.specs.Sizes.{one_lowest, one_highest}

pub membership : Membership
membership = record {
  of_none = has_none;
  of_only = has_only;
  of_all_below = has_all_below;
  of_either = has_or;
  of_both = has_and;
  of_differing = has_xor;
  of_picked = has_picked;
  of_minus = has_minus;
  same = same_members;
  part = part_decides;
  sized = length_bits;
  lowest_one = one_lowest;
  highest_one = one_highest;
}
