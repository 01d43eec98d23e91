-- The worked answers, computed.
use Rattle.std.proofs.Math.Path.{refl}
use Rattle.std.specs.Int.Count.{ones}
use Rattle.marks.specs.Sets.{has, picked}
use Rattle.tables.specs.Holding.{support_of, closure_of}
use Rattle.tables.specs.Layers.{windowed, selected}
use Rattle.limits.specs.Limits.{weight_below}
use Rattle.closed.specs.Closed.{narrow_refusal, narrow_in, narrow_out}
use Rattle.closed.specs.Families.{subsets, turns}
use Rattle.closed.specs.Trees.{node_tree}
use Rattle.finder.specs.Found.{records}
use Rattle.worked.specs.declared.lists.Listing.{Listing}
use Rattle.worked.specs.declared.lists.Listing.TheVariants.{HeldTwice, HeldOnce, HeldSixTimes, TwoMarks, OneMark, Light, InWindow, InSelection}
use Rattle.worked.specs.declared.nodes.Narrowing.{Narrowing}
use Rattle.worked.specs.declared.nodes.Narrowing.TheVariants.{WithoutOne, WithFour, WithFourWithoutTwo}
use Rattle.worked.specs.Sample.{query_for, answer, opened, ins, outs, narrowed, Lists, Narrows, Worked}

lists : (l : Listing) → Lists (query_for l) (answer l) (opened l)
unfolding has picked ones support_of closure_of windowed selected weight_below subsets turns node_tree records
lists HeldTwice = record { sets = refl; all_records = refl; at_end = refl; nodes_up_to_each = refl; all_nodes = refl }
lists HeldOnce = record { sets = refl; all_records = refl; at_end = refl; nodes_up_to_each = refl; all_nodes = refl }
lists HeldSixTimes = record { sets = refl; all_records = refl; at_end = refl; nodes_up_to_each = refl; all_nodes = refl }
lists TwoMarks = record { sets = refl; all_records = refl; at_end = refl; nodes_up_to_each = refl; all_nodes = refl }
lists OneMark = record { sets = refl; all_records = refl; at_end = refl; nodes_up_to_each = refl; all_nodes = refl }
lists Light = record { sets = refl; all_records = refl; at_end = refl; nodes_up_to_each = refl; all_nodes = refl }
lists InWindow = record { sets = refl; all_records = refl; at_end = refl; nodes_up_to_each = refl; all_nodes = refl }
lists InSelection = record { sets = refl; all_records = refl; at_end = refl; nodes_up_to_each = refl; all_nodes = refl }

nodes : (n : Narrowing) → Narrows (query_for HeldTwice) (ins n) (outs n) (narrowed n)
unfolding has picked ones support_of closure_of subsets narrow_refusal narrow_in narrow_out
nodes WithoutOne = (refl, refl)
nodes WithFour = (refl, refl)
nodes WithFourWithoutTwo = refl

pub worked : Worked
worked = record { lists = lists; nodes = nodes }
