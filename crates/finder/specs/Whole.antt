-- Whole lists: all records, and what was opened for them.
use Rattle.std.specs.Prelude.{◌≡◌, length}
use Rattle.closed.specs.Closed.{Query}
use Rattle.finder.specs.declared.whole.WholeList.{WholeList}
use Rattle.finder.specs.Found.{how_many, records, opened_at_end}
use Rattle.finder.specs.Runs.{nodes_of}

-- the records are those of the list, in its order; and opened is what End tells then, which is how many nodes the tree of the list has
pub record WholeOf (q : Query) (whole : WholeList) : Type 0 where
  pub all_records : whole.records.items ≡ records q
  pub at_end : whole.opened ≡ opened_at_end q (how_many q)
  pub all_nodes : whole.opened ≡ length (nodes_of q)
