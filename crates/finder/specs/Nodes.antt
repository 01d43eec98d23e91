-- Nodes, and what a node is narrowed to.
use Rattle.std.specs.Prelude.{ℕ, Bool}
use Rattle.tables.specs.declared.holding.Holding.{Holding}
use Rattle.tables.specs.Holding.{support_of}
use Rattle.closed.specs.Closed.{Query, closure_passes, narrow_in, narrow_out}
use Rattle.finder.specs.declared.narrowing.Node.{Node}

-- the node with i put in and o put out, narrowed: the marks of all listed sets that fit, the marks of none, and how many charges hold the first
abbrev pub node_of : Query → ℕ → ℕ → Node
node_of q i o = record { ins = record { bits = narrow_in q i o }; outs = record { bits = narrow_out q i o }; support = support_of q.table (narrow_in q i o) }

-- the closure of a set of which this is known is wanted, and has no mark of o
abbrev pub holding_passes : Query → ℕ → Holding → Bool
holding_passes q o holding = closure_passes q.allowed q.least o holding.support holding.closure.bits
