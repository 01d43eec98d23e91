-- How the finder opens nodes on the way from a set to the next.
use Rattle.std.specs.Prelude.{◌≡◌, ℕ, ◌+◌, ◌-◌, ◌^◌, ◌<◌, ◌≤◌, min, ◌⊎◌, Some, None, Option}
use Rattle.marks.specs.declared.refusal.Refusal.{Refusal}
use Rattle.marks.specs.Sets.{no_marks, without_bit, size_of, Highest}
use Rattle.tables.specs.Holding.{support_of}
use Rattle.closed.specs.Families.{part_in}
use Rattle.closed.specs.Walks.{Tight, Reached, Opened, Descended, At, aside_out}
use Rattle.closed.specs.Closed.{Query, listed, narrow_refusal}
use Rattle.finder.specs.declared.finder.descent.Leaf.{Leaf}
use Rattle.finder.specs.declared.finder.descent.Start.{Start}
use Rattle.finder.specs.declared.narrowing.Node.{Node}
use Rattle.finder.specs.Found.{how_many, opened_at_end}
use Rattle.finder.specs.Nodes.{node_of}

-- a node, unless narrowing it is refused
abbrev pub unless : Option Refusal → Node → Option Node
unless None node = Some node
unless (Some refusal) node = None

-- the node that is opened with i put in and o put out
abbrev pub opened_node : Query → ℕ → ℕ → Option Node
opened_node q i o = unless (narrow_refusal q i o) (node_of q i o)

-- a node to start from, with these turns
abbrev pub start_of : Option Node → ℕ → Option Start
start_of None turns = None
start_of (Some node) turns = Some (record { node = node; turns = record { bits = turns } })

-- one node more; the count stops at the greatest number of 64 bits, which no list reaches
abbrev pub one_more : ℕ → ℕ
one_more opened = min (opened + 1) (2 ^ 64 - 1)

-- a node that some listed set fits, narrowed, with the support of the marks that are put in
pub record Ready (q : Query) (node : Node) : Type 0 where
  pub tight : Tight (listed q) q.table.width node.ins.bits node.outs.bits
  pub ins_below : node.ins.bits < 2 ^ q.table.width
  pub outs_below : node.outs.bits < 2 ^ q.table.width
  pub support_is : node.support ≡ support_of q.table node.ins.bits

-- A descent for the k-th set may begin at the node with these turns, where so many nodes are opened and the marks below b are decided.
pub record Begun (q : Query) (k b : ℕ) (start : Start) (opened : ℕ) : Type 0 where
  pub reached : Reached (listed q) q.table.width b start.node.ins.bits start.node.outs.bits start.turns.bits
  pub counted : Opened k (size_of start.turns.bits) opened
  pub few : k ≤ 2 ^ 33

-- What the descent finds: the first set that fits the node, its support, its turns, and how many nodes are then opened.
pub record Landed (q : Query) (start : Start) (opened : ℕ) (leaf : Leaf) (opened' : ℕ) : Type 0 where
  pub support_is : leaf.support ≡ support_of q.table leaf.set.bits
  pub found : (k b : ℕ) → Begun q k b start opened
      → Descended (listed q) q.table.width k opened b start.node.ins.bits start.node.outs.bits leaf.set.bits leaf.turns.bits opened'

-- What is opened to turn aside from the set x with these turns: nothing where there are none, and else the node at the highest of them, with that mark put out.
abbrev pub TurnedAside : Query → ℕ → ℕ → ℕ → Option Start → ℕ → Type 0
TurnedAside q x turns opened start opened' =
    ((turns ≡ no_marks) × (start ≡ None) × (opened' ≡ opened))
    ⊎ ((b : ℕ) × Highest turns b × (start ≡ start_of (opened_node q (part_in x b) (aside_out x b)) (without_bit turns b)) × (opened' ≡ one_more opened))

-- What is opened to go on from the k-th set: no node that a set fits, and then the list is out and so many nodes are opened; or a node from which a descent for the next set may begin, and
-- what such a descent finds is the next set.
abbrev pub Turned : Query → ℕ → Option Start → ℕ → Type 0
Turned q k None opened = (k ≡ how_many q) × (opened ≡ opened_at_end q k)
Turned q k (Some start) opened =
    (b : ℕ) × Begun q (k + 1) b start opened
    × ((x t c : ℕ) → Descended (listed q) q.table.width (k + 1) opened b start.node.ins.bits start.node.outs.bits x t c → At (listed q) q.table.width (k + 1) x t c)
