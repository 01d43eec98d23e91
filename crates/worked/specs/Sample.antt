-- The sample, five charges over five marks, with what is asked of it and the answers.
use Rattle.std.specs.Prelude.{◌≡◌, ℕ, Bool, List, [], ◌∷◌, map, length, Ok, Err, Result}
use Rattle.std.specs.List.{range_with_len}
use Rattle.marks.specs.declared.refusal.Reason.TheVariants.{DeadEnd}
use Rattle.marks.specs.declared.refusal.Refusal.{Refusal}
use Rattle.marks.specs.Numbers.{bit_of}
use Rattle.marks.specs.Refusals.{unplaced, Answers}
use Rattle.marks.specs.Sets.{no_marks, with_bit}
use Rattle.tables.specs.Meaning.{Meaning}
use Rattle.tables.specs.Layers.{windowed, selected}
use Rattle.limits.specs.Limits.{small, light}
use Rattle.found.specs.declared.record.Record.{Record}
use Rattle.closed.specs.Closed.{Query, query, the_list, narrow_refusal}
use Rattle.closed.specs.Trees.{upto_leaf}
use Rattle.finder.specs.declared.narrowing.Node.{Node}
use Rattle.finder.specs.Found.{how_many, records, opened_at_end}
use Rattle.finder.specs.Nodes.{node_of}
use Rattle.finder.specs.Runs.{nodes_of}
use Rattle.worked.specs.declared.lists.Listing.{Listing}
use Rattle.worked.specs.declared.lists.Listing.TheVariants.{HeldTwice, HeldOnce, HeldSixTimes, TwoMarks, OneMark, Light, InWindow, InSelection}
use Rattle.worked.specs.declared.nodes.Narrowing.{Narrowing}
use Rattle.worked.specs.declared.nodes.Narrowing.TheVariants.{WithoutOne, WithFour, WithFourWithoutTwo}

-- the set of the marks of these numbers
abbrev pub set_of : List ℕ → ℕ
set_of [] = no_marks
set_of (mark ∷ marks) = with_bit (set_of marks) (bit_of mark)

-- the charges 1 2 4, 1 2, 2 3, 1 2 4 and 3 5
abbrev pub sample : Meaning
sample = record {
  width = 5;
  rows = set_of (1 ∷ 2 ∷ 4 ∷ []) ∷ set_of (1 ∷ 2 ∷ []) ∷ set_of (2 ∷ 3 ∷ []) ∷ set_of (1 ∷ 2 ∷ 4 ∷ []) ∷ set_of (3 ∷ 5 ∷ []) ∷ [];
}

-- ---- lists

-- of any size: no set of the sample has more marks
abbrev pub any_size : ℕ → Bool
any_size = small 5

-- mark 1 weighs 3 and mark 2 weighs 4; the others weigh nothing
abbrev pub weights : List ℕ
weights =
    3 ∷ 4 ∷ 0 ∷ 0 ∷ 0 ∷ 0 ∷ 0 ∷ 0 ∷ 0 ∷ 0 ∷ 0 ∷ 0 ∷ 0 ∷ 0 ∷ 0 ∷ 0 ∷ 0 ∷ 0 ∷ 0 ∷ 0 ∷ 0 ∷ 0 ∷ 0 ∷ 0 ∷ 0 ∷ 0 ∷ 0 ∷ 0 ∷ 0 ∷ 0 ∷ 0 ∷ 0 ∷ []

-- what is asked: which table, which limit, and the least support
abbrev pub query_for : Listing → Query
query_for HeldTwice = query sample any_size 2
query_for HeldOnce = query sample any_size 1
query_for HeldSixTimes = query sample any_size 6
query_for TwoMarks = query sample (small 2) 2
query_for OneMark = query sample (small 1) 2
query_for Light = query sample (light weights 6) 2
query_for InWindow = query (windowed 2 3 sample) any_size 2
query_for InSelection = query (selected (4 ∷ 2 ∷ []) sample) any_size 2

-- a record: its ordinal, the marks of its set, their support, and how many nodes are opened up to it
abbrev pub recorded : ℕ → List ℕ → ℕ → ℕ → Record
recorded ordinal marks support opened = record { set = record { bits = set_of marks }; support = support; ordinal = ordinal; opened = opened }

abbrev pub single_marks : List Record
single_marks = recorded 1 (2 ∷ []) 4 2 ∷ recorded 2 (3 ∷ []) 2 4 ∷ recorded 3 [] 5 5 ∷ []

-- the answer: the records of the list
abbrev pub answer : Listing → List Record
answer HeldTwice = recorded 1 (1 ∷ 2 ∷ 4 ∷ []) 2 3 ∷ recorded 2 (1 ∷ 2 ∷ []) 3 4 ∷ recorded 3 (2 ∷ []) 4 6 ∷ recorded 4 (3 ∷ []) 2 8 ∷ recorded 5 [] 5 9 ∷ []
answer HeldOnce =
    recorded 1 (1 ∷ 2 ∷ 4 ∷ []) 2 3 ∷ recorded 2 (1 ∷ 2 ∷ []) 3 4 ∷ recorded 3 (2 ∷ 3 ∷ []) 1 7 ∷ recorded 4 (2 ∷ []) 4 8
    ∷ recorded 5 (3 ∷ 5 ∷ []) 1 11 ∷ recorded 6 (3 ∷ []) 2 12 ∷ recorded 7 [] 5 13 ∷ []
answer HeldSixTimes = []
answer TwoMarks = recorded 1 (1 ∷ 2 ∷ []) 3 2 ∷ recorded 2 (2 ∷ []) 4 4 ∷ recorded 3 (3 ∷ []) 2 6 ∷ recorded 4 [] 5 7 ∷ []
answer OneMark = single_marks
answer Light = single_marks
answer InWindow = recorded 1 (1 ∷ 2 ∷ []) 2 2 ∷ recorded 2 (2 ∷ []) 3 3 ∷ []
answer InSelection = recorded 1 (1 ∷ 2 ∷ []) 2 2 ∷ recorded 2 (2 ∷ []) 4 4 ∷ recorded 3 [] 5 5 ∷ []

-- and how many nodes are opened at End
abbrev pub opened : Listing → ℕ
opened HeldTwice = 9
opened HeldOnce = 13
opened HeldSixTimes = 1
opened TwoMarks = 7
opened OneMark = 5
opened Light = 5
opened InWindow = 3
opened InSelection = 5

-- What is listed: these sets, with these records, and so many nodes are opened at End. The nodes are counted in the tree too, up to the leaf of each set and in all.
pub record Lists (q : Query) (these : List Record) (opened : ℕ) : Type 0 where
  pub sets : the_list q ≡ map (λ r. r.set.bits) these
  pub all_records : records q ≡ these
  pub at_end : opened_at_end q (how_many q) ≡ opened
  pub nodes_up_to_each : map (upto_leaf (nodes_of q)) (range_with_len 0 (length these)) ≡ map (λ r. r.opened) these
  pub all_nodes : length (nodes_of q) ≡ opened

-- ---- nodes

-- which marks are put in, and which are put out
abbrev pub ins : Narrowing → ℕ
ins WithoutOne = set_of []
ins WithFour = set_of (4 ∷ [])
ins WithFourWithoutTwo = set_of (4 ∷ [])

abbrev pub outs : Narrowing → ℕ
outs WithoutOne = set_of (1 ∷ [])
outs WithFour = set_of []
outs WithFourWithoutTwo = set_of (2 ∷ [])

-- a node, narrowed: the marks that are put in, those that are put out, and the support of the first
abbrev pub node : List ℕ → List ℕ → ℕ → Node
node ins outs support = record { ins = record { bits = set_of ins }; outs = record { bits = set_of outs }; support = support }

-- the answer, where the sets that at least two charges hold are listed
abbrev pub narrowed : Narrowing → Result Node Refusal
narrowed WithoutOne = Ok (node [] (1 ∷ 4 ∷ 5 ∷ []) 5)
narrowed WithFour = Ok (node (1 ∷ 2 ∷ 4 ∷ []) (3 ∷ 5 ∷ []) 2)
narrowed WithFourWithoutTwo = Err (unplaced DeadEnd)

-- narrowing the node with i put in and o put out is answered so
abbrev pub Narrows : Query → ℕ → ℕ → Result Node Refusal → Type 0
Narrows q i o result = Answers (narrow_refusal q i o) (λ node. node ≡ node_of q i o) result

-- The table of the worked answers: each is what the definitions give of which the contracts of the finder and of narrowing speak.
pub record Worked : Type 0 where
  pub lists : (l : Listing) → Lists (query_for l) (answer l) (opened l)
  pub nodes : (n : Narrowing) → Narrows (query_for HeldTwice) (ins n) (outs n) (narrowed n)
