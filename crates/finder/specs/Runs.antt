-- The law of all runs: what the transcript of the calls of a finder says, whatever calls were made. It speaks of the list and of records, and not of the finder.
use Rattle.std.specs.Prelude.{◌≡◌, ℕ, ◌+◌, ◌-◌, ◌*◌, ◌<◌, ◌≤◌, List, [], ◌∷◌, ◌++◌, map, length, take, Ok, Err, fold, Result, slice_index}
use Rattle.std.specs.List.{range_with_len, ContainsAt as Has, AllByRecursion, AllPairs}
use Rattle.marks.specs.declared.refusal.Reason.TheVariants.{ShortSlot, NothingYet}
use Rattle.marks.specs.declared.refusal.Refusal.{Refusal}
use Rattle.marks.specs.Orders.{Before}
use Rattle.marks.specs.Refusals.{unplaced}
use Rattle.tables.specs.Holding.{support_of}
use Rattle.found.specs.declared.record.Record.{Record}
use Rattle.found.specs.Records.{record_at, record_length, written}
use Rattle.closed.specs.Families.{turn_count}
use Rattle.closed.specs.Trees.{Tree, node_tree, nodes, upto_leaf, TreeLaw}
use Rattle.closed.specs.Closed.{Query, listed, the_list}
use Rattle.finder.specs.declared.step.Step.{Step}
use Rattle.finder.specs.declared.step.Step.TheVariants.{Found, End}
use Rattle.finder.specs.Found.{how_many}

-- One call and its answer. Of next and look: what the slot held, the answer, and what the slot then holds.
pub data Entry : Type 0 where
  next : List ℕ → Result Step Refusal → List ℕ → Entry
  look : List ℕ → Result (Unit {0}) Refusal → List ℕ → Entry
  rewind : Entry

-- the records that were handed out, after one call more: a set that next found joins them, and rewind forgets them
abbrev pub handed : List Record → Entry → List Record
handed out (next before (Ok Found) after) = out ++ record_at after 0 ∷ []
handed out (next before (Ok (End ordinal opened)) after) = out
handed out (next before (Err refusal) after) = out
handed out (look before answer after) = out
handed out rewind = []

-- the records that next handed out since begin or the last rewind
abbrev pub handed_out : List Entry → List Record
handed_out entries = fold handed [] entries

-- every record that next or look showed
abbrev pub shown_by : Entry → List Record
shown_by (next before (Ok Found) after) = record_at after 0 ∷ []
shown_by (next before (Ok (End ordinal opened)) after) = []
shown_by (next before (Err refusal) after) = []
shown_by (look before (Ok done) after) = record_at after 0 ∷ []
shown_by (look before (Err refusal) after) = []
shown_by rewind = []

abbrev pub shown : List Entry → List Record
shown [] = []
shown (e ∷ entries) = shown_by e ++ shown entries

-- ---- the list

-- the records show the first sets of the list, each once, in list order, with their supports and with their places as ordinals
pub record FirstSets (q : Query) (out : List Record) : Type 0 where
  pub sets : map (λ r. r.set.bits) out ≡ take (length out) (the_list q)
  pub once_in_order : AllPairs Before (map (λ r. r.set.bits) out)
  pub supports : AllByRecursion (λ r. r.support ≡ support_of q.table r.set.bits) out
  pub ordinals : map (λ r. r.ordinal) out ≡ range_with_len 1 (length out)

-- a record of ordinal k shows the k-th set of the list
pub record ShowsItsPlace (q : Query) (r : Record) : Type 0 where
  pub counted : 1 ≤ r.ordinal
  pub within : r.ordinal ≤ how_many q
  pub set_is : r.set.bits ≡ slice_index (the_list q) (r.ordinal - 1)
  pub support_is : r.support ≡ support_of q.table r.set.bits

-- What next tells once these records are handed out: a short slot is refused, also where the list is out; with a long enough slot it finds a set if the list has more, and answers
-- End exactly when the whole list is out. Bytes past the record are as they were, and all of them where no record comes.
pub record NextTells (q : Query) (out : List Record) (before : List ℕ) (answer : Result Step Refusal) (after : List ℕ) : Type 0 where
  pub short : length before < record_length → (answer ≡ Err (unplaced ShortSlot)) × (after ≡ before)
  pub more : record_length ≤ length before → length out < how_many q → (answer ≡ Ok Found) × (after ≡ written (record_at after 0) before)
  pub ended : record_length ≤ length before → length out ≡ how_many q → ((ordinal : ℕ) × (opened : ℕ) × (answer ≡ Ok (End ordinal opened))) × (after ≡ before)

-- What look tells: a short slot is refused, then that nothing was handed out; else it repeats the last record.
pub record LookTells (out : List Record) (before : List ℕ) (answer : Result (Unit {0}) Refusal) (after : List ℕ) : Type 0 where
  pub short : length before < record_length → (answer ≡ Err (unplaced ShortSlot)) × (after ≡ before)
  pub nothing : record_length ≤ length before → out ≡ [] → (answer ≡ Err (unplaced NothingYet)) × (after ≡ before)
  pub again : record_length ≤ length before → (earlier : List Record) (last : Record) → out ≡ earlier ++ last ∷ [] → (answer ≡ Ok tt) × (after ≡ written last before)

abbrev pub Tells : Query → List Record → Entry → Type 0
Tells q out (next before answer after) = NextTells q out before answer after
Tells q out (look before answer after) = LookTells out before answer after
Tells q out rewind = Unit {0}

-- At every moment the records handed out are the first of the list; what each call tells is right; and every record that is shown shows the set of its ordinal.
pub record ListPart (q : Query) (entries : List Entry) : Type 0 where
  pub first : (past future : List Entry) → entries ≡ past ++ future → FirstSets q (handed_out past)
  pub told : (past : List Entry) (e : Entry) (future : List Entry) → entries ≡ past ++ e ∷ future → Tells q (handed_out past) e
  pub by_ordinal : (r : Record) → Has (shown entries) r → ShowsItsPlace q r

-- ---- the count

-- the nodes of the list's tree, in the order in which they are opened
abbrev pub nodes_of : Query → List Tree
nodes_of q = nodes (node_tree (listed q) q.table.width)

-- what the tree says of the list: its leaves, how many nodes there are up to each and in all, and that no node below another is a dead end
abbrev pub ListTree : Query → Type 0
ListTree q = TreeLaw (listed q) q.table.width

-- End carries the numbers of the last record again, or 0 and 1 where there is none; and all nodes are then opened
pub record EndTells (q : Query) (out : List Record) (ordinal opened : ℕ) : Type 0 where
  pub none : out ≡ [] → (ordinal ≡ 0) × (opened ≡ 1)
  pub again : (earlier : List Record) (last : Record) → out ≡ earlier ++ last ∷ [] → (ordinal ≡ last.ordinal) × (opened ≡ last.opened)
  pub all : opened ≡ length (nodes_of q)

-- Every record that is shown has opened = 2 × ordinal - 1 + d, d being the number of marks of its set at which another listed set turns aside; that is how many nodes of
-- the tree there are up to and including its leaf.
pub record CountPart (q : Query) (entries : List Entry) : Type 0 where
  pub formula : (r : Record) → Has (shown entries) r → r.opened + 1 ≡ 2 * r.ordinal + turn_count (listed q) q.table.width r.set.bits
  pub counts : (r : Record) → Has (shown entries) r → r.opened ≡ upto_leaf (nodes_of q) (r.ordinal - 1)
  pub ends : (past : List Entry) (before : List ℕ) (ordinal opened : ℕ) (after : List ℕ) (future : List Entry)
      → entries ≡ past ++ next before (Ok (End ordinal opened)) after ∷ future → EndTells q (handed_out past) ordinal opened

-- ---- the bound

-- in a record of ordinal 1 opened is at most n + 1, and from each ordinal to the next it grows by at most n
pub record BoundPart (q : Query) (entries : List Entry) : Type 0 where
  pub at_first : (r : Record) → Has (shown entries) r → r.ordinal ≡ 1 → r.opened ≤ q.table.width + 1
  pub grows : (r s : Record) → Has (shown entries) r → Has (shown entries) s → s.ordinal ≡ r.ordinal + 1 → s.opened ≤ r.opened + q.table.width

-- ---- the law

pub record Lawful (q : Query) (entries : List Entry) : Type 0 where
  pub list : ListPart q entries
  pub count : CountPart q entries
  pub bound : BoundPart q entries
