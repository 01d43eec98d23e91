-- The records of a list: which they are, that their bytes tell them, and what their numbers say of the list and of its tree.
use Rattle.std.proofs.Common.{◌≡◌, ℕ, zero, suc, ◌+◌, ◌-◌, ◌*◌, ◌^◌, ◌<◌, ◌≤◌, false, eqb, List, [], ◌∷◌, ◌++◌, length, get_or, drop, Some, None, sym, refl, ap, ◌∙◌, subst, add-one, arith, pow_mono}
use Rattle.std.proofs.lemmas.List.FromFn.{length-map-range_with_len, get_or-map-range_with_len}
use Rattle.std.proofs.lemmas.List.Sums.{length-filter, count_by-le-length}
use Rattle.std.proofs.lemmas.Bool.{ne_eqb, cond-false}
use Rattle.tables.specs.Meaning.{Proper}
use Rattle.tables.specs.Holding.{support_of}
use Rattle.found.specs.declared.record.Record.{Record}
use Rattle.found.specs.Records.{record_bytes, record_at, written, no_record}
use Rattle.found.proofs.Laying.{record_back}
use Rattle.closed.specs.Closed.{Query, listed, the_list}
use Rattle.closed.specs.Families.{Listed, subsets, turn_count}
use Rattle.closed.specs.Trees.{Tree, dead_end, leaf, fork, nodes, upto_leaf}
use Rattle.closed.proofs.Ordered.{length_subsets, place_listed}
use Rattle.closed.proofs.Stepping.{small_below}
use Rattle.closed.proofs.Growing.{tree_law}
use Rattle.closed.proofs.Bounding.{turn_count_bound, turn_count_next, entries_follow}
use Rattle.finder.specs.Found.{how_many, record_of, records, kth_record, last_of, last_at_place, opened_at_end}
use Rattle.finder.specs.declared.finder.Last.{Last}
use Rattle.finder.specs.Runs.{ShowsItsPlace, nodes_of}
use Rattle.tables.proofs.Passing.{support_few}

-- one more is not 0
more_is_some : (k : ℕ) → eqb (k + 1) 0 ≡ false
more_is_some k = ne_eqb (k + 1) 0 (λ e. omega arith)

-- the bytes of a record tell it, whatever comes after them
bytes_first : (r : Record) (rest : List ℕ) → record_at (record_bytes r ++ rest) 0 ≡ record_at (record_bytes r) 0
unfolding record_bytes record_at
bytes_first r rest = refl

-- up to a leaf there are no more nodes than there are
upto_few : (ts : List Tree) (k : ℕ) → upto_leaf ts k ≤ length ts
upto_few [] k = omega arith
upto_few (dead_end ∷ ts) k = omega (arith, upto_few ts k)
upto_few (leaf i o ∷ ts) zero = omega arith
upto_few (leaf i o ∷ ts) (suc k) = omega (arith, upto_few ts k)
upto_few (fork i o f l r ∷ ts) k = omega (arith, upto_few ts k)

module _ (q : Query) where
  -- the set at k, which counts from 0
  abbrev pub set_at : ℕ → ℕ
  set_at k = get_or (the_list q) k 0

  -- and its record
  abbrev pub found_at : ℕ → Record
  found_at k = record_of q (k + 1) (set_at k)

  -- ---- which the records are

  pub length_records : length (records q) ≡ how_many q
  unfolding records
  length_records = length-map-range_with_len found_at 0 (how_many q)

  pub get_or_records : (k : ℕ) → k < how_many q → get_or (records q) k no_record ≡ record_of q (k + 1) (get_or (the_list q) k 0)
  unfolding records
  get_or_records k h = get_or-map-range_with_len found_at 0 (how_many q) k k no_record h (omega arith)

  pub kth_more : (k : ℕ) → k < how_many q → kth_record q (k + 1) ≡ record_of q (k + 1) (get_or (the_list q) k 0)
  kth_more k h = let e : k + 1 - 1 ≡ k = omega arith in ap (λ j. get_or (records q) j no_record) e ∙ get_or_records k h

  pub last_at_none : last_at_place q 0 ≡ None
  unfolding last_at_place
  last_at_none = refl

  pub last_at_more : (k : ℕ) → k < how_many q → last_at_place q (k + 1) ≡ Some (last_of q (record_of q (k + 1) (get_or (the_list q) k 0)))
  unfolding last_at_place
  last_at_more k h = cond-false (eqb (k + 1) 0) None (Some (last_of q (kth_record q (k + 1)))) (more_is_some k) ∙ ap (λ r. Some (last_of q r)) (kth_more k h)

  -- where a set is remembered, one came
  pub last_at_some : (k : ℕ) (last : Last) → last_at_place q k ≡ Some last → (1 ≤ k) × (last ≡ last_of q (kth_record q k))
  unfolding last_at_place
  last_at_some zero last e = absurd (let z : ◌≡◌ {A = ℕ} 0 1 = cc in omega arith)
  last_at_some (suc k) last e =
      let some : Some (last_of q (kth_record q (suc k))) ≡ Some last =
      sym (cond-false (eqb (suc k) 0) None (Some (last_of q (kth_record q (suc k)))) (ne_eqb (suc k) 0 (λ z. omega arith))) ∙ e in
      (omega arith, cc)

  -- and its record is the one of that place
  pub last_shows : (k : ℕ) (last : Last) → Some last ≡ last_at_place q k → last.found ≡ kth_record q k
  last_shows k last e = ap (λ l. l.found) (last_at_some k last (sym e)).1

  -- ---- their numbers fit

  pub set_listed : (k : ℕ) → k < how_many q → Listed (listed q) q.table.width (get_or (the_list q) k 0)
  set_listed k h = place_listed (listed q) q.table.width k h

  pub turns_few : (k : ℕ) → turn_count (listed q) q.table.width (get_or (the_list q) k 0) ≤ q.table.width
  turns_few k = turn_count_bound (listed q) q.table.width (set_at k)

  module _ (proper : Proper q.table) where
    pub how_many_few : how_many q ≤ 2 ^ 32
    how_many_few =
        omega (
          arith,
          length-filter (listed q) (subsets q.table.width),
          count_by-le-length (listed q) (subsets q.table.width),
          length_subsets q.table.width,
          (let m : 2 ^ q.table.width ≤ 2 ^ 32 = pow_mono proper.wide.1 in m),
        )

    pub set_fits : (k : ℕ) → k < how_many q → get_or (the_list q) k 0 < 2 ^ 32
    set_fits k h = small_below q.table.width (set_at k) proper.wide.1 (set_listed k h).below

    pub support_fits : (x : ℕ) → support_of q.table x < 2 ^ 32
    support_fits x = omega (arith, support_few q.table x, proper.few)

    pub ordinal_fits : (k : ℕ) → k ≤ how_many q → k < 2 ^ 64
    ordinal_fits k h = omega (arith, how_many_few)

    pub opened_fits : (k : ℕ) → k < how_many q → 2 * (k + 1) - 1 + turn_count (listed q) q.table.width (get_or (the_list q) k 0) < 2 ^ 64
    opened_fits k h = omega (arith, how_many_few, turns_few k, proper.wide.1)

    -- so the bytes of a record tell it
    pub written_back : (k : ℕ) → k < how_many q → (slot : List ℕ) → record_at (written (found_at k) slot) 0 ≡ found_at k
    written_back k h slot =
        bytes_first (found_at k) (drop (length (record_bytes (found_at k))) slot)
        ∙ record_back (found_at k) (set_fits k h) (support_fits (set_at k)) (ordinal_fits (k + 1) (omega arith)) (opened_fits k h)

  -- ---- what they say

  pub shows_its_place : (k : ℕ) → k < how_many q → ShowsItsPlace q (record_of q (k + 1) (get_or (the_list q) k 0))
  shows_its_place k h =
      record {
        counted = omega arith;
        within = omega arith;
        set_is = ap (λ j. get_or (the_list q) j 0) (let e : k ≡ k + 1 - 1 = omega arith in e);
        support_is = refl;
      }

  -- up to the leaf of the set at k
  pub opened_counts : (k : ℕ) → k < how_many q → (record_of q (k + 1) (get_or (the_list q) k 0)).opened ≡ upto_leaf (nodes_of q) (k + 1 - 1)
  opened_counts k h =
      let e : k + 1 - 1 ≡ k = omega arith in
      let t : turn_count (listed q) q.table.width (set_at (k + 1 - 1)) ≡ turn_count (listed q) q.table.width (set_at k) =
      ap (λ j. turn_count (listed q) q.table.width (set_at j)) e in
      omega (arith, (tree_law (listed q) q.table.width).counted (k + 1) (omega arith) (omega arith))

  pub opened_grows : (k : ℕ) → k + 1 < how_many q
      → (record_of q (k + 1 + 1) (get_or (the_list q) (k + 1) 0)).opened ≤ (record_of q (k + 1) (get_or (the_list q) k 0)).opened + q.table.width
  opened_grows k h =
      let f = entries_follow (listed q) q.table.width k h in
      omega (arith, turn_count_next (listed q) q.table.width (set_at k) (set_at (k + 1)) (set_listed k (omega arith)) f)

  -- once the list is out, all nodes are opened
  pub opened_all : opened_at_end q (how_many q) ≡ length (nodes_of q)
  opened_all = by (how_many q) refl
    where
      by : (k : ℕ) → how_many q ≡ k → opened_at_end q k ≡ length (nodes_of q)
      by zero e = ap (λ t. length (nodes t)) (sym ((tree_law (listed q) q.table.width).empty e))
      by (suc k) e =
          let here : (kth_record q (suc k)).opened ≡ (found_at k).opened =
          subst (λ j. (kth_record q j).opened ≡ (found_at k).opened) (add-one k) (ap (λ r. r.opened) (kth_more k (omega arith))) in
          cond-false (eqb (suc k) 0) 1 (kth_record q (suc k)).opened (ne_eqb (suc k) 0 (λ z. omega arith))
          ∙ omega (arith, opened_counts k (omega arith), upto_few (nodes_of q) (k + 1 - 1), (tree_law (listed q) q.table.width).all (omega arith))
