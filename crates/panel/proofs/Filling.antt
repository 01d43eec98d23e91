-- Records written into memory, one after another.
use Rattle.std.proofs.Common.{◌≡◌, ℕ, ◌+◌, ◌*◌, ◌<◌, ◌≤◌, List, [], ◌∷◌, ◌++◌, length, get_or, take, drop, flat_map, Some, None, Ok, Result, sym, refl, ap, ◌∙◌, subst, append-nil, append_assoc, arith, length-append, length-take-le, take_all}
use Rattle.std.proofs.lemmas.Bool.{le-ltb, lt-ltb}
use Rattle.std.proofs.lemmas.List.{take_at, drop_at, drop-drop, drop_all, take_more, flat_map_more}
use borrow.Rule.Slice.PartMut.{put_mid}
use Rattle.marks.specs.declared.refusal.Reason.TheVariants.{NoPlace}
use Rattle.marks.specs.declared.refusal.Refusal.{Refusal}
use Rattle.marks.specs.Refusals.{unplaced, due_if}
use Rattle.tables.specs.Meaning.{Proper}
use Rattle.tables.specs.declared.table.Table.{Ghosts as Tables}
use Rattle.limits.specs.declared.limit.Limit.{Ghosts as Limits}
use Rattle.found.specs.declared.record.Record.{Record}
use Rattle.found.specs.Records.{record_bytes, record_length, written, no_record}
use Rattle.found.proofs.Laying.{record_size}
use Rattle.closed.specs.Closed.{Query}
use Rattle.finder.specs.declared.finder.Finder.{Finder}
use Rattle.finder.specs.declared.step.Step.{Step}
use Rattle.finder.specs.declared.step.Step.TheVariants.{Found, End}
use Rattle.finder.specs.declared.narrowing.Query.{Query as Asked}
use Rattle.finder.specs.Asked.{asked}
use Rattle.finder.specs.Calls.{query_of, Fresh, NextDone}
use Rattle.finder.specs.Found.{how_many, records, ordinal_of}
use Rattle.finder.proofs.Handing.{Handed}
use Rattle.finder.proofs.Lawfulness.{fresh_lists}
use Rattle.finder.proofs.Listing.{found_at, length_records, get_or_records}
use Rattle.finder.proofs.Standing.{Standing, next_found}
use Rattle.panel.specs.Listing.{places, left_over, written_into, listed_into}

-- ---- bytes

pub records_size : (rs : List Record) → length (flat_map record_bytes rs) ≡ record_length * length rs
records_size [] = refl
records_size (r ∷ rs) = length-append (record_bytes r) (flat_map record_bytes rs) ∙ omega (arith, record_size r, records_size rs)

module _ (rs : List Record) (old : List ℕ) (k : ℕ) (few : k ≤ length rs) where
  front_size : length (flat_map record_bytes (take k rs)) ≡ record_length * k
  front_size = records_size (take k rs) ∙ ap (λ n. record_length * n) (length-take-le k rs few)

  -- the first k records, and what lies past them
  parts : written_into (take k rs) old ≡ flat_map record_bytes (take k rs) ++ drop (record_length * k) old
  parts = ap (λ n. flat_map record_bytes (take k rs) ++ drop n old) front_size

-- one record more
module _ (rs : List Record) (old now after : List ℕ) (k : ℕ) (d : Record) (more : k < length rs) (is : now ≡ written_into (take k rs) old) (one : after ≡ record_bytes (get_or rs k d)) where
  written_more : put_mid (record_length * k) record_length now after ≡ written_into (take (k + 1) rs) old
  written_more =
      let few : k ≤ length rs = omega (arith, more) in
      let front = flat_map record_bytes (take k rs) in
      let past = drop (record_length * k) old in
      let size = front_size rs old k few in
      let whole : now ≡ front ++ past = is ∙ parts rs old k few in
      let left : take (record_length * k) now ≡ front = ap (take (record_length * k)) whole ∙ take_at front past (record_length * k) size in
      let next : record_length * k + record_length ≡ record_length * (k + 1) = omega arith in
      let right : drop record_length (drop (record_length * k) now) ≡ drop (record_length * (k + 1)) old =
      ap (λ l. drop record_length (drop (record_length * k) l)) whole ∙ ap (drop record_length) (drop_at front past (record_length * k) size)
      ∙ drop-drop record_length (record_length * k) old ∙ ap (λ n. drop n old) next
      in
      let longer : front ++ record_bytes (get_or rs k d) ≡ flat_map record_bytes (take (k + 1) rs) =
      flat_map_more record_bytes [] (take k rs) (get_or rs k d) ∙ ap (flat_map record_bytes) (sym (take_more rs k d more))
      in
      (λ i. left i ++ (one i ++ right i))
      ∙ sym (append_assoc front (record_bytes (get_or rs k d)) (drop (record_length * (k + 1)) old))
      ∙ ap (λ l. l ++ drop (record_length * (k + 1)) old) longer
      ∙ sym (parts rs old (k + 1) (omega (arith, more)))

-- ---- the list

module _ (q : Query) (room : ℕ) where
  pub none_left : how_many q ≤ places room → left_over q room ≡ None
  none_left h = ap (λ b. due_if b (unplaced NoPlace)) (le-ltb (places room) (how_many q) h)

  pub some_left : places room < how_many q → left_over q room ≡ Some (unplaced NoPlace)
  some_left h = ap (λ b. due_if b (unplaced NoPlace)) (lt-ltb (places room) (how_many q) h)

module _ {T W : Type 0} {tables : Tables T} {limits : Limits W} where
  -- The first k records of the list of q lie in memory, which held `old`, and the finder stands after as many sets.
  pub record Filled (q : Query) (old now : List ℕ) (f : Finder T W tables limits) (k : ℕ) : Type 0 where
    pub lists : query_of f ≡ q
    pub stands : ordinal_of f.last ≡ k
    pub is : now ≡ written_into (take k (records q)) old

  pub filled_none : (a : Asked T W) (f : Finder T W tables limits) → Fresh a f → (old : List ℕ) → Filled (asked tables.meaning limits.allowed a) old old f 0
  filled_none a f fresh old = record { lists = fresh_lists a f fresh; stands = ap ordinal_of fresh.1; is = refl }

  module _ (q : Query) (old now : List ℕ) (f : Finder T W tables limits) (k : ℕ) (filled : Filled q old now f k) where
    within : k ≤ how_many q
    within = subst (λ p. k ≤ how_many p) filled.lists (subst (λ j. j ≤ how_many (query_of f)) filled.stands f.within)

    standing : Standing q f (take k (records q))
    standing = record { lists = filled.lists; handed = subst (Handed q (take k (records q))) (sym filled.stands) (record { within = within; are = refl }) }

    -- a call of next
    module _ (before after : List ℕ) (h : Finder T W tables limits) (answer : Result Step Refusal) (done : NextDone f before answer after h) where
      -- a set is found
      module _ (proper : Proper q.table) (found : answer ≡ Ok Found) where
        a_set : NextDone f before (Ok Found) after h
        a_set = subst (λ a. NextDone f before a after h) found done

        pub is_more : k < how_many q
        is_more = subst (λ j. j < how_many q) filled.stands (next_found q proper f h (take k (records q)) before after standing a_set).0

        -- in the slot that follows the first k
        pub more_filled : length before ≡ record_length → (memory : List ℕ) → memory ≡ put_mid (record_length * k) record_length now after → Filled q old memory h (k + 1)
        more_filled size memory put =
            let n = next_found q proper f h (take k (records q)) before after standing a_set in
            let none : drop (length (record_bytes (found_at q k))) before ≡ [] =
            drop_all (length (record_bytes (found_at q k))) before (omega (arith, size, record_size (found_at q k))) in
            let bytes : after ≡ record_bytes (get_or (records q) k no_record) =
            n.3 ∙ ap (λ j. written (found_at q j) before) filled.stands
            ∙ ap (λ rest. record_bytes (found_at q k) ++ rest) none ∙ append-nil (record_bytes (found_at q k)) ∙ ap record_bytes (sym (get_or_records q k is_more))
            in
            record {
              lists = n.1;
              stands = n.2 ∙ ap (λ j. j + 1) filled.stands;
              is = put ∙ written_more (records q) old now after k no_record (omega (arith, is_more, length_records q)) filled.is bytes;
            }

      -- the list is out, and the slot is as it was
      pub is_all : (ordinal opened : ℕ) → answer ≡ Ok (End ordinal opened) → (k ≡ how_many q) × (after ≡ before)
      is_all ordinal opened ended =
          let end = subst (λ a. NextDone f before a after h) ended done in
          (sym filled.stands ∙ end.1 ∙ ap how_many filled.lists, end.4)

    -- what memory holds once no place or no set is left
    pub full : k ≡ places (length old) → now ≡ listed_into q old
    full e = filled.is ∙ ap (λ n. written_into (take n (records q)) old) e

    pub out : k ≡ how_many q → k ≤ places (length old) → now ≡ listed_into q old
    out e room =
        let all : take k (records q) ≡ records q = take_all k (records q) (omega (arith, e, length_records q)) in
        let fit : take (places (length old)) (records q) ≡ records q = take_all (places (length old)) (records q) (omega (arith, e, room, length_records q)) in
        filled.is ∙ ap (λ rs. written_into rs old) (all ∙ sym fit)
