-- The records that were handed out: the first of the list, one after another.
use Rattle.std.proofs.Common.{◌≡◌, ℕ, ◌+◌, ◌<◌, ◌≤◌, List, [], ◌∷◌, ◌++◌, map, length, get_or, take, sym, refl, ap, ◌∙◌, subst, arith}
use Rattle.std.specs.List.{range_with_len, AllByRecursion, AllPairs}
use Rattle.std.proofs.ByRecursion.{All-map}
use Rattle.std.proofs.lemmas.List.{take_more, length-take-le, length-take, length-append, get_or-take, get_or_at}
use Rattle.std.proofs.lemmas.List.FromFn.{fill_by_all, take-map-range_with_len, length-range_with_len, get_or-range_with_len}
use Rattle.std.proofs.lemmas.Simd.{map-map}
use Rattle.marks.specs.Orders.{Before}
use Rattle.tables.specs.Holding.{support_of}
use Rattle.found.specs.declared.record.Record.{Record}
use Rattle.found.specs.Records.{no_record}
use Rattle.closed.specs.Closed.{Query, listed, the_list}
use Rattle.closed.proofs.Ordered.{list_ordered}
use Rattle.finder.specs.Found.{how_many, records}
use Rattle.finder.specs.Runs.{FirstSets}
use Rattle.finder.proofs.Listing.{set_at, found_at, length_records, get_or_records}

all_hold : {A : Type 0} (P : A → Type 0) → ((x : A) → P x) → (xs : List A) → AllByRecursion P xs
all_hold P every [] = tt
all_hold P every (x ∷ xs) = (every x, all_hold P every xs)

pairs_take : (R : ℕ → ℕ → Type 0) (k : ℕ) (xs : List ℕ) → AllPairs R xs → AllPairs R (take k xs)
pairs_take R k xs p =
    λ i j d l h.
    let size = length-take k xs in
    rw (get_or-take k xs i d (omega arith), get_or-take k xs j d (omega arith)) (p i j d l (omega arith))

module _ (q : Query) where
  -- k records were handed out
  pub record Handed (out : List Record) (k : ℕ) : Type 0 where
    pub within : k ≤ how_many q
    pub are : out ≡ take k (records q)

  pub handed_none : Handed [] 0
  handed_none = record { within = omega arith; are = refl }

  module _ (out : List Record) (k : ℕ) (handed : Handed out k) where
    pub handed_more : k < how_many q → Handed (out ++ found_at q k ∷ []) (k + 1)
    handed_more h =
        record {
          within = omega arith;
          are =
              ap (λ r. out ++ r ∷ []) (sym (get_or_records q k h)) ∙ ap (λ rs. rs ++ get_or (records q) k no_record ∷ []) handed.are
              ∙ sym (take_more (records q) k no_record (omega (arith, length_records q)));
        }

    pub handed_length : length out ≡ k
    handed_length = ap length handed.are ∙ length-take-le k (records q) (omega (arith, length_records q, handed.within))

    pub handed_nil : out ≡ [] → k ≡ 0
    handed_nil e = omega (arith, handed_length, ap length e)

    -- the last of them
    pub handed_last : (earlier : List Record) (last : Record) → out ≡ earlier ++ last ∷ [] → (j : ℕ) × (k ≡ j + 1) × (j < how_many q) × (last ≡ found_at q j)
    handed_last earlier last e =
        let j = length earlier in
        let long : k ≡ j + 1 = omega (arith, handed_length, ap length e, length-append earlier (last ∷ [])) in
        let here : j < how_many q = omega (arith, long, handed.within) in
        let below : j < k = omega (arith, long) in (
          j,
          long,
          here,
          sym (get_or_at earlier last [] no_record j refl) ∙ ap (λ rs. get_or rs j no_record) (sym e ∙ handed.are)
              ∙ get_or-take k (records q) j no_record below ∙ get_or_records q j here,
        )

    -- ---- what they show

    by_place : out ≡ map (found_at q) (range_with_len 0 k)
    unfolding records
    by_place = handed.are ∙ take-map-range_with_len (found_at q) 0 (how_many q) k handed.within

    sets_are : map (λ r. r.set.bits) out ≡ take k (the_list q)
    sets_are =
        ap (map (λ r. r.set.bits)) by_place ∙ map-map (λ (r : Record). r.set.bits) (found_at q) (range_with_len 0 k)
        ∙ sym (fill_by_all (set_at q) (take k (the_list q)) k 0 (length-take-le k (the_list q) handed.within) (λ j h. get_or-take k (the_list q) j 0 h))

    ordinals_are : map (λ r. r.ordinal) out ≡ range_with_len 1 k
    ordinals_are =
        ap (map (λ r. r.ordinal)) by_place ∙ map-map (λ (r : Record). r.ordinal) (found_at q) (range_with_len 0 k)
        ∙ sym (fill_by_all (λ j. j + 1) (range_with_len 1 k) k 0 (length-range_with_len 1 k) (λ j h. omega (arith, get_or-range_with_len 1 k j 0 h)))

    pub handed_first : FirstSets q out
    handed_first =
        record {
          sets = subst (λ n. map (λ r. r.set.bits) out ≡ take n (the_list q)) (sym handed_length) sets_are;
          once_in_order = subst (AllPairs Before) (sym sets_are) (pairs_take Before k (the_list q) (list_ordered (listed q) q.table.width));
          supports =
              subst (AllByRecursion (λ r. r.support ≡ support_of q.table r.set.bits)) (sym by_place)
              (All-map (λ r. r.support ≡ support_of q.table r.set.bits) (found_at q) (range_with_len 0 k) (all_hold (λ j. support_of q.table (set_at q j) ≡ support_of q.table (set_at q j)) (λ j. refl) (range_with_len 0 k)));
          ordinals = subst (λ n. map (λ r. r.ordinal) out ≡ range_with_len 1 n) (sym handed_length) ordinals_are;
        }
