-- Barred pairs of marks.
use Rattle.std.specs.Prelude.{◌≡◌, ℕ, ◌-◌, Bool, true, not, ◌&&◌, ◌||◌, List, [], ◌∷◌, length, get_or, Option, ◌==◌, nat_lt, slice_index_or}
use Rattle.std.specs.List.{list_any, range_with_len}
use Rattle.std.specs.Option.{option_map}
use Rattle.marks.specs.declared.refusal.Reason.TheVariants.{Range, BadPair}
use Rattle.marks.specs.declared.refusal.Refusal.{Refusal}
use Rattle.marks.specs.Numbers.{most_marks, in_range, bit_of}
use Rattle.marks.specs.Places.{first_place}
use Rattle.marks.specs.Refusals.{placed_at, first_due}
use Rattle.marks.specs.Sets.{has}
use Rattle.limits.specs.declared.bars.Pair.{Pair}

-- the mark of a number is in s; a number that is no mark is in no set
abbrev pub holds_number : ℕ → ℕ → Bool
holds_number s number = in_range most_marks number && has s (bit_of number)

-- s holds the pair whole
abbrev pub holds_pair : ℕ → Pair → Bool
holds_pair s pair = holds_number s pair.first && holds_number s pair.second

-- sets that hold no pair of the list whole
unfoldable pub unbarred : List Pair → ℕ → Bool
unbarred pairs s = not (list_any (holds_pair s) pairs)

-- the order of pairs: by the first mark, and then by the second
abbrev pub pair_before : Pair → Pair → Bool
pair_before p q = nat_lt p.first q.first || (p.first == q.first && nat_lt p.second q.second)

abbrev pub PairBefore : Pair → Pair → Type 0
PairBefore p q = pair_before p q ≡ true

-- an entry of the pair is no mark
abbrev pub off_range : Pair → Bool
off_range pair = not (in_range most_marks pair.first && in_range most_marks pair.second)

-- what stands past the end of a list
abbrev pub no_pair : Pair
no_pair = record { first = 0; second = 0 }

-- the pair at k, which counts from 0, has not its lower mark first, or does not come after the pair at its left
abbrev pub misplaced : List Pair → ℕ → Bool
misplaced pairs k =
    not (nat_lt (get_or pairs k no_pair).first (get_or pairs k no_pair).second)
    || (nat_lt 0 k && not (pair_before (slice_index_or pairs (k - 1) no_pair) (slice_index_or pairs k no_pair)))

-- barring the pairs of a list
unfoldable pub bars_refusal : List Pair → Option Refusal
bars_refusal pairs =
    first_due
    (option_map (placed_at Range) (first_place off_range pairs)
    ∷ option_map (placed_at BadPair) (first_place (misplaced pairs) (range_with_len 0 (length pairs)))
    ∷ [])
