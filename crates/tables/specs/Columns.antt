-- A columns table: for each mark a bit for each charge, in words of 64 bits.
use Rattle.std.specs.Prelude.{◌≡◌, ℕ, ◌+◌, ◌-◌, ◌*◌, ◌/◌, ◌%◌, min, Bool, cond, not, ◌&&◌, List, [], ◌∷◌, map, length, None, Option, ◌==◌, nat_lt, slice_index}
use Rattle.std.specs.List.{range_with_len}
use Rattle.std.specs.Option.{option_map}
use Rattle.marks.specs.declared.refusal.Reason.TheVariants.{TooMany, WordCount, Stray}
use Rattle.marks.specs.declared.refusal.Refusal.{Refusal}
use Rattle.marks.specs.Numbers.{most_charges}
use Rattle.marks.specs.Places.{first_place}
use Rattle.marks.specs.Refusals.{unplaced, placed_at, due_if, first_due}
use Rattle.marks.specs.Sets.{has, no_marks, with_bit, picked}
use Rattle.tables.specs.Meaning.{Meaning, count_of, nearest_width}

-- how many bits a word has
abbrev pub word_bits : ℕ
word_bits = 64

-- how many words a mark has for m charges: as many as hold a bit for each
abbrev pub words_per_mark : ℕ → ℕ
words_per_mark m = (m + (word_bits - 1)) / word_bits

-- The mark at bit b has a bit at the place t, which counts from 0; each mark has `per` words.
abbrev pub column_has : List ℕ → ℕ → ℕ → ℕ → Bool
column_has words per b t = has (slice_index words (b * per + t / word_bits)) (t % word_bits)

-- the row of n marks of the charge at the place t, which counts from 0; and the rows of m charges
abbrev pub column_row : List ℕ → ℕ → ℕ → ℕ → ℕ
column_row words per n t = picked (λ b. column_has words per b t) n

unfoldable pub column_rows : List ℕ → ℕ → ℕ → List ℕ
column_rows words n m = map (column_row words (words_per_mark m) n) (range_with_len 0 m)

-- the bits that the mark at bit b has past the m charges, in its last word
abbrev pub past_count : List ℕ → ℕ → ℕ → ℕ
past_count words m b = picked (λ k. column_has words (words_per_mark m) b (m + k)) (words_per_mark m * word_bits - m)

-- standing up a columns table of n marks and m charges over words
unfoldable pub columns_refusal : List ℕ → ℕ → ℕ → Option Refusal
columns_refusal words n m =
    first_due
    (due_if (nat_lt most_charges m) (unplaced TooMany)
    ∷ due_if (not (length words == n * words_per_mark m)) (unplaced WordCount)
    ∷ option_map (placed_at Stray) (first_place (λ b. not (past_count words m b == no_marks)) (range_with_len 0 n))
    ∷ [])

-- what a columns table means, for any numbers in the place of its width and count and any words
unfoldable pub columns_meaning : List ℕ → ℕ → ℕ → Meaning
columns_meaning words n m = record { width = nearest_width n; rows = column_rows words (nearest_width n) (min m most_charges) }

-- The words of a table: word j of the mark at bit b stands at b * per + j, and its bit k is whether charge 64 j + k + 1 has the mark.
abbrev pub turned_word : ℕ → List ℕ → ℕ → ℕ
turned_word per rows i = picked (λ k. has (slice_index rows (i % per * word_bits + k)) (i / per)) word_bits

abbrev pub turned_rows : ℕ → ℕ → List ℕ → List ℕ
turned_rows per n rows = map (turned_word per rows) (range_with_len 0 (n * per))

unfoldable pub turned : Meaning → List ℕ
turned m = turned_rows (words_per_mark (count_of m)) m.width m.rows

-- the word at i, of words with `per` to a mark, once the row at the place t, which counts from 0, has been put in
abbrev pub put_word : ℕ → ℕ → ℕ → ℕ → ℕ → ℕ
put_word per t row i word = cond (has row (i / per) && i % per == t / word_bits) (with_bit word (t % word_bits)) word

-- turning a table into so many words
unfoldable pub turn_refusal : Meaning → ℕ → Option Refusal
turn_refusal m size = due_if (not (size == m.width * words_per_mark (count_of m))) (unplaced WordCount)

-- a columns table over the words, of the width and count of m, is accepted and means m
abbrev pub SameColumns : Meaning → List ℕ → Type 0
SameColumns m words = (columns_refusal words m.width (count_of m) ≡ None) × (columns_meaning words m.width (count_of m) ≡ m)
