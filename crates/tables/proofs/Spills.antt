-- The bits of columns past their count, and when columns are refused.
use Rattle.std.proofs.Common.{◌≡◌, ℕ, ◌+◌, ◌-◌, ◌*◌, ◌/◌, ◌%◌, ◌^◌, ◌<◌, ◌≤◌, not, ◌&&◌, List, length, get_or, eqb, ltb, ◌≢◌, Some, None, sym, ap, ap₂, ◌∙◌, ⊎_elim, arith}
use Rattle.std.specs.List.{range_with_len}
use Rattle.std.proofs.lemmas.Bool.{cases_lt, lt-ltb, le-ltb, eq-eqb, ne_eqb}
use Rattle.marks.specs.declared.refusal.Reason.TheVariants.{TooMany, WordCount, Stray}
use Rattle.marks.specs.Numbers.{most_charges}
use Rattle.marks.specs.Places.{first_place}
use Rattle.marks.specs.Refusals.{unplaced, placed_at}
use Rattle.marks.specs.Sets.{has, no_marks, picked}
use Rattle.marks.specs.Members.{has_past}
use Rattle.marks.specs.Parts.{same_members}
use Rattle.marks.proofs.Algebra.{has_shr}
use Rattle.marks.proofs.Picks.{has_picked, picked_start}
use Rattle.tables.specs.Columns.{word_bits, words_per_mark, column_has, past_count, columns_refusal}

-- ---- bits past the count

module _ (words : List ℕ) (m b : ℕ) where
  -- a count that fills its last word leaves none
  pub none_past : m % word_bits ≡ 0 → past_count words m b ≡ no_marks
  none_past full =
      let z : words_per_mark m * word_bits - m ≡ 0 = omega arith in
      ap (picked (λ k. column_has words (words_per_mark m) b (m + k))) z ∙ picked_start (λ k. column_has words (words_per_mark m) b (m + k))

  -- else they are what is left of the last word
  pub past_is : (m % word_bits ≢ 0) → get_or words (b * words_per_mark m + words_per_mark m - 1) 0 < 2 ^ word_bits
      → past_count words m b ≡ get_or words (b * words_per_mark m + words_per_mark m - 1) 0 / 2 ^ (m % word_bits)
  past_is part fits = same_members (past_count words m b) (get_or words (b * words_per_mark m + words_per_mark m - 1) 0 / 2 ^ (m % word_bits)) at
    where
      at : (k : ℕ) → has (past_count words m b) k ≡ has (get_or words (b * words_per_mark m + words_per_mark m - 1) 0 / 2 ^ (m % word_bits)) k
      at k =
          has_picked (λ k. column_has words (words_per_mark m) b (m + k)) (words_per_mark m * word_bits - m) k
          ∙ ⊎_elim inside outside (cases_lt k (words_per_mark m * word_bits - m))
          ∙ sym (has_shr (get_or words (b * words_per_mark m + words_per_mark m - 1) 0) (m % word_bits) k)
        where
          inside : k < words_per_mark m * word_bits - m
              → (ltb k (words_per_mark m * word_bits - m) && column_has words (words_per_mark m) b (m + k))
              ≡ has (get_or words (b * words_per_mark m + words_per_mark m - 1) 0) (m % word_bits + k)
          inside h =
              let i : b * words_per_mark m + (m + k) / word_bits ≡ b * words_per_mark m + words_per_mark m - 1 = omega arith in
              let j : (m + k) % word_bits ≡ m % word_bits + k = omega arith in
              rw (lt-ltb k (words_per_mark m * word_bits - m) h) (ap₂ (λ x y. has (get_or words x 0) y) i j)

          outside : words_per_mark m * word_bits - m ≤ k
              → (ltb k (words_per_mark m * word_bits - m) && column_has words (words_per_mark m) b (m + k))
              ≡ has (get_or words (b * words_per_mark m + words_per_mark m - 1) 0) (m % word_bits + k)
          outside h =
              rw (le-ltb k (words_per_mark m * word_bits - m) h)
              (sym (has_past word_bits (get_or words (b * words_per_mark m + words_per_mark m - 1) 0) (m % word_bits + k) fits (omega arith)))

-- ---- when columns are refused

module _ (words : List ℕ) (n m : ℕ) where
  pub refused_many : most_charges < m → columns_refusal words n m ≡ Some (unplaced TooMany)
  unfolding columns_refusal
  refused_many many = rw (lt-ltb most_charges m many)

  module _ (few : m ≤ most_charges) where
    pub refused_size : (length words ≢ n * words_per_mark m) → columns_refusal words n m ≡ Some (unplaced WordCount)
    unfolding columns_refusal
    refused_size other = rw (le-ltb most_charges m few, ne_eqb (length words) (n * words_per_mark m) other)

    module _ (sized : length words ≡ n * words_per_mark m) where
      pub refused_stray : (place : ℕ) → first_place (λ b. not (eqb (past_count words m b) no_marks)) (range_with_len 0 n) ≡ Some place
          → columns_refusal words n m ≡ Some (placed_at Stray place)
      unfolding columns_refusal
      refused_stray place e = rw (le-ltb most_charges m few, eq-eqb (length words) (n * words_per_mark m) sized, e)

      pub accepted : first_place (λ b. not (eqb (past_count words m b) no_marks)) (range_with_len 0 n) ≡ None → columns_refusal words n m ≡ None
      unfolding columns_refusal
      accepted e = rw (le-ltb most_charges m few, eq-eqb (length words) (n * words_per_mark m) sized, e)
