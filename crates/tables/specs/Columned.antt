-- The rows of columns, and that what columns mean is proper.
use Rattle.std.specs.Prelude.{◌≡◌, ℕ, ◌^◌, ◌<◌, ◌≤◌, min, List, length, slice_index}
use Rattle.std.proofs.Math.Path.{refl, ap}
use Rattle.std.proofs.Common.{sym, ◌∙◌, subst, inl, inr}
use native.Mathlib.Omega.{arith}
use Rattle.std.proofs.lemmas.Nat.{pow_pos}
use Rattle.std.proofs.lemmas.List.FromFn.{length-map-range_with_len, get_or-map-range_with_len}
use Rattle.std.proofs.lemmas.List.{get_or_past}
use Rattle.std.proofs.lemmas.Bool.{cases_lt}
use Rattle.marks.specs.Numbers.{most_marks, most_charges, InRange}
use Rattle.marks.proofs.Picks.{picked_below}
use Rattle.tables.specs.Meaning.{Meaning, Proper, count_of, nearest_width}
use Rattle.tables.specs.Columns.{words_per_mark, column_has, column_row, column_rows, columns_meaning}

module _ (words : List ℕ) (n m : ℕ) where
  pub column_count : length (column_rows words n m) ≡ m
  unfolding column_rows
  column_count = length-map-range_with_len (column_row words (words_per_mark m) n) 0 m

  pub column_at : (k : ℕ) → k < m → slice_index (column_rows words n m) k ≡ column_row words (words_per_mark m) n k
  unfolding column_rows
  column_at k h = get_or-map-range_with_len (column_row words (words_per_mark m) n) 0 m k k 0 h (omega arith)

  column_within : (k : ℕ) → slice_index (column_rows words n m) k < 2 ^ n
  column_within k =
      elim (cases_lt k m) [
        | inl h ↦ subst (λ row. row < 2 ^ n) (sym (column_at k h)) (picked_below (λ b. column_has words (words_per_mark m) b k) n)
        | inr h ↦ omega (arith, get_or_past (column_rows words n m) k 0 (omega (arith, column_count)), pow_pos n)
      ]

  pub columns_width : (columns_meaning words n m).width ≡ nearest_width n
  unfolding columns_meaning
  columns_width = refl

  pub columns_rows : (columns_meaning words n m).rows ≡ column_rows words (nearest_width n) (min m most_charges)
  unfolding columns_meaning
  columns_rows = refl

  -- what is proper is kept as it is
  pub columns_same : InRange most_marks n → m ≤ most_charges → columns_meaning words n m ≡ record { width = n; rows = column_rows words n m }
  unfolding columns_meaning
  columns_same wide few =
      let e : nearest_width n ≡ n = omega (arith, wide.0, wide.1) in
      let f : min m most_charges ≡ m = omega arith in
      let made : ℕ → ℕ → Meaning = λ v k. record { width = v; rows = column_rows words v k } in
      ap (λ v. made v (min m most_charges)) e ∙ ap (made n) f

pub columns_count : (words : List ℕ) (n m : ℕ) → count_of (columns_meaning words n m) ≡ min m most_charges
columns_count words n m = ap length (columns_rows words n m) ∙ column_count words (nearest_width n) (min m most_charges)

pub columns_proper : (words : List ℕ) (n m : ℕ) → Proper (columns_meaning words n m)
columns_proper words n m = record {
  wide = (omega (arith, columns_width words n m), omega (arith, columns_width words n m));
  few = omega (arith, columns_count words n m);
  within = λ k. rw (columns_width words n m, columns_rows words n m) (column_within words (nearest_width n) (min m most_charges) k);
}
