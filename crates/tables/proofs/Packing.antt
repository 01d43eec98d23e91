-- When a packed table is refused, and the rows of one: the first that has a mark above the width, and where none has one, that all are within it.
use Rattle.std.proofs.Common.{◌≡◌, ℕ, ◌+◌, ◌/◌, ◌%◌, ◌^◌, ◌<◌, ◌≤◌, Bool, cond, List, [], ◌∷◌, map, length, get_or, Some, None, Option, refl, ap, inl, inr, arith}
use Rattle.std.specs.Option.{option_map}
use Rattle.std.proofs.lemmas.Nat.{pow_pos}
use Rattle.std.proofs.lemmas.List.{get_or_past}
use Rattle.std.proofs.lemmas.Bool.{eq-eqb, ne_eqb, lt-ltb, le-ltb, cases_lt, not-false}
use Rattle.marks.specs.declared.refusal.Reason.TheVariants.{Ragged, TooMany, Stray}
use Rattle.marks.specs.Numbers.{most_charges}
use Rattle.marks.specs.Places.{first_place}
use Rattle.marks.specs.Refusals.{unplaced, placed_at}
use Rattle.marks.specs.Sets.{part_of, all_below}
use Rattle.marks.specs.Parts.{part_fact, below_from_part}
use Rattle.marks.proofs.Places.{none_passes}
use Rattle.tables.specs.Packed.{row_bytes, packed_rows, strays, packed_refusal}

module _ (bytes : List ℕ) (n : ℕ) where
  pub refused_ragged : (length bytes % row_bytes ≡ 0 → ⊥) → packed_refusal bytes n ≡ Some (unplaced Ragged)
  unfolding packed_refusal
  refused_ragged ragged = rw (ne_eqb (length bytes % row_bytes) 0 ragged)

  module _ (whole : length bytes % row_bytes ≡ 0) where
    pub refused_many : most_charges < length bytes / row_bytes → packed_refusal bytes n ≡ Some (unplaced TooMany)
    unfolding packed_refusal
    refused_many many = rw (eq-eqb (length bytes % row_bytes) 0 whole, lt-ltb most_charges (length bytes / row_bytes) many)

    pub refused_stray : length bytes / row_bytes ≤ most_charges → (place : ℕ) → first_place (strays (all_below n)) (packed_rows bytes) ≡ Some place
        → packed_refusal bytes n ≡ Some (placed_at Stray place)
    unfolding packed_refusal
    refused_stray few place e = rw (eq-eqb (length bytes % row_bytes) 0 whole, le-ltb most_charges (length bytes / row_bytes) few, e)

    pub accepted : length bytes / row_bytes ≤ most_charges → first_place (strays (all_below n)) (packed_rows bytes) ≡ None → packed_refusal bytes n ≡ None
    unfolding packed_refusal
    accepted few e = rw (eq-eqb (length bytes % row_bytes) 0 whole, le-ltb most_charges (length bytes / row_bytes) few, e)

-- the first that passes, of what a function makes of the elements
pub first_place-map : {A B : Type 0} (test : B → Bool) (f : A → B) (xs : List A) → first_place test (map f xs) ≡ first_place (λ x. test (f x)) xs
first_place-map test f [] = refl
first_place-map test f (x ∷ xs) = ap (λ (rest : Option ℕ). cond (test (f x)) (Some 1) (option_map (λ k. k + 1) rest)) (first_place-map test f xs)

-- with no stray mark, the rows are within the width
pub rows_within : (n : ℕ) (rows : List ℕ) → first_place (strays (all_below n)) rows ≡ None → (k : ℕ) → get_or rows k 0 < 2 ^ n
rows_within n rows e k =
    elim (cases_lt k (length rows)) [
      | inl h ↦ (let row : ℕ = get_or rows k 0 in
          below_from_part n row (part_fact row (all_below n) (not-false (part_of row (all_below n)) (none_passes (strays (all_below n)) 0 rows e k h))))
      | inr h ↦ omega (arith, get_or_past rows k 0 h, pow_pos n)
    ]
