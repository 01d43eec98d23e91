-- What is trimmed is proper, and what is proper is not trimmed.
use Rattle.std.specs.Prelude.{◌≡◌, ℕ, ◌-◌, ◌%◌, ◌^◌, ◌<◌, ◌≤◌, min, List, map, length, take, slice_index, refl}
use Rattle.std.proofs.Common.{sym, ap, ◌∙◌, inl, inr, mod-eq_of_lt, arith}
use Rattle.std.proofs.lemmas.Nat.{pow_pos, mod_below, and_mask}
use Rattle.std.proofs.lemmas.List.{get_or_past, get_or-take, get_or-map, length-take, length-map, take_all, ext_get_or}
use Rattle.std.proofs.lemmas.Bool.{cases_lt}
use Rattle.marks.specs.Numbers.{most_charges}
use Rattle.marks.specs.Sets.{both, all_below}
use Rattle.tables.specs.Meaning.{Meaning, Proper, count_of, row_of, nearest_width, trimmed}

abbrev trim : ℕ → ℕ → ℕ
trim n row = row % 2 ^ nearest_width n

pub trimmed_count : (n : ℕ) (rows : List ℕ) → count_of (trimmed n rows) ≡ min most_charges (length rows)
unfolding trimmed
trimmed_count n rows = length-map (take most_charges rows) _ ∙ length-take most_charges rows

-- the row at the place k, and past the rows
pub trimmed_row : (n : ℕ) (rows : List ℕ) (k : ℕ) → k < most_charges → k < length rows → slice_index (trimmed n rows).rows k ≡ trim n (slice_index rows k)
unfolding trimmed
trimmed_row n rows k h l =
    get_or-map (trim n) (take most_charges rows) k 0 0 (omega (arith, length-take most_charges rows))
    ∙ ap (trim n) (get_or-take most_charges rows k 0 h)

pub trimmed_past : (n : ℕ) (rows : List ℕ) (k : ℕ) → min most_charges (length rows) ≤ k → slice_index (trimmed n rows).rows k ≡ 0
trimmed_past n rows k h = get_or_past (trimmed n rows).rows k 0 (omega (arith, trimmed_count n rows))

pub trimmed_width : (n : ℕ) (rows : List ℕ) → (trimmed n rows).width ≡ nearest_width n
unfolding trimmed
trimmed_width n rows = refl

-- every row is within the width
trimmed_within : (n : ℕ) (rows : List ℕ) (k : ℕ) → slice_index (trimmed n rows).rows k < 2 ^ nearest_width n
trimmed_within n rows k =
    elim (cases_lt k (min most_charges (length rows))) [
      | inl h ↦ omega (arith, trimmed_row n rows k (omega arith) (omega arith), mod_below (slice_index rows k) (2 ^ nearest_width n) (pow_pos (nearest_width n)))
      | inr h ↦ omega (arith, trimmed_past n rows k h, pow_pos (nearest_width n))
    ]

pub trimmed_proper : (n : ℕ) (rows : List ℕ) → Proper (trimmed n rows)
trimmed_proper n rows = record {
  wide = (omega (arith, trimmed_width n rows), omega (arith, trimmed_width n rows));
  few = omega (arith, trimmed_count n rows);
  within = λ k. rw (trimmed_width n rows) (trimmed_within n rows k);
}

-- what is proper is kept as it is
pub trimmed_same : (n : ℕ) (rows : List ℕ) → Proper (record { width = n; rows = rows }) → trimmed n rows ≡ record { width = n; rows = rows }
unfolding trimmed
trimmed_same n rows p =
    let same : nearest_width n ≡ n = omega (arith, p.wide.0, p.wide.1) in
    let kept : map (λ row. row % 2 ^ n) rows ≡ rows =
    ext_get_or 0 (map (λ row. row % 2 ^ n) rows) rows (length-map rows _)
    (λ i h. get_or-map (λ row. row % 2 ^ n) rows i 0 0 (omega (arith, length-map rows (λ row. row % 2 ^ n))) ∙ mod-eq_of_lt (p.within i)) in
    let made : ℕ → List ℕ → Meaning = λ v xs. record { width = v; rows = map (λ row. row % 2 ^ v) xs } in
    ap (λ (v : ℕ). made v (take most_charges rows)) same ∙ ap (made n) (take_all most_charges rows p.few)
    ∙ ap (λ (xs : List ℕ). record { width = n; rows = xs }) kept

-- as a table answers: the row cut to the width, and none past the count
pub trimmed_read : (n : ℕ) (rows : List ℕ) (charge : ℕ) → 1 ≤ charge → charge ≤ count_of (trimmed n rows)
    → both (slice_index rows (charge - 1)) (all_below (nearest_width n)) ≡ row_of (trimmed n rows) charge
trimmed_read n rows charge p h =
    and_mask (slice_index rows (charge - 1)) (nearest_width n)
    ∙ sym (trimmed_row n rows (charge - 1) (omega (arith, trimmed_count n rows)) (omega (arith, trimmed_count n rows)))

pub trimmed_beyond : (n : ℕ) (rows : List ℕ) (charge : ℕ) → count_of (trimmed n rows) < charge → row_of (trimmed n rows) charge ≡ 0
trimmed_beyond n rows charge h = trimmed_past n rows (charge - 1) (omega (arith, trimmed_count n rows))
