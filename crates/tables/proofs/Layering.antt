-- What each layer does, charge by charge and mark by mark.
use Rattle.std.proofs.Common.{◌≡◌, ℕ, ◌+◌, ◌-◌, ◌<◌, ◌≤◌, false, List, length, get_or, sym, ap, ◌∙◌, inl, inr, arith}
use Rattle.std.proofs.lemmas.List.{get_or_past}
use Rattle.std.proofs.lemmas.Bool.{cases_lt, lt-ltb}
use Rattle.marks.specs.Numbers.{most_charges, InRange, bit_of}
use Rattle.marks.specs.Sets.{has, both, differing, all_below, differ}
use Rattle.marks.specs.Members.{has_and, has_xor, has_all_below}
use Rattle.marks.proofs.Picks.{has_picked}
use Rattle.tables.specs.Meaning.{Meaning, Proper, count_of, row_of}
use Rattle.tables.specs.Layers.{reversed, windowed, selected}
use Rattle.tables.specs.Laid.{reversed_width, reversed_count, reversed_at, windowed_width, windowed_count, windowed_at}
use Rattle.tables.specs.Choosing.{selected_width, selected_count, selected_row}
use Rattle.tables.specs.Layering.{has_mark, ReversesMarks, ShowsCharges, ShowsMarks}

-- ---- reversed marks

-- of the marks up to the width, those of the set are flipped
flips : (row flipped n b : ℕ) → b < n → has (differing row (both flipped (all_below n))) b ≡ differ (has row b) (has flipped b)
flips row flipped n b h = has_xor row (both flipped (all_below n)) b ∙ rw (has_and, has_all_below, lt-ltb b n h) (grind arith)

module _ (flipped : ℕ) (m : Meaning) where
  mark_reversed : (charge mark : ℕ) → charge - 1 < count_of m → InRange m.width mark
      → has_mark (reversed flipped m) charge mark ≡ differ (has_mark m charge mark) (has flipped (bit_of mark))
  mark_reversed charge mark here wide =
      ap (λ row. has row (bit_of mark)) (reversed_at flipped m (charge - 1) here)
      ∙ flips (row_of m charge) flipped m.width (bit_of mark) (omega (arith, wide.0, wide.1))

  mark_kept : (charge mark : ℕ) → InRange m.width mark → has flipped (bit_of mark) ≡ false → has_mark (reversed flipped m) charge mark ≡ has_mark m charge mark
  mark_kept charge mark wide out =
      elim (cases_lt (charge - 1) (count_of m)) [
        | inl h ↦ mark_reversed charge mark h wide ∙ rw out (grind arith)
        | inr h ↦ ap (λ row. has row (bit_of mark)) (get_or_past (reversed flipped m).rows (charge - 1) 0 (omega (arith, reversed_count flipped m)) ∙ sym (get_or_past m.rows (charge - 1) 0 h))
      ]

  -- the row of a charge, and past the count
  pub reversed_row : (charge : ℕ) → 1 ≤ charge → charge ≤ count_of m
      → row_of (reversed flipped m) charge ≡ differing (row_of m charge) (both flipped (all_below m.width))
  reversed_row charge p h = reversed_at flipped m (charge - 1) (omega arith)

  pub reversed_past : (charge : ℕ) → count_of m < charge → row_of (reversed flipped m) charge ≡ 0
  reversed_past charge h = get_or_past (reversed flipped m).rows (charge - 1) 0 (omega (arith, reversed_count flipped m))

  pub reverses : ReversesMarks flipped m (reversed flipped m)
  reverses = record {
    width = reversed_width flipped m;
    count = reversed_count flipped m;
    reversed = λ charge mark here wide flips. mark_reversed charge mark (omega (arith, here.0, here.1)) wide ∙ rw flips (grind arith);
    kept = mark_kept;
  }

-- ---- a window

module _ (first count : ℕ) (m : Meaning) where
  -- the row of a charge, past the count, and past the last charge that there can be
  pub windowed_row : (charge : ℕ) → 1 ≤ charge → charge ≤ count → row_of (windowed first count m) charge ≡ row_of m (first - 1 + charge)
  windowed_row charge p h =
      let e : first - 1 + (charge - 1) ≡ first - 1 + charge - 1 = omega arith in
      windowed_at first count m (charge - 1) (omega arith) ∙ ap (λ k. get_or m.rows k 0) e

  pub windowed_past : (charge : ℕ) → count < charge → row_of (windowed first count m) charge ≡ 0
  windowed_past charge h = get_or_past (windowed first count m).rows (charge - 1) 0 (omega (arith, windowed_count first count m))

  pub windowed_beyond : (charge : ℕ) → Proper m → most_charges < first - 1 + charge → row_of (windowed first count m) charge ≡ 0
  windowed_beyond charge p h = get_or_past (windowed first count m).rows (charge - 1) 0 (omega (arith, windowed_count first count m, p.few))

pub shows_charges : (first most : ℕ) (m : Meaning) → ShowsCharges first most m (windowed first most m)
shows_charges first most m = record {
  width = windowed_width first most m;
  count = windowed_count first most m;
  rows = λ charge here.
      let place : first - 1 + (charge - 1) ≡ first - 1 + charge - 1 = omega (arith, here.0) in
      windowed_at first most m (charge - 1) (omega (arith, here.0, here.1, windowed_count first most m)) ∙ ap (λ k. get_or m.rows k 0) place;
}

-- ---- the marks of a list

pub shows_marks : (marks : List ℕ) (m : Meaning) → ShowsMarks marks m (selected marks m)
shows_marks marks m = record {
  width = selected_width marks m;
  count = selected_count marks m;
  shown = λ charge j here.
      let row = row_of m charge in
      ap (λ s. has s (bit_of j)) (selected_row marks m charge)
      ∙ has_picked (λ k. has row (bit_of (get_or marks k 0))) (length marks) (bit_of j)
      ∙ rw (lt-ltb (bit_of j) (length marks) (omega (arith, here.0, here.1))) (grind arith);
}
