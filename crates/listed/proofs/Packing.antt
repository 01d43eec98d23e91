-- What a sheet was packed into is a packed table of its rows.
use Rattle.std.proofs.Common.{◌≡◌, ℕ, ◌+◌, ◌*◌, ◌/◌, ◌%◌, ◌^◌, ◌<◌, ◌≤◌, not, List, length, get_or, take, drop, None, refl, ap, ◌∙◌, arith, length-append}
use Rattle.std.proofs.Math.Pow.{pow_mono}
use Rattle.std.proofs.lemmas.Bool.{eq-eqb, le-ltb}
use Rattle.marks.specs.Numbers.{most_marks, most_charges}
use Rattle.marks.specs.Places.{first_place}
use Rattle.marks.specs.Sets.{all_below}
use Rattle.marks.specs.Parts.{part_test, part_all_below}
use Rattle.marks.proofs.Places.{first_place_none}
use Rattle.tables.specs.Packed.{row_bytes, packed_rows, strays, packed_refusal}
use Rattle.sheets.specs.Accepting.{IsSheet}
use Rattle.sheets.specs.Reading.{Reading, reading, packed_into}
use Rattle.sheets.specs.Rendering.{packed_bytes}
use Rattle.sheets.proofs.Accepted.{accepted as is_sheet}
use Rattle.sheets.proofs.Passing.{length_packed, packed_front}
use Rattle.sheets.proofs.Repacked.{rows_again}
use Rattle.listed.specs.declared.asking.Asked.{Asked}
use Rattle.listed.specs.Asking.{charge_bytes, IsPacked}

module _ (n : ℕ) (rows : List ℕ) (narrow : n ≤ most_marks) (within : (k : ℕ) → get_or rows k 0 < 2 ^ n) (few : length rows ≤ most_charges) where
  wide : (k : ℕ) → get_or rows k 0 < 2 ^ 32
  wide k = omega (arith, within k, pow_mono {i = n} {j = 32} narrow)

  none_strays : first_place (strays (all_below n)) rows ≡ None
  none_strays =
      first_place_none (strays (all_below n)) 0 rows
      (λ k h. ap not (part_test (get_or rows k 0) (all_below n) (part_all_below n (get_or rows k 0) (within k))))

  -- no rule refuses them
  pub accepted : packed_refusal (packed_bytes rows) n ≡ None
  unfolding packed_refusal
  accepted =
      let whole : length (packed_bytes rows) % row_bytes ≡ 0 = omega (arith, length_packed rows) in
      let count : length (packed_bytes rows) / row_bytes ≤ most_charges = omega (arith, length_packed rows) in
      rw (eq-eqb (length (packed_bytes rows) % row_bytes) 0 whole, le-ltb most_charges (length (packed_bytes rows) / row_bytes) count, rows_again rows wide, none_strays) refl

  pub rows_are : packed_rows (packed_bytes rows) ≡ rows
  rows_are = rows_again rows wide

-- what was read without a fault is a packed table in the front of memory, of the rows that were read
module _ (asked : Asked) (text old new : List ℕ) where
  abbrev pub read_at : Reading
  read_at = reading asked.order.width.number (length old) text

  pub packed : read_at.refusal ≡ None → asked.count ≡ length read_at.rows → new ≡ packed_into read_at.rows old → IsPacked new asked × (packed_rows (charge_bytes new asked) ≡ read_at.rows)
  packed none count put =
      let n = asked.order.width.number in
      let rows = read_at.rows in
      let narrow : n ≤ most_marks = asked.order.width.range.1 in
      let sheet : IsSheet n (length old) text rows = is_sheet n (length old) text narrow none in
      let size : row_bytes * asked.count ≡ row_bytes * length rows = ap (λ k. row_bytes * k) count in
      let bytes : charge_bytes new asked ≡ packed_bytes rows = ap (take (row_bytes * asked.count)) put ∙ packed_front rows old (row_bytes * asked.count) size in
      let long : length new ≡ length (packed_bytes rows) + length (drop (length (packed_bytes rows)) old) =
      ap length put ∙ length-append (packed_bytes rows) (drop (length (packed_bytes rows)) old)
      in (
        record {
          within = omega (arith, length_packed rows);
          accepted = ap (λ l. packed_refusal l n) bytes ∙ accepted n rows narrow sheet.within sheet.few;
        },
        ap packed_rows bytes ∙ rows_are n rows narrow sheet.within sheet.few,
      )
