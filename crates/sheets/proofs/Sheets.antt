-- Which texts are accepted, by what comes of reading them.
use Rattle.std.proofs.Common.{◌≡◌, ℕ, ◌*◌, ◌^◌, ◌<◌, ◌≤◌, List, [], length, get_or, take, arith, Some, Ok, Err, Result, sym, refl, ap, ◌∙◌}
use Rattle.std.proofs.Math.Pow.{pow_mono}
use Rattle.std.proofs.lemmas.Bool.{le-ltb, lt-ltb}
use Rattle.std.proofs.lemmas.Option.{none-some}
use Rattle.marks.specs.declared.refusal.Reason.TheVariants.{Long}
use Rattle.marks.specs.declared.refusal.Refusal.{Refusal}
use Rattle.marks.specs.Refusals.{Answers, unplaced}
use Rattle.tables.specs.Packed.{row_bytes, packed_rows}
use Rattle.sheets.specs.Accepting.{AcceptsSheets, AcceptsOnlySheets, IsOneSheet}
use Rattle.sheets.specs.Reading.{Reading, text_reading, reading, packed_into}
use Rattle.sheets.specs.Rendering.{packed_bytes, most_bytes}
use Rattle.sheets.proofs.Accepted.{accepted}
use Rattle.sheets.proofs.Passing.{packed_front}
use Rattle.sheets.proofs.Repacked.{rows_again}
use Rattle.sheets.proofs.Rendered.{sheet_read}

pub long_reading : (n room : ℕ) (text : List ℕ) → most_bytes < length text → reading n room text ≡ record { refusal = Some (unplaced Long); rows = [] }
unfolding reading
long_reading n room text h = rw (lt-ltb most_bytes (length text) h) refl

pub short_reading : (n room : ℕ) (text : List ℕ) → length text ≤ most_bytes → reading n room text ≡ text_reading n room text
unfolding reading
short_reading n room text h = rw (le-ltb most_bytes (length text) h) refl

-- an answer that reading determines, and what memory then holds
pub record Reads (n : ℕ) (text old new : List ℕ) (result : Result ℕ Refusal) : Type 0 where
  pub answer : Answers (reading n (length old) text).refusal (λ count. count ≡ length (reading n (length old) text).rows) result
  pub memory : new ≡ packed_into (reading n (length old) text).rows old

module _ (n : ℕ) (text old new : List ℕ) (narrow : n ≤ 32) where
  pub sheets : (result : Result ℕ Refusal) → Reads n text old new result → AcceptsSheets n text old new result
  sheets (Ok count) r =
      λ rows s.
      let e = sheet_read n (length old) text rows narrow s in
      (ap Ok (r.answer.1 ∙ ap (λ (x : Reading). length x.rows) e), r.memory ∙ ap (λ (x : Reading). packed_into x.rows old) e)
  sheets (Err refusal) r =
      λ rows s.
      let e = sheet_read n (length old) text rows narrow s in
      absurd (none-some refusal (sym (ap (λ (x : Reading). x.refusal) e) ∙ r.answer))

  -- a packed table over the bytes that are packed has these rows
  table : (rows : List ℕ) (count : ℕ) → count ≡ length rows → ((k : ℕ) → get_or rows k 0 < 2 ^ n) → new ≡ packed_into rows old → packed_rows (take (row_bytes * count) new) ≡ rows
  table rows count size within e =
      let front : take (row_bytes * count) new ≡ packed_bytes rows =
      ap (take (row_bytes * count)) e ∙ packed_front rows old (row_bytes * count) (ap (λ k. row_bytes * k) size)
      in
      ap packed_rows front ∙ rows_again rows (λ k. omega (arith, within k, pow_mono {i = n} {j = 32} narrow))

  pub only_sheets : (result : Result ℕ Refusal) → Reads n text old new result → AcceptsOnlySheets n text old new result
  only_sheets (Ok count) r =
      let rows = (reading n (length old) text).rows in
      let sheet = accepted n (length old) text narrow r.answer.0 in
      (rows, sheet, r.answer.1, r.memory, table rows count r.answer.1 sheet.within r.memory)
  only_sheets (Err refusal) r =
      λ rows s.
      none-some refusal (sym (ap (λ (x : Reading). x.refusal) (sheet_read n (length old) text rows narrow s)) ∙ r.answer)

  pub one_sheet : IsOneSheet n (length old) text
  one_sheet =
      λ rows other s t.
      ap (λ (x : Reading). x.rows) (sym (sheet_read n (length old) text rows narrow s) ∙ sheet_read n (length old) text other narrow t)
