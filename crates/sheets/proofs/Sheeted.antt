-- That packed bytes are written as the one sheet without empty lines that packs to them.
use Rattle.std.proofs.Common.{◌≡◌, ℕ, ◌^◌, ◌<◌, ◌≤◌, List, length, take, drop, get_or, None, sym, ap, ◌∙◌, subst, arith}
use Rattle.std.proofs.lemmas.List.{take_at}
use Rattle.std.proofs.Math.Nat.{pow-le-pow_right}
use Rattle.marks.specs.Memory.{put_in_front}
use Rattle.tables.specs.Packed.{packed_rows}
use Rattle.sheets.specs.Accepting.{HasNoEmptyLine}
use Rattle.sheets.specs.Reading.{Reading, reading, packed_into}
use Rattle.sheets.specs.Rendering.{render, packed_bytes}
use Rattle.sheets.specs.Written.{sheet_of, IsSheetOf}
use Rattle.sheets.proofs.Accepted.{accepted}
use Rattle.sheets.proofs.Rendered.{sheet_read}
use Rattle.sheets.proofs.Repacked.{Sheeted, repacked, rows_again, whole_rows}
use Rattle.sheets.proofs.TextLines.{sheet_filled, sheet_lines, only_sheet}

module _ (n : ℕ) (bytes : List ℕ) (narrow : n ≤ 32) (fits : (i : ℕ) → get_or bytes i 0 < 256) (s : Sheeted n bytes) where
  -- read into enough memory, the sheet of packed bytes packs to their rows
  rows_read : (memory : List ℕ) → length bytes ≤ length memory → reading n (length memory) (sheet_of bytes) ≡ record { refusal = None; rows = packed_rows bytes }
  rows_read memory room =
      sheet_read n (length memory) (sheet_of bytes) (packed_rows bytes) narrow
      (record { lines = sheet_lines (packed_rows bytes); within = s.packed.within; few = s.packed.few; fits = omega (arith, whole_rows bytes s.packed.whole); short = s.short })

  bytes_read : (memory : List ℕ) → length bytes ≤ length memory → packed_into (reading n (length memory) (sheet_of bytes)).rows memory ≡ put_in_front bytes memory
  bytes_read memory room =
      ap (λ (r : Reading). packed_into r.rows memory) (rows_read memory room)
      ∙ ap (λ l. put_in_front l memory) (repacked bytes fits s.packed.whole)

  only_text : (other : List ℕ) (room : ℕ) → HasNoEmptyLine other → (reading n room other).refusal ≡ None → packed_bytes (reading n room other).rows ≡ bytes → other ≡ sheet_of bytes
  only_text other room filled taken same =
      let sheet = accepted n room other narrow taken in
      let low : 2 ^ n ≤ 2 ^ 32 = pow-le-pow_right (omega arith) narrow in
      let rows : packed_rows bytes ≡ (reading n room other).rows = ap packed_rows (sym same) ∙ rows_again (reading n room other).rows (λ k. omega (arith, sheet.within k, low)) in
      only_sheet other (reading n room other).rows filled sheet.lines ∙ ap render (sym rows)

  pub sheet_written : (size : ℕ) (old new : List ℕ) → size ≡ length (sheet_of bytes) → new ≡ put_in_front (sheet_of bytes) old → IsSheetOf n bytes (take size new)
  sheet_written size old new long is =
      let text : take size new ≡ sheet_of bytes = ap (take size) is ∙ take_at (sheet_of bytes) (drop (length (sheet_of bytes)) old) size (sym long) in
      subst (IsSheetOf n bytes) (sym text) (record { filled = sheet_filled (packed_rows bytes); back = λ memory room. (ap (λ (r : Reading). r.refusal) (rows_read memory room), bytes_read memory room); only = only_text })
