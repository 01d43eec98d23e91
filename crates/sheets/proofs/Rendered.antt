-- A sheet of rows that fit has no fault, and its rows are those that are packed.
use Rattle.std.proofs.Common.{◌≡◌, ℕ, suc, ◌+◌, ◌*◌, ◌^◌, ◌<◌, ◌≤◌, Bool, true, false, cond, not, ◌&&◌, List, [], ◌∷◌, ◌++◌, map, length, get_or, decimal, flat_map, None, Option, refl, sym, ap, ◌∙◌, append-nil, append_assoc, arith, length-append}
use Rattle.std.specs.Char.{is_ascii_digit}
use Rattle.std.specs.List.{concat}
use Rattle.std.specs.Str.{all_ascii_digits}
use Rattle.std.proofs.Math.Pow.{pow_mono}
use Rattle.std.proofs.lemmas.Bool.{and_parts, le-ltb, lt-leb, ne_eqb}
use Rattle.std.proofs.lemmas.Fmt.{decimal_nonempty, digits_decimal, digits_value-decimal, first_decimal}
use Rattle.marks.specs.declared.refusal.Reason.{Reason}
use Rattle.marks.specs.declared.refusal.Reason.TheVariants.{NoLineEnd}
use Rattle.marks.specs.declared.refusal.Refusal.{Refusal}
use Rattle.marks.specs.Numbers.{bit_of, most_charges}
use Rattle.marks.specs.Refusals.{due_if}
use Rattle.marks.specs.Sets.{with_bit}
use Rattle.tables.specs.Packed.{row_bytes}
use Rattle.sheets.specs.Accepting.{lines_of, is_empty_line, IsSheet}
use Rattle.sheets.specs.Cutting.{Part, Digits, Gap, Break, line_end, led_by, parts_of}
use Rattle.sheets.specs.Reading.{worth, with_number, open_row, rows_of, left_number, at_line_start, after_blank, fault_after, is_single_zero, is_no_marks, number_fault, charge_fault, part_fault, unless_fault, reading_on, reading}
use Rattle.sheets.specs.Rendering.{marks_of, or_zero, spaced, row_words, row_text, most_bytes}
use Rattle.sheets.proofs.Numbers.{own, good_number, decimal_zero}
use Rattle.sheets.proofs.Passing.{starts, no_row, one_row}
use Rattle.sheets.proofs.Rising.{Rises, rises_le, marks_rise, gathered, regathered}
use Rattle.sheets.proofs.Runs.{alone}
use Rattle.sheets.proofs.TextLines.{filled_of, is_empty, lines_joined}

-- ---- the parts of a line

-- digits before a byte that is none are one number
cut_digits : (ds rest : List ℕ) (c : ℕ) → all_ascii_digits ds ≡ true → 0 < length ds → is_ascii_digit c ≡ false → parts_of (ds ++ c ∷ rest) ≡ Digits ds ∷ parts_of (c ∷ rest)
cut_digits [] rest c all some other = absurd (omega arith)
cut_digits (d ∷ []) rest c all some other = let here = and_parts (is_ascii_digit d) true all in rw (here.0, other) (alone d c (parts_of rest))
cut_digits (d ∷ e ∷ ds) rest c all some other =
    let here = and_parts (is_ascii_digit d) (all_ascii_digits (e ∷ ds)) all in
    rw here.0 (ap (led_by d) (cut_digits (e ∷ ds) rest c here.1 (omega arith) other))

-- the parts of marks, one blank between neighbours, and of those that follow a mark
abbrev tail_parts : List ℕ → List Part
tail_parts xs = flat_map (λ x. Gap ∷ Digits (decimal x) ∷ []) xs

abbrev pub marks_parts : List ℕ → List Part
marks_parts [] = []
marks_parts (x ∷ xs) = Digits (decimal x) ∷ tail_parts xs

cut_tail : (high : ℕ) (xs : List ℕ) (x : ℕ) (rest : List ℕ) → high ≤ 32 → Rises x high xs
    → parts_of (decimal x ++ (flat_map (λ y. 32 ∷ decimal y) xs ++ 10 ∷ rest)) ≡ Digits (decimal x) ∷ (tail_parts xs ++ Break ∷ parts_of rest)
cut_tail high [] x rest low r =
    let small : x < 2 ^ 64 = omega arith in
    cut_digits (decimal x) rest 10 (digits_decimal own x small) (decimal_nonempty x small) refl
cut_tail high (y ∷ ys) x rest low r =
    let small : x < 2 ^ 64 = omega (arith, rises_le y high ys r.1) in
    let more = flat_map (λ (y : ℕ). 32 ∷ decimal y) ys in
    ap (λ l. parts_of (decimal x ++ 32 ∷ l)) (append_assoc (decimal y) more (10 ∷ rest))
    ∙ cut_digits (decimal x) (decimal y ++ (more ++ 10 ∷ rest)) 32 (digits_decimal own x small) (decimal_nonempty x small) refl
    ∙ ap (λ (ps : List Part). Digits (decimal x) ∷ Gap ∷ ps) (cut_tail high ys y rest low r.1)

cut_line : (high : ℕ) (xs rest : List ℕ) → high ≤ 32 → Rises 0 high xs → parts_of (spaced (or_zero xs) ++ 10 ∷ rest) ≡ marks_parts (or_zero xs) ++ Break ∷ parts_of rest
cut_line high [] rest low r =
    ap parts_of (append_assoc (decimal 0) [] (10 ∷ rest)) ∙ cut_digits (decimal 0) rest 10 (digits_decimal own 0 (omega arith)) (decimal_nonempty 0 (omega arith)) refl
cut_line high (x ∷ xs) rest low r =
    let more = flat_map (λ (y : ℕ). 32 ∷ decimal y) xs in
    ap parts_of (append_assoc (decimal x) more (10 ∷ rest)) ∙ cut_tail high xs x rest low r.1

-- ---- lists of lines

no_line : {x : List ℕ} {xs : List (List ℕ)} → [] ≡ x ∷ xs → ⊥
no_line e = cc

first_same : {x y : List ℕ} {xs ys : List (List ℕ)} → x ∷ xs ≡ y ∷ ys → x ≡ y
first_same e = cc

rest_same : {x y : List ℕ} {xs ys : List (List ℕ)} → x ∷ xs ≡ y ∷ ys → xs ≡ ys
rest_same e = cc

-- ---- reading parts

-- marks that are passed, with a blank before each, and those of a whole line
abbrev pass_tail : List ℕ → List Part → List Part
pass_tail [] passed = passed
pass_tail (x ∷ xs) passed = pass_tail xs (Digits (decimal x) ∷ Gap ∷ passed)

abbrev pass_marks : List ℕ → List Part → List Part
pass_marks [] passed = passed
pass_marks (x ∷ xs) passed = pass_tail xs (Digits (decimal x) ∷ passed)

worth_decimal : (x : ℕ) → x ≤ 32 → worth (decimal x) ≡ x
worth_decimal x low = digits_value-decimal own x (omega arith)

tail_rows : (xs : List ℕ) (passed : List Part) → rows_of (pass_tail xs passed) ≡ rows_of passed
tail_rows [] passed = refl
tail_rows (x ∷ xs) passed = tail_rows xs (Digits (decimal x) ∷ Gap ∷ passed)

marks_rows : (xs : List ℕ) (passed : List Part) → rows_of (pass_marks xs passed) ≡ rows_of passed
marks_rows [] passed = refl
marks_rows (x ∷ xs) passed = tail_rows xs (Digits (decimal x) ∷ passed)

-- the row with a mark that digits write
with_mark : (row x : ℕ) → 0 < x → x ≤ 32 → with_number row (worth (decimal x)) ≡ with_bit row (bit_of x)
with_mark row x some low = ap (with_number row) (worth_decimal x low) ∙ (rw (ne_eqb x 0 (omega arith)) refl)

tail_row : (low high : ℕ) (xs : List ℕ) (passed : List Part) → high ≤ 32 → Rises low high xs → open_row (pass_tail xs passed) ≡ gathered (open_row passed) xs
tail_row low high [] passed small r = refl
tail_row low high (x ∷ xs) passed small r =
    tail_row x high xs (Digits (decimal x) ∷ Gap ∷ passed) small r.1
    ∙ ap (λ row. gathered row xs) (with_mark (open_row passed) x (omega (arith, r.0)) (omega (arith, rises_le x high xs r.1)))

tail_start : (xs : List ℕ) (passed : List Part) → at_line_start passed ≡ false → at_line_start (pass_tail xs passed) ≡ false
tail_start [] passed e = e
tail_start (x ∷ xs) passed e = tail_start xs (Digits (decimal x) ∷ Gap ∷ passed) refl

marks_start : (xs : List ℕ) (passed : List Part) → at_line_start (pass_marks (or_zero xs) passed) ≡ false
marks_start [] passed = refl
marks_start (x ∷ xs) passed = tail_start xs (Digits (decimal x) ∷ passed) refl

marks_row : (high : ℕ) (xs : List ℕ) (passed : List Part) → high ≤ 32 → Rises 0 high xs → open_row passed ≡ 0 → open_row (pass_marks (or_zero xs) passed) ≡ gathered 0 xs
marks_row high [] passed small r e = ap (with_number (open_row passed)) (worth_decimal 0 (omega arith)) ∙ e
marks_row high (x ∷ xs) passed small r e =
    tail_row x high xs (Digits (decimal x) ∷ passed) small r.1
    ∙ ap (λ row. gathered row xs) (with_mark (open_row passed) x (omega (arith, r.0)) (omega (arith, rises_le x high xs r.1)) ∙ ap (λ row. with_bit row (bit_of x)) e)

-- what is not due is not due where it is excepted either
not_due : (excepted : Bool) (due : Option Refusal) → due ≡ None → cond excepted None due ≡ None
not_due true due e = refl
not_due false due e = e

module _ (n room : ℕ) (narrow : n ≤ 32) where
  -- a mark above the one at its left is no fault
  no_number_fault : (placed : Reason → Refusal) (left x : ℕ) → left < x → x ≤ n → number_fault placed n left (decimal x) ≡ None
  no_number_fault placed left x above low =
      let value = worth_decimal x (omega arith) in
      let first = first_decimal x (omega arith) (omega arith) in
      rw (good_number n (decimal x) (λ e. omega arith) (omega arith), lt-leb (worth (decimal x)) left (omega arith)) refl

  no_charge_fault : (placed : Reason → Refusal) (count : ℕ) → count < most_charges → row_bytes * (count + 1) ≤ room → charge_fault placed room count ≡ None
  no_charge_fault placed count few fits = rw (lt-leb most_charges count few, le-ltb room (row_bytes * (count + 1)) fits) refl

  read_tail : (xs : List ℕ) (low : ℕ) (passed rest : List Part) → Rises low n xs → left_number passed ≡ low → at_line_start passed ≡ false → after_blank passed ≡ false
      → reading_on n room passed (tail_parts xs ++ Break ∷ rest) ≡ reading_on n room (pass_tail xs passed) (Break ∷ rest)
  read_tail [] low passed rest r left start blank = refl
  read_tail (x ∷ xs) low passed rest r left start blank =
      let high = rises_le x n xs r.1 in
      let follows = tail_parts xs ++ Break ∷ rest in
      let past = reading_on n room (Digits (decimal x) ∷ Gap ∷ passed) follows in
      let gap : part_fault n room passed Gap (Digits (decimal x) ∷ follows) ≡ None = rw (start, blank) refl in
      let number : number_fault (fault_after (Gap ∷ passed)) n (left_number passed) (decimal x) ≡ None = no_number_fault (fault_after (Gap ∷ passed)) (left_number passed) x (omega (arith, r.0)) high in
      (λ i. unless_fault (gap i) (rows_of passed) (unless_fault (not_due (is_no_marks (Gap ∷ passed) (decimal x) follows) (number_fault (fault_after (Gap ∷ passed)) n (left_number passed) (decimal x)) number i) (rows_of passed) past))
      ∙ read_tail xs x (Digits (decimal x) ∷ Gap ∷ passed) rest r.1 (worth_decimal x (omega arith)) refl refl

  read_marks : (x : ℕ) (xs : List ℕ) (passed rest : List Part) → Rises 0 n (x ∷ xs) → left_number passed ≡ 0
      → reading_on n room passed (marks_parts (x ∷ xs) ++ Break ∷ rest) ≡ reading_on n room (pass_marks (x ∷ xs) passed) (Break ∷ rest)
  read_marks x xs passed rest r left =
      let high = rises_le x n xs r.1 in
      let follows = tail_parts xs ++ Break ∷ rest in
      let number : number_fault (fault_after passed) n (left_number passed) (decimal x) ≡ None = no_number_fault (fault_after passed) (left_number passed) x (omega (arith, r.0)) high in
      ap (λ d. unless_fault d (rows_of passed) (reading_on n room (Digits (decimal x) ∷ passed) follows))
      (not_due (is_no_marks passed (decimal x) follows) (number_fault (fault_after passed) n (left_number passed) (decimal x)) number)
      ∙ read_tail xs x (Digits (decimal x) ∷ passed) rest r.1 (worth_decimal x (omega arith)) refl refl

  -- a charge without marks
  read_zero : (passed rest : List Part) → at_line_start passed ≡ true → reading_on n room passed (Digits (decimal 0) ∷ Break ∷ rest) ≡ reading_on n room (Digits (decimal 0) ∷ passed) (Break ∷ rest)
  read_zero passed rest start =
      ap (λ t. unless_fault (cond t None (number_fault (fault_after passed) n (left_number passed) (decimal 0))) (rows_of passed) (reading_on n room (Digits (decimal 0) ∷ passed) (Break ∷ rest)))
      (λ i. is_single_zero (decimal_zero i) && (start i && true))

  read_numbers : (xs : List ℕ) (passed rest : List Part) → Rises 0 n xs → at_line_start passed ≡ true → left_number passed ≡ 0
      → reading_on n room passed (marks_parts (or_zero xs) ++ Break ∷ rest) ≡ reading_on n room (pass_marks (or_zero xs) passed) (Break ∷ rest)
  read_numbers [] passed rest r start left = read_zero passed rest start
  read_numbers (x ∷ xs) passed rest r start left = read_marks x xs passed rest r left

  -- a whole line, from its start on
  read_line : (row : ℕ) (passed rest : List Part) → row < 2 ^ n → at_line_start passed ≡ true → left_number passed ≡ 0 → length (rows_of passed) < most_charges
      → row_bytes * (length (rows_of passed) + 1) ≤ room
      → reading_on n room passed (marks_parts (or_zero (marks_of row)) ++ Break ∷ rest) ≡ reading_on n room (Break ∷ pass_marks (or_zero (marks_of row)) passed) rest
  read_line row passed rest within start left few fits =
      let xs = marks_of row in
      let after = pass_marks (or_zero xs) passed in
      let fault : charge_fault (fault_after after) room (length (rows_of after)) ≡ None =
      ap (λ l. charge_fault (fault_after after) room (length l)) (marks_rows (or_zero xs) passed) ∙ no_charge_fault (fault_after after) (length (rows_of passed)) few fits
      in
      read_numbers xs passed rest (marks_rise n row narrow within) start left
      ∙ ap (λ d. unless_fault d (rows_of after) (reading_on n room (Break ∷ after) rest)) (not_due (at_line_start after) (charge_fault (fault_after after) room (length (rows_of after))) fault)

  line_rows : (row : ℕ) (passed : List Part) → row < 2 ^ n → open_row passed ≡ 0 → rows_of (Break ∷ pass_marks (or_zero (marks_of row)) passed) ≡ rows_of passed ++ row ∷ []
  line_rows row passed within e =
      let xs = marks_of row in
      let after = pass_marks (or_zero xs) passed in
      let same : open_row after ≡ row = marks_row n xs passed narrow (marks_rise n row narrow within) e ∙ regathered row (omega (arith, pow_mono {i = n} {j = 32} narrow)) in
      one_row after (marks_start xs passed) ∙ (λ i. marks_rows (or_zero xs) passed i ++ same i ∷ [])

  -- an empty line
  read_empty : (passed : List Part) (text : List ℕ) → at_line_start passed ≡ true → reading_on n room passed (parts_of (line_end ∷ text)) ≡ reading_on n room (Break ∷ passed) (parts_of text)
  read_empty passed text start =
      ap (λ t. unless_fault (cond t None (charge_fault (fault_after passed) room (length (rows_of passed)))) (rows_of passed) (reading_on n room (Break ∷ passed) (parts_of text))) start

  -- of a text with these lines that are not empty, rows whose lines they are are read
  abbrev Reads : List ℕ → List (List ℕ) → Type 0
  Reads text filled =
      (rows : List ℕ) (passed : List Part) → filled ≡ map row_text rows → ((k : ℕ) → get_or rows k 0 < 2 ^ n) → at_line_start passed ≡ true
      → length (rows_of passed) + length rows ≤ most_charges → row_bytes * (length (rows_of passed) + length rows) ≤ room
      → reading_on n room passed (parts_of text) ≡ record { refusal = None; rows = rows_of passed ++ rows }

  read_first : (line : List ℕ) (lines : List (List ℕ)) (t : Bool) → is_empty_line line ≡ t → Reads (concat lines) (filled_of lines)
      → Reads (line ++ concat lines) (cond (not t) (line ∷ filled_of lines) (filled_of lines))
  read_first line lines true e rest rows passed filled within start few fits =
      let same : rows_of (Break ∷ passed) ≡ rows_of passed = no_row passed start in
      ap (λ l. reading_on n room passed (parts_of (l ++ concat lines))) (is_empty line e) ∙ read_empty passed (concat lines) start
      ∙ rest rows (Break ∷ passed) filled within refl (omega (arith, ap length same)) (omega (arith, ap length same))
      ∙ ap (λ (l : List ℕ). record { refusal = None; rows = l ++ rows }) same
  read_first line lines false e rest [] passed filled within start few fits = absurd (no_line (sym filled))
  read_first line lines false e rest (row ∷ rows) passed filled within start few fits =
      let xs = marks_of row in
      let after = Break ∷ pass_marks (or_zero xs) passed in
      let here = within 0 in
      let more = line_rows row passed here (starts passed start).row in
      let size : length (rows_of after) ≡ length (rows_of passed) + 1 = ap length more ∙ length-append (rows_of passed) (row ∷ []) ∙ (omega arith) in
      ap (λ l. reading_on n room passed (parts_of l)) (ap (λ l. l ++ concat lines) (first_same filled) ∙ append_assoc (row_words row) (line_end ∷ []) (concat lines))
      ∙ ap (reading_on n room passed) (cut_line n xs (concat lines) narrow (marks_rise n row narrow here))
      ∙ read_line row passed (parts_of (concat lines)) here start (starts passed start).left (omega arith) (omega arith)
      ∙ rest rows after (rest_same filled) (λ k. within (suc k)) refl (omega arith) (omega arith)
      ∙ ap (λ (l : List ℕ). record { refusal = None; rows = l }) (ap (λ l. l ++ rows) more ∙ append_assoc (rows_of passed) (row ∷ []) rows)

  read_lines : (lines : List (List ℕ)) → Reads (concat lines) (filled_of lines)
  read_lines [] [] passed filled within start few fits =
      (λ i. record { refusal = due_if (not (start i)) (fault_after passed NoLineEnd); rows = sym (append-nil (rows_of passed)) i })
  read_lines [] (row ∷ rows) passed filled within start few fits = absurd (no_line filled)
  read_lines (line ∷ lines) rows passed filled within start few fits = read_first line lines (is_empty_line line) refl (read_lines lines) rows passed filled within start few fits

-- a sheet is read as its rows
pub sheet_read : (n room : ℕ) (text rows : List ℕ) → n ≤ 32 → IsSheet n room text rows → reading n room text ≡ record { refusal = None; rows = rows }
unfolding reading
sheet_read n room text rows narrow s =
    rw (le-ltb most_bytes (length text) s.short)
    (ap (λ l. reading_on n room [] (parts_of l)) (sym (lines_joined text))
    ∙ read_lines n room narrow (lines_of text) rows [] s.lines s.within refl (omega (arith, s.few)) (omega (arith, s.fits)))
