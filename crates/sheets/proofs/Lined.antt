-- The text of rows, mark by mark and line by line.
use Rattle.std.proofs.Common.{◌≡◌, ℕ, zero, suc, ◌+◌, ◌-◌, ◌*◌, ◌<◌, ◌≤◌, Bool, true, false, cond, List, [], ◌∷◌, ◌++◌, map, length, take, drop, get_or, codes, decimal, flat_map, sym, refl, ap, ◌∙◌, append-nil, append_assoc, arith}
use Rattle.std.proofs.lemmas.Fmt.{length-decimal-le, decimal_nonempty}
use Rattle.std.proofs.lemmas.List.{length-append, length-drop, take_at, take_more, take-append-drop}
use Rattle.std.proofs.lemmas.List.Concat.{flat_map-append, length-flat_map}
use Rattle.std.proofs.lemmas.List.Folds.{flat_map-map}
use Rattle.std.proofs.lemmas.List.FromFn.{fill_by_all, length-map-range_with_len, get_or-map-range_with_len}
use Rattle.std.proofs.lemmas.Slice.{drop-append-drop}
use Rattle.std.specs.List.{range_with_len, sum_by}
use Rattle.marks.specs.Memory.{put_in_front}
use Rattle.marks.specs.Numbers.{most_marks, bit_of}
use Rattle.marks.specs.Sets.{has, bits_below}
use Rattle.marks.proofs.Enumerated.{bits_start, bits_more}
use Rattle.tables.proofs.Passing.{ending_after}
use Rattle.tables.specs.Meaning.{Meaning, count_of, row_of}
use Rattle.sheets.specs.Rendering.{or_zero, spaced, row_words, row_text, render}
use Rattle.sheets.proofs.Numbers.{decimal_zero}

-- ---- the marks of a row

-- a blank, and the mark at a bit
abbrev pub word : ℕ → List ℕ
word b = codes " " ++ decimal (b + 1)

blanks_before : (bits : List ℕ) → flat_map (λ mark. codes " " ++ decimal mark) (map (λ b. b + 1) bits) ≡ flat_map word bits
blanks_before [] = refl
blanks_before (b ∷ bits) = ap (λ (l : List ℕ). word b ++ l) (blanks_before bits)

pub words_none : (row : ℕ) → bits_below most_marks row ≡ [] → row_words row ≡ codes "0"
words_none row e = ap (λ bits. spaced (or_zero (map (λ b. b + 1) bits))) e ∙ ap (λ (l : List ℕ). l ++ []) decimal_zero

pub words_given : (row b : ℕ) (bits : List ℕ) → bits_below most_marks row ≡ b ∷ bits → row_words row ≡ decimal (b + 1) ++ flat_map word bits
words_given row b bits e = ap (λ bits. spaced (or_zero (map (λ b. b + 1) bits))) e ∙ ap (λ (l : List ℕ). decimal (b + 1) ++ l) (blanks_before bits)

-- each mark takes at most three bytes
words_short : (row n : ℕ) → n ≤ 99 → length (flat_map word (bits_below n row)) ≤ 3 * n
words_short row zero h = omega (arith, ap (λ bits. length (flat_map word bits)) (bits_start row))
words_short row (suc n) h =
    let e : suc n ≡ n + 1 = omega arith in
    omega (
      arith,
      ap (λ k. length (flat_map word (bits_below k row))) e,
      ap (λ bits. length (flat_map word bits)) (bits_more row n),
      ap length (flat_map-append word (bits_below n row) (cond (has row n) (n ∷ []) [])),
      length-append (flat_map word (bits_below n row)) (flat_map word (cond (has row n) (n ∷ []) [])),
      words_short row n (omega arith),
      by (has row n),
    )
  where
    by : (t : Bool) → length (flat_map word (cond t (n ∷ []) [])) ≤ 3
    by true = omega (arith, length-append (word n) [], length-append (codes " ") (decimal (n + 1)), length-decimal-le 2 (n + 1) (omega arith) (omega arith) (omega arith))
    by false = omega arith

pub marks_short : (row : ℕ) → length (row_words row) ≤ 95
marks_short row = by (bits_below most_marks row) refl
  where
    by : (bits : List ℕ) → bits_below most_marks row ≡ bits → length (row_words row) ≤ 95
    by [] e = omega (arith, ap length (words_none row e))
    by (b ∷ bits) e =
        omega (
          arith,
          ap length (words_given row b bits e),
          length-append (decimal (b + 1)) (flat_map word bits),
          words_short row most_marks (omega arith),
          ap (λ bits. length (flat_map word bits)) e,
          length-append (word b) (flat_map word bits),
          length-append (codes " ") (decimal (b + 1)),
        )

-- what was written, and the words of the marks that are left, are the text of all marks of the row
pub record Partly (row left : ℕ) (written : List ℕ) : Type 0 where
  pub whole : written ++ flat_map word (bits_below most_marks left) ≡ row_words row
  pub short : length written ≤ 95

partly : (row left : ℕ) (written : List ℕ) → written ++ flat_map word (bits_below most_marks left) ≡ row_words row → Partly row left written
partly row left written e =
    record { whole = e; short = omega (arith, ap length e, length-append written (flat_map word (bits_below most_marks left)), marks_short row) }

pub first_mark : {row rest n : ℕ} {written : List ℕ} → 0 < n → bits_below most_marks row ≡ bit_of n ∷ bits_below most_marks rest → written ≡ decimal n → Partly row rest written
first_mark {row = row} {rest = rest} {n = n} {written = written} some e is =
    let back : n - 1 + 1 ≡ n = omega arith in
    partly row rest written
    (ap (λ (l : List ℕ). l ++ flat_map word (bits_below most_marks rest)) (is ∙ ap decimal (sym back)) ∙ sym (words_given row (n - 1) (bits_below most_marks rest) e))

pub next_mark : {row left rest n : ℕ} {written : List ℕ} → 0 < n → Partly row left written → bits_below most_marks left ≡ bit_of n ∷ bits_below most_marks rest
    → Partly row rest ((written ++ codes " ") ++ decimal n)
next_mark {row = row} {rest = rest} {n = n} {written = written} some p e =
    let back : n - 1 + 1 ≡ n = omega arith in
    partly row rest ((written ++ codes " ") ++ decimal n)
    (ap (λ m. ((written ++ codes " ") ++ decimal m) ++ flat_map word (bits_below most_marks rest)) (sym back) ∙ (simp append_assoc)
    ∙ ap (λ bits. written ++ flat_map word bits) (sym e) ∙ p.whole)

-- there is room for the blank and the digits of a mark that is left
pub next_room : {row left n : ℕ} {written : List ℕ} (rest : ℕ) → 0 < n → n < 100 → Partly row left written → bits_below most_marks left ≡ bit_of n ∷ bits_below most_marks rest
    → length written + 3 ≤ 96
next_room {n = n} {written = written} rest some small p e =
    omega (arith, (next_mark some p e).short, length-append (written ++ codes " ") (decimal n), length-append written (codes " "), decimal_nonempty n (omega arith))

-- ---- the lines of rows

pub line_short : (row : ℕ) → length (row_text row) ≤ 96
line_short row = omega (arith, length-append (row_words row) (codes "\n"), marks_short row)

pub render_more : (rows : List ℕ) (k : ℕ) → k < length rows → render (take (k + 1) rows) ≡ render (take k rows) ++ row_text (get_or rows k 0)
render_more rows k h =
    ap render (take_more rows k 0 h) ∙ flat_map-append row_text (take k rows) (get_or rows k 0 ∷ [])
    ∙ ap (λ (l : List ℕ). render (take k rows) ++ l) (append-nil (row_text (get_or rows k 0)))

pub render_part : (rows : List ℕ) (k : ℕ) → length (render (take k rows)) ≤ length (render rows)
render_part rows k =
    omega (
      arith,
      ap (λ (l : List ℕ). length (render l)) (take-append-drop k rows),
      ap length (flat_map-append row_text (take k rows) (drop k rows)),
      length-append (render (take k rows)) (render (drop k rows)),
    )

-- ---- texts in the front of memory

pub in_front_size : (text old : List ℕ) → length text ≤ length old → length (put_in_front text old) ≡ length old
in_front_size text old h = length-append text (drop (length text) old) ∙ omega (arith, length-drop (length text) old)

-- a text that is written behind one that stands in front
pub in_front_more : (text more old : List ℕ)
    → take (length text) (put_in_front text old) ++ (more ++ drop (length text + length more) (put_in_front text old)) ≡ put_in_front (text ++ more) old
in_front_more text more old =
    let front : take (length text) (put_in_front text old) ≡ text = take_at text (drop (length text) old) (length text) refl in
    let rest : drop (length text + length more) (put_in_front text old) ≡ drop (length text + length more) old =
    drop-append-drop (length text) old text (length text + length more) (omega arith) refl
    in
    (λ i. front i ++ (more ++ rest i)) ∙ sym (append_assoc text more (drop (length text + length more) old)) ∙ ap (λ n. (text ++ more) ++ drop n old) (sym (length-append text more))

-- ---- in a pass over a table

module _ (m : Meaning) where
  pub size_more : (k : ℕ) → k < count_of m → length (render (ending_after k m).rows) + length (row_text (get_or m.rows k 0)) ≡ length (render (ending_after (k + 1) m).rows)
  size_more k h = sym (ap length (render_more m.rows k h) ∙ length-append (render (take k m.rows)) (row_text (get_or m.rows k 0)))

-- a line more behind those that stand in front, and where it ends
abbrev pub line_put : ℕ → List ℕ × ℕ → List ℕ × ℕ
line_put row written = (take written.1 written.0 ++ (row_text row ++ drop (written.1 + length (row_text row)) written.0), written.1 + length (row_text row))

module _ (old : List ℕ) where
  -- the lines of a table in front of memory, and where they end
  abbrev pub lines_in : Meaning → List ℕ × ℕ
  lines_in m = (put_in_front (render m.rows) old, length (render m.rows))

  pub lines_more : (m : Meaning) (k : ℕ) → k < count_of m → line_put (get_or m.rows k 0) (lines_in (ending_after k m)) ≡ lines_in (ending_after (k + 1) m)
  lines_more m k h =
      let text : put_in_front (render (take k m.rows) ++ row_text (get_or m.rows k 0)) old ≡ put_in_front (render (take (k + 1) m.rows)) old =
      ap (λ text. put_in_front text old) (sym (render_more m.rows k h))
      in
      (λ i. ((in_front_more (render (take k m.rows)) (row_text (get_or m.rows k 0)) old ∙ text) i, size_more m k h i))

  -- there is room for the next line
  pub lines_room : (m : Meaning) → length (render m.rows) ≤ length old → (k charge : ℕ) → charge ≡ k + 1 → k < count_of m → (written : List ℕ × ℕ) → written ≡ lines_in (ending_after k m)
      → written.1 + length (row_text (row_of m charge)) ≤ length written.0
  lines_room m room k charge next here written e =
      let place : charge - 1 ≡ k = omega arith in
      omega (
        arith,
        ap (λ (w : List ℕ × ℕ). w.1) e,
        ap (λ (w : List ℕ × ℕ). length w.0) e,
        ap (λ j. length (row_text (get_or m.rows j 0))) place,
        size_more m k here,
        render_part m.rows (k + 1),
        render_part m.rows k,
        in_front_size (render (take k m.rows)) old (omega (arith, render_part m.rows k)),
      )

-- ---- the size of a sheet, line by line

module _ (m : Meaning) where
  -- the charges of a table, by number
  abbrev pub charges_of : List ℕ
  charges_of = range_with_len 1 (count_of m)

  rows_in_turn : map (row_of m) charges_of ≡ m.rows
  rows_in_turn =
      fill_by_all (λ k. get_or m.rows k 0) (map (row_of m) charges_of) (count_of m) 0 (length-map-range_with_len (row_of m) 1 (count_of m))
      (λ k h. let place : k + 1 - 1 ≡ k = omega arith in get_or-map-range_with_len (row_of m) 1 (count_of m) k (k + 1) 0 h (omega arith) ∙ ap (λ i. get_or m.rows i 0) place)
      ∙ sym (fill_by_all (λ k. get_or m.rows k 0) m.rows (count_of m) 0 refl (λ k h. refl))

  pub lines_summed : sum_by (λ charge. length (row_text (row_of m charge))) charges_of ≡ length (render m.rows)
  lines_summed =
      sym (length-flat_map (λ charge. row_text (row_of m charge)) charges_of) ∙ ap length (sym (flat_map-map row_text (row_of m) charges_of))
      ∙ ap (λ rows. length (render rows)) rows_in_turn
