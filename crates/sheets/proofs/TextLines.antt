-- The lines of a text.
use Rattle.std.proofs.Common.{◌≡◌, ℕ, ◌<◌, ◌≤◌, Bool, true, false, cond, not, ◌&&◌, ◌==◌, List, [], ◌∷◌, ◌++◌, map, filter, length, get_or, decimal, flat_map, sym, refl, ap, ◌∙◌, subst, append_assoc, arith, length-append}
use Rattle.std.specs.Char.{is_ascii_digit}
use Rattle.std.specs.List.{All, concat}
use Rattle.std.specs.Str.{all_ascii_digits}
use Rattle.std.proofs.lemmas.Bool.{eqb-true, false≢true}
use Rattle.std.proofs.lemmas.Fmt.{decimal_nonempty, digits_decimal}
use Rattle.std.proofs.lemmas.List.Concat.{concat_is}
use Rattle.std.proofs.lemmas.List.Folds.{flat_map-map}
use Rattle.std.proofs.lemmas.List.Elements.{All-head, All-tail, All-map}
use Rattle.marks.specs.Numbers.{most_marks}
use Rattle.sheets.specs.Accepting.{in_line, lines_of, is_empty_line, filled_lines, HasNoEmptyLine}
use Rattle.sheets.specs.Cutting.{line_end}
use Rattle.sheets.specs.Rendering.{marks_of, or_zero, spaced, row_words, row_text, render}
use Rattle.sheets.proofs.Numbers.{own}
use Rattle.sheets.proofs.Rising.{Rises, rises_le, rising}
use Rattle.sheets.proofs.Runs.{digit_in_line}

-- ---- what a line of a row says

-- no line end is among the bytes
abbrev Unbroken : List ℕ → Type 0
Unbroken [] = Unit {0}
Unbroken (b ∷ bytes) = ((b == line_end) ≡ false) × Unbroken bytes

unbroken_more : (xs ys : List ℕ) → Unbroken xs → Unbroken ys → Unbroken (xs ++ ys)
unbroken_more [] ys u v = v
unbroken_more (x ∷ xs) ys u v = (u.0, unbroken_more xs ys u.1 v)

unbroken_digits : (ds : List ℕ) → all_ascii_digits ds ≡ true → Unbroken ds
unbroken_digits [] all = tt
unbroken_digits (d ∷ ds) all = by (is_ascii_digit d) refl all (unbroken_digits ds)
  where
    by : (t : Bool) → is_ascii_digit d ≡ t → (t && all_ascii_digits ds) ≡ true → (all_ascii_digits ds ≡ true → Unbroken ds) → Unbroken (d ∷ ds)
    by true e h rest = (digit_in_line d e, rest h)
    by false e h rest = absurd (false≢true h)

unbroken_decimal : (x : ℕ) → x ≤ 32 → Unbroken (decimal x)
unbroken_decimal x low = unbroken_digits (decimal x) (digits_decimal own x (omega arith))

unbroken_tail : (high : ℕ) (xs : List ℕ) (x : ℕ) → high ≤ 32 → Rises x high xs → Unbroken (flat_map (λ (y : ℕ). 32 ∷ decimal y) xs)
unbroken_tail high [] x low r = tt
unbroken_tail high (y ∷ ys) x low r =
    (refl, unbroken_more (decimal y) (flat_map (λ (z : ℕ). 32 ∷ decimal z) ys) (unbroken_decimal y (omega (arith, rises_le y high ys r.1))) (unbroken_tail high ys y low r.1))

unbroken_marks : (xs : List ℕ) → Rises 0 32 xs → Unbroken (spaced (or_zero xs))
unbroken_marks [] r = unbroken_more (decimal 0) [] (unbroken_decimal 0 (omega arith)) tt
unbroken_marks (x ∷ xs) r =
    unbroken_more (decimal x) (flat_map (λ (y : ℕ). 32 ∷ decimal y) xs) (unbroken_decimal x (omega (arith, rises_le x 32 xs r.1))) (unbroken_tail 32 xs x (omega arith) r.1)

some_marks : (xs : List ℕ) → Rises 0 32 xs → 0 < length (spaced (or_zero xs))
some_marks [] r = omega (arith, length-append (decimal 0) [], decimal_nonempty 0 (omega arith))
some_marks (x ∷ xs) r =
    omega (arith, length-append (decimal x) (flat_map (λ (y : ℕ). 32 ∷ decimal y) xs), decimal_nonempty x (omega (arith, rises_le x 32 xs r.1)))

words_unbroken : (row : ℕ) → Unbroken (row_words row)
words_unbroken row = unbroken_marks (marks_of row) (rising most_marks row)

words_some : (row : ℕ) → 0 < length (row_words row)
words_some row = some_marks (marks_of row) (rising most_marks row)

-- ---- the first line of a text

first_line : (line rest : List ℕ) → Unbroken line → lines_of (line ++ line_end ∷ rest) ≡ (line ++ line_end ∷ []) ∷ lines_of rest
first_line [] rest u = refl
first_line (b ∷ line) rest u = rw u.0 (ap (in_line b) (first_line line rest u.1))

filled : (line : List ℕ) → 0 < length line → is_empty_line (line ++ line_end ∷ []) ≡ false
filled [] some = absurd (omega arith)
filled (b ∷ []) some = refl
filled (b ∷ c ∷ line) some = refl

row_filled : (row : ℕ) → is_empty_line (row_text row) ≡ false
row_filled row = filled (row_words row) (words_some row)

-- the line of a row is the first of what it leads
row_leads : (row : ℕ) (rest : List ℕ) → lines_of (row_words row ++ line_end ∷ rest) ≡ row_text row ∷ lines_of rest
row_leads row rest = first_line (row_words row) rest (words_unbroken row)

abbrev pub filled_of : List (List ℕ) → List (List ℕ)
filled_of lines = filter (λ line. not (is_empty_line line)) lines

pub row_leads_filled : (row : ℕ) (rest : List ℕ) → filled_lines (row_words row ++ line_end ∷ rest) ≡ row_text row ∷ filled_lines rest
row_leads_filled row rest = ap filled_of (row_leads row rest) ∙ ap (λ t. cond (not t) (row_text row ∷ filled_lines rest) (filled_lines rest)) (row_filled row)

-- an empty line is a line end alone
pub is_empty : (line : List ℕ) → is_empty_line line ≡ true → line ≡ line_end ∷ []
is_empty [] e = absurd (false≢true e)
is_empty (b ∷ []) e = ap (λ c. c ∷ []) (eqb-true b line_end e)
is_empty (b ∷ c ∷ line) e = absurd (false≢true e)

-- ---- a text is its lines, one after another

joined_in_line : (b : ℕ) (lines : List (List ℕ)) → concat (in_line b lines) ≡ b ∷ concat lines
joined_in_line b [] = refl
joined_in_line b (line ∷ lines) = refl

pub lines_joined : (text : List ℕ) → concat (lines_of text) ≡ text
lines_joined [] = refl
lines_joined (b ∷ text) = by (b == line_end) refl (lines_joined text)
  where
    by : (t : Bool) → (b == line_end) ≡ t → concat (lines_of text) ≡ text → concat (cond t ((line_end ∷ []) ∷ lines_of text) (in_line b (lines_of text))) ≡ b ∷ text
    by true e rest = λ i. sym (eqb-true b line_end e) i ∷ rest i
    by false e rest = joined_in_line b (lines_of text) ∙ ap (λ l. b ∷ l) rest

-- ---- the lines of a sheet of rows

lines_of_rows : (rows : List ℕ) → lines_of (render rows) ≡ map row_text rows
lines_of_rows [] = refl
lines_of_rows (row ∷ rows) =
    ap lines_of (append_assoc (row_words row) (line_end ∷ []) (render rows)) ∙ row_leads row (render rows) ∙ ap (λ l. row_text row ∷ l) (lines_of_rows rows)

rows_joined : (rows : List ℕ) → concat (map row_text rows) ≡ render rows
rows_joined rows = concat_is (map row_text rows) ∙ flat_map-map (λ line. line) row_text rows

rows_filled : (rows : List ℕ) → All (λ line. is_empty_line line ≡ false) (map row_text rows)
rows_filled rows = All-map (λ line. is_empty_line line ≡ false) row_text rows (λ k d h. row_filled (get_or rows k d))

-- none of them is empty
pub sheet_filled : (rows : List ℕ) → HasNoEmptyLine (render rows)
sheet_filled rows = subst (All (λ line. is_empty_line line ≡ false)) (sym (lines_of_rows rows)) (rows_filled rows)

-- where no line is empty, all are kept
all_kept : (lines : List (List ℕ)) → All (λ line. is_empty_line line ≡ false) lines → filled_of lines ≡ lines
all_kept [] h = refl
all_kept (line ∷ lines) h =
    ap (λ t. cond (not t) (line ∷ filled_of lines) (filled_of lines)) (All-head (λ line. is_empty_line line ≡ false) line lines h)
    ∙ ap (λ l. line ∷ l) (all_kept lines (All-tail (λ line. is_empty_line line ≡ false) line lines h))

pub sheet_lines : (rows : List ℕ) → filled_lines (render rows) ≡ map row_text rows
sheet_lines rows = all_kept (lines_of (render rows)) (sheet_filled rows) ∙ lines_of_rows rows

-- a text of these lines that has no empty line is their sheet
pub only_sheet : (text rows : List ℕ) → HasNoEmptyLine text → filled_lines text ≡ map row_text rows → text ≡ render rows
only_sheet text rows filled lines =
    sym (lines_joined text) ∙ ap concat (sym (all_kept (lines_of text) filled) ∙ lines) ∙ rows_joined rows
