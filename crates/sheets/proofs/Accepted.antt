-- A text with no fault is a sheet of the rows that are packed.
use Rattle.std.proofs.Common.{◌≡◌, ℕ, suc, ◌+◌, ◌-◌, ◌*◌, ◌^◌, ◌<◌, ◌≤◌, Bool, true, false, cond, not, ◌||◌, ◌&&◌, ◌==◌, ltb, leb, ◌⊎◌, ◌≢◌, inl, inr, List, [], ◌∷◌, ◌++◌, map, length, get_or, decimal, flat_map, Some, None, Option, sym, refl, ap, ◌∙◌, subst, append-nil, append_assoc, arith, length-append, pow_pos}
use Rattle.std.specs.Char.{is_ascii_digit}
use Rattle.std.proofs.Math.Pow.{pow_mono}
use Rattle.std.proofs.lemmas.Bool.{and_parts, or_parts, cases_lt, cases_eq, eqb-true, eq-eqb, ne_eqb, false≢true, false_from_ne_true, leb-false, le-ltb, lt-ltb, ltb-false, not-false}
use Rattle.std.proofs.lemmas.Fmt.{decimal-digits_value}
use Rattle.std.proofs.lemmas.List.{get_or_append_left, get_or_past, get_or_push, map-append}
use Rattle.std.proofs.lemmas.List.Concat.{flat_map-append}
use Rattle.std.proofs.lemmas.Option.{none-some}
use Rattle.marks.specs.declared.refusal.Reason.{Reason}
use Rattle.marks.specs.declared.refusal.Reason.TheVariants.{BadNumber, BadRise, BadBlank, NoLineEnd, TooMany, NoPlace, Long}
use Rattle.marks.specs.declared.refusal.Refusal.{Refusal}
use Rattle.marks.specs.Numbers.{most_charges}
use Rattle.marks.specs.Refusals.{due_if, first_due, unplaced}
use Rattle.marks.specs.Sets.{with_bit}
use Rattle.tables.specs.Packed.{row_bytes}
use Rattle.sheets.specs.Accepting.{filled_lines, IsSheet}
use Rattle.sheets.specs.Cutting.{Part, Digits, Gap, Break, Odd, blank, line_end, part_of_byte, led_by, part_bytes, parts_of}
use Rattle.sheets.specs.Knowing.{IsSound, after_zero, ZeroEndsLine}
use Rattle.sheets.specs.Reading.{text_of, worth, with_number, open_row, rows_of, left_number, at_line_start, after_blank, breaks, ends_line, fault_after, is_single_zero, is_no_marks, is_bad_number, is_bad_blank, number_fault, charge_fault, part_fault, Reading, unless_fault, reading_on, text_reading, reading}
use Rattle.sheets.specs.Rendering.{marks_of, or_zero, spaced, row_words, row_text, most_bytes}
use Rattle.sheets.proofs.Numbers.{own, single_zero, decimal_zero}
use Rattle.sheets.proofs.Passing.{starts, no_row, one_row}
use Rattle.sheets.proofs.Rising.{added, marks_added, marks_none}
use Rattle.sheets.proofs.Steps.{AllSound, sound, zero_ends}
use Rattle.sheets.proofs.TextLines.{row_leads_filled}

-- ---- the parts of a text are all of it, and no number follows a number

led_whole : (b : ℕ) (parts : List Part) → flat_map part_bytes (led_by b parts) ≡ b ∷ flat_map part_bytes parts
led_whole b [] = refl
led_whole b (Digits ds ∷ parts) = refl
led_whole b (Gap ∷ parts) = refl
led_whole b (Break ∷ parts) = refl
led_whole b (Odd c ∷ parts) = refl

byte_whole : (b : ℕ) → part_bytes (part_of_byte b) ≡ b ∷ []
byte_whole b = by (b == blank) (b == line_end) refl refl
  where
    by : (s t : Bool) → (b == blank) ≡ s → (b == line_end) ≡ t → part_bytes (cond s Gap (cond t Break (Odd b))) ≡ b ∷ []
    by true t e f = ap (λ (c : ℕ). c ∷ []) (sym (eqb-true b blank e))
    by false true e f = ap (λ (c : ℕ). c ∷ []) (sym (eqb-true b line_end f))
    by false false e f = refl

whole : (text : List ℕ) → flat_map part_bytes (parts_of text) ≡ text
whole [] = refl
whole (b ∷ text) = by (is_ascii_digit b) (whole text)
  where
    by : (t : Bool) → flat_map part_bytes (parts_of text) ≡ text → flat_map part_bytes (cond t (led_by b (parts_of text)) (part_of_byte b ∷ parts_of text)) ≡ b ∷ text
    by true ih = led_whole b (parts_of text) ∙ ap (λ l. b ∷ l) ih
    by false ih = (λ i. byte_whole b i ++ ih i)

abbrev begins_number : List Part → Bool
begins_number [] = false
begins_number (Digits ds ∷ parts) = true
begins_number (Gap ∷ parts) = false
begins_number (Break ∷ parts) = false
begins_number (Odd b ∷ parts) = false

abbrev Apart : List Part → Type 0
Apart [] = Unit {0}
Apart (Digits ds ∷ parts) = (begins_number parts ≡ false) × Apart parts
Apart (Gap ∷ parts) = Apart parts
Apart (Break ∷ parts) = Apart parts
Apart (Odd b ∷ parts) = Apart parts

led_apart : (b : ℕ) (parts : List Part) → Apart parts → Apart (led_by b parts)
led_apart b [] h = (refl, tt)
led_apart b (Digits ds ∷ parts) h = h
led_apart b (Gap ∷ parts) h = (refl, h)
led_apart b (Break ∷ parts) h = (refl, h)
led_apart b (Odd c ∷ parts) h = (refl, h)

byte_apart : (b : ℕ) (parts : List Part) → Apart parts → Apart (part_of_byte b ∷ parts)
byte_apart b parts h = by (b == blank) (b == line_end)
  where
    by : (s t : Bool) → Apart (cond s Gap (cond t Break (Odd b)) ∷ parts)
    by true t = h
    by false true = h
    by false false = h

apart : (text : List ℕ) → Apart (parts_of text)
apart [] = tt
apart (b ∷ text) = by (is_ascii_digit b) (apart text)
  where
    by : (t : Bool) → Apart (parts_of text) → Apart (cond t (led_by b (parts_of text)) (part_of_byte b ∷ parts_of text))
    by true h = led_apart b (parts_of text) h
    by false h = byte_apart b (parts_of text) h

-- ---- what no fault tells

passes : (due : Option Refusal) (rows : List ℕ) (rest : Reading) → (unless_fault due rows rest).refusal ≡ None → (due ≡ None) × (rest.refusal ≡ None) × (unless_fault due rows rest ≡ rest)
passes (Some refusal) rows rest e = absurd (none-some refusal (sym e))
passes None rows rest e = (refl, e, refl)

none_due : (t : Bool) (refusal : Refusal) → due_if t refusal ≡ None → t ≡ false
none_due true refusal e = absurd (none-some refusal (sym e))
none_due false refusal e = refl

neither_due : (s t : Bool) (one other : Refusal) → first_due (due_if s one ∷ due_if t other ∷ []) ≡ None → (s ≡ false) × (t ≡ false)
neither_due true t one other e = absurd (none-some one (sym e))
neither_due false true one other e = absurd (none-some other (sym e))
neither_due false false one other e = (refl, refl)

-- ---- what is known of the parts that are passed without a fault

abbrev gap : List Part → List ℕ
gap passed = cond (after_blank passed) (blank ∷ []) []

-- what the line that is not yet ended says so far
abbrev open_words : List Part → List ℕ
open_words passed = cond (at_line_start passed) [] (row_words (open_row passed))

-- Whatever follows, the lines of the text that are not empty are those of the rows so far, and then those of the open line and of what follows.
record Well (n room : ℕ) (passed : List Part) : Type 0 where
  lines : (more : List ℕ) → filled_lines (text_of passed ++ more) ≡ map row_text (rows_of passed) ++ filled_lines (open_words passed ++ (gap passed ++ more))
  within : (k : ℕ) → get_or (rows_of passed) k 0 < 2 ^ n
  few : length (rows_of passed) ≤ most_charges
  fits : row_bytes * length (rows_of passed) ≤ room
  high : open_row passed < 2 ^ left_number passed
  low : left_number passed ≤ n
  some : at_line_start passed ≡ false → after_zero passed ≡ false → 0 < length (marks_of (open_row passed))

-- how what is passed and what follows are joined
record Joined (passed parts : List Part) : Type 0 where
  apart : at_line_start passed ≡ false → after_blank passed ≡ false → begins_number parts ≡ false
  blank : after_blank passed ≡ true → breaks parts ≡ false
  zero : ZeroEndsLine passed parts

-- a mark more behind others
text_more : (xs : List ℕ) (x : ℕ) → 0 < length xs → spaced (xs ++ x ∷ []) ≡ spaced xs ++ blank ∷ decimal x
text_more [] x h = absurd (omega arith)
text_more (y ∷ ys) x h =
    ap (λ l. decimal y ++ l) (flat_map-append (λ (z : ℕ). 32 ∷ decimal z) ys (x ∷ []) ∙ ap (λ l. flat_map (λ (z : ℕ). 32 ∷ decimal z) ys ++ l) (append-nil (32 ∷ decimal x)))
    ∙ sym (append_assoc (decimal y) (flat_map (λ (z : ℕ). 32 ∷ decimal z) ys) (32 ∷ decimal x))

within_more : (n : ℕ) (rows : List ℕ) (row : ℕ) → ((k : ℕ) → get_or rows k 0 < 2 ^ n) → row < 2 ^ n → (k : ℕ) → get_or (rows ++ row ∷ []) k 0 < 2 ^ n
within_more n rows row within h k = by (cases_lt k (length rows)) (cases_eq (length rows) k)
  where
    by : (k < length rows) ⊎ (length rows ≤ k) → (length rows ≡ k) ⊎ (length rows ≢ k) → get_or (rows ++ row ∷ []) k 0 < 2 ^ n
    by (inl l) any = rw (get_or_append_left rows (row ∷ []) 0 k l) (within k)
    by (inr g) (inl e) = rw (get_or_push rows row 0 k e) h
    by (inr g) (inr d) = rw (get_or_past (rows ++ row ∷ []) k 0 (omega (arith, length-append rows (row ∷ [])))) (pow_pos n)

-- a row that has marks is written as these
with_marks : (xs : List ℕ) → 0 < length xs → or_zero xs ≡ xs
with_marks [] some = absurd (omega arith)
with_marks (x ∷ xs) some = refl

module _ (n room : ℕ) (narrow : n ≤ 32) (passed : List Part) (w : Well n room passed) where
  -- more bytes of the text
  lines_on : (bytes more : List ℕ) → filled_lines ((text_of passed ++ bytes) ++ more) ≡ map row_text (rows_of passed) ++ filled_lines (open_words passed ++ (gap passed ++ (bytes ++ more)))
  lines_on bytes more = ap filled_lines (append_assoc (text_of passed) bytes more) ∙ w.lines (bytes ++ more)

  well_blank : at_line_start passed ≡ false → after_blank passed ≡ false → after_zero passed ≡ false → Well n room (Gap ∷ passed)
  well_blank start none marked = record {
    lines = λ more.
        lines_on (blank ∷ []) more
        ∙ (λ i. map row_text (rows_of passed) ++ filled_lines (cond (start i) [] (row_words (open_row passed)) ++ (cond (none i) (blank ∷ []) [] ++ blank ∷ more)));
    within = w.within;
    few = w.few;
    fits = w.fits;
    high = w.high;
    low = w.low;
    some = λ _ _. w.some start marked;
  }

  -- an empty line
  well_empty : at_line_start passed ≡ true → Well n room (Break ∷ passed)
  well_empty start =
      let rows = sym (no_row passed start) in
      let none = (starts passed start).blank in
      record {
        lines = λ more.
            lines_on (line_end ∷ []) more
            ∙ (λ i. map row_text (rows i) ++ filled_lines (cond (start i) [] (row_words (open_row passed)) ++ (cond (none i) (blank ∷ []) [] ++ line_end ∷ more)));
        within = subst (λ (l : List ℕ). (k : ℕ) → get_or l k 0 < 2 ^ n) rows w.within;
        few = omega (arith, w.few, ap length rows);
        fits = omega (arith, w.fits, ap length rows);
        high = omega arith;
        low = omega arith;
        some = λ s z. absurd (false≢true (sym s));
      }

  well_break : at_line_start passed ≡ false → after_blank passed ≡ false → length (rows_of passed) < most_charges → row_bytes * (length (rows_of passed) + 1) ≤ room → Well n room (Break ∷ passed)
  well_break start none few fits =
      let rows = rows_of passed in
      let row = open_row passed in
      let ended = sym (one_row passed start) in
      let size : length (rows ++ row ∷ []) ≡ length rows + 1 = length-append rows (row ∷ []) ∙ (omega arith) in
      record {
        lines = λ more.
            lines_on (line_end ∷ []) more
            ∙ (λ i. map row_text rows ++ filled_lines (cond (start i) [] (row_words row) ++ (cond (none i) (blank ∷ []) [] ++ line_end ∷ more)))
            ∙ ap (λ (l : List (List ℕ)). map row_text rows ++ l) (row_leads_filled row more) ∙ sym (append_assoc (map row_text rows) (row_text row ∷ []) (filled_lines more))
            ∙ ap (λ l. l ++ filled_lines more) (sym (map-append row_text rows (row ∷ [])) ∙ ap (map row_text) ended);
        within = subst (λ (l : List ℕ). (k : ℕ) → get_or l k 0 < 2 ^ n) ended (within_more n rows row w.within (omega (arith, w.high, pow_mono {i = left_number passed} {j = n} w.low)));
        few = omega (arith, ap length ended);
        fits = omega (arith, ap length ended);
        high = omega arith;
        low = omega arith;
        some = λ s z. absurd (false≢true (sym s));
      }

  -- digits with which the line then says this
  lines_digits : (ds : List ℕ) → open_words passed ++ (gap passed ++ ds) ≡ row_words (open_row (Digits ds ∷ passed)) → (more : List ℕ)
      → filled_lines (text_of (Digits ds ∷ passed) ++ more) ≡ map row_text (rows_of passed) ++ filled_lines (row_words (open_row (Digits ds ∷ passed)) ++ more)
  lines_digits ds words more =
      lines_on ds more
      ∙ ap (λ l. map row_text (rows_of passed) ++ filled_lines l)
      (ap (λ l. open_words passed ++ l) (sym (append_assoc (gap passed) ds more)) ∙ sym (append_assoc (open_words passed) (gap passed ++ ds) more) ∙ ap (λ l. l ++ more) words)

  -- a charge without marks
  module _ (ds : List ℕ) (start : at_line_start passed ≡ true) (zero : is_single_zero ds ≡ true) where
    worth_zero : worth ds ≡ 0
    worth_zero = ap worth (single_zero ds zero)

    row_zero : open_row (Digits ds ∷ passed) ≡ 0
    row_zero = ap (with_number (open_row passed)) worth_zero ∙ (starts passed start).row

    zero_words : open_words passed ++ (gap passed ++ ds) ≡ row_words (open_row (Digits ds ∷ passed))
    zero_words =
        (λ i. cond (start i) [] (row_words (open_row passed)) ++ (cond ((starts passed start).blank i) (blank ∷ []) [] ++ single_zero ds zero i))
        ∙ sym (ap row_words row_zero ∙ ap (λ l. spaced (or_zero l)) marks_none ∙ ap (λ (l : List ℕ). l ++ []) decimal_zero)

    well_zero : Well n room (Digits ds ∷ passed)
    well_zero = record {
      lines = lines_digits ds zero_words;
      within = w.within;
      few = w.few;
      fits = w.fits;
      high = rw (row_zero, worth_zero) (omega arith);
      low = rw worth_zero (omega arith);
      some = λ s z. absurd (false≢true (sym z ∙ zero));
    }

  module _ (ds : List ℕ) (digits : IsSound (Digits ds)) (joined : at_line_start passed ≡ false → after_blank passed ≡ false → ⊥) (marked : at_line_start passed ≡ false → after_zero passed ≡ false)
      (first : get_or ds 0 0 ≡ 48 → ⊥) (low : worth ds ≤ n) (above : left_number passed < worth ds) where
    plain : decimal (worth ds) ≡ ds
    plain = decimal-digits_value own ds digits.1 digits.0 (λ z. absurd (first z)) (omega arith)

    row_below : open_row passed < 2 ^ (worth ds - 1)
    row_below = omega (arith, w.high, pow_mono {i = left_number passed} {j = worth ds - 1} (omega arith))

    mark_added : open_row (Digits ds ∷ passed) ≡ with_bit (open_row passed) (worth ds - 1)
    mark_added = rw (ne_eqb (worth ds) 0 (omega arith)) refl

    marks_more : marks_of (open_row (Digits ds ∷ passed)) ≡ marks_of (open_row passed) ++ worth ds ∷ []
    marks_more =
        let back : worth ds - 1 + 1 ≡ worth ds = omega arith in
        ap marks_of mark_added ∙ marks_added (open_row passed) (worth ds - 1) (omega arith) row_below ∙ ap (λ y. marks_of (open_row passed) ++ y ∷ []) back

    some_more : 0 < length (marks_of (open_row (Digits ds ∷ passed)))
    some_more = omega (arith, ap length marks_more, length-append (marks_of (open_row passed)) (worth ds ∷ []))

    number_words : (s t : Bool) → at_line_start passed ≡ s → after_blank passed ≡ t → cond s [] (row_words (open_row passed)) ++ (cond t (blank ∷ []) [] ++ ds) ≡ row_words (open_row (Digits ds ∷ passed))
    number_words true t e f =
        let z = starts passed e in
        let none : marks_of (open_row passed) ≡ [] = ap marks_of z.row ∙ marks_none in
        let one : row_words (open_row (Digits ds ∷ passed)) ≡ ds =
        ap (λ l. spaced (or_zero l)) (marks_more ∙ ap (λ l. l ++ worth ds ∷ []) none) ∙ append-nil (decimal (worth ds)) ∙ plain
        in
        ap (λ t. cond t (blank ∷ []) [] ++ ds) (sym f ∙ z.blank) ∙ sym one
    number_words false true e f =
        let marks = marks_of (open_row passed) in
        let some = w.some e (marked e) in
        let one : row_words (open_row passed) ≡ spaced marks = ap spaced (with_marks marks some) in
        let more : row_words (open_row (Digits ds ∷ passed)) ≡ spaced marks ++ blank ∷ ds =
        ap spaced (with_marks (marks_of (open_row (Digits ds ∷ passed))) some_more ∙ marks_more) ∙ text_more marks (worth ds) some ∙ ap (λ l. spaced marks ++ blank ∷ l) plain
        in
        ap (λ l. l ++ blank ∷ ds) one ∙ sym more
    number_words false false e f = absurd (joined e f)

    well_number : Well n room (Digits ds ∷ passed)
    well_number =
        let sum = added (open_row passed) (worth ds - 1) row_below in
        let back : suc (worth ds - 1) ≡ worth ds = omega arith in
        let small : open_row (Digits ds ∷ passed) < 2 ^ suc (worth ds - 1) = omega (arith, row_below, mark_added) in
        record {
          lines = lines_digits ds (number_words (at_line_start passed) (after_blank passed) refl refl);
          within = w.within;
          few = w.few;
          fits = w.fits;
          high = subst (λ k. open_row (Digits ds ∷ passed) < 2 ^ k) back small;
          low = low;
          some = λ _ _. some_more;
        }

abbrev Sheet : ℕ → ℕ → List ℕ → List ℕ → Type 0
Sheet n room text rows = (filled_lines text ≡ map row_text rows) × ((k : ℕ) → get_or rows k 0 < 2 ^ n) × (length rows ≤ most_charges) × (row_bytes * length rows ≤ room)

number_good : (placed : Reason → Refusal) (n left : ℕ) (ds : List ℕ) → number_fault placed n left ds ≡ None → (get_or ds 0 0 ≡ 48 → ⊥) × (worth ds ≤ n) × (left < worth ds)
number_good placed n left ds e =
    let d = neither_due (is_bad_number n ds) (leb (worth ds) left) (placed BadNumber) (placed BadRise) e in
    let bad = or_parts (get_or ds 0 0 == 48) (ltb n (worth ds)) d.0 in
    (λ z. false≢true (sym bad.0 ∙ eq-eqb (get_or ds 0 0) 48 z), ltb-false n (worth ds) bad.1, leb-false (worth ds) left d.1)

charge_good : (placed : Reason → Refusal) (room count : ℕ) → charge_fault placed room count ≡ None → (count < most_charges) × (row_bytes * (count + 1) ≤ room)
charge_good placed room count e =
    let d = neither_due (leb most_charges count) (ltb room (row_bytes * (count + 1))) (placed TooMany) (placed NoPlace) e in
    (leb-false most_charges count d.0, ltb-false room (row_bytes * (count + 1)) d.1)

-- what is known one part on is known here
back : (n room : ℕ) (passed : List Part) (part : Part) (parts : List Part) (here on : Reading) → here ≡ on → Sheet n room (text_of (part ∷ passed) ++ flat_map part_bytes parts) on.rows
    → Sheet n room (text_of passed ++ flat_map part_bytes (part ∷ parts)) here.rows
back n room passed part parts here on e s =
    subst (λ t. Sheet n room t here.rows) (append_assoc (text_of passed) (part_bytes part) (flat_map part_bytes parts))
    (subst (λ (r : Reading). Sheet n room (text_of (part ∷ passed) ++ flat_map part_bytes parts) r.rows) (sym e) s)

-- where its line goes on, no 0 is passed
not_zero : (passed parts : List Part) → ZeroEndsLine passed parts → ends_line parts ≡ false → after_zero passed ≡ false
not_zero passed parts ends on = false_from_ne_true (after_zero passed) (λ z. false≢true (sym on ∙ ends z))

module _ (n room : ℕ) (narrow : n ≤ 32) where
  -- a number without a fault
  number_passed : (passed : List Part) (ds : List ℕ) (parts : List Part) (t : Bool) → is_no_marks passed ds parts ≡ t → Well n room passed → IsSound (Digits ds) → Joined passed (Digits ds ∷ parts)
      → cond t None (number_fault (fault_after passed) n (left_number passed) ds) ≡ None → Well n room (Digits ds ∷ passed)
  number_passed passed ds parts true is w digits j e =
      let zero = and_parts (is_single_zero ds) (at_line_start passed && ends_line parts) is in
      well_zero n room narrow passed w ds (and_parts (at_line_start passed) (ends_line parts) zero.1).0 zero.0
  number_passed passed ds parts false is w digits j e =
      let g = number_good (fault_after passed) n (left_number passed) ds e in
      well_number n room narrow passed w ds digits (λ s t. false≢true (sym (j.apart s t))) (λ _. not_zero passed (Digits ds ∷ parts) j.zero refl) g.0 g.1 g.2

  -- a line that ends without a fault
  line_passed : (passed : List Part) (parts : List Part) (t : Bool) → at_line_start passed ≡ t → Well n room passed → Joined passed (Break ∷ parts)
      → cond t None (charge_fault (fault_after passed) room (length (rows_of passed))) ≡ None → Well n room (Break ∷ passed)
  line_passed passed parts true start w j e = well_empty n room narrow passed w start
  line_passed passed parts false start w j e =
      let g = charge_good (fault_after passed) room (length (rows_of passed)) e in
      let none = false_from_ne_true (after_blank passed) (λ t. false≢true (sym (j.blank t))) in
      well_break n room narrow passed w start none g.0 g.1

  go : (parts passed : List Part) → Well n room passed → AllSound parts → Apart parts → Joined passed parts → (reading_on n room passed parts).refusal ≡ None
      → Sheet n room (text_of passed ++ flat_map part_bytes parts) (reading_on n room passed parts).rows
  go [] passed w sounds parted j e =
      let start = not-false (at_line_start passed) (none_due (not (at_line_start passed)) (fault_after passed NoLineEnd) e) in
      let none = (starts passed start).blank in (
        w.lines [] ∙ (λ i. map row_text (rows_of passed) ++ filled_lines (cond (start i) [] (row_words (open_row passed)) ++ (cond (none i) (blank ∷ []) [] ++ []))) ∙ append-nil (map row_text (rows_of passed)),
        w.within,
        w.few,
        w.fits,
      )
  go (Digits ds ∷ parts) passed w sounds parted j e =
      let on = reading_on n room (Digits ds ∷ passed) parts in
      let p = passes (part_fault n room passed (Digits ds) parts) (rows_of passed) on e in
      let next = number_passed passed ds parts (is_no_marks passed ds parts) refl w sounds.0 j p.0 in
      back n room passed (Digits ds) parts (reading_on n room passed (Digits ds ∷ parts)) on p.2
      (go parts (Digits ds ∷ passed) next sounds.1 parted.1 (record { apart = λ s t. parted.0; blank = λ t. absurd (false≢true t); zero = zero_ends n room passed (Digits ds) parts p.0 }) p.1)
  go (Gap ∷ parts) passed w sounds parted j e =
      let on = reading_on n room (Gap ∷ passed) parts in
      let p = passes (part_fault n room passed Gap parts) (rows_of passed) on e in
      let one = or_parts (at_line_start passed) (after_blank passed || breaks parts) (none_due (is_bad_blank passed parts) (fault_after passed BadBlank) p.0) in
      let two = or_parts (after_blank passed) (breaks parts) one.1 in
      let next = well_blank n room narrow passed w one.0 two.0 (not_zero passed (Gap ∷ parts) j.zero refl) in
      back n room passed Gap parts (reading_on n room passed (Gap ∷ parts)) on p.2
      (go parts (Gap ∷ passed) next sounds.1 parted (record { apart = λ s t. absurd (false≢true (sym t)); blank = λ t. two.1; zero = zero_ends n room passed Gap parts p.0 }) p.1)
  go (Break ∷ parts) passed w sounds parted j e =
      let on = reading_on n room (Break ∷ passed) parts in
      let p = passes (part_fault n room passed Break parts) (rows_of passed) on e in
      let next = line_passed passed parts (at_line_start passed) refl w j p.0 in
      back n room passed Break parts (reading_on n room passed (Break ∷ parts)) on p.2
      (go parts (Break ∷ passed) next sounds.1 parted (record { apart = λ s t. absurd (false≢true (sym s)); blank = λ t. absurd (false≢true t); zero = zero_ends n room passed Break parts p.0 }) p.1)
  go (Odd b ∷ parts) passed w sounds parted j e = absurd (none-some _ (sym e))

well_none : (n room : ℕ) → Well n room []
well_none n room = record {
  lines = λ more. refl;
  within = λ k. pow_pos n;
  few = omega arith;
  fits = omega arith;
  high = omega arith;
  low = omega arith;
  some = λ s z. absurd (false≢true (sym s));
}

pub accepted : (n room : ℕ) (text : List ℕ) → n ≤ 32 → (reading n room text).refusal ≡ None → IsSheet n room text (reading n room text).rows
unfolding reading
accepted n room text narrow e = by (cases_lt most_bytes (length text))
  where
    by : (most_bytes < length text) ⊎ (length text ≤ most_bytes) → IsSheet n room text (reading n room text).rows
    by (inl long) = let r = sym e ∙ (rw (lt-ltb most_bytes (length text) long) refl) in absurd (none-some (unplaced Long) r)
    by (inr short) =
        let is : reading n room text ≡ text_reading n room text = rw (le-ltb most_bytes (length text) short) refl in
        let s = go n room narrow (parts_of text) [] (well_none n room) (sound text) (apart text)
        (record { apart = λ s t. absurd (false≢true (sym s)); blank = λ t. absurd (false≢true t); zero = λ z. absurd (false≢true z) })
        (ap (λ r. r.refusal) (sym is) ∙ e) in
        subst (λ (r : Reading). IsSheet n room text r.rows) (sym is) (record { lines = ap filled_lines (sym (whole text)) ∙ s.0; within = s.1; few = s.2; fits = s.3; short = short })
