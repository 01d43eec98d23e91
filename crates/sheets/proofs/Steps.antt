-- A sheet is read part by part: each step, and where reading ends.
use Rattle.std.proofs.Common.{◌≡◌, ℕ, ◌+◌, ◌<◌, Bool, true, false, cond, not, ◌&&◌, ◌==◌, List, [], ◌∷◌, ◌++◌, length, take, drop, Some, None, Ok, Err, Option, Result, sym, refl, ap, ◌∙◌, subst, arith}
use Rattle.std.specs.Char.{is_ascii_digit}
use Rattle.std.proofs.Math.Seq.{take-add}
use Rattle.std.proofs.lemmas.Bool.{eqb-true, false≢true}
use Rattle.std.proofs.lemmas.List.{take_at}
use Rattle.std.proofs.lemmas.Option.{none-some}
use Rattle.marks.specs.declared.refusal.Reason.TheVariants.{BadByte, BadNumber, NoLineEnd}
use Rattle.marks.specs.declared.refusal.Refusal.{Refusal}
use Rattle.marks.specs.Refusals.{Answers, due_if, placed_at_two}
use Rattle.marks.specs.Sets.{no_marks}
use Rattle.sheets.specs.declared.line.Left.TheVariants.{Nothing}
use Rattle.sheets.specs.declared.piece.Ahead.{Ahead}
use Rattle.sheets.specs.declared.piece.Ahead.TheVariants.{More, LineEnd}
use Rattle.sheets.specs.declared.piece.Piece.{Piece}
use Rattle.sheets.specs.declared.piece.Place.{Place}
use Rattle.sheets.specs.declared.reading.Sheet.{Sheet}
use Rattle.sheets.specs.Ahead.{ahead_in}
use Rattle.sheets.specs.Cutting.{Part, Digits, Gap, Break, Odd, blank, line_end, part_of_byte, led_by, part_bytes, parts_of, part_of_piece, place_of, line_after, column_after, PartAt, StandsAt, PieceAt}
use Rattle.sheets.specs.Knowing.{IsSound, ZeroEndsLine, Knows, Precedes, Takes}
use Rattle.sheets.specs.Lines.{is_nothing, is_zero, is_blank, left_of, fault_at}
use Rattle.sheets.specs.Reading.{text_of, rows_of, left_number, at_line_start, ends_line, fault_after, number_fault, part_fault, end_fault, Reading, unless_fault, reading_on, text_reading, packed_into}
use Rattle.sheets.proofs.Numbers.{zero_fault}
use Rattle.sheets.proofs.Runs.{digit_in_line}

-- ---- the parts of a text

abbrev pub AllSound : List Part → Type 0
AllSound [] = Unit {0}
AllSound (part ∷ parts) = IsSound part × AllSound parts

led_sound : (b : ℕ) (parts : List Part) → is_ascii_digit b ≡ true → AllSound parts → AllSound (led_by b parts)
led_sound b [] d h = ((omega arith, rw d refl), tt)
led_sound b (Digits ds ∷ parts) d h = ((omega arith, rw d h.0.1), h.1)
led_sound b (Gap ∷ parts) d h = ((omega arith, rw d refl), h)
led_sound b (Break ∷ parts) d h = ((omega arith, rw d refl), h)
led_sound b (Odd c ∷ parts) d h = ((omega arith, rw d refl), h)

byte_sound : (b : ℕ) → IsSound (part_of_byte b)
byte_sound b = by (b == blank) (b == line_end)
  where
    by : (s t : Bool) → IsSound (cond s Gap (cond t Break (Odd b)))
    by true t = tt
    by false true = tt
    by false false = tt

pub sound : (text : List ℕ) → AllSound (parts_of text)
sound [] = tt
sound (b ∷ text) = by (is_ascii_digit b) refl (sound text)
  where
    by : (t : Bool) → is_ascii_digit b ≡ t → AllSound (parts_of text) → AllSound (cond t (led_by b (parts_of text)) (part_of_byte b ∷ parts_of text))
    by true e h = led_sound b (parts_of text) e h
    by false e h = (byte_sound b, h)

module _ {text : List ℕ} {from to : ℕ} {part : Part} (p : PartAt text from to part) where
  pub part_sound : IsSound part
  part_sound = (subst AllSound p.first (sound (drop from text))).0

  pub part_some : from < to
  part_some = omega (arith, p.ends, by part part_sound)
    where
      by : (part : Part) → IsSound part → 0 < length (part_bytes part)
      by (Digits ds) h = h.0
      by Gap h = omega arith
      by Break h = omega arith
      by (Odd b) h = omega arith

  -- the bytes up to its end
  pub front_more : take to text ≡ take from text ++ part_bytes part
  front_more =
      ap (λ k. take k text) p.ends ∙ take-add from (length (part_bytes part)) text
      ∙ ap (λ l. take from text ++ l) (ap (take (length (part_bytes part))) p.bytes ∙ take_at (part_bytes part) (drop to text) (length (part_bytes part)) refl)

led_on : (b : ℕ) (parts : List Part) → Precedes More (led_by b parts)
led_on b [] = record { line_end = refl; end_of_line = refl }
led_on b (Digits ds ∷ parts) = record { line_end = refl; end_of_line = refl }
led_on b (Gap ∷ parts) = record { line_end = refl; end_of_line = refl }
led_on b (Break ∷ parts) = record { line_end = refl; end_of_line = refl }
led_on b (Odd c ∷ parts) = record { line_end = refl; end_of_line = refl }

-- what comes next in a text is what its parts begin with
pub precedes : (text : List ℕ) → Precedes (ahead_in text) (parts_of text)
precedes [] = record { line_end = refl; end_of_line = refl }
precedes (b ∷ text) = by (is_ascii_digit b) (b == blank) (b == line_end) refl refl refl
  where
    by : (d s t : Bool) → is_ascii_digit b ≡ d → (b == blank) ≡ s → (b == line_end) ≡ t
        → Precedes (cond t LineEnd More) (cond d (led_by b (parts_of text)) (cond s Gap (cond t Break (Odd b)) ∷ parts_of text))
    by true s true d e f = absurd (false≢true (sym (digit_in_line b d) ∙ f))
    by true s false d e f = led_on b (parts_of text)
    by false true true d e f = absurd (omega (arith, eqb-true b blank e, eqb-true b line_end f))
    by false true false d e f = record { line_end = refl; end_of_line = refl }
    by false false true d e f = record { line_end = refl; end_of_line = refl }
    by false false false d e f = record { line_end = refl; end_of_line = refl }

-- a single 0 that is passed without a fault ends its line
pub zero_ends : (n room : ℕ) (passed : List Part) (part : Part) (parts : List Part) → part_fault n room passed part parts ≡ None → ZeroEndsLine (part ∷ passed) parts
zero_ends n room passed (Digits ds) parts due = λ z. by (at_line_start passed) (ends_line parts) (zero_fault (fault_after passed) n (left_number passed) ds z) (subst (λ t. cond (t && (at_line_start passed && ends_line parts)) None fault ≡ None) z due)
  where
    fault : Option Refusal
    fault = number_fault (fault_after passed) n (left_number passed) ds

    by : (s t : Bool) → fault ≡ Some (fault_after passed BadNumber) → cond (s && t) None fault ≡ None → t ≡ true
    by s true bad due = refl
    by true false bad due = absurd (none-some (fault_after passed BadNumber) (sym due ∙ bad))
    by false false bad due = absurd (none-some (fault_after passed BadNumber) (sym due ∙ bad))
zero_ends n room passed Gap parts due = λ z. absurd (false≢true z)
zero_ends n room passed Break parts due = λ z. absurd (false≢true z)
zero_ends n room passed (Odd b) parts due = λ z. absurd (false≢true z)

-- ---- reading

-- the parts before a place are passed, and what follows decides what comes of the text
pub record Passed (n : ℕ) (text start now : List ℕ) (at : ℕ) (sheet : Sheet) : Type 0 where
  pub passed : List Part
  pub front : text_of passed ≡ take at text
  pub onward : reading_on n (length start) passed (parts_of (drop at text)) ≡ text_reading n (length start) text
  pub knows : Knows passed start now sheet
  pub ends : ZeroEndsLine passed (parts_of (drop at text))
  pub width : sheet.width.number ≡ n

-- the text is refused, and the rows before the fault are packed
pub record Stopped (n : ℕ) (text start now : List ℕ) (refusal : Refusal) : Type 0 where
  pub due : (text_reading n (length start) text).refusal ≡ Some refusal
  pub memory : now ≡ packed_into (text_reading n (length start) text).rows start

-- all is passed, and packed
pub record Done (n : ℕ) (text start now : List ℕ) (count : ℕ) : Type 0 where
  pub due : (text_reading n (length start) text).refusal ≡ None
  pub counted : count ≡ length (text_reading n (length start) text).rows
  pub memory : now ≡ packed_into (text_reading n (length start) text).rows start

pub begin : (n : ℕ) (text start : List ℕ) (sheet : Sheet) → sheet.width.number ≡ n → sheet.line.row.bits ≡ no_marks → sheet.line.left ≡ Nothing → sheet.count ≡ 0
    → Passed n text start start 0 sheet
begin n text start sheet width row left count = record {
  passed = [];
  front = refl;
  onward = refl;
  knows = record { row = row; left = ap left_of left; nothing = ap is_nothing left; zero = ap is_zero left; blank = ap is_blank left; counted = count; memory = refl };
  ends = λ z. absurd (false≢true z);
  width = width;
}

module _ {n : ℕ} {text start now : List ℕ} {at : ℕ} {sheet : Sheet} (s : Passed n text start now at sheet) where
  pub placed : (place : Place) → StandsAt text at place → fault_at place ≡ fault_after s.passed
  placed place p = λ i reason. placed_at_two reason ((p.line ∙ ap line_after (sym s.front)) i) ((p.column ∙ ap column_after (sym s.front)) i)

  -- a fault at a part
  at_part : {to : ℕ} {part : Part} → PartAt text at to part
      → unless_fault (part_fault n (length start) s.passed part (parts_of (drop to text))) (rows_of s.passed) (reading_on n (length start) (part ∷ s.passed) (parts_of (drop to text))) ≡ text_reading n (length start) text
  at_part p = ap (reading_on n (length start) s.passed) (sym p.first) ∙ s.onward

  stopped : {refusal : Refusal} → record { refusal = Some refusal; rows = rows_of s.passed } ≡ text_reading n (length start) text → Stopped n text start now refusal
  stopped e = record { due = ap (λ r. r.refusal) (sym e); memory = s.knows.memory ∙ ap (λ (r : Reading). packed_into r.rows start) e }

  pub odd : (b : ℕ) (refusal : Refusal) → PartAt text at (at + 1) (Odd b) → refusal ≡ placed_at_two BadByte (line_after (take at text)) (column_after (take at text))
      → Stopped n text start now refusal
  odd b refusal p e =
      let here : refusal ≡ fault_after s.passed BadByte = e ∙ ap (λ l. placed_at_two BadByte (line_after l) (column_after l)) (sym s.front) in
      subst (Stopped n text start now) (sym here) (stopped (at_part p))

  module _ (to : ℕ) (piece : Piece) (ahead : Ahead) (new : Sheet) (held : List ℕ) (p : PieceAt text at to piece) (next_is : ahead ≡ ahead_in (drop to text)) (same : length now ≡ length start) where
    answer : (r : Result (Unit {0}) Refusal) → Takes piece ahead sheet new now held r
        → Answers (part_fault n (length start) s.passed (part_of_piece piece) (parts_of (drop to text))) (λ _. Knows (part_of_piece piece ∷ s.passed) start held new) r
    answer r t =
        subst (λ w. Answers (part_fault w (length start) s.passed (part_of_piece piece) (parts_of (drop to text))) (λ _. Knows (part_of_piece piece ∷ s.passed) start held new) r) s.width
        (t s.passed (parts_of (drop to text)) start s.knows same (placed (place_of piece) p.1)
        (subst (ZeroEndsLine s.passed) p.0.first s.ends) (subst (λ (a : Ahead). Precedes a (parts_of (drop to text))) (sym next_is) (precedes (drop to text))))

    pub refused : (refusal : Refusal) → Takes piece ahead sheet new now held (Err refusal) → held ≡ now → Stopped n text start held refusal
    refused refusal t kept =
        let due : part_fault n (length start) s.passed (part_of_piece piece) (parts_of (drop to text)) ≡ Some refusal = answer (Err refusal) t in
        subst (λ l. Stopped n text start l refusal) (sym kept)
        (stopped (ap (λ d. unless_fault d (rows_of s.passed) (reading_on n (length start) (part_of_piece piece ∷ s.passed) (parts_of (drop to text)))) (sym due) ∙ at_part p.0))

    pub next : (x : Unit {0}) → Takes piece ahead sheet new now held (Ok x) → new.width ≡ sheet.width → Passed n text start held to new
    next x t width =
        let a = answer (Ok x) t in
        record {
          passed = part_of_piece piece ∷ s.passed;
          front = ap (λ l. l ++ part_bytes (part_of_piece piece)) s.front ∙ sym (front_more p.0);
          onward = ap (λ d. unless_fault d (rows_of s.passed) (reading_on n (length start) (part_of_piece piece ∷ s.passed) (parts_of (drop to text)))) (sym a.0) ∙ at_part p.0;
          knows = a.1;
          ends = zero_ends n (length start) s.passed (part_of_piece piece) (parts_of (drop to text)) a.0;
          width = ap (λ w. w.number) width ∙ s.width;
        }

  -- the end of the text
  at_end : drop at text ≡ [] → record { refusal = end_fault s.passed; rows = rows_of s.passed } ≡ text_reading n (length start) text
  at_end e = ap (λ l. reading_on n (length start) s.passed (parts_of l)) (sym e) ∙ s.onward

  pub unfinished : (place : Place) → drop at text ≡ [] → StandsAt text at place → is_nothing sheet.line.left ≡ false → Stopped n text start now (fault_at place NoLineEnd)
  unfinished place e p begun =
      let due : Some (fault_at place NoLineEnd) ≡ end_fault s.passed = λ i. due_if (not ((sym begun ∙ s.knows.nothing) i)) (placed place p i NoLineEnd) in
      stopped (ap (λ (d : Option Refusal). record { refusal = d; rows = rows_of s.passed }) due ∙ at_end e)

  pub finished : drop at text ≡ [] → is_nothing sheet.line.left ≡ true → Done n text start now sheet.count
  finished e closed =
      let due : None ≡ end_fault s.passed = λ i. due_if (not ((sym closed ∙ s.knows.nothing) i)) (fault_after s.passed NoLineEnd) in
      let read = ap (λ (d : Option Refusal). record { refusal = d; rows = rows_of s.passed }) due ∙ at_end e in
      record {
        due = ap (λ (r : Reading). r.refusal) (sym read);
        counted = s.knows.counted ∙ ap (λ (r : Reading). length r.rows) read;
        memory = s.knows.memory ∙ ap (λ (r : Reading). packed_into r.rows start) read;
      }
