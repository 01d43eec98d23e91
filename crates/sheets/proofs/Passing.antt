-- What is known of a sheet while it is read.
use Rattle.std.proofs.Common.{◌≡◌, ℕ, ◌+◌, ◌*◌, ◌<◌, ◌≤◌, Bool, true, false, cond, not, ◌||◌, ◌&&◌, ltb, leb, ◌⊎◌, inl, inr, List, [], ◌∷◌, ◌++◌, length, take, drop, None, Ok, Err, Option, Result, sym, refl, ap, ◌∙◌, append-nil, append_assoc, arith, length-append}
use Rattle.std.proofs.lemmas.Bool.{cases_lt, lt-ltb, false≢true, false_from_ne_true}
use Rattle.std.proofs.lemmas.Option.{none-some}
use Rattle.std.proofs.lemmas.List.{take_at}
use Rattle.std.proofs.lemmas.List.Concat.{flat_map-append}
use Rattle.std.proofs.lemmas.Slice.{drop-append-drop}
use Rattle.marks.specs.Bytes.{four_bytes}
use Rattle.marks.specs.declared.refusal.Reason.{Reason}
use Rattle.marks.specs.declared.refusal.Reason.TheVariants.{BadBlank, TooMany, NoPlace}
use Rattle.marks.specs.declared.refusal.Refusal.{Refusal}
use Rattle.marks.specs.Numbers.{most_charges}
use Rattle.marks.specs.Refusals.{Answers, due_if, first_due}
use Rattle.marks.specs.Sets.{no_marks}
use Rattle.tables.specs.Packed.{row_bytes}
use Rattle.sheets.specs.Ahead.{is_line_end, is_end_of_line}
use Rattle.sheets.specs.Cutting.{Part, Digits, Gap, Break, Odd}
use Rattle.sheets.specs.declared.piece.Ahead.{Ahead}
use Rattle.sheets.specs.declared.piece.Piece.TheVariants.{Number, Blank, LineEnd}
use Rattle.sheets.specs.declared.piece.Place.{Place}
use Rattle.sheets.specs.declared.reading.Sheet.{Sheet}
use Rattle.sheets.specs.declared.line.Left.{Left}
use Rattle.sheets.specs.declared.line.Left.TheVariants.{Nothing, Zero, Mark, Blank as AfterBlank}
use Rattle.sheets.specs.Knowing.{after_zero, Knows, HasEnded, Takes}
use denote.Ref.{Bor}
use Rattle.sheets.specs.Lines.{is_nothing, is_zero, is_mark, is_blank, left_of, fault_at, HasAdded, HasParted}
use Rattle.sheets.specs.Reading.{worth, with_number, open_row, rows_of, left_number, at_line_start, after_blank, is_single_zero, number_fault, charge_fault, packed_into}
use Rattle.sheets.specs.Rendering.{packed_bytes}

pub length_packed : (rows : List ℕ) → length (packed_bytes rows) ≡ row_bytes * length rows
length_packed [] = refl
length_packed (row ∷ rows) = omega (arith, length_packed rows, length-append (four_bytes row) (packed_bytes rows))

-- the packed bytes stand in the front of memory
pub packed_front : (rows old : List ℕ) (size : ℕ) → size ≡ row_bytes * length rows → take size (packed_into rows old) ≡ packed_bytes rows
packed_front rows old size e = take_at (packed_bytes rows) (drop (length (packed_bytes rows)) old) size (omega (arith, length_packed rows))

-- a row more is packed
packed_more : (rows : List ℕ) (row count : ℕ) (old now new : List ℕ) → count ≡ length rows → row_bytes * (count + 1) ≤ length old → now ≡ packed_into rows old
    → new ≡ take (row_bytes * count) now ++ (four_bytes row ++ drop (row_bytes * (count + 1)) now) → new ≡ packed_into (rows ++ row ∷ []) old
packed_more rows row count old now new size room is e =
    let front : length (packed_bytes rows) ≡ row_bytes * count = omega (arith, length_packed rows) in
    let shape : now ≡ packed_bytes rows ++ drop (row_bytes * count) old = is ∙ ap (λ n. packed_bytes rows ++ drop n old) front in
    let left : take (row_bytes * count) now ≡ packed_bytes rows = ap (take (row_bytes * count)) shape ∙ take_at (packed_bytes rows) (drop (row_bytes * count) old) (row_bytes * count) front in
    let right : drop (row_bytes * (count + 1)) now ≡ drop (row_bytes * (count + 1)) old =
    ap (drop (row_bytes * (count + 1))) shape ∙ drop-append-drop (row_bytes * count) old (packed_bytes rows) (row_bytes * (count + 1)) (omega arith) front
    in
    let more : row_bytes * (count + 1) ≡ length (packed_bytes (rows ++ row ∷ [])) = omega (arith, length_packed (rows ++ row ∷ []), length-append rows (row ∷ [])) in
    let bytes : packed_bytes rows ++ four_bytes row ≡ packed_bytes (rows ++ row ∷ []) = sym (flat_map-append four_bytes rows (row ∷ [])) in
    e ∙ (λ i. left i ++ (four_bytes row ++ right i)) ∙ sym (append_assoc (packed_bytes rows) (four_bytes row) (drop (row_bytes * (count + 1)) old))
    ∙ (λ i. bytes i ++ drop (more i) old)

-- with no fault, there is room for the charge
charge_room : (placed : Reason → Refusal) (room count : ℕ) → charge_fault placed room count ≡ None → row_bytes * (count + 1) ≤ room
charge_room placed room count e = by (leb most_charges count) (cases_lt room (row_bytes * (count + 1))) e
  where
    by : (many : Bool) → (room < row_bytes * (count + 1)) ⊎ (row_bytes * (count + 1) ≤ room)
        → first_due (due_if many (placed TooMany) ∷ due_if (ltb room (row_bytes * (count + 1))) (placed NoPlace) ∷ []) ≡ None → row_bytes * (count + 1) ≤ room
    by many (inr fits) due = fits
    by true (inl short) due = absurd (none-some _ (sym due))
    by false (inl short) due = absurd (none-some _ (sym due ∙ ap (λ t. first_due (due_if t (placed NoPlace) ∷ [])) (lt-ltb room (row_bytes * (count + 1)) short)))

-- an answer by the same refusal, with a weaker promise
answers_along : {A : Type 0} {P Q : A → Type 0} (due due' : Option Refusal) → due ≡ due' → ((x : A) → due ≡ None → P x → Q x) → (r : Result A Refusal) → Answers due P r → Answers due' Q r
answers_along due due' e f (Ok x) h = (sym e ∙ h.0, f x h.0 h.1)
answers_along due due' e f (Err refusal) h = sym e ∙ h

-- ---- a line that ends

-- at the start of a line nothing of it is there
pub record AtStart (passed : List Part) : Type 0 where
  pub row : open_row passed ≡ no_marks
  pub left : left_number passed ≡ 0
  pub zero : after_zero passed ≡ false
  pub blank : after_blank passed ≡ false

pub starts : (passed : List Part) → at_line_start passed ≡ true → AtStart passed
starts [] e = record { row = refl; left = refl; zero = refl; blank = refl }
starts (Digits ds ∷ passed) e = absurd (false≢true e)
starts (Gap ∷ passed) e = absurd (false≢true e)
starts (Break ∷ passed) e = record { row = refl; left = refl; zero = refl; blank = refl }
starts (Odd b ∷ passed) e = absurd (false≢true e)

-- an empty line adds no row, and any other its own
pub no_row : (passed : List Part) → at_line_start passed ≡ true → rows_of (Break ∷ passed) ≡ rows_of passed
no_row passed e = ap (λ t. rows_of passed ++ cond t [] (open_row passed ∷ [])) e ∙ append-nil (rows_of passed)

pub one_row : (passed : List Part) → at_line_start passed ≡ false → rows_of (Break ∷ passed) ≡ rows_of passed ++ open_row passed ∷ []
one_row passed e = ap (λ t. rows_of passed ++ cond t [] (open_row passed ∷ [])) e

module _ (place : Place) {old new : Sheet} {start held now : List ℕ} {passed : List Part} (k : Knows passed start held old) where
  ended : (t : Bool) → at_line_start passed ≡ t → cond t None (charge_fault (fault_at place) (length held) old.count) ≡ None → length held ≡ length start → HasEnded old new held now
      → Knows (Break ∷ passed) start now new
  ended true e due same h =
      let a = h.empty (k.nothing ∙ e) in
      let s = starts passed e in
      let rows = sym (no_row passed e) in
      record {
        row = ap (λ (sheet : Sheet). sheet.line.row.bits) a.0 ∙ k.row ∙ s.row;
        left = ap (λ (sheet : Sheet). left_of sheet.line.left) a.0 ∙ k.left ∙ s.left;
        nothing = ap (λ (sheet : Sheet). is_nothing sheet.line.left) a.0 ∙ k.nothing ∙ e;
        zero = ap (λ (sheet : Sheet). is_zero sheet.line.left) a.0 ∙ k.zero ∙ s.zero;
        blank = ap (λ (sheet : Sheet). is_blank sheet.line.left) a.0 ∙ k.blank ∙ s.blank;
        counted = ap (λ (sheet : Sheet). sheet.count) a.0 ∙ k.counted ∙ ap length rows;
        memory = a.1 ∙ k.memory ∙ ap (λ l. packed_into l start) rows;
      }
  ended false e due same h =
      let a = h.filled (k.nothing ∙ e) in
      let rows = sym (one_row passed e) in
      record {
        row = a.row;
        left = ap left_of a.left;
        nothing = ap is_nothing a.left;
        zero = ap is_zero a.left;
        blank = ap is_blank a.left;
        counted = omega (arith, a.count, k.counted, length-append (rows_of passed) (open_row passed ∷ [])) ∙ ap length rows;
        memory = packed_more (rows_of passed) (open_row passed) old.count start held now k.counted (omega (arith, charge_room (fault_at place) (length held) old.count due)) k.memory
            (a.bytes ∙ ap (λ row. take (row_bytes * old.count) held ++ (four_bytes row ++ drop (row_bytes * (old.count + 1)) held)) k.row)
            ∙ ap (λ l. packed_into l start) rows;
      }

-- what is at the left of a blank, where that is no 0
no_mark : (left : Left) (t : Bool) → is_zero left ≡ false → (not (is_mark left) || t) ≡ (is_nothing left || (is_blank left || t))
no_mark Nothing t z = refl
no_mark Zero t z = absurd (false≢true (sym z))
no_mark (Mark mark) t z = refl
no_mark (AfterBlank mark) t z = refl

module _ (place : Place) (ahead : Ahead) (old new : Sheet) (held : List ℕ) where
  pub take_number : (digits : Bor (List ℕ)) (r : Result (Unit {0}) Refusal) → new.count ≡ old.count
      → Answers (cond (is_single_zero digits.now && (is_nothing old.line.left && is_end_of_line ahead)) None (number_fault (fault_at place) old.width.number (left_of old.line.left) digits.now))
      (λ _. HasAdded old.line new.line digits.now) r
      → Takes (Number digits place) ahead old new held held r
  take_number digits r count h =
      λ passed parts start k same at ends next.
      answers_along _ _ (λ i. cond (is_single_zero digits.now && (k.nothing i && next.end_of_line i)) None (number_fault (at i) old.width.number (k.left i) digits.now))
      (λ x _ a. record {
        row = a.row ∙ ap (λ row. with_number row (worth digits.now)) k.row;
        left = a.left;
        nothing = a.begun;
        zero = a.zero;
        blank = a.no_blank;
        counted = count ∙ k.counted;
        memory = k.memory;
      }) r h

  pub take_blank : (r : Result (Unit {0}) Refusal) → new.count ≡ old.count
      → Answers (due_if (not (is_mark old.line.left) || is_line_end ahead) (fault_at place BadBlank)) (λ _. HasParted old.line new.line) r → Takes (Blank place) ahead old new held held r
  take_blank r count h =
      λ passed parts start k same at ends next.
      let other : is_zero old.line.left ≡ false = k.zero ∙ false_from_ne_true (after_zero passed) (λ z. false≢true (ends z)) in
      answers_along _ _
      (ap (λ t. due_if t (fault_at place BadBlank)) (no_mark old.line.left (is_line_end ahead) other)
      ∙ (λ i. due_if (k.nothing i || (k.blank i || next.line_end i)) (at i BadBlank)))
      (λ x _ a. record {
        row = ap (λ row. row.bits) a.row ∙ k.row;
        left = a.left ∙ k.left;
        nothing = a.begun;
        zero = a.no_zero;
        blank = a.blank;
        counted = count ∙ k.counted;
        memory = k.memory;
      }) r h

  pub take_line_end : (now : List ℕ) (r : Result (Unit {0}) Refusal)
      → Answers (cond (is_nothing old.line.left) None (charge_fault (fault_at place) (length held) old.count)) (λ _. HasEnded old new held now) r → Takes (LineEnd place) ahead old new held now r
  take_line_end now r h =
      λ passed parts start k same at ends next.
      answers_along _ _ (λ i. cond (k.nothing i) None (charge_fault (at i) (same i) (k.counted i)))
      (λ x due a. ended place k (is_nothing old.line.left) (sym k.nothing) due same a) r h
