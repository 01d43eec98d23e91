-- What the number that is answered for a text tells of it.
use Rattle.std.proofs.Common.{◌≡◌, ℕ, not, leb, ◌⊎◌, List, length, Some, None, Ok, Err, Option, Result, refl, sym, ap, subst, inl, inr, arith}
use Rattle.std.proofs.lemmas.Bool.{cases_Bool, and_parts, leb-true}
use Rattle.marks.specs.declared.refusal.Reason.TheVariants.{Range}
use Rattle.marks.specs.declared.refusal.Refusal.{Refusal}
use Rattle.marks.specs.Numbers.{most_marks, InRange, in_range}
use Rattle.marks.specs.Refusals.{Answers, unplaced, due_if, range_refusal}
use Rattle.marks.proofs.Due.{range_due}
use Rattle.sheets.specs.Accepting.{IsSheet}
use Rattle.sheets.specs.Reading.{reading}
use Rattle.sheets.proofs.Sheets.{Reads, sheets, only_sheets}
use Rattle.panel.specs.Answers.{panel_answer, result_of, IsToldApart}
use Rattle.panel.specs.Reading.{read_result, read_memory, ReadsSheets}
use Rattle.panel.proofs.Told.{read_refused, read_told, read_packed}

-- a number is in range, or refused
range_either : (most n : ℕ) → (InRange most n × (range_refusal most n ≡ None)) ⊎ (range_refusal most n ≡ Some (unplaced Range))
range_either most n =
    elim (cases_Bool (in_range most n)) [
      | inl t ↦ (let both = and_parts (leb 1 n) (leb n most) t in
          inl ((leb-true 1 n both.0, leb-true n most both.1), ap (λ b. due_if (not b) (unplaced Range)) t))
      | inr f ↦ inr (ap (λ b. due_if (not b) (unplaced Range)) f)
    ]

answers : (due : Option Refusal) (count : ℕ) → Answers due (λ n. n ≡ count) (result_of due count)
answers None count = (refl, refl)
answers (Some refusal) count = refl

-- ---- at a width that is one

module _ (n : ℕ) (text old : List ℕ) (wide : InRange most_marks n) where
  apart_of : (new : List ℕ) (result : Result ℕ Refusal) → Reads n text old new result → IsToldApart result (panel_answer result)
  apart_of new (Ok count) r =
      let only = only_sheets n text old new wide.1 (Ok count) r in
      omega (arith, only.2, only.1.few)
  apart_of new (Err refusal) r = omega arith

  sheets_of : (new : List ℕ) (result : Result ℕ Refusal) → Reads n text old new result → ReadsSheets n text old new (panel_answer result)
  sheets_of new (Ok count) r =
      let only = only_sheets n text old new wide.1 (Ok count) r in
      record {
        wide = λ small. wide;
        counted = λ small. subst (IsSheet n (length old) text) (sym only.4) only.1;
        sheets = λ inside rows s. let one = (sheets n text old new wide.1 (Ok count) r rows s).0 in cc;
      }
  sheets_of new (Err refusal) r =
      record {
        wide = λ small. wide;
        counted = λ small. absurd (omega (arith, small));
        sheets = λ inside rows s. absurd (only_sheets n text old new wide.1 (Err refusal) r rows s);
      }

  reads : range_refusal most_marks n ≡ None → Reads n text old (read_memory n text old) (read_result n (length old) text)
  reads on =
      let due = (reading n (length old) text).refusal in
      let count = length (reading n (length old) text).rows in
      record {
        answer = subst (λ (r : Result ℕ Refusal). Answers due (λ c. c ≡ count) r) (read_told n text old on (length old) (result_of due count) (answers due count)) (answers due count);
        memory = sym (read_packed n text old on);
      }

-- ---- at any number

module _ (n : ℕ) (text old : List ℕ) where
  apart_told : IsToldApart (read_result n (length old) text) (panel_answer (read_result n (length old) text))
  apart_told =
      elim (range_either most_marks n) [
        | inl on ↦ apart_of n text old on.0 (read_memory n text old) (read_result n (length old) text) (reads n text old on.0 on.1)
        | inr off ↦ subst (λ (r : Result ℕ Refusal). IsToldApart r (panel_answer r)) (read_refused n text old (unplaced Range) off (length old)) (omega arith)
      ]

  sheets_told : ReadsSheets n text old (read_memory n text old) (panel_answer (read_result n (length old) text))
  sheets_told =
      elim (range_either most_marks n) [
        | inl on ↦ sheets_of n text old on.0 (read_memory n text old) (read_result n (length old) text) (reads n text old on.0 on.1)
        | inr off ↦ subst (λ (r : Result ℕ Refusal). ReadsSheets n text old (read_memory n text old) (panel_answer r)) (read_refused n text old (unplaced Range) off (length old))
            (record {
              wide = λ small. absurd (omega (arith, small));
              counted = λ small. absurd (omega (arith, small));
              sheets = λ inside rows s. absurd (range_due most_marks n (unplaced Range) off inside);
            })
      ]

  module _ (answer : ℕ) (told : answer ≡ panel_answer (read_result n (length old) text)) where
    pub read_apart : IsToldApart (read_result n (length old) text) answer
    read_apart = subst (IsToldApart (read_result n (length old) text)) (sym told) apart_told

    pub reads_sheets : (new : List ℕ) → new ≡ read_memory n text old → ReadsSheets n text old new answer
    reads_sheets new is = let both = sheets_told in rw (told, is) both
