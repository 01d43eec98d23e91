-- That what a text says is what right lines say.
use Rattle.std.proofs.Common.{◌≡◌, ℕ, zero, suc, ◌+◌, ◌≤◌, Bool, true, false, not, ◌⊎◌, List, [], ◌∷◌, ◌++◌, length, drop, decimal, Some, None, Ok, Err, Option, Result, refl, sym, ap, ◌∙◌, inl, inr, append_assoc, add-one, zero-add, arith}
use Rattle.std.specs.Option.{option_or}
use Rattle.std.proofs.lemmas.List.{length-append, drop-drop, get_or_past}
use Rattle.marks.specs.declared.refusal.Reason.TheVariants.{Form}
use Rattle.marks.specs.declared.refusal.Refusal.{Refusal}
use Rattle.marks.specs.Refusals.{Answers, placed_at_two, due_if}
use Rattle.marks.proofs.Due.{none_due}
use Rattle.sheets.specs.declared.order.Order.{Order}
use Rattle.sheets.specs.Digits.{leading_digits}
use Rattle.sheets.specs.OrderLines.{number_ends, ended_numbers, FitFor, FormFault, is_ended, number_end, number_start, number_in, form_refusal, numbers_in, columns_in, number_ranges, ranges_refusal, order_refusal, numbers_of, Says, columns_from, ReadsRightLines}
use Rattle.sheets.proofs.Numerals.{numeral, small_number}
use Rattle.sheets.proofs.RightLines.{IsEnd, AreEnds, fit_more, ended, behind, inside, fault_more, fault_here, one_fault, same_numbers}

-- the numbers from the number j on, and their columns
abbrev numbers_from : List ℕ → ℕ → ℕ → List ℕ
numbers_from text j zero = []
numbers_from text j (suc n) = number_in text j ∷ numbers_from text (j + 1) n

abbrev starts_from : List ℕ → ℕ → ℕ → List ℕ
starts_from text j zero = []
starts_from text j (suc n) = (number_start text j + 1) ∷ starts_from text (j + 1) n

-- from the number j on a text says what a right line says, or it departs from them
record RightFrom (text ends : List ℕ) (j : ℕ) : Type 0 where
  fit : FitFor ends (numbers_from text j (length ends))
  rest : List ℕ
  is : drop (number_start text j) text ≡ ended_numbers ends (numbers_from text j (length ends)) ++ rest
  columns : columns_from (number_start text j + 1) (numbers_from text j (length ends)) ≡ starts_from text j (length ends)
  size : number_start text (j + length ends) ≡ number_start text j + length (ended_numbers ends (numbers_from text j (length ends)))
  due : form_refusal ends text j ≡ None

record WrongFrom (text ends : List ℕ) (j : ℕ) : Type 0 where
  past : ℕ
  fault : FormFault ends (drop (number_start text j) text) past
  due : form_refusal ends text j ≡ Some (placed_at_two Form 0 (number_start text j + past + 1))

module _ (text : List ℕ) (j : ℕ) where
  next_start : number_start text (j + 1) ≡ number_start text j + length (leading_digits (drop (number_start text j) text)) + 1
  unfolding number_start
  next_start = ap (number_start text) (add-one j)

  next_rest : drop (number_start text (j + 1)) text ≡ drop (length (leading_digits (drop (number_start text j) text)) + 1) (drop (number_start text j) text)
  next_rest =
      let sum : number_start text (j + 1) ≡ number_start text j + (length (leading_digits (drop (number_start text j) text)) + 1) = omega (arith, next_start) in
      ap (λ m. drop m text) sum ∙ sym (drop-drop (length (leading_digits (drop (number_start text j) text)) + 1) (number_start text j) text)

  module _ (e : ℕ) (ends : List ℕ) (end : IsEnd e) (is : is_ended e (drop (number_start text j) text) ≡ true) where
    split_here : drop (number_start text j) text ≡ leading_digits (drop (number_start text j) text) ++ (e ∷ drop (number_start text (j + 1)) text)
    split_here =
        let here = drop (number_start text j) text in
        behind here (inside e here end is)
        ∙ ap (λ b. leading_digits here ++ (b ∷ drop (length (leading_digits here) + 1) here)) (ended e here is).1
        ∙ ap (λ (l : List ℕ). leading_digits here ++ (e ∷ l)) (sym next_rest)

    next_due : form_refusal (e ∷ ends) text j ≡ form_refusal ends text (j + 1)
    next_due = ap (λ t. option_or (due_if (not t) (placed_at_two Form 0 (number_end text (number_start text j) + 1))) (form_refusal ends text (j + 1))) is

    more_right : RightFrom text ends (j + 1) → RightFrom text (e ∷ ends) j
    more_right r = record {
      fit = fit_more e ends (number_in text j) others (small_number (drop (number_start text j) text)) r.fit;
      rest = r.rest;
      is = split_here ∙ ap (λ (l : List ℕ). leading_digits (drop (number_start text j) text) ++ (e ∷ l)) r.is
          ∙ ap (λ (l : List ℕ). l ++ (e ∷ (ended_numbers ends others ++ r.rest))) (sym back) ∙ sym (append_assoc (decimal (number_in text j)) (e ∷ ended_numbers ends others) r.rest);
      columns = ap (λ (l : List ℕ). (number_start text j + 1) ∷ l) (ap (λ m. columns_from m others) column ∙ r.columns);
      size = ap (number_start text) count ∙ r.size ∙ omega (arith, next_start, ap length back, length-append (decimal (number_in text j)) (e ∷ ended_numbers ends others));
      due = next_due ∙ r.due;
    }
      where
        others : List ℕ
        others = numbers_from text (j + 1) (length ends)

        back : decimal (number_in text j) ≡ leading_digits (drop (number_start text j) text)
        back = (numeral (drop (number_start text j) text) (ended e (drop (number_start text j) text) is).0).back

        column : number_start text j + 1 + length (decimal (number_in text j)) + 1 ≡ number_start text (j + 1) + 1
        column = omega (arith, next_start, ap length back)

        count : j + length (e ∷ ends) ≡ j + 1 + length ends
        count = omega arith

    more_wrong : WrongFrom text ends (j + 1) → WrongFrom text (e ∷ ends) j
    more_wrong w = record {
      past = length (leading_digits (drop (number_start text j) text)) + 1 + w.past;
      fault = fault_more e ends (drop (number_start text j) text) (drop (number_start text (j + 1)) text) w.past end (ended e (drop (number_start text j) text) is).0 split_here w.fault;
      due = next_due ∙ w.due ∙ ap (λ m. Some (placed_at_two Form 0 m)) sum;
    }
      where
        sum : number_start text (j + 1) + w.past + 1 ≡ number_start text j + (length (leading_digits (drop (number_start text j) text)) + 1 + w.past) + 1
        sum = omega (arith, next_start)

wrong_here : (text : List ℕ) (j e : ℕ) (ends : List ℕ) → IsEnd e → is_ended e (drop (number_start text j) text) ≡ false → WrongFrom text (e ∷ ends) j
wrong_here text j e ends end is = record {
  past = length (leading_digits (drop (number_start text j) text));
  fault = fault_here e ends (drop (number_start text j) text) end is;
  due = ap (λ t. option_or (due_if (not t) (placed_at_two Form 0 (number_end text (number_start text j) + 1))) (form_refusal ends text (j + 1))) is;
}

judged : (text ends : List ℕ) → AreEnds ends → (j : ℕ) → RightFrom text ends j ⊎ WrongFrom text ends j
judged text [] ends_are j = inl (record {
  fit = record { count = refl; short = λ k. omega (arith, get_or_past {X = ℕ} [] k 0) };
  rest = drop (number_start text j) text;
  is = refl;
  columns = refl;
  size = (let none : j + 0 ≡ j = omega arith in let more : number_start text j ≡ number_start text j + 0 = omega arith in ap (number_start text) none ∙ more);
  due = refl;
})
judged text (e ∷ ends) ends_are j = by (is_ended e (drop (number_start text j) text)) refl (judged text ends ends_are.1 (j + 1))
  where
    by : (t : Bool) → is_ended e (drop (number_start text j) text) ≡ t → RightFrom text ends (j + 1) ⊎ WrongFrom text ends (j + 1) → RightFrom text (e ∷ ends) j ⊎ WrongFrom text (e ∷ ends) j
    by true is (inl r) = inl (more_right text j e ends ends_are.0 is r)
    by true is (inr w) = inr (more_wrong text j e ends ends_are.0 is w)
    by false is _ = inr (wrong_here text j e ends ends_are.0 is)

ends_of_orders : AreEnds number_ends
ends_of_orders = (blank, (blank, (blank, (blank, (line_end, tt)))))
  where
    blank : IsEnd 32
    blank = record { none = refl; some = omega arith }

    line_end : IsEnd 10
    line_end = record { none = refl; some = omega arith }

module _ (text : List ℕ) where
  -- an answer that is due by other words
  answered : {A : Type 0} (P Q : A → Type 0) (due other : Option Refusal) → due ≡ other → ((x : A) → P x → Q x) → (r : Result A Refusal) → Answers due P r → Answers other Q r
  answered P Q due other same turn (Ok x) h = (sym same ∙ h.0, turn x h.1)
  answered P Q due other same turn (Err e) h = sym same ∙ h

  refused : {A : Type 0} (P : A → Type 0) (due : Option Refusal) (refusal : Refusal) → due ≡ Some refusal → (r : Result A Refusal) → Answers due P r → r ≡ Err refusal
  refused P due refusal same (Ok x) h = absurd (none_due due refusal h.0 same)
  refused P due refusal same (Err e) h = let one : e ≡ refusal = (let both = sym h ∙ same in cc) in ap (λ (x : Refusal). Err x) one

  pub reads_right_lines : (answer : Result Order Refusal) → Answers (order_refusal text) (Says text) answer → ReadsRightLines text answer
  unfolding order_refusal number_start
  reads_right_lines answer h = by (judged text number_ends ends_of_orders 0)
    where
      by : RightFrom text number_ends 0 ⊎ WrongFrom text number_ends 0 → ReadsRightLines text answer
      by (inl r) = record {
        right = λ numbers fit begins.
            let same : numbers_in text ≡ numbers = sym (same_numbers number_ends numbers (numbers_in text) begins.0 r.rest ends_of_orders fit r.fit (sym begins.1 ∙ r.is)) in
            let due : order_refusal text ≡ ranges_refusal number_ranges numbers (columns_from 1 numbers) =
            ap (λ (d : Option Refusal). option_or d (ranges_refusal number_ranges (numbers_in text) (columns_in text))) r.due
            ∙ ap (λ columns. ranges_refusal number_ranges (numbers_in text) columns) (sym r.columns) ∙ ap (λ l. ranges_refusal number_ranges l (columns_from 1 l)) same
            in
            answered (Says text) (λ o. (numbers_of o ≡ numbers) × (o.sheet ≡ length (ended_numbers number_ends numbers) + 1)) (order_refusal text)
            (ranges_refusal number_ranges numbers (columns_from 1 numbers)) due
            (λ o says. (says.0 ∙ same, says.1 ∙ ap (λ n. n + 1) (r.size ∙ zero-add (length (ended_numbers number_ends (numbers_in text)))) ∙ ap (λ l. length (ended_numbers number_ends l) + 1) same)) answer h;
        wrong = λ k fault. absurd (fault.none (numbers_in text) r.fit (r.rest, r.is));
        either = inl (numbers_in text, r.fit, (r.rest, r.is));
      }
      by (inr w) = record {
        right = λ numbers fit begins. absurd (w.fault.none numbers fit begins);
        wrong = λ k fault.
            let place : 0 + w.past + 1 ≡ k + 1 = omega (arith, one_fault number_ends text k w.past fault w.fault) in
            refused (Says text) (order_refusal text) (placed_at_two Form 0 (k + 1))
            (ap (λ (d : Option Refusal). option_or d (ranges_refusal number_ranges (numbers_in text) (columns_in text))) w.due ∙ ap (λ m. Some (placed_at_two Form 0 m)) place) answer h;
        either = inr (w.past, w.fault);
      }

-- the order line stands in the text, so the sheet begins within it, or where it ends
pub sheet_within : (text : List ℕ) (o : Order) → ReadsRightLines text (Ok o) → (1 ≤ o.sheet) × (o.sheet ≤ length text + 1)
sheet_within text o r =
    elim r.either [
      | inl w ↦ (let line = ended_numbers number_ends w.0 in
          let place = (r.right w.0 w.1 w.2).1.1 in
          (omega (arith, place), omega (arith, place, ap length w.2.1, length-append line w.2.0)))
      | inr w ↦ (let never : ◌≡◌ {A = ℕ} 0 1 = cc (r.wrong w.0 w.1) in absurd (omega arith))
    ]
