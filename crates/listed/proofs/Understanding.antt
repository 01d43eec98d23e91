-- What an input asks for is what is understood.
use Rattle.std.proofs.Common.{◌≡◌, ℕ, zero, suc, ◌+◌, ◌^◌, ◌<◌, ◌≤◌, Bool, true, false, leb, not, ◌&&◌, List, [], ◌∷◌, ◌++◌, length, get_or, drop, decimal, Some, None, Ok, Err, Option, Result, refl, sym, ap, ◌∙◌, subst, inl, inr, arith}
use Rattle.std.specs.Option.{option_or}
use Rattle.std.proofs.lemmas.Bool.{le-leb, leb-true, and_from}
use Rattle.std.proofs.lemmas.List.{drop_at}
use Rattle.std.proofs.lemmas.Option.{none-some}
use Rattle.marks.specs.declared.refusal.Reason.TheVariants.{Range}
use Rattle.marks.specs.declared.refusal.Refusal.{Refusal}
use Rattle.marks.specs.Numbers.{most_marks, most_charges}
use Rattle.marks.specs.Refusals.{Answers, placed_at_two, due_if}
use Rattle.sheets.specs.declared.order.Order.{Order}
use Rattle.sheets.specs.Accepting.{IsSheet}
use Rattle.sheets.specs.Digits.{most_digits}
use Rattle.sheets.specs.OrderLines.{number_ends, ended_numbers, number_start, number_in, numbers_in, number_ranges, bounds_refusal, ranges_refusal, columns_from, order_refusal, numbers_of, Begins, FitFor, Says, ReadsRightLines}
use Rattle.sheets.specs.Reading.{Reading, reading}
use Rattle.sheets.proofs.Accepted.{accepted}
use Rattle.sheets.proofs.Rendered.{sheet_read}
use Rattle.listed.specs.Asking.{input_limit, sheet_room, sheet_in, sheet_reading, input_refusal, windowed_query, query_in, IsAsked, AsksUnlessFaulty, IsUnderstood}
use Rattle.listed.proofs.Orders.{sheet_fault}

pub long_understood : (input : List ℕ) → input_limit ≤ length input → IsUnderstood input
long_understood input long n least most first count rows asked = absurd (omega (arith, asked.short))

ranged : (low high n column : ℕ) → low ≤ n → n ≤ high → bounds_refusal low high n column ≡ None
ranged low high n column h l = ap (λ t. due_if (not t) (placed_at_two Range 0 column)) (and_from (leb low n) (leb n high) (le-leb low n h) (le-leb n high l))

module _ (n least most first count : ℕ) (rows input : List ℕ) (asked : IsAsked n least most first count rows input) where
  abbrev numbers : List ℕ
  numbers = n ∷ least ∷ most ∷ first ∷ count ∷ []

  none_ranged : ranges_refusal number_ranges numbers (columns_from 1 numbers) ≡ None
  none_ranged =
      let a : ℕ = 1 + length (decimal n) + 1 in
      let b : ℕ = a + length (decimal least) + 1 in
      let c : ℕ = b + length (decimal most) + 1 in
      let d : ℕ = c + length (decimal first) + 1 in
      let one = ranged 1 most_marks n 1 asked.width.0 asked.width.1 in
      let two = ranged 1 most_charges least a asked.support.0 asked.support.1 in
      let three = ranged 0 most_marks most b (omega arith) asked.size in
      let four = ranged 1 most_charges first c asked.start.0 asked.start.1 in
      let five = ranged 0 most_charges count d (omega arith) asked.charges in
      λ i. option_or (one i) (option_or (two i) (option_or (three i) (option_or (four i) (option_or (five i) None))))

  short : (k : ℕ) → get_or numbers k 0 < 10 ^ most_digits
  short zero = omega (arith, asked.width.1)
  short (suc zero) = omega (arith, asked.support.1)
  short (suc (suc zero)) = omega (arith, asked.size)
  short (suc (suc (suc zero))) = omega (arith, asked.start.1)
  short (suc (suc (suc (suc zero)))) = omega (arith, asked.charges)
  short (suc (suc (suc (suc (suc k))))) = omega arith

  fit : FitFor number_ends numbers
  fit = record { count = refl; short = short }

  -- the sheet behind the order line is read as its rows
  rows_read : numbers_in input ≡ numbers → number_start input 5 ≡ length (ended_numbers number_ends numbers) → sheet_reading input ≡ record { refusal = None; rows = rows }
  unfolding sheet_reading
  rows_read same start =
      let line = ended_numbers number_ends numbers in
      let width : number_in input 0 ≡ n = ap (λ (l : List ℕ). get_or l 0 0) same in
      let text : sheet_in input ≡ asked.text = ap (drop (number_start input 5)) asked.written ∙ drop_at line asked.text (number_start input 5) (sym start) in
      (λ i. reading (width i) sheet_room (text i)) ∙ sheet_read n sheet_room asked.text rows asked.width.1 asked.sheet

  query_same : numbers_in input ≡ numbers → sheet_reading input ≡ record { refusal = None; rows = rows } → query_in input ≡ windowed_query (record { width = n; rows = rows }) least most first count
  query_same same read =
      let at = λ (k : ℕ). ap (λ (l : List ℕ). get_or l k 0) same in
      λ i. windowed_query (record { width = at 0 i; rows = (read i).rows }) (at 1 i) (at 2 i) (at 3 i) (at 4 i)

pub understood : (input : List ℕ) (r : Result Order Refusal) → Answers (order_refusal input) (Says input) r → ReadsRightLines input r → IsUnderstood input
understood input (Err e) h lines n least most first count rows asked =
    let due = lines.right (numbers n least most first count rows input asked) (fit n least most first count rows input asked) (asked.text, asked.written) in
    absurd (none-some e (sym (none_ranged n least most first count rows input asked) ∙ due))
understood input (Ok o) h lines n least most first count rows asked =
    let right = lines.right (numbers n least most first count rows input asked) (fit n least most first count rows input asked) (asked.text, asked.written) in
    let same = sym h.1.0 ∙ right.1.0 in
    let read = rows_read n least most first count rows input asked same (omega (arith, h.1.1, right.1.1)) in
    (sheet_fault input asked.short h.0 ∙ ap (λ (s : Reading). s.refusal) read, query_same n least most first count rows input asked same read)

-- ---- what has no fault asks for something

both_none : (one other : Option Refusal) → option_or one other ≡ None → (one ≡ None) × (other ≡ None)
both_none (Some refusal) other e = absurd (none-some refusal (sym e))
both_none None other e = (refl, e)

not_above : (low high n column : ℕ) → bounds_refusal low high n column ≡ None → n ≤ high
not_above low high n column = by (leb low n) (leb n high) refl
  where
    by : (s t : Bool) → leb n high ≡ t → due_if (not (s && t)) (placed_at_two Range 0 column) ≡ None → n ≤ high
    by true true e none = leb-true n high e
    by true false e none = absurd (none-some _ (sym none))
    by false t e none = absurd (none-some _ (sym none))

-- how many marks and how many charges there are at most
told : (n least most first count : ℕ) → ranges_refusal number_ranges (n ∷ least ∷ most ∷ first ∷ count ∷ []) (columns_from 1 (n ∷ least ∷ most ∷ first ∷ count ∷ [])) ≡ None
    → (most ≤ most_marks) × (count ≤ most_charges)
told n least most first count none =
    let a : ℕ = 1 + length (decimal n) + 1 in
    let b : ℕ = a + length (decimal least) + 1 in
    let c : ℕ = b + length (decimal most) + 1 in
    let d : ℕ = c + length (decimal first) + 1 in
    let fifth = option_or (bounds_refusal 0 most_charges count d) None in
    let fourth = option_or (bounds_refusal 1 most_charges first c) fifth in
    let third = option_or (bounds_refusal 0 most_marks most b) fourth in
    let second = option_or (bounds_refusal 1 most_charges least a) third in
    let from_second = both_none (bounds_refusal 1 most_marks n 1) second none in
    let from_third = both_none (bounds_refusal 1 most_charges least a) third from_second.1 in
    let at_third = both_none (bounds_refusal 0 most_marks most b) fourth from_third.1 in
    let from_fifth = both_none (bounds_refusal 1 most_charges first c) fifth at_third.1 in
    let at_fifth = both_none (bounds_refusal 0 most_charges count d) None from_fifth.1 in
    (not_above 0 most_marks most b at_third.0, not_above 0 most_charges count d at_fifth.0)

pub faulty : (input : List ℕ) (refusal : Refusal) → input_refusal input ≡ Some refusal → AsksUnlessFaulty input
faulty input refusal some none = absurd (none-some refusal (sym none ∙ some))

module _ (input : List ℕ) (o : Order) (short : length input < input_limit) (h : (order_refusal input ≡ None) × Says input o) (lines : ReadsRightLines input (Ok o)) where
  -- the rows that are read are those of the sheet, which is all that stands behind the order line
  sheet_is : (sheet_reading input).refusal ≡ None → IsSheet o.width.number sheet_room (sheet_in input) (sheet_reading input).rows
  unfolding sheet_reading
  sheet_is none =
      let width : o.width.number ≡ number_in input 0 = ap (λ (l : List ℕ). get_or l 0 0) h.1.0 in
      subst (λ (n : ℕ). IsSheet n sheet_room (sheet_in input) (reading (number_in input 0) sheet_room (sheet_in input)).rows) (sym width)
      (accepted (number_in input 0) sheet_room (sheet_in input) (omega (arith, width, o.width.range.1)) none)

  asks_by : (ns : List ℕ) → FitFor number_ends ns → Begins input (ended_numbers number_ends ns) → AsksUnlessFaulty input
  asks_by ns fits begins none =
      let right = lines.right ns fits begins in
      let same : numbers_of o ≡ ns = right.1.0 in
      let ranges = ap (λ l. ranges_refusal number_ranges l (columns_from 1 l)) same ∙ right.0 in
      let most = told o.width.number o.support.number o.size o.first.number o.count ranges in
      let line = ended_numbers number_ends ns in
      let start : number_start input 5 ≡ length line = omega (arith, h.1.1, right.1.1) in
      let rest : sheet_in input ≡ begins.0 = ap (drop (number_start input 5)) begins.1 ∙ drop_at line begins.0 (number_start input 5) (sym start) in (
        o.width.number,
        o.support.number,
        o.size,
        o.first.number,
        o.count,
        (sheet_reading input).rows,
        record {
          text = sheet_in input;
          written = begins.1 ∙ (λ i. ended_numbers number_ends (sym same i) ++ sym rest i);
          sheet = sheet_is (sym (sheet_fault input short h.0) ∙ none);
          width = o.width.range;
          support = o.support.range;
          size = most.0;
          start = o.first.range;
          charges = most.1;
          short = short;
        },
      )

  pub asks : AsksUnlessFaulty input
  asks =
      elim lines.either [
        | inl w ↦ asks_by w.0 w.1 w.2
        | inr w ↦ (let never : ◌≡◌ {A = ℕ} 0 1 = cc (lines.wrong w.0 w.1) in absurd (omega arith))
      ]
