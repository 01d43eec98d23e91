-- What is printed, from what was read.
use Rattle.std.proofs.Common.{◌≡◌, ℕ, List, [], ◌∷◌, get_or, Some, None, sym, ap, ◌∙◌}
use Rattle.marks.specs.declared.refusal.Refusal.{Refusal}
use Rattle.marks.specs.Refusals.{number_of}
use Rattle.tables.specs.Meaning.{Meaning}
use Rattle.found.specs.Lines.{fault_text}
use Rattle.sheets.specs.OrderLines.{number_in}
use Rattle.listed.specs.declared.asking.Asked.{Asked}
use Rattle.listed.specs.Asking.{input_refusal, rows_in, windowed_query, query_in, Asks, AsksUnlessFaulty, IsUnderstood}
use Rattle.listed.specs.Answering.{list_text, fault_or_list, answer_text, AnswersAsked}

pub faulted : (input : List ℕ) (r : Refusal) → input_refusal input ≡ Some r → fault_text (number_of r.reason) r.first r.second ≡ answer_text input
unfolding answer_text
faulted input r e = ap (λ due. fault_or_list due (query_in input)) (sym e)

pub answered : (input : List ℕ) (asked : Asked) (charges : Meaning) (rows : List ℕ) → (input_refusal input ≡ None) × Asks input asked
    → charges ≡ record { width = asked.order.width.number; rows = rows } → rows ≡ rows_in input
    → list_text (windowed_query charges asked.order.support.number asked.order.size asked.order.first.number asked.order.count) ≡ answer_text input
unfolding answer_text
answered input asked charges rows h e f =
    let numbers = h.1.0 in
    let at : (k : ℕ) → get_or (asked.order.width.number ∷ asked.order.support.number ∷ asked.order.size ∷ asked.order.first.number ∷ asked.order.count ∷ []) k 0
    ≡ get_or (number_in input 0 ∷ number_in input 1 ∷ number_in input 2 ∷ number_in input 3 ∷ number_in input 4 ∷ []) k 0 = λ k. ap (λ (l : List ℕ). get_or l k 0) numbers in
    let meant : charges ≡ record { width = number_in input 0; rows = rows_in input } = e ∙ (λ i. record { width = at 0 i; rows = f i }) in
    (λ i. list_text (windowed_query (meant i) (at 1 i) (at 2 i) (at 3 i) (at 4 i))) ∙ ap (λ due. fault_or_list due (query_in input)) (sym h.0)

pub asked_for : (input text : List ℕ) → IsUnderstood input → AsksUnlessFaulty input → text ≡ answer_text input → AnswersAsked input text
unfolding answer_text
asked_for input text understood faults e = record {
  lists = λ n least most first count rows asked.
      let u = understood n least most first count rows asked in
      e ∙ ap (λ due. fault_or_list due (query_in input)) u.0 ∙ ap list_text u.1;
  faults = faults;
}
