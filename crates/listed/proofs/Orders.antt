-- Which fault an input has, and where its sheet begins.
use Rattle.std.proofs.Common.{◌≡◌, ℕ, ◌-◌, ◌<◌, ◌≤◌, List, [], ◌∷◌, length, get_or, take, drop, Some, None, Option, sym, refl, ap, ◌∙◌, arith, length-drop}
use Rattle.std.proofs.lemmas.List.{take_all}
use Rattle.std.proofs.lemmas.Bool.{le-leb, lt-leb}
use Rattle.marks.specs.declared.refusal.Reason.TheVariants.{Long}
use Rattle.marks.specs.declared.refusal.Refusal.{Refusal}
use Rattle.marks.specs.Refusals.{unplaced, first_due}
use Rattle.sheets.specs.declared.order.Order.{Order}
use Rattle.sheets.specs.OrderLines.{number_start, number_in, order_refusal, Says}
use Rattle.sheets.specs.Reading.{Reading, reading}
use Rattle.listed.specs.Asking.{input_limit, sheet_room, sheet_reading, input_refusal}

-- ---- the fault

one_due : (due : Option Refusal) → first_due (due ∷ []) ≡ due
one_due (Some refusal) = refl
one_due None = refl

pub too_long : (input : List ℕ) → input_limit ≤ length input → input_refusal input ≡ Some (unplaced Long)
unfolding input_refusal
too_long input h = rw (le-leb input_limit (length input) h) refl

module _ (input : List ℕ) (short : length input < input_limit) where
  pub order_fault : (refusal : Refusal) → order_refusal input ≡ Some refusal → input_refusal input ≡ Some refusal
  unfolding input_refusal
  order_fault refusal e = rw (lt-leb input_limit (length input) short, e) refl

  pub sheet_fault : order_refusal input ≡ None → input_refusal input ≡ (sheet_reading input).refusal
  unfolding input_refusal
  sheet_fault e = rw (lt-leb input_limit (length input) short, e) (one_due (sheet_reading input).refusal)

-- the sheet is read at the width that the order says, from where it says
abbrev pub behind : Order → List ℕ → List ℕ
behind o input = take (length input - (o.sheet - 1)) (drop (o.sheet - 1) input)

pub same_reading : (input : List ℕ) (o : Order) (room : ℕ) → Says input o → room ≡ sheet_room → reading o.width.number room (behind o input) ≡ sheet_reading input
unfolding sheet_reading
same_reading input o room says e =
    let width : o.width.number ≡ number_in input 0 = ap (λ (l : List ℕ). get_or l 0 0) says.0 in
    let start : o.sheet - 1 ≡ number_start input 5 = omega (arith, says.1) in
    let all : behind o input ≡ drop (o.sheet - 1) input = take_all (length input - (o.sheet - 1)) (drop (o.sheet - 1) input) (omega (arith, length-drop (o.sheet - 1) input)) in
    let sheet : behind o input ≡ drop (number_start input 5) input = all ∙ ap (λ k. drop k input) start in
    λ i. reading (width i) (e i) (sheet i)

-- a fault of the sheet is that of the input, where the order line has none
pub sheet_refused : (input : List ℕ) (o : Order) (room : ℕ) → length input < input_limit → (order_refusal input ≡ None) × Says input o → room ≡ sheet_room
    → (refusal : Refusal) → (reading o.width.number room (behind o input)).refusal ≡ Some refusal → input_refusal input ≡ Some refusal
sheet_refused input o room short h e refusal due =
    sheet_fault input short h.0 ∙ ap (λ (r : Reading). r.refusal) (sym (same_reading input o room h.1 e)) ∙ due
