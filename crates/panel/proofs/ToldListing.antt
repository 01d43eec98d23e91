-- What the number that is answered for a list tells of it.
use Rattle.std.proofs.Common.{◌≡◌, ℕ, ◌/◌, ◌%◌, ◌<◌, ◌≤◌, Bool, true, false, not, eqb, leb, ltb, List, [], ◌∷◌, length, take, Some, None, Ok, Err, Option, Result, refl, sym, ◌∙◌, subst, inl, inr, arith, length-take, take_all}
use Rattle.std.specs.Option.{option_map}
use Rattle.std.proofs.lemmas.Bool.{cases_lt, and_parts, leb-true, not-false}
use Rattle.marks.specs.declared.refusal.Reason.TheVariants.{Range, NoPlace, Ragged, TooMany, Stray}
use Rattle.marks.specs.declared.refusal.Refusal.{Refusal}
use Rattle.marks.specs.Numbers.{most_marks, most_charges, in_range}
use Rattle.marks.specs.Places.{first_place}
use Rattle.marks.specs.Refusals.{number_of, unplaced, placed_at, due_if, first_due, range_refusal}
use Rattle.marks.specs.Sets.{all_below}
use Rattle.tables.specs.Meaning.{Proper}
use Rattle.tables.specs.Packed.{row_bytes, packed_rows, strays, packed_refusal}
use Rattle.sheets.proofs.Repacked.{none_first, not_due_if, packs}
use Rattle.closed.specs.Closed.{Query}
use Rattle.finder.specs.Found.{how_many, records}
use Rattle.finder.proofs.Listing.{length_records, how_many_few}
use Rattle.panel.specs.Answers.{panel_answer, IsToldApart}
use Rattle.panel.specs.Listing.{packed_query, judged, places, listed_into, list_result, list_memory, HoldsList}
use Rattle.panel.proofs.Filling.{none_left, some_left}
use Rattle.panel.proofs.Fronts.{fronted, tell_first}
use Rattle.panel.proofs.Told.{list_refused, list_told, list_written}

-- ---- what is judged first is never NO PLACE

abbrev IsOther : Option Refusal → Type 0
IsOther None = Unit {0}
IsOther (Some refusal) = number_of refusal.reason ≡ number_of NoPlace → ⊥

other_if : (test : Bool) (refusal : Refusal) → (number_of refusal.reason ≡ number_of NoPlace → ⊥) → IsOther (due_if test refusal)
other_if true refusal other = other
other_if false refusal other = tt

other_stray : (place : Option ℕ) → IsOther (option_map (placed_at Stray) place)
other_stray None = tt
other_stray (Some k) = λ e. omega (arith, e)

-- none of several refusals
abbrev AreOther : List (Option Refusal) → Type 0
AreOther [] = Unit {0}
AreOther (due ∷ dues) = IsOther due × AreOther dues

first_other : (dues : List (Option Refusal)) → AreOther dues → IsOther (first_due dues)
first_other [] none = tt
first_other (None ∷ dues) others = first_other dues others.1
first_other (Some refusal ∷ dues) others = others.0

other_packed : (bytes : List ℕ) (n : ℕ) → IsOther (packed_refusal bytes n)
unfolding packed_refusal
other_packed bytes n =
    let ragged = not (eqb (length bytes % row_bytes) 0) in
    let many = ltb most_charges (length bytes / row_bytes) in
    let stray = first_place (strays (all_below n)) (packed_rows bytes) in
    first_other (due_if ragged (unplaced Ragged) ∷ due_if many (unplaced TooMany) ∷ option_map (placed_at Stray) stray ∷ [])
    (other_if ragged (unplaced Ragged) (λ e. omega (arith, e)), (other_if many (unplaced TooMany) (λ e. omega (arith, e)), (other_stray stray, tt)))

module _ (bytes : List ℕ) (n θ : ℕ) where
  other_judged : IsOther (judged bytes n θ)
  other_judged =
      let wide = not (in_range most_marks n) in
      let enough = not (in_range most_charges θ) in
      first_other (due_if wide (unplaced Range) ∷ due_if enough (unplaced Range) ∷ packed_refusal bytes n ∷ [])
      (other_if wide (unplaced Range) (λ e. omega (arith, e)), (other_if enough (unplaced Range) (λ e. omega (arith, e)), (other_packed bytes n, tt)))

  -- and where nothing is, the table is proper
  proper_judged : judged bytes n θ ≡ None → Proper (record { width = n; rows = packed_rows bytes })
  proper_judged on =
      let width = none_first (range_refusal most_marks n) (range_refusal most_charges θ ∷ packed_refusal bytes n ∷ []) on in
      let support = none_first (range_refusal most_charges θ) (packed_refusal bytes n ∷ []) width.1 in
      let packed = none_first (packed_refusal bytes n) [] support.1 in
      let inside = and_parts (leb 1 n) (leb n most_marks) (not-false (in_range most_marks n) (not_due_if (not (in_range most_marks n)) (unplaced Range) width.0)) in
      let p = packs n bytes packed.0 in
      record { wide = (leb-true 1 n inside.0, leb-true n most_marks inside.1); few = p.few; within = p.within }

-- ---- what is told

module _ (bytes : List ℕ) (n θ most : ℕ) (old : List ℕ) where
  abbrev q : Query
  q = packed_query bytes n θ most

  abbrev room : ℕ
  room = length old

  -- a result of listing, with what memory then holds
  record Tells (memory : List ℕ) (result : Result ℕ Refusal) : Type 0 where
    apart : IsToldApart result (panel_answer result)
    holds : HoldsList q room memory (panel_answer result)

  tells_refused : (memory : List ℕ) (refusal : Refusal) → (number_of refusal.reason ≡ number_of NoPlace → ⊥) → Tells memory (Err refusal)
  tells_refused memory refusal other = record {
    apart = omega arith;
    holds = record { all = λ small. absurd (omega (arith, small)); first = λ e. absurd (other (omega (arith, e))) };
  }

  module _ (proper : Proper q.table) where
    tells_no_place : places room < how_many q → Tells (listed_into q old) (Err (unplaced NoPlace))
    tells_no_place more = record {
      apart = omega arith;
      holds = record {
        all = λ small. absurd (omega (arith, small));
        first = λ e. fronted (take (places room) (records q)) old (places room) (omega (arith, more, length-take (places room) (records q), length_records q)) (tell_first q proper (places room));
      };
    }

    tells_all : how_many q ≤ places room → Tells (listed_into q old) (Ok (how_many q))
    tells_all fits = record {
      apart = omega (arith, how_many_few q proper);
      holds = record {
        all = λ small.
            fronted (take (places room) (records q)) old (how_many q) (omega (arith, fits, length-take (places room) (records q), length_records q)) (tell_first q proper (places room))
            ∙ take_all (places room) (records q) (omega (arith, fits, length_records q));
        first = λ e. absurd (omega (arith, e, how_many_few q proper));
      };
    }

  tells : Tells (list_memory bytes n θ most old) (list_result bytes n θ most room)
  tells = by (judged bytes n θ) refl (other_judged bytes n θ)
    where
      by : (due : Option Refusal) → judged bytes n θ ≡ due → IsOther due → Tells (list_memory bytes n θ most old) (list_result bytes n θ most room)
      by (Some refusal) off other =
          subst (Tells (list_memory bytes n θ most old)) (list_refused bytes n θ most refusal off room) (tells_refused (list_memory bytes n θ most old) refusal other)
      by None on other =
          let proper = proper_judged bytes n θ on in
          subst (λ memory. Tells memory (list_result bytes n θ most room)) (list_written bytes n θ most on old)
          (elim (cases_lt (places room) (how_many q)) [
            | inl more ↦ subst (Tells (listed_into q old)) (list_told bytes n θ most on room (Err (unplaced NoPlace)) (some_left q room more)) (tells_no_place proper more)
            | inr fits ↦ subst (Tells (listed_into q old)) (list_told bytes n θ most on room (Ok (how_many q)) (none_left q room fits, refl)) (tells_all proper fits)
          ])

  module _ (answer : ℕ) (told : answer ≡ panel_answer (list_result bytes n θ most room)) where
    pub list_apart : IsToldApart (list_result bytes n θ most room) answer
    list_apart = subst (IsToldApart (list_result bytes n θ most room)) (sym told) tells.apart

    pub holds_list : (new : List ℕ) → new ≡ list_memory bytes n θ most old → HoldsList q room new answer
    holds_list new is = let holds = tells.holds in rw (told, is) holds
