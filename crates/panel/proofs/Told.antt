-- The result of a call, from what it answers.
use Rattle.std.proofs.Common.{◌≡◌, ℕ, List, [], ◌∷◌, length, Some, None, Ok, Err, Option, Result, sym, refl, ap, ◌∙◌}
use Rattle.tables.specs.Meaning.{Meaning}
use Rattle.limits.specs.Limits.{small}
use Rattle.closed.specs.Closed.{query}
use Rattle.marks.specs.declared.refusal.Refusal.{Refusal}
use Rattle.marks.specs.Numbers.{most_marks, most_charges}
use Rattle.marks.specs.Refusals.{Answers, first_due, range_refusal}
use Rattle.tables.specs.Packed.{packed_rows, packed_refusal}
use Rattle.sheets.specs.Reading.{reading, packed_into}
use Rattle.finder.specs.Found.{how_many}
use Rattle.panel.specs.Answers.{result_of, unless_due}
use Rattle.panel.specs.Reading.{read_result, read_memory}
use Rattle.panel.specs.Listing.{packed_query, judged, left_over, list_result, listed_into, list_memory}

-- a call that answers such a count, or the refusal that is due, has this result
told : (due : Option Refusal) (count : ℕ) (r : Result ℕ Refusal) → Answers due (λ n. n ≡ count) r → r ≡ result_of due count
told due count (Ok n) h = ap (λ (m : ℕ). Ok m) h.1 ∙ ap (λ (d : Option Refusal). result_of d count) (sym h.0)
told due count (Err refusal) h = ap (λ (d : Option Refusal). result_of d count) (sym h)

-- with nothing due before it
alone : (due : Option Refusal) (count : ℕ) → result_of due count ≡ result_of (first_due (None ∷ due ∷ [])) count
alone None count = refl
alone (Some refusal) count = refl

-- ---- reading

module _ (n : ℕ) (text memory : List ℕ) where
  module _ (refusal : Refusal) (off : range_refusal most_marks n ≡ Some refusal) where
    pub read_refused : (room : ℕ) → Err refusal ≡ read_result n room text
    unfolding read_result
    read_refused room = ap (λ (d : Option Refusal). result_of (first_due (d ∷ (reading n room text).refusal ∷ [])) (length (reading n room text).rows)) (sym off)

    pub read_kept : memory ≡ read_memory n text memory
    unfolding read_memory
    read_kept = ap (λ (d : Option Refusal). unless_due d (packed_into (reading n (length memory) text).rows memory) memory) (sym off)

  module _ (wide : range_refusal most_marks n ≡ None) where
    pub read_told : (room : ℕ) (r : Result ℕ Refusal) → Answers (reading n room text).refusal (λ count. count ≡ length (reading n room text).rows) r → r ≡ read_result n room text
    unfolding read_result
    read_told room r h =
        told (reading n room text).refusal (length (reading n room text).rows) r h
        ∙ alone (reading n room text).refusal (length (reading n room text).rows)
        ∙ ap (λ (d : Option Refusal). result_of (first_due (d ∷ (reading n room text).refusal ∷ [])) (length (reading n room text).rows)) (sym wide)

    pub read_packed : packed_into (reading n (length memory) text).rows memory ≡ read_memory n text memory
    unfolding read_memory
    read_packed = ap (λ (d : Option Refusal). unless_due d (packed_into (reading n (length memory) text).rows memory) memory) (sym wide)

-- ---- listing

module _ (bytes : List ℕ) (n θ most : ℕ) where
  -- of the three that are judged first, the first that is due
  pub width_off : (refusal : Refusal) → range_refusal most_marks n ≡ Some refusal → judged bytes n θ ≡ Some refusal
  width_off refusal off = ap (λ (d : Option Refusal). first_due (d ∷ range_refusal most_charges θ ∷ packed_refusal bytes n ∷ [])) off

  module _ (wide : range_refusal most_marks n ≡ None) where
    pub support_off : (refusal : Refusal) → range_refusal most_charges θ ≡ Some refusal → judged bytes n θ ≡ Some refusal
    support_off refusal off = λ i. first_due (wide i ∷ off i ∷ packed_refusal bytes n ∷ [])

    module _ (enough : range_refusal most_charges θ ≡ None) where
      pub bytes_off : (refusal : Refusal) → packed_refusal bytes n ≡ Some refusal → judged bytes n θ ≡ Some refusal
      bytes_off refusal off = λ i. first_due (wide i ∷ enough i ∷ off i ∷ [])

      pub none_off : packed_refusal bytes n ≡ None → judged bytes n θ ≡ None
      none_off on = λ i. first_due (wide i ∷ enough i ∷ on i ∷ [])

  -- what is asked of the table that stands over the bytes
  pub is_asked : (m : Meaning) (w most_is θ_is : ℕ) → m ≡ record { width = w; rows = packed_rows bytes } → w ≡ n → most_is ≡ most → θ_is ≡ θ
      → query m (small most_is) θ_is ≡ packed_query bytes n θ most
  is_asked m w most_is θ_is means is_width limited least =
      ap (λ (x : Meaning). query x (small most_is) θ_is) means
      ∙ (λ i. query (record { width = is_width i; rows = packed_rows bytes }) (small (limited i)) (least i))

  module _ (refusal : Refusal) (off : judged bytes n θ ≡ Some refusal) where
    pub list_refused : (room : ℕ) → Err refusal ≡ list_result bytes n θ most room
    unfolding list_result
    list_refused room =
        ap (λ (d : Option Refusal). result_of (first_due (d ∷ left_over (packed_query bytes n θ most) room ∷ [])) (how_many (packed_query bytes n θ most))) (sym off)

    pub list_kept : (memory : List ℕ) → memory ≡ list_memory bytes n θ most memory
    unfolding list_memory
    list_kept memory = ap (λ (d : Option Refusal). unless_due d (listed_into (packed_query bytes n θ most) memory) memory) (sym off)

  module _ (on : judged bytes n θ ≡ None) where
    pub list_told : (room : ℕ) (r : Result ℕ Refusal) → Answers (left_over (packed_query bytes n θ most) room) (λ count. count ≡ how_many (packed_query bytes n θ most)) r
        → r ≡ list_result bytes n θ most room
    unfolding list_result
    list_told room r h =
        told (left_over (packed_query bytes n θ most) room) (how_many (packed_query bytes n θ most)) r h
        ∙ alone (left_over (packed_query bytes n θ most) room) (how_many (packed_query bytes n θ most))
        ∙ ap (λ (d : Option Refusal). result_of (first_due (d ∷ left_over (packed_query bytes n θ most) room ∷ [])) (how_many (packed_query bytes n θ most))) (sym on)

    pub list_written : (memory : List ℕ) → listed_into (packed_query bytes n θ most) memory ≡ list_memory bytes n θ most memory
    unfolding list_memory
    list_written memory = ap (λ (d : Option Refusal). unless_due d (listed_into (packed_query bytes n θ most) memory) memory) (sym on)
