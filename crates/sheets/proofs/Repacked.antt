-- Rows and their bytes, and what is known of packed bytes that no refusal is due for.
use Rattle.std.proofs.Common.{◌≡◌, ℕ, suc, ◌+◌, ◌*◌, ◌/◌, ◌%◌, ◌^◌, ◌<◌, ◌≤◌, Bool, true, false, not, eqb, ltb, List, [], ◌∷◌, ◌++◌, length, get_or, Some, None, Option, refl, sym, arith}
use Rattle.std.specs.Option.{option_map}
use Rattle.std.proofs.lemmas.Bool.{eqb-true, ltb-false, not-false}
use Rattle.std.proofs.lemmas.Option.{none-some}
use Rattle.marks.specs.Bytes.{four_bytes}
use Rattle.marks.specs.declared.refusal.Refusal.{Refusal}
use Rattle.marks.specs.declared.refusal.Reason.TheVariants.{NoPlace, Long, Ragged, TooMany, Stray}
use Rattle.marks.specs.Numbers.{most_charges}
use Rattle.marks.specs.Places.{first_place}
use Rattle.marks.specs.Refusals.{unplaced, placed_at, due_if, first_due}
use Rattle.marks.specs.Sets.{all_below}
use Rattle.tables.specs.Packed.{row_bytes, packed_rows, packed_refusal, strays}
use Rattle.tables.proofs.Packing.{rows_within}
use Rattle.sheets.specs.Rendering.{packed_bytes, most_bytes}
use Rattle.sheets.specs.Written.{sheet_of, write_refusal}

-- ---- rows and bytes

four : (a b c d : ℕ) → a < 256 → b < 256 → c < 256 → d < 256 → four_bytes (a + b * 256 + c * 65536 + d * 16777216) ≡ a ∷ b ∷ c ∷ d ∷ []
four a b c d p q r s =
    let n = a + b * 256 + c * 65536 + d * 16777216 in
    let w : n % 256 ≡ a = omega arith in
    let x : n / 256 % 256 ≡ b = omega arith in
    let y : n / 65536 % 256 ≡ c = omega arith in
    let z : n / 16777216 % 256 ≡ d = omega arith in
    (λ i. w i ∷ x i ∷ y i ∷ z i ∷ [])

-- whole rows are packed to the bytes that hold them
pub repacked : (bytes : List ℕ) → ((i : ℕ) → get_or bytes i 0 < 256) → length bytes % row_bytes ≡ 0 → packed_bytes (packed_rows bytes) ≡ bytes
repacked [] fits whole = refl
repacked (a ∷ []) fits whole = absurd (omega arith)
repacked (a ∷ b ∷ []) fits whole = absurd (omega arith)
repacked (a ∷ b ∷ c ∷ []) fits whole = absurd (omega arith)
repacked (a ∷ b ∷ c ∷ d ∷ bytes) fits whole =
    let first = four a b c d (fits 0) (fits 1) (fits 2) (fits 3) in
    let rest = repacked bytes (λ i. fits (suc (suc (suc (suc i))))) (omega arith) in
    (λ i. first i ++ rest i)

pub whole_rows : (bytes : List ℕ) → length bytes % row_bytes ≡ 0 → row_bytes * length (packed_rows bytes) ≡ length bytes
whole_rows [] whole = refl
whole_rows (a ∷ []) whole = absurd (omega arith)
whole_rows (a ∷ b ∷ []) whole = absurd (omega arith)
whole_rows (a ∷ b ∷ c ∷ []) whole = absurd (omega arith)
whole_rows (a ∷ b ∷ c ∷ d ∷ bytes) whole = omega (arith, whole_rows bytes (omega arith))

row_again : (row : ℕ) → row < 2 ^ 32 → row % 256 + row / 256 % 256 * 256 + row / 65536 % 256 * 65536 + row / 16777216 % 256 * 16777216 ≡ row
row_again row h = omega arith

-- and rows are those that their bytes hold
pub rows_again : (rows : List ℕ) → ((k : ℕ) → get_or rows k 0 < 2 ^ 32) → packed_rows (packed_bytes rows) ≡ rows
rows_again [] fits = refl
rows_again (row ∷ rows) fits =
    let first = row_again row (fits 0) in
    let rest = rows_again rows (λ k. fits (suc k)) in
    (λ i. first i ∷ rest i)

-- ---- no refusal is due

pub none_first : (due : Option Refusal) (rest : List (Option Refusal)) → first_due (due ∷ rest) ≡ None → (due ≡ None) × (first_due rest ≡ None)
none_first None rest h = (refl, h)
none_first (Some refusal) rest h = absurd (none-some refusal (sym h))

pub not_due_if : (test : Bool) (refusal : Refusal) → due_if test refusal ≡ None → test ≡ false
not_due_if true refusal h = absurd (none-some refusal (sym h))
not_due_if false refusal h = refl

no_place : (place : Option ℕ) (f : ℕ → Refusal) → option_map f place ≡ None → place ≡ None
no_place None f h = refl
no_place (Some k) f h = absurd (none-some (f k) (sym h))

-- packed bytes are whole rows of marks up to n, no more of them than there can be charges
pub record Packs (n : ℕ) (bytes : List ℕ) : Type 0 where
  pub whole : length bytes % row_bytes ≡ 0
  pub few : length (packed_rows bytes) ≤ most_charges
  pub within : (k : ℕ) → get_or (packed_rows bytes) k 0 < 2 ^ n

pub packs : (n : ℕ) (bytes : List ℕ) → packed_refusal bytes n ≡ None → Packs n bytes
unfolding packed_refusal
packs n bytes h =
    let ragged = none_first (due_if (not (eqb (length bytes % row_bytes) 0)) (unplaced Ragged))
    (due_if (ltb most_charges (length bytes / row_bytes)) (unplaced TooMany) ∷ option_map (placed_at Stray) (first_place (strays (all_below n)) (packed_rows bytes)) ∷ []) h in
    let many = none_first (due_if (ltb most_charges (length bytes / row_bytes)) (unplaced TooMany))
    (option_map (placed_at Stray) (first_place (strays (all_below n)) (packed_rows bytes)) ∷ []) ragged.1 in
    let stray = none_first (option_map (placed_at Stray) (first_place (strays (all_below n)) (packed_rows bytes))) [] many.1 in
    let whole : length bytes % row_bytes ≡ 0 =
    eqb-true (length bytes % row_bytes) 0 (not-false (eqb (length bytes % row_bytes) 0) (not_due_if (not (eqb (length bytes % row_bytes) 0)) (unplaced Ragged) ragged.0)) in
    record {
      whole = whole;
      few = omega (arith, whole_rows bytes whole, ltb-false most_charges (length bytes / row_bytes) (not_due_if (ltb most_charges (length bytes / row_bytes)) (unplaced TooMany) many.0));
      within = rows_within n (packed_rows bytes) (no_place (first_place (strays (all_below n)) (packed_rows bytes)) (placed_at Stray) stray.0);
    }

-- and their sheet is not too long
pub record Sheeted (n : ℕ) (bytes : List ℕ) : Type 0 where
  pub packed : Packs n bytes
  pub short : length (sheet_of bytes) ≤ most_bytes

pub sheeted : (n room : ℕ) (bytes : List ℕ) → write_refusal bytes n room ≡ None → Sheeted n bytes
unfolding write_refusal
sheeted n room bytes h =
    let packed = none_first (packed_refusal bytes n)
    (due_if (ltb most_bytes (length (sheet_of bytes))) (unplaced Long) ∷ due_if (ltb room (length (sheet_of bytes))) (unplaced NoPlace) ∷ []) h in
    let long = none_first (due_if (ltb most_bytes (length (sheet_of bytes))) (unplaced Long)) (due_if (ltb room (length (sheet_of bytes))) (unplaced NoPlace) ∷ []) packed.1 in
    record {
      packed = packs n bytes packed.0;
      short = ltb-false most_bytes (length (sheet_of bytes)) (not_due_if (ltb most_bytes (length (sheet_of bytes))) (unplaced Long) long.0);
    }
