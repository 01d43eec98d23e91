-- The number that digits write.
use Rattle.std.proofs.Common.{◌≡◌, ℕ, ◌+◌, ◌-◌, ◌*◌, ◌<◌, ◌≤◌, Bool, true, false, ◌||◌, ◌==◌, Some, None, List, [], ◌∷◌, length, get_or, fold, codes, decimal, refl, ap, rules, arith}
use Rattle.std.specs.Str.{all_ascii_digits}
use Rattle.std.proofs.lemmas.Str.Parse.{IsNumeralModel, numerals_by_fold, tells_all_ascii_digits, digit_at}
use Rattle.std.proofs.lemmas.Bool.{eqb-true, false≢true, ne_eqb, le-ltb, lt-ltb, le-leb}
use Rattle.std.proofs.lemmas.Fmt.{decimal_digit}
use Rattle.marks.specs.declared.refusal.Reason.{Reason}
use Rattle.marks.specs.declared.refusal.Reason.TheVariants.{BadNumber}
use Rattle.marks.specs.declared.refusal.Refusal.{Refusal}
use Rattle.marks.specs.Refusals.{range_refusal}
use Rattle.sheets.specs.Reading.{worth, is_single_zero, is_bad_number, number_fault}

-- a digit more
abbrev pub step : ℕ → ℕ → ℕ
step n d = n * 10 + (d - 48)

pub own : IsNumeralModel (λ ds. all_ascii_digits ds ≡ true) worth
own = numerals_by_fold (λ ds. all_ascii_digits ds ≡ true) tells_all_ascii_digits (fold step) (search rules)

-- each digit is one
pub in_range : (ds : List ℕ) (i : ℕ) → all_ascii_digits ds ≡ true → i < length ds → (48 ≤ get_or ds i 0) × (get_or ds i 0 ≤ 57)
in_range ds i all h = let r = digit_at ds i (own.to ds all) h in (omega (arith, r.0), omega (arith, r.1))

grows : (n : ℕ) (ds : List ℕ) → n ≤ fold step n ds
grows n [] = omega arith
grows n (d ∷ ds) = omega (arith, grows (n * 10 + (d - 48)) ds)

-- a number that does not start with 0 is not 0
pub worth_some : (ds : List ℕ) → 48 < get_or ds 0 0 → 0 < worth ds
worth_some [] h = absurd (omega arith)
worth_some (d ∷ ds) h = omega (arith, grows (0 * 10 + (d - 48)) ds)

pub good_number : (n : ℕ) (ds : List ℕ) → (get_or ds 0 0 ≡ 48 → ⊥) → worth ds ≤ n → is_bad_number n ds ≡ false
good_number n ds some low = rw (ne_eqb (get_or ds 0 0) 48 some, le-ltb n (worth ds) low) refl

pub big_number : (n : ℕ) (ds : List ℕ) → n < worth ds → is_bad_number n ds ≡ true
big_number n ds high = rw (lt-ltb n (worth ds) high) (by (get_or ds 0 0 == 48))
  where
    by : (t : Bool) → (t || true) ≡ true
    by true = refl
    by false = refl

-- digits that are a single 0
pub single_zero : (ds : List ℕ) → is_single_zero ds ≡ true → ds ≡ 48 ∷ []
single_zero [] e = absurd (false≢true e)
single_zero (d ∷ []) e = ap (λ c. c ∷ []) (eqb-true d 48 e)
single_zero (d ∷ c ∷ ds) e = absurd (false≢true e)

-- which are no mark
pub zero_fault : (placed : Reason → Refusal) (n left : ℕ) (ds : List ℕ) → is_single_zero ds ≡ true → number_fault placed n left ds ≡ Some (placed BadNumber)
zero_fault placed n left ds e = ap (number_fault placed n left) (single_zero ds e)

-- 0 in digits
pub decimal_zero : decimal 0 ≡ codes "0"
decimal_zero = decimal_digit 0 (omega arith)

-- a number in range is one that can be made
pub in_due : (number : ℕ) → 0 < number → number ≤ 32 → range_refusal 32 number ≡ None
in_due number some low = rw (le-leb 1 number (omega arith), le-leb number 32 low) refl
