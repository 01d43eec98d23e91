-- The digits at the front of a text, and the number that they write.
use Rattle.std.proofs.Common.{◌≡◌, ℕ, zero, suc, ◌^◌, ◌<◌, ◌≤◌, Bool, true, false, cond, eqb, leb, List, [], ◌∷◌, ◌++◌, length, take, drop, get_or, decimal, refl, sym, ap, ◌∙◌, subst, inl, inr, arith}
use Rattle.std.specs.Char.{is_ascii_digit}
use Rattle.std.specs.Int.{IsInRange}
use Rattle.std.specs.List.{take_while}
use Rattle.std.specs.Str.Parse.{AllDigits}
use Rattle.std.proofs.lemmas.Bool.{and_parts, and_from, leb-true, le-leb, eqb-true, eq-eqb, ne_eqb, cases_lt}
use Rattle.std.proofs.lemmas.Fmt.{decimal-digits_value, decimal_digit, decimal_nonempty, digits_decimal, first_decimal, length-decimal-le}
use Rattle.std.proofs.lemmas.List.{get_or_append_left, take_at}
use Rattle.std.proofs.lemmas.List.Sums.{take_while-cons}
use Rattle.std.proofs.lemmas.Str.Parse.{IsNumeralModel, tells_digits, digits_value_short}
use Rattle.sheets.specs.Digits.{most_digits, leading_digits}
use Rattle.sheets.specs.Reading.{worth}
use Rattle.sheets.proofs.Numbers

pub own : IsNumeralModel (AllDigits 10) worth
own = record { to = λ ds all. all; from = λ ds all. all; same = λ ds all. Numbers.own.same ds all }

pub digit_in : (b : ℕ) → is_ascii_digit b ≡ true → IsInRange 48 57 b
digit_in b e = let p = and_parts (leb 48 b) (leb b 57) e in (leb-true 48 b p.0, leb-true b 57 p.1)

pub digit_from : (b : ℕ) → IsInRange 48 57 b → is_ascii_digit b ≡ true
digit_from b h = and_from (leb 48 b) (leb b 57) (le-leb 48 b h.0) (le-leb b 57 h.1)

-- not both a digit and none
pub not_both : (b : ℕ) → IsInRange 48 57 b → is_ascii_digit b ≡ false → ⊥
not_both b h e = let both : true ≡ false = sym (digit_from b h) ∙ e in cc

-- ---- the digits at the front, of so many bytes

pub record Front (most : ℕ) (text digits : List ℕ) : Type 0 where
  pub all : AllDigits 10 digits
  pub parts : text ≡ digits ++ drop (length digits) text
  pub few : length digits ≤ most
  pub stops : length digits < most → length digits < length text → is_ascii_digit (get_or text (length digits) 0) ≡ false

pub front : (most : ℕ) (text : List ℕ) → Front most text (take_while is_ascii_digit (take most text))
front zero text = record { all = tt; parts = refl; few = omega arith; stops = λ h k. absurd (omega arith) }
front (suc most) [] = record { all = tt; parts = refl; few = omega arith; stops = λ h k. absurd (omega arith) }
front (suc most) (b ∷ text) =
    subst (Front (suc most) (b ∷ text)) (sym (take_while-cons is_ascii_digit b (take most text))) (by (is_ascii_digit b) refl (front most text))
  where
    by : (t : Bool) → is_ascii_digit b ≡ t → Front most text (take_while is_ascii_digit (take most text))
        → Front (suc most) (b ∷ text) (cond t (b ∷ take_while is_ascii_digit (take most text)) [])
    by true e f = record {
      all = tells_digits.more b (take_while is_ascii_digit (take most text)) (digit_in b e) f.all;
      parts = ap (λ (l : List ℕ). b ∷ l) f.parts;
      few = omega (arith, f.few);
      stops = λ h k. f.stops (omega arith) (omega arith);
    }
    by false e f = record { all = tt; parts = refl; few = omega arith; stops = λ h k. e }

-- digits before another byte are those at the front
pub digits_before : (most : ℕ) (digits : List ℕ) (b : ℕ) (rest : List ℕ) → AllDigits 10 digits → length digits ≤ most → is_ascii_digit b ≡ false
    → take_while is_ascii_digit (take most (digits ++ (b ∷ rest))) ≡ digits
digits_before zero [] b rest all few none = refl
digits_before (suc most) [] b rest all few none = take_while-cons is_ascii_digit b (take most rest) ∙ ap (λ t. cond t (b ∷ take_while is_ascii_digit (take most rest)) []) none
digits_before zero (d ∷ digits) b rest all few none = absurd (omega arith)
digits_before (suc most) (d ∷ digits) b rest all few none =
    let p = tells_digits.parts d digits all in
    take_while-cons is_ascii_digit d (take most (digits ++ (b ∷ rest))) ∙ ap (λ t. cond t (d ∷ take_while is_ascii_digit (take most (digits ++ (b ∷ rest)))) []) (digit_from d p.0)
    ∙ ap (λ (l : List ℕ). d ∷ l) (digits_before most digits b rest p.1 (omega arith) none)

-- ---- the digits of a number

-- how many digits the number at the front of a text can have
abbrev pub most_of : List ℕ → ℕ
most_of text = cond (eqb (get_or text 0 0) 48) 1 most_digits

pub leading : (text : List ℕ) → Front (most_of text) text (leading_digits text)
unfolding leading_digits
leading text = front (most_of text) text

pub taken : (text : List ℕ) (n : ℕ) → n ≡ length (leading_digits text) → take n text ≡ leading_digits text
taken text n e = ap (take n) (leading text).parts ∙ take_at (leading_digits text) (drop (length (leading_digits text)) text) n (sym e)

pub most_after_zero : (text : List ℕ) → get_or text 0 0 ≡ 48 → most_of text ≡ 1
most_after_zero text e = ap (λ t. cond t 1 most_digits) (eq-eqb (get_or text 0 0) 48 e)

pub most_after_other : (text : List ℕ) → (get_or text 0 0 ≡ 48 → ⊥) → most_of text ≡ most_digits
most_after_other text e = ap (λ t. cond t 1 most_digits) (ne_eqb (get_or text 0 0) 48 e)

pub first_digit : (text : List ℕ) → 0 < length (leading_digits text) → get_or text 0 0 ≡ get_or (leading_digits text) 0 0
first_digit text some =
    ap (λ (l : List ℕ). get_or l 0 0) (leading text).parts ∙ get_or_append_left (leading_digits text) (drop (length (leading_digits text)) text) 0 0 some

pub most_of_all : (text : List ℕ) → most_of text ≤ most_digits
most_of_all text = by (eqb (get_or text 0 0) 48)
  where
    by : (t : Bool) → cond t 1 most_digits ≤ most_digits
    by true = omega arith
    by false = omega arith

pub few_leading : (text : List ℕ) → length (leading_digits text) ≤ most_digits
few_leading text = omega (arith, (leading text).few, most_of_all text)

-- a numeral that begins with 0 is the one of 0
pub zero_from_first : (n : ℕ) → n < 10 ^ most_digits → get_or (decimal n) 0 0 ≡ 48 → length (decimal n) ≡ 1
zero_from_first n small e =
    elim (cases_lt 0 n) [
      | inl some ↦ absurd (omega (arith, first_decimal n some (omega arith)))
      | inr none ↦ (let zero_is : n ≡ 0 = omega arith in ap length (ap decimal zero_is ∙ decimal_digit 0 (omega arith)))
    ]

pub few_digits : (n : ℕ) → n < 10 ^ most_digits → length (decimal n) ≤ most_digits
few_digits n small = length-decimal-le most_digits n (omega arith) small (omega arith)

-- a number, and the byte after it
pub leading-decimal : (n b : ℕ) (rest : List ℕ) → n < 10 ^ most_digits → is_ascii_digit b ≡ false → leading_digits (decimal n ++ (b ∷ rest)) ≡ decimal n
unfolding leading_digits
leading-decimal n b rest small none =
    digits_before (most_of (decimal n ++ (b ∷ rest))) (decimal n) b rest (digits_decimal own n (omega arith)) fits none
  where
    first : get_or (decimal n ++ (b ∷ rest)) 0 0 ≡ get_or (decimal n) 0 0
    first = get_or_append_left (decimal n) (b ∷ rest) 0 0 (decimal_nonempty n (omega arith))

    by : (t : Bool) → eqb (get_or (decimal n ++ (b ∷ rest)) 0 0) 48 ≡ t → length (decimal n) ≤ cond t 1 most_digits
    by true e = omega (arith, zero_from_first n small (sym first ∙ eqb-true (get_or (decimal n ++ (b ∷ rest)) 0 0) 48 e))
    by false e = few_digits n small

    fits : length (decimal n) ≤ most_of (decimal n ++ (b ∷ rest))
    fits = by (eqb (get_or (decimal n ++ (b ∷ rest)) 0 0) 48) refl

-- the digits at the front of a text write a number that is written so
pub record Numeral (text : List ℕ) : Type 0 where
  pub back : decimal (worth (leading_digits text)) ≡ leading_digits text
  pub small : worth (leading_digits text) < 10 ^ most_digits

pub small_number : (text : List ℕ) → worth (leading_digits text) < 10 ^ most_digits
small_number text = let f = leading text in digits_value_short own (leading_digits text) most_digits f.all (few_leading text)

pub numeral : (text : List ℕ) → 0 < length (leading_digits text) → Numeral text
numeral text some = record {
  back = decimal-digits_value own (leading_digits text) f.all some alone (omega (arith, small_number text));
  small = small_number text;
}
  where
    f : Front (most_of text) text (leading_digits text)
    f = leading text

    alone : get_or (leading_digits text) 0 0 ≡ 48 → length (leading_digits text) ≡ 1
    alone e = omega (arith, f.few, most_after_zero text (first_digit text some ∙ e))
