-- Right lines: which bytes a right line can have where.
use Rattle.std.proofs.Common.{◌≡◌, ℕ, zero, suc, ◌+◌, ◌^◌, ◌<◌, ◌≤◌, Bool, true, false, eqb, ltb, ◌⊎◌, List, [], ◌∷◌, ◌++◌, length, take, drop, get_or, decimal, refl, sym, ap, ◌∙◌, inl, inr, append_assoc, arith}
use Rattle.std.specs.Char.{is_ascii_digit}
use Rattle.std.specs.Str.Parse.{AllDigits}
use Rattle.std.proofs.lemmas.Bool.{and_parts, and_from, ltb-true, lt-ltb, eqb-true, eq-eqb, cases_lt, cases_eq, cases_order, both_ways}
use Rattle.std.proofs.lemmas.Fmt.{decimal_nonempty, decimal_injective, digits_decimal}
use Rattle.std.proofs.lemmas.Int.Digits.{digits_push}
use Rattle.std.proofs.lemmas.List.{length-append, drop_more, take_at, get_or_at, get_or_append_left, get_or_past, take-append-drop, take-take}
use Rattle.std.proofs.lemmas.Str.Parse.{tells_digits}
use Rattle.sheets.specs.Digits.{most_digits, leading_digits}
use Rattle.sheets.specs.Reading.{worth}
use Rattle.sheets.specs.OrderLines.{ended_numbers, FitFor, Begins, BeginRightLine, FormFault, is_ended}
use Rattle.sheets.proofs.Numerals.{own, leading, few_digits, digit_in, not_both, most_of, most_after_zero, most_after_other, first_digit, zero_from_first, leading-decimal, numeral, small_number}

-- what ends a number: no digit, and not 0, which stands for what is past a text
pub record IsEnd (b : ℕ) : Type 0 where
  pub none : is_ascii_digit b ≡ false
  pub some : 0 < b

abbrev pub AreEnds : List ℕ → Type 0
AreEnds [] = Unit {0}
AreEnds (e ∷ ends) = IsEnd e × AreEnds ends

-- ---- digits before another byte

pub split : (ds es : List ℕ) (b c : ℕ) (v w : List ℕ) → AllDigits 10 ds → AllDigits 10 es → is_ascii_digit b ≡ false → is_ascii_digit c ≡ false
    → ds ++ (b ∷ v) ≡ es ++ (c ∷ w) → (ds ≡ es) × (b ≡ c) × (v ≡ w)
split [] [] b c v w p q x y e = (refl, (cc), (cc))
split [] (d ∷ es) b c v w p q x y e =
    let same : d ≡ b = cc in
    absurd (not_both d (tells_digits.parts d es q).0 (ap is_ascii_digit same ∙ x))
split (d ∷ ds) [] b c v w p q x y e =
    let same : d ≡ c = cc in
    absurd (not_both d (tells_digits.parts d ds p).0 (ap is_ascii_digit same ∙ y))
split (d ∷ ds) (f ∷ es) b c v w p q x y e =
    let same : d ≡ f = cc in
    let tails : ds ++ (b ∷ v) ≡ es ++ (c ∷ w) = cc in
    let rest = split ds es b c v w (tells_digits.parts d ds p).1 (tells_digits.parts f es q).1 x y tails in
    ((λ i. same i ∷ rest.0 i), rest.1, rest.2)

-- digits are no longer than those before another byte in the same text, and begin alike
pub longer : (ds es : List ℕ) (c : ℕ) (v w : List ℕ) → AllDigits 10 ds → is_ascii_digit c ≡ false → ds ++ v ≡ es ++ (c ∷ w)
    → (length ds ≤ length es) × (0 < length ds → get_or es 0 0 ≡ get_or ds 0 0)
longer [] es c v w p y e = (omega arith, λ h. absurd (omega arith))
longer (d ∷ ds) [] c v w p y e =
    let same : d ≡ c = cc in
    absurd (not_both d (tells_digits.parts d ds p).0 (ap is_ascii_digit same ∙ y))
longer (d ∷ ds) (f ∷ es) c v w p y e =
    let same : d ≡ f = cc in
    let tails : ds ++ v ≡ es ++ (c ∷ w) = cc in
    let rest = longer ds es c v w (tells_digits.parts d ds p).1 y tails in
    (omega (arith, rest.0), λ h. sym same)

take_past : (ds : List ℕ) (b : ℕ) (rest : List ℕ) (k n : ℕ) → n ≡ length ds + 1 + k → take n (ds ++ (b ∷ rest)) ≡ ds ++ (b ∷ take k rest)
take_past [] b rest k zero h = absurd (omega arith)
take_past [] b rest k (suc n) h = let e : n ≡ k = omega arith in ap (λ m. b ∷ take m rest) e
take_past (d ∷ ds) b rest k zero h = absurd (omega arith)
take_past (d ∷ ds) b rest k (suc n) h = ap (λ (l : List ℕ). d ∷ l) (take_past ds b rest k n (omega arith))

-- ---- the numbers of a line

pub fit_first : (e : ℕ) (ends : List ℕ) (n : ℕ) (numbers : List ℕ) → FitFor (e ∷ ends) (n ∷ numbers) → n < 10 ^ most_digits
fit_first e ends n numbers fit = fit.short 0

pub fit_rest : (e : ℕ) (ends : List ℕ) (n : ℕ) (numbers : List ℕ) → FitFor (e ∷ ends) (n ∷ numbers) → FitFor ends numbers
fit_rest e ends n numbers fit = record { count = omega (arith, fit.count); short = λ k. fit.short (suc k) }

pub fit_more : (e : ℕ) (ends : List ℕ) (n : ℕ) (numbers : List ℕ) → n < 10 ^ most_digits → FitFor ends numbers → FitFor (e ∷ ends) (n ∷ numbers)
fit_more e ends n numbers small fit = record { count = omega (arith, fit.count); short = at }
  where
    at : (k : ℕ) → get_or (n ∷ numbers) k 0 < 10 ^ most_digits
    at zero = small
    at (suc k) = fit.short k

-- there are numbers for any ends
zeros : List ℕ → List ℕ
zeros [] = []
zeros (e ∷ ends) = 0 ∷ zeros ends

zeros_fit : (ends : List ℕ) → FitFor ends (zeros ends)
unfolding zeros
zeros_fit [] = record { count = refl; short = λ k. omega (arith, get_or_past {X = ℕ} [] k 0) }
zeros_fit (e ∷ ends) = fit_more e ends 0 (zeros ends) (omega arith) (zeros_fit ends)

none_left : (e : ℕ) (ends : List ℕ) → FitFor (e ∷ ends) [] → ⊥
none_left e ends fit = omega (arith, fit.count)

pub ended : (e : ℕ) (text : List ℕ) → is_ended e text ≡ true → (0 < length (leading_digits text)) × (get_or text (length (leading_digits text)) 0 ≡ e)
ended e text is =
    let p = and_parts (ltb 0 (length (leading_digits text))) (eqb (get_or text (length (leading_digits text)) 0) e) is in
    (ltb-true 0 (length (leading_digits text)) p.0, eqb-true (get_or text (length (leading_digits text)) 0) e p.1)

pub ended_from : (e : ℕ) (text : List ℕ) → 0 < length (leading_digits text) → get_or text (length (leading_digits text)) 0 ≡ e → is_ended e text ≡ true
ended_from e text some is =
    and_from (ltb 0 (length (leading_digits text))) (eqb (get_or text (length (leading_digits text)) 0) e) (lt-ltb 0 (length (leading_digits text)) some)
    (eq-eqb (get_or text (length (leading_digits text)) 0) e is)

-- what a text is behind the digits at its front
pub behind : (text : List ℕ) → length (leading_digits text) < length text
    → text ≡ leading_digits text ++ (get_or text (length (leading_digits text)) 0 ∷ drop (length (leading_digits text) + 1) text)
behind text h = (leading text).parts ∙ ap (λ (l : List ℕ). leading_digits text ++ l) (drop_more text (length (leading_digits text)) 0 h)

-- an ended number is not all of the text
pub inside : (e : ℕ) (text : List ℕ) → IsEnd e → is_ended e text ≡ true → length (leading_digits text) < length text
inside e text end is =
    elim (cases_lt (length (leading_digits text)) (length text)) [
      | inl h ↦ h
      | inr h ↦ absurd (omega (arith, (ended e text is).1, get_or_past text (length (leading_digits text)) 0 h, end.some))
    ]

-- ---- where a text departs from right lines

-- one more number in front
module _ (e : ℕ) (ends text rest : List ℕ) (k : ℕ) (end : IsEnd e) (some : 0 < length (leading_digits text)) (is : text ≡ leading_digits text ++ (e ∷ rest)) (f : FormFault ends rest k) where
  ds : List ℕ
  ds = leading_digits text

  n : ℕ
  n = worth (leading_digits text)

  longer_within : length (leading_digits text) + 1 + k ≤ length text
  longer_within = omega (arith, ap length is, length-append (leading_digits text) (e ∷ rest), f.within)

  longer_taken : (m : ℕ) → take (length (leading_digits text) + 1 + m) text ≡ leading_digits text ++ (e ∷ take m rest)
  longer_taken m = ap (take (length (leading_digits text) + 1 + m)) is ∙ take_past (leading_digits text) e rest m (length (leading_digits text) + 1 + m) refl

  longer_before : BeginRightLine (e ∷ ends) (take (length (leading_digits text) + 1 + k) text)
  longer_before =
      let numbers = f.before.0 in
      let tail = f.before.2.0 in
      let first : decimal (worth (leading_digits text)) ≡ leading_digits text = (numeral text some).back in (
        worth (leading_digits text) ∷ numbers,
        fit_more e ends (worth (leading_digits text)) numbers (small_number text) f.before.1,
        (
          tail,
          ap (λ (l : List ℕ). l ++ (e ∷ ended_numbers ends numbers)) first ∙ ap (λ (l : List ℕ). leading_digits text ++ (e ∷ l)) f.before.2.1
              ∙ sym (append_assoc (leading_digits text) (e ∷ take k rest) tail) ∙ ap (λ (l : List ℕ). l ++ tail) (sym (longer_taken k)),
        ),
      )

  longer_past : length (leading_digits text) + 1 + k < length text → BeginRightLine (e ∷ ends) (take (length (leading_digits text) + 1 + k + 1) text) → ⊥
  longer_past h fronts = by fronts.0 fronts.1 fronts.2.0 fronts.2.1
    where
      by : (numbers : List ℕ) → FitFor (e ∷ ends) numbers → (tail : List ℕ) → ended_numbers (e ∷ ends) numbers ≡ take (length (leading_digits text) + 1 + k + 1) text ++ tail → ⊥
      by [] fit tail same = none_left e ends fit
      by (y ∷ ys) fit tail same =
          let sum : length (leading_digits text) + 1 + k + 1 ≡ length (leading_digits text) + 1 + (k + 1) = omega arith in
          let long : take (length (leading_digits text) + 1 + k + 1) text ≡ leading_digits text ++ (e ∷ take (k + 1) rest) = ap (λ m. take m text) sum ∙ longer_taken (k + 1) in
          let whole : decimal y ++ (e ∷ ended_numbers ends ys) ≡ leading_digits text ++ (e ∷ (take (k + 1) rest ++ tail)) =
          same ∙ ap (λ (l : List ℕ). l ++ tail) long ∙ append_assoc (leading_digits text) (e ∷ take (k + 1) rest) tail
          in
          let parts = split (decimal y) (leading_digits text) e e (ended_numbers ends ys) (take (k + 1) rest ++ tail) (digits_decimal own y (omega (arith, fit_first e ends y ys fit)))
          (leading text).all end.none end.none whole
          in
          f.past (omega (arith, ap length is, length-append (leading_digits text) (e ∷ rest))) (ys, fit_rest e ends y ys fit, (tail, parts.2))

  longer_none : (numbers : List ℕ) → FitFor (e ∷ ends) numbers → Begins text (ended_numbers (e ∷ ends) numbers) → ⊥
  longer_none [] fit begins = none_left e ends fit
  longer_none (y ∷ ys) fit begins =
      let whole : leading_digits text ++ (e ∷ rest) ≡ decimal y ++ (e ∷ (ended_numbers ends ys ++ begins.0)) =
      sym is ∙ begins.1 ∙ append_assoc (decimal y) (e ∷ ended_numbers ends ys) begins.0
      in
      let parts = split (leading_digits text) (decimal y) e e rest (ended_numbers ends ys ++ begins.0) (leading text).all (digits_decimal own y (omega (arith, fit_first e ends y ys fit)))
      end.none end.none whole
      in
      f.none ys (fit_rest e ends y ys fit) (begins.0, parts.2)

  pub fault_more : FormFault (e ∷ ends) text (length (leading_digits text) + 1 + k)
  fault_more = record { within = longer_within; before = longer_before; past = longer_past; none = longer_none }

-- a number that is not ended as it should be
module _ (e : ℕ) (ends text : List ℕ) (end : IsEnd e) (wrong : is_ended e text ≡ false) where
  here_within : length (leading_digits text) ≤ length text
  here_within = omega (arith, ap length (leading text).parts, length-append (leading_digits text) (drop (length (leading_digits text)) text))

  here_taken : take (length (leading_digits text)) text ≡ leading_digits text
  here_taken = ap (take (length (leading_digits text))) (leading text).parts ∙ take_at (leading_digits text) (drop (length (leading_digits text)) text) (length (leading_digits text)) refl

  here_before : BeginRightLine (e ∷ ends) (take (length (leading_digits text)) text)
  here_before = (worth (leading_digits text) ∷ zeros ends, fit_more e ends (worth (leading_digits text)) (zeros ends) (small_number text) (zeros_fit ends), by (cases_lt 0 (length (leading_digits text))))
    where
      line : List ℕ
      line = ended_numbers (e ∷ ends) (worth (leading_digits text) ∷ zeros ends)

      by : (0 < length (leading_digits text)) ⊎ (length (leading_digits text) ≤ 0) → Begins (ended_numbers (e ∷ ends) (worth (leading_digits text) ∷ zeros ends)) (take (length (leading_digits text)) text)
      by (inl some) = (e ∷ ended_numbers ends (zeros ends), ap (λ (l : List ℕ). l ++ (e ∷ ended_numbers ends (zeros ends))) ((numeral text some).back ∙ sym here_taken))
      by (inr none) =
          let zero_is : length (leading_digits text) ≡ 0 = omega arith in (
            ended_numbers (e ∷ ends) (worth (leading_digits text) ∷ zeros ends),
            ap (λ m. take m text ++ ended_numbers (e ∷ ends) (worth (leading_digits text) ∷ zeros ends)) (sym zero_is),
          )

  -- a line that goes on as the text does has the number and this end there
  here_line : (y : ℕ) (v tail : List ℕ) → y < 10 ^ most_digits → length (leading_digits text) < length text
      → decimal y ++ (e ∷ v) ≡ leading_digits text ++ (get_or text (length (leading_digits text)) 0 ∷ tail) → ⊥
  here_line y v tail small h whole = by (is_ascii_digit (get_or text (length (leading_digits text)) 0)) refl
    where
      b : ℕ
      b = get_or text (length (leading_digits text)) 0

      by : (t : Bool) → is_ascii_digit (get_or text (length (leading_digits text)) 0) ≡ t → ⊥
      by false none =
          let parts = split (decimal y) (leading_digits text) e (get_or text (length (leading_digits text)) 0) v tail (digits_decimal own y (omega arith)) (leading text).all end.none none whole in
          both_ways (is_ended e text) wrong
          (ended_from e text (omega (arith, ap length parts.0, decimal_nonempty y (omega arith))) (sym parts.1))
      by true more =
          let digit : AllDigits 10 (get_or text (length (leading_digits text)) 0 ∷ []) =
          tells_digits.more (get_or text (length (leading_digits text)) 0) [] (digit_in (get_or text (length (leading_digits text)) 0) more) tt
          in
          let long : List ℕ = leading_digits text ++ (get_or text (length (leading_digits text)) 0 ∷ []) in
          let all : AllDigits 10 (leading_digits text ++ (get_or text (length (leading_digits text)) 0 ∷ [])) =
          digits_push 10 (leading_digits text) (get_or text (length (leading_digits text)) 0) (leading text).all digit.0
          in
          let within = longer (leading_digits text ++ (get_or text (length (leading_digits text)) 0 ∷ [])) (decimal y) e tail v all end.none
          (append_assoc (leading_digits text) (get_or text (length (leading_digits text)) 0 ∷ []) tail ∙ sym whole)
          in
          let size = length-append (leading_digits text) (get_or text (length (leading_digits text)) 0 ∷ []) in
          let full : most_of text ≤ length (leading_digits text) =
          elim (cases_lt (length (leading_digits text)) (most_of text)) [
            | inl room ↦ absurd (both_ways (is_ascii_digit (get_or text (length (leading_digits text)) 0)) ((leading text).stops room h) more)
            | inr none ↦ none
          ]
          in
          elim (cases_eq (get_or text 0 0) 48) [
            | inl first ↦ (
                let some : 0 < length (leading_digits text) = omega (arith, full, most_after_zero text first) in
                let front : get_or (leading_digits text ++ (get_or text (length (leading_digits text)) 0 ∷ [])) 0 0 ≡ get_or text 0 0 =
                get_or_append_left (leading_digits text) (get_or text (length (leading_digits text)) 0 ∷ []) 0 0 some ∙ sym (first_digit text some)
                in
                absurd (omega (arith, within.0, size, some, zero_from_first y small (within.1 (omega (arith, size)) ∙ front ∙ first))))
            | inr other ↦ absurd (omega (arith, within.0, size, full, most_after_other text other, few_digits y small))
          ]

  here_past : length (leading_digits text) < length text → BeginRightLine (e ∷ ends) (take (length (leading_digits text) + 1) text) → ⊥
  here_past h fronts = by fronts.0 fronts.1 fronts.2.0 fronts.2.1
    where
      taken_more : take (length (leading_digits text) + 1) text ≡ leading_digits text ++ (get_or text (length (leading_digits text)) 0 ∷ [])
      taken_more =
          ap (take (length (leading_digits text) + 1)) (behind text h)
          ∙ take_past (leading_digits text) (get_or text (length (leading_digits text)) 0) (drop (length (leading_digits text) + 1) text) 0 (length (leading_digits text) + 1) (omega arith)

      by : (numbers : List ℕ) → FitFor (e ∷ ends) numbers → (tail : List ℕ) → ended_numbers (e ∷ ends) numbers ≡ take (length (leading_digits text) + 1) text ++ tail → ⊥
      by [] fit tail same = none_left e ends fit
      by (y ∷ ys) fit tail same =
          here_line y (ended_numbers ends ys) tail (fit_first e ends y ys fit) h
          (same ∙ ap (λ (l : List ℕ). l ++ tail) taken_more ∙ append_assoc (leading_digits text) (get_or text (length (leading_digits text)) 0 ∷ []) tail)

  here_none : (numbers : List ℕ) → FitFor (e ∷ ends) numbers → Begins text (ended_numbers (e ∷ ends) numbers) → ⊥
  here_none [] fit begins = none_left e ends fit
  here_none (y ∷ ys) fit begins =
      let small = fit_first e ends y ys fit in
      let whole : text ≡ decimal y ++ (e ∷ (ended_numbers ends ys ++ begins.0)) = begins.1 ∙ append_assoc (decimal y) (e ∷ ended_numbers ends ys) begins.0 in
      let digits : leading_digits text ≡ decimal y = ap leading_digits whole ∙ leading-decimal y e (ended_numbers ends ys ++ begins.0) small end.none in
      let some : 0 < length (leading_digits text) = omega (arith, ap length digits, decimal_nonempty y (omega arith)) in
      let last : get_or text (length (leading_digits text)) 0 ≡ e =
      ap (λ (l : List ℕ). get_or l (length (leading_digits text)) 0) whole
      ∙ get_or_at (decimal y) e (ended_numbers ends ys ++ begins.0) 0 (length (leading_digits text)) (sym (ap length digits))
      in
      both_ways (is_ended e text) wrong (ended_from e text some last)

  pub fault_here : FormFault (e ∷ ends) text (length (leading_digits text))
  fault_here = record { within = here_within; before = here_before; past = here_past; none = here_none }

-- ---- only one place is the first

fronts_less : (ends text : List ℕ) (j k : ℕ) → j ≤ k → BeginRightLine ends (take k text) → BeginRightLine ends (take j text)
fronts_less ends text j k h f = (
  f.0,
  f.1,
  (
    drop j (take k text) ++ f.2.0,
    f.2.1 ∙ ap (λ (l : List ℕ). l ++ f.2.0) (sym (take-append-drop j (take k text))) ∙ append_assoc (take j (take k text)) (drop j (take k text)) f.2.0
        ∙ ap (λ (l : List ℕ). l ++ (drop j (take k text) ++ f.2.0)) (take-take j k text h),
  ),
)

pub one_fault : (ends text : List ℕ) (j k : ℕ) → FormFault ends text j → FormFault ends text k → j ≡ k
one_fault ends text j k f g =
    elim (cases_order j k) [
      | inl same ↦ same
      | inr other ↦ elim other [
        | inl h ↦ absurd (f.past (omega (arith, g.within)) (fronts_less ends text (j + 1) k (omega arith) g.before))
        | inr h ↦ absurd (g.past (omega (arith, f.within)) (fronts_less ends text (k + 1) j (omega arith) f.before))
      ]
    ]

-- numbers of one text, by its ends, are the same
pub same_numbers : (ends xs ys v w : List ℕ) → AreEnds ends → FitFor ends xs → FitFor ends ys → ended_numbers ends xs ++ v ≡ ended_numbers ends ys ++ w → xs ≡ ys
same_numbers [] [] [] v w ends_are f g same = refl
same_numbers [] (x ∷ xs) ys v w ends_are f g same = absurd (omega (arith, f.count))
same_numbers [] [] (y ∷ ys) v w ends_are f g same = absurd (omega (arith, g.count))
same_numbers (e ∷ ends) [] ys v w ends_are f g same = absurd (none_left e ends f)
same_numbers (e ∷ ends) (x ∷ xs) [] v w ends_are f g same = absurd (none_left e ends g)
same_numbers (e ∷ ends) (x ∷ xs) (y ∷ ys) v w ends_are f g same =
    let low = fit_first e ends x xs f in
    let high = fit_first e ends y ys g in
    let whole : decimal x ++ (e ∷ (ended_numbers ends xs ++ v)) ≡ decimal y ++ (e ∷ (ended_numbers ends ys ++ w)) =
    sym (append_assoc (decimal x) (e ∷ ended_numbers ends xs) v) ∙ same ∙ append_assoc (decimal y) (e ∷ ended_numbers ends ys) w
    in
    let parts = split (decimal x) (decimal y) e e (ended_numbers ends xs ++ v) (ended_numbers ends ys ++ w) (digits_decimal own x (omega arith)) (digits_decimal own y (omega arith))
    (ends_are.0).none (ends_are.0).none whole
    in
    let first : x ≡ y = decimal_injective x y (omega arith) (omega arith) parts.0 in
    let others : xs ≡ ys = same_numbers ends xs ys v w ends_are.1 (fit_rest e ends x xs f) (fit_rest e ends y ys g) parts.2 in
    (λ i. first i ∷ others i)
