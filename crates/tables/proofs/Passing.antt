-- One pass over the charges of a table, and what holds of those that are passed.
use Rattle.std.proofs.Common.{◌≡◌, ℕ, ◌+◌, ◌-◌, ◌^◌, ◌<◌, ◌≤◌, min, Bool, true, false, cond, List, [], ◌∷◌, ◌++◌, length, get_or, take, fold, filter, sym, refl, ap, ap₂, ◌∙◌, arith}
use lib.Bits.{bit_and}
use Rattle.std.proofs.lemmas.List.Elements.{filter_more}
use Rattle.std.proofs.lemmas.List.Filters.{length-filter_more}
use Rattle.std.proofs.lemmas.List.{take_all, append-nil, length-take, length_push}
use Rattle.std.proofs.lemmas.List.Sums.{fold_push, length-filter, count_by-le-length}
use Rattle.std.specs.List.{range_with_len}
use Rattle.marks.specs.declared.numbers.charge.Charges.{Charges}
use Rattle.marks.specs.Kinds.{Charge}
use Rattle.marks.specs.Numbers.{most_charges}
use Rattle.marks.specs.Sets.{all_below}
use Rattle.marks.proofs.Counting.{left, comes, all_passed}
use Rattle.tables.specs.declared.holding.Holding.{Holding}
use Rattle.tables.specs.Meaning.{Meaning, Proper, count_of, row_of}
use Rattle.tables.specs.Holding.{held_by, support_of, closure_of, holding_of, unheld, joined}

-- the table that ends after k charges
abbrev pub ending_after : ℕ → Meaning → Meaning
ending_after k m = record { width = m.width; rows = take k m.rows }

-- what is left to come
abbrev pub to_come : Charges → List ℕ
to_come charges = range_with_len (charges.passed + 1) (charges.count - charges.passed)

-- The charges of a table after those in `passed` are to come, and the value is the one that belongs to the table of those that are passed.
pub record Passing {A : Type 0} (of : Meaning → A) (m : Meaning) (passed : List Charge) (charges : Charges) (value : A) : Type 0 where
  pub others : left (count_of m) (length passed) ≡ to_come charges
  pub so_far : value ≡ of (ending_after (length passed) m)

-- The pass starts with the value of no charge. Where `step` gives the value of one charge more, it ends with the value of the table.
module _ {A : Type 0} (of : Meaning → A) (m : Meaning) where
  pub passing_start : Proper m → (n : ℕ) → n ≡ count_of m → (charges : Charges) → (charges.passed ≡ 0) × (charges.count ≡ min n most_charges)
      → (value : A) → value ≡ of (ending_after 0 m) → Passing of m [] charges value
  passing_start proper n all charges start value e =
      let none = start.0 in
      let whole : charges.count ≡ count_of m = omega (arith, start.1, all, proper.few) in
      record { others = sym (ap₂ (λ p c. range_with_len (p + 1) (c - p)) none whole); so_far = e }

  pub passing_more : (step : ℕ → A → A) → ((k : ℕ) → k < count_of m → step (get_or m.rows k 0) (of (ending_after k m)) ≡ of (ending_after (k + 1) m))
      → (passed : List Charge) (charges charges' : Charges) (charge : Charge) → to_come charges ≡ charge.number ∷ to_come charges'
      → (value value' : A) → Passing of m passed charges value → value' ≡ step (row_of m charge.number) value
      → Passing of m (passed ++ charge ∷ []) charges' value'
  passing_more step more passed charges charges' charge next value value' before e =
      let k = length passed in
      let here = comes (count_of m) k charge.number (to_come charges') (before.others ∙ next) in
      let long = length_push passed charge in
      let place : charge.number - 1 ≡ k = omega (arith, here.is_next) in
      record {
        others = ap (left (count_of m)) long ∙ sym here.others;
        so_far =
            e ∙ ap₂ step (ap (λ i. get_or m.rows i 0) place) before.so_far ∙ more k here.within
            ∙ ap (λ n. of (ending_after n m)) (sym long);
      }

  pub passing_all : (passed : List Charge) (charges : Charges) → to_come charges ≡ [] → (value : A) → Passing of m passed charges value → value ≡ of m
  passing_all passed charges none value p =
      p.so_far
      ∙ ap (λ rows. of (record { width = m.width; rows = rows }))
      (take_all (length passed) m.rows (all_passed (count_of m) (length passed) (p.others ∙ none)))

-- ---- how many of the charges hold a set, and what they share

-- no more than there are
pub support_few : (m : Meaning) (s : ℕ) → support_of m s ≤ count_of m
unfolding support_of
support_few m s = omega (arith, length-filter (held_by s) m.rows, count_by-le-length (held_by s) m.rows)

module _ (m : Meaning) (s : ℕ) where
  pub support_none : support_of (ending_after 0 m) s ≡ 0
  unfolding support_of
  support_none = refl

  pub closure_none : closure_of (ending_after 0 m) s ≡ all_below m.width
  unfolding closure_of
  closure_none = refl

  module _ (k : ℕ) (h : k < count_of m) where
    pub support_more : support_of (ending_after (k + 1) m) s ≡ support_of (ending_after k m) s + cond (held_by s (get_or m.rows k 0)) 1 0
    unfolding support_of
    support_more = length-filter_more (held_by s) m.rows k 0 h

    pub closure_more : closure_of (ending_after (k + 1) m) s
        ≡ cond (held_by s (get_or m.rows k 0)) (bit_and (closure_of (ending_after k m) s) (get_or m.rows k 0)) (closure_of (ending_after k m) s)
    unfolding closure_of
    closure_more =
        ap (fold bit_and (all_below m.width)) (filter_more (held_by s) m.rows k 0 h) ∙ by (held_by s (get_or m.rows k 0))
      where
        by : (b : Bool) → fold bit_and (all_below m.width) (filter (held_by s) (take k m.rows) ++ cond b (get_or m.rows k 0 ∷ []) [])
            ≡ cond b (bit_and (fold bit_and (all_below m.width) (filter (held_by s) (take k m.rows))) (get_or m.rows k 0))
            (fold bit_and (all_below m.width) (filter (held_by s) (take k m.rows)))
        by true = fold_push bit_and (all_below m.width) (filter (held_by s) (take k m.rows)) (get_or m.rows k 0)
        by false = ap (fold bit_and (all_below m.width)) (append-nil (filter (held_by s) (take k m.rows)))

  pub holding_none : (n : ℕ) → n ≡ m.width → unheld n ≡ holding_of (ending_after 0 m) s
  holding_none n e = ap unheld e ∙ sym (ap₂ (λ a b. record { support = a; closure = record { bits = b } }) support_none closure_none)

  pub holding_more : count_of m ≤ most_charges → (k : ℕ) → k < count_of m
      → cond (held_by s (get_or m.rows k 0)) (joined (get_or m.rows k 0) (holding_of (ending_after k m) s)) (holding_of (ending_after k m) s)
      ≡ holding_of (ending_after (k + 1) m) s
  holding_more few k h =
      sym (ap₂ made (support_more k h) (closure_more k h) ∙ by (held_by s (get_or m.rows k 0)))
    where
      made : ℕ → ℕ → Holding
      made x y = record { support = x; closure = record { bits = y } }

      by : (t : Bool)
          → made (support_of (ending_after k m) s + cond t 1 0) (cond t (bit_and (closure_of (ending_after k m) s) (get_or m.rows k 0)) (closure_of (ending_after k m) s))
          ≡ cond t (joined (get_or m.rows k 0) (holding_of (ending_after k m) s)) (holding_of (ending_after k m) s)
      by true =
          let e : support_of (ending_after k m) s + 1 ≡ min (support_of (ending_after k m) s + 1) (2 ^ 32 - 1) = omega (arith, support_few (ending_after k m) s, length-take k m.rows) in
          ap (λ x. made x (bit_and (closure_of (ending_after k m) s) (get_or m.rows k 0))) e
      by false =
          let e : support_of (ending_after k m) s + 0 ≡ support_of (ending_after k m) s = omega arith in
          ap (λ x. made x (closure_of (ending_after k m) s)) e
