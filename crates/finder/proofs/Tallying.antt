-- One pass over the charges of a table, which keeps the record of a set and those of the set with each mark added.
use Rattle.std.proofs.Common.{◌≡◌, ℕ, ◌+◌, ◌^◌, ◌<◌, ◌≤◌, Bool, true, false, cond, not, ◌&&◌, eqb, List, length, get_or, set, replicate, sym, refl, ap, ◌∙◌, subst, ap₂, ⊎_elim, arith, pow_mono}
use Rattle.std.proofs.lemmas.Nat.{pow_below}
use Rattle.std.proofs.lemmas.List.FromFn.{length-map-range_with_len, get_or-map-range_with_len}
use Rattle.std.proofs.lemmas.List.{length-set, get_or-set_same, get_or-set_other, length-replicate, get_or-replicate, ext_get_or}
use Rattle.std.proofs.lemmas.Bool.{both_ways, cases_Bool, cases_eq, and_from, and_parts, or_right, eq-eqb, ne_eqb}
use Rattle.marks.specs.Numbers.{most_marks}
use Rattle.marks.specs.Sets.{has, part_of, PartOf, minus, with_bit, without_bit}
use Rattle.marks.proofs.Algebra.{minus_part}
use Rattle.marks.proofs.Enumerated.{Follows}
use Rattle.marks.specs.Members.{has_none, has_below}
use Rattle.marks.specs.Parts.{part_fact, part_test, part_has, part_trans, has_with, has_minus, has_without, part_or_left, with_part}
use Rattle.tables.specs.declared.holding.Holding.{Holding}
use Rattle.tables.specs.Holding.{held_by, holding_of, unheld, joined}
use Rattle.tables.specs.Meaning.{Meaning, Proper, count_of}
use Rattle.tables.proofs.Passing.{ending_after, holding_none, holding_more}
use Rattle.finder.specs.declared.tally.Tally.{Tally}
use Rattle.closed.specs.Closed.{above}
use Rattle.closed.proofs.Closing.{unheld_above}
use Rattle.closed.proofs.Clashes.{above_mark, mark_above}
use Rattle.finder.specs.Tallies.{no_holding, for_each_mark, tally_of, tally_besides, joined_each, noted, AboveWidth}

-- ---- one record for each mark

at_mark : (f : ℕ → Holding) (b : ℕ) → b < most_marks → get_or (for_each_mark f) b no_holding ≡ f b
at_mark f b h = get_or-map-range_with_len f 0 most_marks b b no_holding h (omega arith)

each_long : (f : ℕ → Holding) → length (for_each_mark f) ≡ most_marks
each_long f = length-map-range_with_len f 0 most_marks

-- known mark by mark
each_is : (marks : List Holding) (f : ℕ → Holding) → length marks ≡ most_marks → ((b : ℕ) → b < most_marks → get_or marks b no_holding ≡ f b)
    → marks ≡ for_each_mark f
each_is marks f l at =
    ext_get_or no_holding marks (for_each_mark f) (l ∙ sym (each_long f))
    (λ b h. let in' : b < most_marks = omega (arith, l) in at b in' ∙ sym (at_mark f b in'))

-- ---- some marks, one after the other

-- the row has joined the records of those of some marks that are no longer in `rest`
pub record Joining (some row rest : ℕ) (old new : List Holding) : Type 0 where
  pub part : PartOf rest some
  pub long : length new ≡ most_marks
  pub each : (b : ℕ) → b < most_marks
      → get_or new b no_holding ≡ cond (has some b && not (has rest b)) (joined row (get_or old b no_holding)) (get_or old b no_holding)

pub joining_all : (some row rest : ℕ) (old new : List Holding) → Joining some row rest old new → rest ≡ 0 → new ≡ joined_each some row old
unfolding joined_each
joining_all some row rest old new j e = each_is new (λ b. cond (has some b) (joined row (get_or old b no_holding)) (get_or old b no_holding)) j.long at
  where
    at : (b : ℕ) → b < most_marks → get_or new b no_holding ≡ cond (has some b) (joined row (get_or old b no_holding)) (get_or old b no_holding)
    at b h =
        let none : has rest b ≡ false = ap (λ s. has s b) e ∙ has_none b in
        let f : (has some b && not (has rest b)) ≡ has some b = grind arith in
        j.each b h ∙ rw f

pub joining_more : (some row rest b rest' : ℕ) → rest < 2 ^ 32 → Follows rest b rest' → (old new : List Holding) (at : ℕ) (v : Holding) → at ≡ b
    → v ≡ joined row (get_or new at no_holding) → Joining some row rest old new → Joining some row rest' old (set new at v)
joining_more some row rest b rest' s next old new at v is f j =
    subst (λ i. Joining some row rest' old (set new i v)) (sym is)
    (subst (λ r. Joining some row r old (set new b v)) (sym next.rest)
    (record {
      part = part_trans (without_bit rest b) rest some (minus_part rest (2 ^ b) s (pow_below b 32 h)) j.part;
      long = length-set new b v ∙ j.long;
      each = λ k i. ⊎_elim (here k i) (there k i) (cases_eq k b);
    }))
  where
    held : has rest b ≡ true
    held = next.lowest.held

    h : b < most_marks
    h = has_below 32 rest b s held

    e : v ≡ joined row (get_or new b no_holding)
    e = f ∙ ap (λ i. joined row (get_or new i no_holding)) is

    gone : (k : ℕ) → has (without_bit rest b) k ≡ (has rest k && not (eqb b k))
    gone k = has_without rest b k s h

    here : (k : ℕ) → k < most_marks → k ≡ b
        → get_or (set new b v) k no_holding ≡ cond (has some k && not (has (without_bit rest b) k)) (joined row (get_or old k no_holding)) (get_or old k no_holding)
    here k i q =
        let same : get_or (set new b v) k no_holding ≡ v = ap (λ x. get_or (set new b v) x no_holding) q ∙ get_or-set_same new b v no_holding (omega (arith, j.long)) in
        let in_some : has some b ≡ true = part_has rest some b j.part held in
        let before : get_or new b no_holding ≡ get_or old b no_holding =
        j.each b h ∙ (let f : (has some b && not (has rest b)) ≡ false = grind arith in rw f) in
        let after : (has some b && not (has (without_bit rest b) b)) ≡ true =
        (let z : eqb b b ≡ true = eq-eqb b b refl in let g = gone b in grind arith) in
        same ∙ e ∙ ap (joined row) before ∙ sym (rw (q, after) refl)

    there : (k : ℕ) → k < most_marks → (k ≡ b → ⊥)
        → get_or (set new b v) k no_holding ≡ cond (has some k && not (has (without_bit rest b) k)) (joined row (get_or old k no_holding)) (get_or old k no_holding)
    there k i q =
        let apart : eqb b k ≡ false = ne_eqb b k (λ z. q (sym z)) in
        let same : has (without_bit rest b) k ≡ has rest k = gone k ∙ grind arith in
        get_or-set_other new b k v no_holding q ∙ j.each k i ∙ sym (rw same refl)

-- ---- one charge after the other

-- a row holds a set with a mark added if it holds the set and has the mark
held_with : (s row b : ℕ) → held_by (with_bit s b) row ≡ (held_by s row && has row b)
held_with s row b = ⊎_elim yes no (cases_Bool (part_of (with_bit s b) row))
  where
    yes : part_of (with_bit s b) row ≡ true → part_of (with_bit s b) row ≡ (part_of s row && has row b)
    yes e =
        let w = part_fact (with_bit s b) row e in
        let here : has (with_bit s b) b ≡ true = has_with s b b ∙ or_right (has s b) (eqb b b) (eq-eqb b b refl) in
        e
        ∙ sym (and_from (part_of s row) (has row b) (part_test s row (part_trans s (with_bit s b) row (part_or_left s (2 ^ b)) w))
        (part_has (with_bit s b) row b w here))

    no : part_of (with_bit s b) row ≡ false → part_of (with_bit s b) row ≡ (part_of s row && has row b)
    no e =
        e
        ∙ sym (⊎_elim
        (λ t. let p = and_parts (part_of s row) (has row b) t in
        absurd (both_ways (part_of (with_bit s b) row) e (part_test (with_bit s b) row (with_part s row b (part_fact s row p.0) p.1))))
        (λ f. f) (cases_Bool (part_of s row && has row b)))

-- ---- the pass

abbrev made : Holding → List Holding → Tally
made own marks = record { own = own; marks = marks }

module _ (m : Meaning) (s : ℕ) where
  abbrev after : ℕ → Meaning
  after k = ending_after k m

  module _ (skipped : ℕ) where
    -- what the tally of the first k charges has at a mark
    abbrev at_first : ℕ → ℕ → Holding
    at_first k b = cond (has skipped b) (unheld m.width) (holding_of (after k) (with_bit s b))

    pub tally_none : (n : ℕ) (none : Holding) → n ≡ m.width → none ≡ unheld n
        → record { own = none; marks = replicate most_marks none } ≡ tally_besides (after 0) s skipped
    unfolding tally_besides
    tally_none n none w e =
        ap₂ made (e ∙ holding_none m s n w)
        (each_is (replicate most_marks none) (at_first 0) (length-replicate most_marks none)
        (λ b h. get_or-replicate most_marks b none no_holding h ∙ e ∙ by b (has skipped b)))
      where
        by : (b : ℕ) (t : Bool) → unheld n ≡ cond t (unheld m.width) (holding_of (after 0) (with_bit s b))
        by b true = ap unheld w
        by b false = holding_none m (with_bit s b) n w

    pub tally_more : Proper m → skipped < 2 ^ 32 → (k : ℕ) → k < count_of m
        → noted s skipped (get_or m.rows k 0) (tally_besides (after k) s skipped) ≡ tally_besides (after (k + 1)) s skipped
    unfolding tally_besides joined_each
    tally_more proper fits k h =
        by (held_by s row) refl
        ∙ ap₂ made (holding_more m s proper.few k h)
        (each_is (for_each_mark mark) (at_first (k + 1)) (each_long mark) (λ b l. at_mark mark b l ∙ more b))
      where
        row : ℕ
        row = get_or m.rows k 0

        row_fits : row < 2 ^ 32
        row_fits = let wide : 2 ^ m.width ≤ 2 ^ 32 = pow_mono proper.wide.1 in omega (arith, proper.within k)

        own : Holding
        own = holding_of (after k) s

        mark : ℕ → Holding
        mark b = cond (held_by s row && has (minus row skipped) b) (joined row (at_first k b)) (at_first k b)

        next : ℕ → Holding
        next b = cond (has (minus row skipped) b) (joined row (get_or (for_each_mark (at_first k)) b no_holding)) (get_or (for_each_mark (at_first k)) b no_holding)

        by : (t : Bool) → held_by s row ≡ t
            → cond t (made (joined row own) (joined_each (minus row skipped) row (for_each_mark (at_first k)))) (made own (for_each_mark (at_first k)))
            ≡ made (cond t (joined row own) own) (for_each_mark (λ b. cond (t && has (minus row skipped) b) (joined row (at_first k b)) (at_first k b)))
        by true e =
            ap (made (joined row own))
            (each_is (for_each_mark next) (λ b. cond (has (minus row skipped) b) (joined row (at_first k b)) (at_first k b)) (each_long next)
            (λ b l. at_mark next b l ∙ ap (λ x. cond (has (minus row skipped) b) (joined row x) x) (at_mark (at_first k) b l)))
        by false e = refl

        more : (b : ℕ) → mark b ≡ at_first (k + 1) b
        more b =
            ap (λ t. cond (held_by s row && t) (joined row (at_first k b)) (at_first k b)) (has_minus row skipped b row_fits fits) ∙ one (has skipped b)
          where
            old : Bool → Holding
            old t = cond t (unheld m.width) (holding_of (after k) (with_bit s b))

            one : (t : Bool) → cond (held_by s row && (has row b && not t)) (joined row (old t)) (old t) ≡ cond t (unheld m.width) (holding_of (after (k + 1)) (with_bit s b))
            one true =
                let f : (held_by s row && (has row b && false)) ≡ false = grind arith in
                ap (λ t. cond t (joined row (unheld m.width)) (unheld m.width)) f
            one false =
                let f : (held_by s row && (has row b && true)) ≡ held_by (with_bit s b) row = sym (held_with s row b ∙ grind arith) in
                ap (λ t. cond t (joined row (old false)) (old false)) f ∙ holding_more m (with_bit s b) proper.few k h

    -- at a mark that is not skipped, what the tally says of the set with that mark added
    pub besides_with : (b : ℕ) → b < most_marks → has skipped b ≡ false → get_or (tally_besides m s skipped).marks b no_holding ≡ holding_of m (with_bit s b)
    unfolding tally_besides
    besides_with b h e = at_mark (λ b. cond (has skipped b) (unheld m.width) (holding_of m (with_bit s b))) b h ∙ rw e refl

    pub besides_skipped : (b : ℕ) → b < most_marks → has skipped b ≡ true → get_or (tally_besides m s skipped).marks b no_holding ≡ unheld m.width
    unfolding tally_besides
    besides_skipped b h e = at_mark (λ b. cond (has skipped b) (unheld m.width) (holding_of m (with_bit s b))) b h ∙ rw e refl

  -- where no mark is skipped
  pub besides_none : tally_besides m s 0 ≡ tally_of m s
  unfolding tally_besides tally_of
  besides_none =
      ap (made (holding_of m s))
      (each_is (for_each_mark every) (λ b. holding_of m (with_bit s b)) (each_long every)
      (λ b h. at_mark every b h ∙ ap (λ t. cond t (unheld m.width) (holding_of m (with_bit s b))) (has_none b)))
    where
      every : ℕ → Holding
      every b = cond (has 0 b) (unheld m.width) (holding_of m (with_bit s b))

-- what the tally says of the set with a mark added
pub tally_with : (m : Meaning) (s b : ℕ) → b < most_marks → get_or (tally_of m s).marks b no_holding ≡ holding_of m (with_bit s b)
unfolding tally_of
tally_with m s b h = at_mark (λ b. holding_of m (with_bit s b)) b h

-- ---- marks above the width

module _ (m : Meaning) (proper : Proper m) (s : ℕ) where
  -- a set with such a mark keeps it when one more is added
  still_above : (b : ℕ) → above m.width s ≡ true → above m.width (with_bit s b) ≡ true
  still_above b e = let a = above_mark m.width s e in mark_above m.width (with_bit s b) a.0 a.1 (part_has s (with_bit s b) a.0 (part_or_left s (2 ^ b)) a.2)

  now_above : (b : ℕ) → m.width ≤ b → above m.width (with_bit s b) ≡ true
  now_above b l = mark_above m.width (with_bit s b) b l (has_with s b b ∙ or_right (has s b) (eqb b b) (eq-eqb b b refl))

  pub tally_above : (t : Tally) → t ≡ tally_of m s → AboveWidth m.width s t
  unfolding tally_of
  tally_above t is =
      record {
        own = λ e. ap (λ (t : Tally). t.own) is ∙ unheld_above m proper s e;
        with_any = λ e b h. at b h ∙ unheld_above m proper (with_bit s b) (still_above b e);
        with_above = λ b l h. at b h ∙ unheld_above m proper (with_bit s b) (now_above b l);
      }
    where
      at : (b : ℕ) → b < most_marks → get_or t.marks b no_holding ≡ holding_of m (with_bit s b)
      at b h = ap (λ (t : Tally). get_or t.marks b no_holding) is ∙ tally_with m s b h
