-- Going over the marks of a set, and gathering those that pass a test.
use Rattle.std.proofs.Common.{◌≡◌, ℕ, ◌+◌, ◌^◌, ◌<◌, ◌≤◌, Bool, true, false, cond, not, ◌&&◌, ◌≢◌, eqb, [], sum_by, refl, sym, ap, ◌∙◌, subst, ⊎_elim, arith}
use Rattle.std.proofs.lemmas.Bool.{both_ways, cases_eq, eq-eqb, ne_eqb, lt-ltb, ltb-true}
use Rattle.marks.specs.Filtering.{Filtered}
use Rattle.marks.specs.Kinds.{Mark}
use Rattle.marks.specs.Numbers.{bit_of}
use Rattle.marks.specs.Sets.{has, all_below, bits_below, with_bit, picked}
use Rattle.marks.specs.Members.{has_all_below, has_below, has_none}
use Rattle.marks.specs.Parts.{has_with, has_without, same_members}
use Rattle.marks.proofs.Enumerated.{Follows, sum_bits}
use Rattle.marks.proofs.Picks.{has_picked}

-- a set that has no marks to give is empty
pub no_more : (s : ℕ) → s < 2 ^ 32 → bits_below 32 s ≡ [] → s ≡ 0
no_more s fits e = sym (sum_bits 32 s fits) ∙ ap (sum_by (λ (b : ℕ). 2 ^ b)) e

-- rest has only marks of all
abbrev pub Within : ℕ → ℕ → Type 0
Within all rest = (b : ℕ) → has rest b ≡ true → has all b ≡ true

-- of the marks of `all` that are no longer in `rest`, the set has just those for which the test answered true
pub record Gathered (may : Mark → Bool → Type 0) (all rest set : ℕ) : Type 0 where
  pub asked : (b : ℕ) → has all b ≡ true → has rest b ≡ false → (mark : Mark) × (bit_of mark.number ≡ b) × may mark (has set b)
  pub part : (b : ℕ) → has set b ≡ true → (has all b ≡ true) × (has rest b ≡ false)

pub within_start : (all rest : ℕ) → rest ≡ all → Within all rest
within_start all rest e b h = subst (λ (s : ℕ). has s b ≡ true) e h

less : (rest b rest' : ℕ) → rest < 2 ^ 32 → Follows rest b rest' → (j : ℕ) → has rest' j ≡ (has rest j && not (eqb b j))
less rest b rest' fits next j = ap (λ (s : ℕ). has s j) next.rest ∙ has_without rest b j fits (has_below 32 rest b fits next.lowest.held)

pub within_more : (all rest b rest' : ℕ) → rest < 2 ^ 32 → Follows rest b rest' → Within all rest → Within all rest'
within_more all rest b rest' fits next before j h = before j (let k : has rest j ≡ true = grind (arith, less rest b rest' fits next j) in k)

module _ (may : Mark → Bool → Type 0) (all : ℕ) where
  pub gathered_start : (rest set : ℕ) → rest ≡ all → set ≡ 0 → Gathered may all rest set
  gathered_start rest set e z = record {
    asked = λ b h k. absurd (both_ways (has rest b) k (subst (λ (s : ℕ). has s b ≡ true) (sym e) h));
    part = λ b h. absurd (both_ways (has set b) (ap (λ (s : ℕ). has s b) z ∙ has_none b) h);
  }

  pub gathered_more : (rest rest' set set' : ℕ) (mark : Mark) (answer : Bool) → rest < 2 ^ 32 → Follows rest (bit_of mark.number) rest' → Within all rest → Gathered may all rest set
      → may mark answer → set' ≡ cond answer (with_bit set (bit_of mark.number)) set → Gathered may all rest' set'
  gathered_more rest rest' set set' mark answer fits next inside before said e = record { asked = asked; part = part }
    where
      b : ℕ
      b = bit_of mark.number

      gone : (j : ℕ) → has rest' j ≡ (has rest j && not (eqb b j))
      gone j = less rest b rest' fits next j

      fresh : (t : Bool) → has set b ≡ t → t ≡ false
      fresh true h = absurd (both_ways (has rest b) (before.part b h).1 next.lowest.held)
      fresh false h = refl

      here : has set' b ≡ answer
      here = ap (λ (s : ℕ). has s b) e ∙ by answer
        where
          by : (t : Bool) → has (cond t (with_bit set b) set) b ≡ t
          by true = has_with set b b ∙ rw (eq-eqb b b refl) (grind arith)
          by false = fresh (has set b) refl

      there : (j : ℕ) → b ≢ j → has set' j ≡ has set j
      there j d = ap (λ (s : ℕ). has s j) e ∙ by answer
        where
          by : (t : Bool) → has (cond t (with_bit set b) set) j ≡ has set j
          by true = has_with set b j ∙ rw (ne_eqb b j d) (grind arith)
          by false = refl

      asked : (j : ℕ) → has all j ≡ true → has rest' j ≡ false → (mark : Mark) × (bit_of mark.number ≡ j) × may mark (has set' j)
      asked j h k = ⊎_elim same other (cases_eq b j)
        where
          same : b ≡ j → (mark : Mark) × (bit_of mark.number ≡ j) × may mark (has set' j)
          same d = (mark, d, subst (λ (i : ℕ). may mark (has set' i)) d (subst (may mark) (sym here) said))

          other : b ≢ j → (mark : Mark) × (bit_of mark.number ≡ j) × may mark (has set' j)
          other d =
              let left : has rest j ≡ false = grind (arith, gone j, ne_eqb b j d) in
              let was = before.asked j h left in
              (was.0, was.1, subst (may was.0) (sym (there j d)) was.2)

      part : (j : ℕ) → has set' j ≡ true → (has all j ≡ true) × (has rest' j ≡ false)
      part j h = ⊎_elim same other (cases_eq b j)
        where
          same : b ≡ j → (has all j ≡ true) × (has rest' j ≡ false)
          same d = (subst (λ (i : ℕ). has all i ≡ true) d (inside b next.lowest.held), gone j ∙ rw (eq-eqb b j d) (grind arith))

          other : b ≢ j → (has all j ≡ true) × (has rest' j ≡ false)
          other d =
              let was = before.part j (sym (there j d) ∙ h) in
              (was.0, gone j ∙ rw was.1 (grind arith))

  pub gathered_all : (rest set : ℕ) → rest ≡ 0 → Gathered may all rest set → Filtered may all set
  gathered_all rest set z done = record { asked = λ b h. done.asked b h (ap (λ (s : ℕ). has s b) z ∙ has_none b); part = λ b h. (done.part b h).0 }

-- ---- the marks up to n, one after the other

-- of the first k of them, the set has just those for which the test answered true, and it has no other mark
pub record Asked (may : Mark → Bool → Type 0) (n k set : ℕ) : Type 0 where
  pub asked : (b : ℕ) → b < k → (mark : Mark) × (bit_of mark.number ≡ b) × may mark (has set b)
  pub part : (b : ℕ) → has set b ≡ true → (b < k) × (b < n)

module _ (may : Mark → Bool → Type 0) (n : ℕ) where
  pub asked_start : (set : ℕ) → set ≡ 0 → Asked may n 0 set
  asked_start set z = record {
    asked = λ b h. absurd (omega arith);
    part = λ b h. absurd (both_ways (has set b) (ap (λ (s : ℕ). has s b) z ∙ has_none b) h);
  }

  pub asked_more : (k set set' : ℕ) (mark : Mark) (answer : Bool) → k < n → mark.number ≡ k + 1 → Asked may n k set → may mark answer
      → set' ≡ cond answer (with_bit set (bit_of mark.number)) set → Asked may n (k + 1) set'
  asked_more k set set' mark answer inside comes before said e = record { asked = asked; part = part }
    where
      own : bit_of mark.number ≡ k
      own = omega arith

      made : set' ≡ cond answer (with_bit set k) set
      made = e ∙ ap (λ (b : ℕ). cond answer (with_bit set b) set) own

      fresh : (t : Bool) → has set k ≡ t → t ≡ false
      fresh true h = let low : k < k = (before.part k h).0 in absurd (omega arith)
      fresh false h = refl

      here : has set' k ≡ answer
      here = ap (λ (s : ℕ). has s k) made ∙ by answer
        where
          by : (t : Bool) → has (cond t (with_bit set k) set) k ≡ t
          by true = has_with set k k ∙ rw (eq-eqb k k refl) (grind arith)
          by false = fresh (has set k) refl

      there : (j : ℕ) → k ≢ j → has set' j ≡ has set j
      there j d = ap (λ (s : ℕ). has s j) made ∙ by answer
        where
          by : (t : Bool) → has (cond t (with_bit set k) set) j ≡ has set j
          by true = has_with set k j ∙ rw (ne_eqb k j d) (grind arith)
          by false = refl

      asked : (j : ℕ) → j < k + 1 → (mark : Mark) × (bit_of mark.number ≡ j) × may mark (has set' j)
      asked j h = ⊎_elim same other (cases_eq k j)
        where
          same : k ≡ j → (mark : Mark) × (bit_of mark.number ≡ j) × may mark (has set' j)
          same d = (mark, own ∙ d, subst (λ (i : ℕ). may mark (has set' i)) d (subst (may mark) (sym here) said))

          other : k ≢ j → (mark : Mark) × (bit_of mark.number ≡ j) × may mark (has set' j)
          other d =
              let was = before.asked j (omega arith) in
              (was.0, was.1, subst (may was.0) (sym (there j d)) was.2)

      part : (j : ℕ) → has set' j ≡ true → (j < k + 1) × (j < n)
      part j h = ⊎_elim same other (cases_eq k j)
        where
          same : k ≡ j → (j < k + 1) × (j < n)
          same d = (omega arith, omega arith)

          other : k ≢ j → (j < k + 1) × (j < n)
          other d = let was = before.part j (sym (there j d) ∙ h) in (omega (arith, was.0), was.1)

  pub asked_all : (k set : ℕ) → n ≤ k → Asked may n k set → Filtered may (all_below n) set
  asked_all k set whole done = record {
    asked = λ b h. done.asked b (let low : b < n = ltb-true b n (sym (has_all_below n b) ∙ h) in omega arith);
    part = λ b h. has_all_below n b ∙ lt-ltb b n (done.part b h).1;
  }

-- a test whose answers are determined leaves the marks that pass
module _ (may : Mark → Bool → Type 0) (test : ℕ → Bool) (all kept : ℕ) (sure : (mark : Mark) (answer : Bool) → has all (bit_of mark.number) ≡ true → may mark answer → answer ≡ test (bit_of mark.number)) where
  pub filtered_has : Filtered may all kept → (b : ℕ) → has kept b ≡ (has all b && test b)
  filtered_has f b = by (has all b) refl (has kept b) refl
    where
      by : (x : Bool) → has all b ≡ x → (y : Bool) → has kept b ≡ y → y ≡ (x && test b)
      by true h y k =
          let was = f.asked b h in
          sym k ∙ sure was.0 (has kept b) (subst (λ (i : ℕ). has all i ≡ true) (sym was.1) h) was.2 ∙ ap test was.1
      by false h true k = absurd (both_ways (has all b) h (f.part b k))
      by false h false k = refl

  -- of all marks up to n, what is picked below n
  pub filtered_picked : (n : ℕ) → all ≡ all_below n → Filtered may all kept → kept ≡ picked test n
  filtered_picked n e f = same_members kept (picked test n) (λ b. filtered_has f b ∙ rw (e, has_all_below n b, has_picked test n b))
