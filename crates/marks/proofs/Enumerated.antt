-- The marks of a set, one after the other.
use Rattle.std.proofs.Common.{◌≡◌, ℕ, zero, suc, ◌+◌, ◌-◌, ◌^◌, ◌<◌, Bool, true, false, cond, not, ◌&&◌, List, [], ◌∷◌, ◌++◌, ◌⊎◌, ◌≢◌, eqb, length, filter, sum_by, sym, refl, ap, ◌∙◌, ap₂, subst, inl, inr, ⊎_elim, add-one, arith, pow_pos}
use lib.Count.{ones}
use Rattle.std.specs.List.{range_with_len}
use Rattle.std.proofs.lemmas.List.FromFn.{filter_of_map_range_with_len_more}
use Rattle.std.proofs.lemmas.List.{length-append, map-id}
use Rattle.std.proofs.lemmas.List.Sums.{sum_by-append, sum_by-cons}
use Rattle.std.proofs.lemmas.Bool.{both_ways, cases_eq, cases_lt, eq-eqb, ne_eqb}
use Rattle.std.specs.Int.Count.{count_trailing_zeros}
use Rattle.marks.specs.Sets.{has, bits_below, without_bit, Lowest}
use Rattle.marks.specs.Members.{has_none}
use Rattle.marks.specs.Parts.{has_without}
use Rattle.marks.specs.Sizes.{has_le, has_less, highest, ones_less, ones_zero, trailing_lowest, trailing_below, without_is}

pub bits_start : (s : ℕ) → bits_below 0 s ≡ []
unfolding bits_below
bits_start s = refl

-- one bit more is looked at
pub bits_more : (s n : ℕ) → bits_below (n + 1) s ≡ bits_below n s ++ cond (has s n) (n ∷ []) []
unfolding bits_below
bits_more s n =
    ap (filter (has s)) (sym (map-id (range_with_len 0 (n + 1)))) ∙ filter_of_map_range_with_len_more (has s) (λ x. x) 0 n n (omega arith)
    ∙ ap (λ (l : List ℕ). filter (has s) l ++ cond (has s n) (n ∷ []) []) (map-id (range_with_len 0 n))

bits_suc : (s n : ℕ) → bits_below (suc n) s ≡ bits_below n s ++ cond (has s n) (n ∷ []) []
bits_suc s n = ap (λ k. bits_below k s) (sym (add-one n)) ∙ bits_more s n

-- two sets that agree below n have the same marks there
pub bits_same : (n x y : ℕ) → ((j : ℕ) → j < n → has x j ≡ has y j) → bits_below n x ≡ bits_below n y
bits_same zero x y e = bits_start x ∙ sym (bits_start y)
bits_same (suc n) x y e =
    bits_suc x n ∙ ap₂ (λ (l : List ℕ) (b : Bool). l ++ cond b (n ∷ []) []) (bits_same n x y (λ j h. e j (omega arith))) (e n (omega arith))
    ∙ sym (bits_suc y n)

-- there are as many as there are ones in the number
pub length_bits : (n s : ℕ) → s < 2 ^ n → length (bits_below n s) ≡ ones s
length_bits zero s h = ap length (bits_start s) ∙ sym (ap ones (let e : s ≡ 0 = omega arith in e) ∙ ones_zero)
length_bits (suc n) s h =
    ap length (bits_suc s n) ∙ length-append (bits_below n s) (cond (has s n) (n ∷ []) []) ∙ by (has s n) refl (length_bits n s) (length_bits n (s - 2 ^ n))
  where
    by : (b : Bool) → has s n ≡ b → (s < 2 ^ n → length (bits_below n s) ≡ ones s)
        → (s - 2 ^ n < 2 ^ n → length (bits_below n (s - 2 ^ n)) ≡ ones (s - 2 ^ n))
        → length (bits_below n s) + length (cond b (n ∷ []) []) ≡ ones s
    by true e whole rest =
        let same : bits_below n s ≡ bits_below n (s - 2 ^ n) =
        bits_same n s (s - 2 ^ n) (λ j g. sym (has_less s n j e ∙ rw (ne_eqb n j (omega arith)) (grind arith))) in
        omega (arith, ap length same, rest (omega (arith, pow_pos n)), ones_less s n e)
    by false e whole rest = omega (arith, whole (⊎_elim (λ l. l) (λ g. absurd (both_ways (has s n) e (highest s n g h).held)) (cases_lt s (2 ^ n))))

-- the set of no mark has none
pub bits_none : (n : ℕ) → bits_below n 0 ≡ []
bits_none zero = bits_start 0
bits_none (suc n) = bits_suc 0 n ∙ rw (bits_none n, has_none n)

-- none is below n, if no mark is
bits_empty : (n s : ℕ) → ((j : ℕ) → j < n → has s j ≡ false) → bits_below n s ≡ []
bits_empty n s f = bits_same n s 0 (λ j h. f j h ∙ sym (has_none j)) ∙ bits_none n

-- the first is the lowest mark, and the others are those of the set without it
pub bits_lowest : (n s t b : ℕ) → b < n → Lowest s b → ((j : ℕ) → has t j ≡ (has s j && not (eqb b j))) → bits_below n s ≡ b ∷ bits_below n t
bits_lowest zero s t b l p f = absurd (omega arith)
bits_lowest (suc n) s t b l p f = bits_suc s n ∙ by (cases_eq b n) (λ h. bits_lowest n s t b h p f) ∙ ap (λ (m : List ℕ). b ∷ m) (sym (bits_suc t n))
  where
    by : (b ≡ n) ⊎ (b ≢ n) → (b < n → bits_below n s ≡ b ∷ bits_below n t)
        → bits_below n s ++ cond (has s n) (n ∷ []) [] ≡ b ∷ (bits_below n t ++ cond (has t n) (n ∷ []) [])
    by (inl e) ih =
        let here : has s n ≡ true = subst (λ i. has s i ≡ true) e p.held in
        let gone : has t n ≡ false = f n ∙ rw (here, eq-eqb b n e) in
        let low : bits_below n s ≡ [] = bits_empty n s (λ j h. p.none_below j (omega arith)) in
        let left : bits_below n t ≡ [] = bits_empty n t (λ j h. f j ∙ rw (p.none_below j (omega arith))) in
        rw (low, left, here, gone) (ap (λ (k : ℕ). k ∷ []) (sym e))
    by (inr d) ih =
        let kept : has t n ≡ has s n = f n ∙ rw (ne_eqb b n d) (grind arith) in
        rw (ih (omega arith), kept) refl

-- the number of a set is the sum of its marks' own numbers
pub sum_bits : (n s : ℕ) → s < 2 ^ n → sum_by (λ b. 2 ^ b) (bits_below n s) ≡ s
sum_bits zero s h = ap (sum_by (λ (b : ℕ). 2 ^ b)) (bits_start s) ∙ (omega arith)
sum_bits (suc n) s h =
    ap (sum_by (λ (b : ℕ). 2 ^ b)) (bits_suc s n) ∙ sum_by-append (λ (b : ℕ). 2 ^ b) (bits_below n s) (cond (has s n) (n ∷ []) [])
    ∙ by (has s n) refl (sum_bits n s) (sum_bits n (s - 2 ^ n))
  where
    by : (b : Bool) → has s n ≡ b → (s < 2 ^ n → sum_by (λ (b : ℕ). 2 ^ b) (bits_below n s) ≡ s)
        → (s - 2 ^ n < 2 ^ n → sum_by (λ (b : ℕ). 2 ^ b) (bits_below n (s - 2 ^ n)) ≡ s - 2 ^ n)
        → sum_by (λ (b : ℕ). 2 ^ b) (bits_below n s) + sum_by (λ (b : ℕ). 2 ^ b) (cond b (n ∷ []) []) ≡ s
    by true e whole rest =
        let same : bits_below n s ≡ bits_below n (s - 2 ^ n) =
        bits_same n s (s - 2 ^ n) (λ j g. sym (has_less s n j e ∙ rw (ne_eqb n j (omega arith)) (grind arith))) in
        omega (arith, ap (sum_by (λ (b : ℕ). 2 ^ b)) same, rest (omega (arith, pow_pos n)), has_le s n e)
    by false e whole rest = omega (arith, whole (⊎_elim (λ l. l) (λ g. absurd (both_ways (has s n) e (highest s n g h).held)) (cases_lt s (2 ^ n))))

-- What follows where a set's marks are b and then those of t.
pub record Follows (s b t : ℕ) : Type 0 where
  pub lowest : Lowest s b
  pub rest : t ≡ without_bit s b
  pub fewer : t < s

pub follows : (s b t : ℕ) → s < 2 ^ 32 → t < 2 ^ 32 → bits_below 32 s ≡ b ∷ bits_below 32 t → Follows s b t
follows s b t fits under e = by (cases_eq s 0)
  where
    by : (s ≡ 0) ⊎ (s ≢ 0) → Follows s b t
    by (inl z) = let none : bits_below 32 s ≡ [] = ap (bits_below 32) z ∙ bits_none 32 in absurd (let d : [] ≡ b ∷ bits_below 32 t = sym none ∙ e in cc)
    by (inr some) =
        let low = trailing_lowest 32 s (omega arith) fits in
        let k = count_trailing_zeros 32 s in
        let here : k < 32 = trailing_below 32 s (omega arith) fits in
        let parts : bits_below 32 s ≡ k ∷ bits_below 32 (without_bit s k) = bits_lowest 32 s (without_bit s k) k here low (λ j. has_without s k j fits here) in
        let same : b ≡ k = cc in
        let total : s ≡ 2 ^ b + t = sym (sum_bits 32 s fits) ∙ ap (sum_by (λ (b : ℕ). 2 ^ b)) e ∙ sum_by-cons (λ (b : ℕ). 2 ^ b) b (bits_below 32 t) ∙ ap (λ (x : ℕ). 2 ^ b + x) (sum_bits 32 t under) in
        let lowest : Lowest s b = subst (Lowest s) (sym same) low in
        record { lowest = lowest; rest = omega (arith, without_is s b fits lowest.held); fewer = omega (arith, pow_pos b) }
