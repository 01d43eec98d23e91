-- The marks of a row, one after another.
use Rattle.std.proofs.Common.{◌≡◌, ℕ, zero, suc, ◌+◌, ◌-◌, ◌^◌, ◌<◌, ◌≤◌, Bool, true, false, cond, ◌||◌, ◌&&◌, ◌==◌, nat_lt, ◌⊎◌, ◌≢◌, inl, inr, List, [], ◌∷◌, ◌++◌, map, fold, sym, refl, ap, ap₂, ◌∙◌, subst, append-nil, add-one, arith}
use Rattle.std.proofs.lemmas.List.{map-append}
use Rattle.std.proofs.lemmas.List.Sums.{fold-append}
use Rattle.std.proofs.lemmas.Bool.{cases_eq, cases_lt, eq-eqb, ne_eqb, lt-ltb, le-ltb}
use Rattle.std.proofs.lemmas.Bool.Decides.{nat_tests}
use Rattle.marks.specs.Numbers.{bit_of}
use Rattle.marks.specs.Sets.{has, bits_below, with_bit}
use Rattle.marks.specs.Members.{has_none, has_past}
use Rattle.marks.specs.Parts.{has_with, with_adds, same_members}
use Rattle.marks.proofs.Enumerated.{bits_start, bits_more}
use Rattle.sheets.specs.Rendering.{marks_of}

-- each is above the one before it: the first above `low`, the last at most `high`
abbrev pub Rises : ℕ → ℕ → List ℕ → Type 0
Rises low high [] = low ≤ high
Rises low high (x ∷ xs) = (low < x) × Rises x high xs

pub rises_le : (low high : ℕ) (xs : List ℕ) → Rises low high xs → low ≤ high
rises_le low high [] r = r
rises_le low high (x ∷ xs) r = omega (arith, r.0, rises_le x high xs r.1)

rises_push : (low high : ℕ) (xs : List ℕ) (x : ℕ) → Rises low high xs → high < x → Rises low x (xs ++ x ∷ [])
rises_push low high [] x r h = (omega arith, omega arith)
rises_push low high (y ∷ ys) x r h = (r.0, rises_push y high ys x r.1 h)

rises_wide : (low high more : ℕ) (xs : List ℕ) → Rises low high xs → high ≤ more → Rises low more xs
rises_wide low high more [] r h = omega arith
rises_wide low high more (x ∷ xs) r h = (r.0, rises_wide x high more xs r.1 h)

-- the marks at the bits below n
abbrev below : ℕ → ℕ → List ℕ
below n s = map (λ b. b + 1) (bits_below n s)

bits_suc : (s n : ℕ) → bits_below (suc n) s ≡ bits_below n s ++ cond (has s n) (n ∷ []) []
bits_suc s n = ap (λ k. bits_below k s) (sym (add-one n)) ∙ bits_more s n

below_suc : (n s : ℕ) → below (suc n) s ≡ below n s ++ cond (has s n) ((n + 1) ∷ []) []
below_suc n s = ap (map (λ b. b + 1)) (bits_suc s n) ∙ map-append (λ b. b + 1) (bits_below n s) (cond (has s n) (n ∷ []) []) ∙ ap (λ (l : List ℕ). below n s ++ l) (by (has s n))
  where
    by : (t : Bool) → map (λ b. b + 1) (cond t (n ∷ []) []) ≡ cond t ((n + 1) ∷ []) []
    by true = refl
    by false = refl

pub rising : (n s : ℕ) → Rises 0 n (below n s)
rising zero s = subst (Rises 0 0) (sym (ap (map (λ b. b + 1)) (bits_start s))) (omega arith)
rising (suc n) s = subst (Rises 0 (suc n)) (sym (below_suc n s)) (by (has s n) (rising n s))
  where
    by : (t : Bool) → Rises 0 n (below n s) → Rises 0 (suc n) (below n s ++ cond t ((n + 1) ∷ []) [])
    by true r = subst (λ k. Rises 0 k (below n s ++ (n + 1) ∷ [])) (add-one n) (rises_push 0 n (below n s) (n + 1) r (omega arith))
    by false r = subst (Rises 0 (suc n)) (sym (append-nil (below n s))) (rises_wide 0 n (suc n) (below n s) r (omega arith))

-- past a set's width there is nothing
bits_wide : (d n s : ℕ) → s < 2 ^ n → bits_below (d + n) s ≡ bits_below n s
bits_wide zero n s h = ap (λ k. bits_below k s) (omega arith)
bits_wide (suc d) n s h =
    let e : suc d + n ≡ suc (d + n) = omega arith in
    ap (λ k. bits_below k s) e ∙ bits_suc s (d + n) ∙ ap (λ t. bits_below (d + n) s ++ cond t ((d + n) ∷ []) []) (has_past n s (d + n) h (omega arith))
    ∙ append-nil (bits_below (d + n) s) ∙ bits_wide d n s h

pub marks_within : (n s : ℕ) → n ≤ 32 → s < 2 ^ n → marks_of s ≡ below n s
marks_within n s low h =
    let e : 32 - n + n ≡ 32 = omega arith in
    ap (map (λ b. b + 1)) (ap (λ k. bits_below k s) (sym e) ∙ bits_wide (32 - n) n s h)

pub marks_rise : (n s : ℕ) → n ≤ 32 → s < 2 ^ n → Rises 0 n (marks_of s)
marks_rise n s low h = subst (Rises 0 n) (sym (marks_within n s low h)) (rising n s)

-- the empty set has none
pub marks_none : marks_of 0 ≡ []
marks_none = marks_within 0 0 (omega arith) (omega arith) ∙ ap (map (λ b. b + 1)) (bits_start 0)

-- ---- a mark above the others

bits_same : (n x y : ℕ) → ((j : ℕ) → j < n → has x j ≡ has y j) → bits_below n x ≡ bits_below n y
bits_same zero x y e = bits_start x ∙ sym (bits_start y)
bits_same (suc n) x y e =
    bits_suc x n ∙ ap₂ (λ (l : List ℕ) (b : Bool). l ++ cond b (n ∷ []) []) (bits_same n x y (λ j h. e j (omega arith))) (e n (omega arith))
    ∙ sym (bits_suc y n)

pub added : (s b : ℕ) → s < 2 ^ b → with_bit s b ≡ s + 2 ^ b
added s b h = with_adds s b (has_past b s b h (omega arith))

pub marks_added : (s b : ℕ) → b < 32 → s < 2 ^ b → marks_of (with_bit s b) ≡ marks_of s ++ (b + 1) ∷ []
marks_added s b low h =
    let sum = added s b h in
    let small : with_bit s b < 2 ^ suc b = omega arith in
    let others : below b (with_bit s b) ≡ below b s = ap (map (λ b. b + 1)) (bits_same b (with_bit s b) s (λ j g. has_with s b j ∙ rw (ne_eqb b j (omega arith)) (grind arith))) in
    let there : has (with_bit s b) b ≡ true = has_with s b b ∙ rw (eq-eqb b b refl) (grind arith) in
    marks_within (suc b) (with_bit s b) (omega arith) small ∙ below_suc b (with_bit s b)
    ∙ ap₂ (λ (l : List ℕ) (t : Bool). l ++ cond t ((b + 1) ∷ []) []) (others ∙ sym (marks_within b s (omega arith) h)) there

-- ---- a row is the set of its marks

abbrev pub gathered : ℕ → List ℕ → ℕ
gathered s marks = fold (λ s x. with_bit s (bit_of x)) s marks

more : (n g s j : ℕ) (t : Bool) → has s n ≡ t → has g j ≡ (nat_lt j n && has s j) → has (gathered g (cond t ((n + 1) ∷ []) [])) j ≡ (nat_lt j (suc n) && has s j)
more n g s j true e ih =
    let bit : bit_of (n + 1) ≡ n = omega arith in
    ap (λ b. has (with_bit g b) j) bit ∙ has_with g n j ∙ ap (λ t. t || (n == j)) ih ∙ at (cases_eq n j)
  where
    at : (n ≡ j) ⊎ (n ≢ j) → ((nat_lt j n && has s j) || (n == j)) ≡ (nat_lt j (suc n) && has s j)
    at (inl same) = let here : has s j ≡ true = subst (λ k. has s k ≡ true) same e in grind (arith, nat_tests)
    at (inr other) = grind (arith, nat_tests)
more n g s j false e ih = ih ∙ at (cases_eq n j)
  where
    at : (n ≡ j) ⊎ (n ≢ j) → (nat_lt j n && has s j) ≡ (nat_lt j (suc n) && has s j)
    at (inl same) = let here : has s j ≡ false = subst (λ k. has s k ≡ false) same e in grind (arith, nat_tests)
    at (inr other) = grind (arith, nat_tests)

gathered_has : (n s j : ℕ) → has (gathered 0 (below n s)) j ≡ (nat_lt j n && has s j)
gathered_has zero s j = ap (λ l. has (gathered 0 (map (λ b. b + 1) l)) j) (bits_start s) ∙ has_none j ∙ rw (le-ltb j 0 (omega arith)) refl
gathered_has (suc n) s j =
    ap (λ l. has (gathered 0 l) j) (below_suc n s)
    ∙ ap (λ x. has x j) (fold-append (λ s x. with_bit s (bit_of x)) 0 (below n s) (cond (has s n) ((n + 1) ∷ []) []))
    ∙ more n (gathered 0 (below n s)) s j (has s n) refl (gathered_has n s j)

pub regathered : (s : ℕ) → s < 2 ^ 32 → gathered 0 (marks_of s) ≡ s
regathered s h = same_members (gathered 0 (marks_of s)) s (λ j. gathered_has 32 s j ∙ at j (cases_lt j 32))
  where
    at : (j : ℕ) → (j < 32) ⊎ (32 ≤ j) → (nat_lt j 32 && has s j) ≡ has s j
    at j (inl l) = rw (lt-ltb j 32 l) refl
    at j (inr g) = rw (le-ltb j 32 g, has_past 32 s j h g) refl
