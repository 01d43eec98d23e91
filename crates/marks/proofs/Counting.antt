-- Going over the charges of a table: the numbers that are left, as they come.
use Rattle.std.proofs.Common.{◌≡◌, ℕ, zero, suc, ◌+◌, ◌-◌, ◌<◌, ◌≤◌, List, [], ◌∷◌, ap, sym, ◌∙◌, ⊎_elim, refl, arith}
use Rattle.std.specs.List.{range_with_len}
use Rattle.std.proofs.lemmas.Bool.{cases_lt}

-- of n charges, those after the first k
abbrev pub left : ℕ → ℕ → List ℕ
left n k = range_with_len (k + 1) (n - k)

-- What follows where the charges after the first k are c and then those of `rest`.
pub record Comes (n k c : ℕ) (rest : List ℕ) : Type 0 where
  pub is_next : c ≡ k + 1
  pub within : k < n
  pub others : rest ≡ left n (k + 1)

pub comes : (n k c : ℕ) (rest : List ℕ) → left n k ≡ c ∷ rest → Comes n k c rest
comes n k c rest e = by (n - k) refl e
  where
    by : (m : ℕ) → n - k ≡ m → range_with_len (k + 1) m ≡ c ∷ rest → Comes n k c rest
    by zero d e = absurd (let none : [] ≡ c ∷ rest = e in cc)
    by (suc m) d e =
        let same : k + 1 ≡ c = cc in
        let tail : range_with_len (k + 1 + 1) m ≡ rest = cc in
        let fewer : n - (k + 1) ≡ m = omega arith in
        record { is_next = sym same; within = omega arith; others = sym tail ∙ ap (range_with_len (k + 1 + 1)) (sym fewer) }

-- where none are left, all are passed
pub all_passed : (n k : ℕ) → left n k ≡ [] → n ≤ k
all_passed n k e = ⊎_elim (λ l. absurd (some l)) (λ h. h) (cases_lt k n)
  where
    some : k < n → ⊥
    some l =
        let m : n - k ≡ suc (n - k - 1) = omega arith in
        let parts : [] ≡ (k + 1) ∷ range_with_len (k + 1 + 1) (n - k - 1) = sym e ∙ ap (range_with_len (k + 1)) m in
        cc
