-- The set of all marks up to a width, as the code makes it.
use Rattle.std.proofs.Common.{◌≡◌, ℕ, ◌+◌, ◌-◌, ◌*◌, ◌/◌, ◌^◌, ◌<◌, ◌≤◌, sym, ap, ◌∙◌, add-mul, arith}
use Rattle.std.proofs.lemmas.Nat.{pow_pos, pow-add, div-mul-add}
use Rattle.marks.specs.Sets.{all_below}

-- one less than a product, divided by a factor, is one less than the other
less_over : (a b : ℕ) → 0 < a → 0 < b → (a * b - 1) / b ≡ a - 1
less_over a b p q =
    let s : (a - 1) + 1 ≡ a = omega arith in
    let m : ((a - 1) + 1) * b ≡ a * b = ap (λ n. n * b) s in
    let e : a * b - 1 ≡ (a - 1) * b + (b - 1) = omega (arith, add-mul (a - 1) 1 b) in
    ap (λ n. n / b) e ∙ div-mul-add (a - 1) b (b - 1) (omega arith)

-- all of k marks, shifted down until n are left
pub all_shifted : (n k : ℕ) → n ≤ k → all_below k / 2 ^ (k - n) ≡ all_below n
all_shifted n k h =
    let s : n + (k - n) ≡ k = omega arith in
    let p : 2 ^ n * 2 ^ (k - n) ≡ 2 ^ k = sym (pow-add 2 n (k - n)) ∙ ap (λ x. 2 ^ x) s in
    ap (λ x. (x - 1) / 2 ^ (k - n)) (sym p) ∙ less_over (2 ^ n) (2 ^ (k - n)) (pow_pos n) (pow_pos (k - n))
