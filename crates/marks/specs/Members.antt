-- Laws of membership: what each operation on sets holds.
use Rattle.std.specs.Prelude.{◌≡◌, ℕ, zero, suc, ◌-◌, ◌/◌, ◌%◌, ◌^◌, ◌<◌, ◌≤◌, true, false, not, ◌&&◌, ◌||◌, ltb, ◌==◌, bit_and, bit_or, bit_xor, nat_eq, nat_lt, refl}
use Rattle.std.proofs.Common.{sym, ap, ◌∙◌, arith, mod-lt, zero-lt-suc, pow_pos, shr-shr}
use Rattle.std.proofs.lemmas.Nat.{and_mask, and_shr, or_shr, xor_shr, and_mod, or_mod, xor_mod}
use Rattle.std.proofs.lemmas.Bool.{ne_eqb, le-ltb}
use Rattle.std.proofs.lemmas.Bool.Decides.{nat_tests}
use Rattle.marks.specs.Sets.{has, all_below, differ}

-- ---- bit by bit

pub has_zero : (s : ℕ) → has s 0 ≡ (s % 2 == 1)
unfolding has
has_zero s = ap (λ (x : ℕ). nat_eq (x % 2) 1) (let e : s / 1 ≡ s = omega arith in e)

pub has_suc : (s b : ℕ) → has s (suc b) ≡ has (s / 2) b
unfolding has
has_suc s b = ap (λ (x : ℕ). nat_eq (x % 2) 1) (sym (shr-shr s 1 b ∙ ap (λ (k : ℕ). s / 2 ^ k) (omega arith)))

-- what is so of 0 and of 1 is so of a digit
digit : (P : ℕ → Type 0) → P 0 → P 1 → (x : ℕ) → x < 2 → P x
digit P p q zero h = p
digit P p q (suc zero) h = q
digit P p q (suc (suc x)) h = absurd (omega arith)

digit_and : (x y : ℕ) → x < 2 → y < 2 → (bit_and x y == 1) ≡ (x == 1 && y == 1)
digit_and x y p q =
    digit (λ x. (bit_and x y == 1) ≡ (x == 1 && y == 1)) refl
    (digit (λ y. (bit_and 1 y == 1) ≡ (y == 1)) refl refl y q) x p

digit_or : (x y : ℕ) → x < 2 → y < 2 → (bit_or x y == 1) ≡ (x == 1 || y == 1)
digit_or x y p q =
    digit (λ x. (bit_or x y == 1) ≡ (x == 1 || y == 1)) refl
    (digit (λ y. (bit_or 1 y == 1) ≡ true) refl refl y q) x p

digit_xor : (x y : ℕ) → x < 2 → y < 2 → (bit_xor x y == 1) ≡ differ (x == 1) (y == 1)
digit_xor x y p q =
    digit (λ x. (bit_xor x y == 1) ≡ differ (x == 1) (y == 1)) refl
    (digit (λ y. (bit_xor 1 y == 1) ≡ not (y == 1)) refl refl y q) x p

two : zero < 2
two = zero-lt-suc 1

pub has_and : (s t b : ℕ) → has (bit_and s t) b ≡ (has s b && has t b)
unfolding has
has_and s t b =
    ap (λ (x : ℕ). nat_eq (x % 2) 1) (and_shr s t b) ∙ ap (λ (x : ℕ). nat_eq x 1) (and_mod (s / 2 ^ b) (t / 2 ^ b) 1)
    ∙ digit_and (s / 2 ^ b % 2) (t / 2 ^ b % 2) (mod-lt (s / 2 ^ b) two) (mod-lt (t / 2 ^ b) two)

pub has_or : (s t b : ℕ) → has (bit_or s t) b ≡ (has s b || has t b)
unfolding has
has_or s t b =
    ap (λ (x : ℕ). nat_eq (x % 2) 1) (or_shr s t b) ∙ ap (λ (x : ℕ). nat_eq x 1) (or_mod (s / 2 ^ b) (t / 2 ^ b) 1)
    ∙ digit_or (s / 2 ^ b % 2) (t / 2 ^ b % 2) (mod-lt (s / 2 ^ b) two) (mod-lt (t / 2 ^ b) two)

pub has_xor : (s t b : ℕ) → has (bit_xor s t) b ≡ differ (has s b) (has t b)
unfolding has
has_xor s t b =
    ap (λ (x : ℕ). nat_eq (x % 2) 1) (xor_shr s t b) ∙ ap (λ (x : ℕ). nat_eq x 1) (xor_mod (s / 2 ^ b) (t / 2 ^ b) 1)
    ∙ digit_xor (s / 2 ^ b % 2) (t / 2 ^ b % 2) (mod-lt (s / 2 ^ b) two) (mod-lt (t / 2 ^ b) two)

-- ---- what is in no set, and in which sets all the members are known

pub has_none : (b : ℕ) → has 0 b ≡ false
has_none zero = has_zero 0
has_none (suc b) = has_suc 0 b ∙ has_none b

-- what is left of the numbers below n without t
pub has_rest : (n t b : ℕ) → t < 2 ^ n → has (2 ^ n - 1 - t) b ≡ (nat_lt b n && not (has t b))
has_rest zero t b h = rw (let e : t ≡ 0 = omega arith in e) (has_none b ∙ rw (le-ltb b 0 (omega arith)))
has_rest (suc n) t zero h =
    rw (has_zero, has_zero) (grind (arith, pow_pos n, nat_tests))
has_rest (suc n) t (suc b) h =
    let e : (2 ^ suc n - 1 - t) / 2 ≡ 2 ^ n - 1 - t / 2 = omega (arith, pow_pos n) in
    let l : t / 2 < 2 ^ n = omega arith in
    let same : ltb (suc b) (suc n) ≡ ltb b n = grind (arith, nat_tests) in
    rw (has_suc, has_suc, e, has_rest n (t / 2) b l, same)

pub has_all_below : (n b : ℕ) → has (all_below n) b ≡ nat_lt b n
has_all_below n b =
    let e : 2 ^ n - 1 - 0 ≡ 2 ^ n - 1 = omega arith in
    rw e at (has_rest n 0 b (pow_pos n)) ∙ rw has_none (grind (arith, nat_tests))

pub has_only : (a b : ℕ) → has (2 ^ a) b ≡ (a == b)
has_only zero zero = has_zero 1
has_only zero (suc b) = has_suc 1 b ∙ has_none b ∙ sym (ne_eqb 0 (suc b) (omega arith))
has_only (suc a) zero = has_zero (2 ^ suc a) ∙ grind (arith, nat_tests)
has_only (suc a) (suc b) =
    let e : 2 ^ suc a / 2 ≡ 2 ^ a = omega arith in
    let same : nat_eq a b ≡ nat_eq (suc a) (suc b) = grind (arith, nat_tests) in
    has_suc (2 ^ suc a) b ∙ ap (λ x. has x b) e ∙ has_only a b ∙ same

-- past a set's width there is nothing
pub has_past : (n s b : ℕ) → s < 2 ^ n → n ≤ b → has s b ≡ false
has_past zero s b h l = rw (let e : s ≡ 0 = omega arith in e) (has_none b)
has_past (suc n) s zero h l = absurd (omega arith)
has_past (suc n) s (suc b) h l = has_suc s b ∙ has_past n (s / 2) b (omega arith) (omega arith)

pub has_below : (n s b : ℕ) → s < 2 ^ n → has s b ≡ true → b < n
has_below n s b h e = grind (arith, has_past n s b h)

-- ---- a set is known by its members

pub same_from_has : (n s t : ℕ) → s < 2 ^ n → t < 2 ^ n → ((b : ℕ) → b < n → has s b ≡ has t b) → s ≡ t
same_from_has zero s t p q f = omega arith
same_from_has (suc n) s t p q f =
    let half : s / 2 ≡ t / 2 =
    same_from_has n (s / 2) (t / 2) (omega arith) (omega arith) (λ b h. sym (has_suc s b) ∙ f (suc b) (omega arith) ∙ has_suc t b) in
    let low : nat_eq (s % 2) 1 ≡ nat_eq (t % 2) 1 = sym (has_zero s) ∙ f 0 (omega arith) ∙ has_zero t in
    grind (arith, nat_tests)

-- `s >> b & 1 == 1`
pub has_shifted : (s b : ℕ) → (bit_and (s / 2 ^ b) 1 == 1) ≡ has s b
unfolding has
has_shifted s b = ap (λ x. nat_eq x 1) (and_mask (s / 2 ^ b) 1)

-- what each operation holds, for `grind` and `simp`
pub ruleset members = (has_and, has_or, has_xor, has_only, has_all_below, has_none)
