-- How many members a set has, and its lowest and its highest member.
use Rattle.std.specs.Prelude.{◌≡◌, ℕ, zero, suc, ◌+◌, ◌-◌, ◌*◌, ◌/◌, ◌%◌, ◌^◌, ◌<◌, ◌≤◌, min, max, true, false, not, ◌&&◌, ◌==◌, bit_and, bit_or, nat_eq, refl}
use Rattle.std.proofs.Common.{sym, ap, ◌∙◌, arith, mod-lt, zero-lt-suc, pow_pos}
use Rattle.std.proofs.Math.Arith.{bin_ind}
use Rattle.std.specs.Int.Bits.{and_self, and_step, or_step, or_add_and}
use Rattle.std.specs.Int.Count.{ones, ones_step, count_trailing_zeros, count_leading_zeros, under}
use Rattle.std.proofs.lemmas.Nat.{leading_top}
use Rattle.std.proofs.lemmas.Bool.{eqb-true, eqb-false, eq-eqb, ne_eqb}
use Rattle.std.proofs.lemmas.Bool.Decides.{nat_tests}
use Rattle.marks.specs.Sets.{has, PartOf, with_bit, without_bit, Lowest, Highest}
use Rattle.marks.specs.Members.{has_zero, has_suc, has_past, has_below}
use Rattle.marks.specs.Parts.{has_without, same_members, with_adds, part_le, only_part}

pub ones_zero : ones 0 ≡ 0
unfolding ones
ones_zero = refl

pub ones_only : (b : ℕ) → ones (2 ^ b) ≡ 1
ones_only zero = ones_step 1 ∙ rw ones_zero
ones_only (suc b) =
    let e : 2 ^ suc b / 2 ≡ 2 ^ b = omega arith in
    let o : 2 ^ suc b % 2 ≡ 0 = omega arith in
    ones_step (2 ^ suc b) ∙ rw (e, o, ones_only b)

-- what two sets have together, and what they share, count as the two
pub ones_or_and : (s t : ℕ) → ones (bit_or s t) + ones (bit_and s t) ≡ ones s + ones t
ones_or_and s =
    bin_ind (λ (s : ℕ). (t : ℕ) → ones (bit_or s t) + ones (bit_and s t) ≡ ones s + ones t)
    (λ t. rw ones_zero (omega arith))
    (λ s ih t.
    let o : (bit_or s t) ≡ bit_or (s / 2) (t / 2) * 2 + max (s % 2) (t % 2) = or_step s t in
    let a : (bit_and s t) ≡ bit_and (s / 2) (t / 2) * 2 + min (s % 2) (t % 2) = and_step s t in
    let o2 : bit_or s t / 2 ≡ bit_or (s / 2) (t / 2) = omega arith in
    let a2 : bit_and s t / 2 ≡ bit_and (s / 2) (t / 2) = omega arith in
    let p : ones (bit_or s t) ≡ bit_or s t % 2 + ones (bit_or (s / 2) (t / 2)) = ones_step (bit_or s t) ∙ ap (λ x. bit_or s t % 2 + ones x) o2 in
    let q : ones (bit_and s t) ≡ bit_and s t % 2 + ones (bit_and (s / 2) (t / 2)) = ones_step (bit_and s t) ∙ ap (λ x. bit_and s t % 2 + ones x) a2 in
    omega (arith, ih (t / 2), ones_step s, ones_step t)) s

-- one member more
pub ones_with : (s b : ℕ) → has s b ≡ false → ones (with_bit s b) ≡ ones s + 1
ones_with s b h =
    let none : bit_and s (2 ^ b) ≡ 0 = omega (arith, with_adds s b h, or_add_and s (2 ^ b)) in
    let z : ones (bit_and s (2 ^ b)) ≡ 0 = ap ones none ∙ ones_zero in
    omega (arith, ones_or_and s (2 ^ b), ones_only b)

-- fewer members, unless it is the same set
pub ones_part : (x r : ℕ) → PartOf x r → ones x ≤ ones r
ones_part x r w =
    go x r w
  where
    go : (x : ℕ) (r : ℕ) → bit_and x r ≡ x → ones x ≤ ones r
    go =
        bin_ind (λ (x : ℕ). (r : ℕ) → bit_and x r ≡ x → ones x ≤ ones r)
        (λ r w. rw ones_zero (omega arith))
        (λ x ih r w.
        let a : (bit_and x r) ≡ bit_and (x / 2) (r / 2) * 2 + min (x % 2) (r % 2) = and_step x r in
        let a2 : bit_and (x / 2) (r / 2) ≡ x / 2 = omega arith in
        omega (arith, ih (r / 2) a2, ones_step x, ones_step r))

pub ones_strict : (x r : ℕ) → PartOf x r → ones x ≡ ones r → x ≡ r
ones_strict =
    bin_ind (λ (x : ℕ). (r : ℕ) → bit_and x r ≡ x → ones x ≡ ones r → x ≡ r)
    (λ r w e. sym (none r (sym e ∙ ones_zero)))
    (λ x ih r w e.
    let a : (bit_and x r) ≡ bit_and (x / 2) (r / 2) * 2 + min (x % 2) (r % 2) = and_step x r in
    let a2 : bit_and (x / 2) (r / 2) ≡ x / 2 = omega arith in
    let le : ones (x / 2) ≤ ones (r / 2) = ones_part (x / 2) (r / 2) a2 in
    let e2 : ones (x / 2) ≡ ones (r / 2) = omega (arith, ones_step x, ones_step r) in
    omega (arith, ih (r / 2) a2 e2, ones_step x, ones_step r))
  where
    none : (n : ℕ) → ones n ≡ 0 → n ≡ 0
    none =
        bin_ind (λ (n : ℕ). ones n ≡ 0 → n ≡ 0) (λ e. refl)
        (λ n ih e. let h : ones (n / 2) ≡ 0 = omega (arith, ones_step n) in omega (arith, ih h, ones_step n))

-- ---- the lowest member, by `trailing_zeros`

lowest_even : (x t : ℕ) → x % 2 ≡ 0 → Lowest (x / 2) t → Lowest x (suc t)
lowest_even x t e p = record { held = has_suc x t ∙ p.held; none_below = below }
  where
    below : (j : ℕ) → j < suc t → has x j ≡ false
    below zero h = has_zero x ∙ ne_eqb (x % 2) 1 (omega arith)
    below (suc j) h = has_suc x j ∙ p.none_below j (omega arith)

lowest_odd : (x : ℕ) → x % 2 ≡ 1 → Lowest x 0
lowest_odd x e = record { held = has_zero x ∙ eq-eqb (x % 2) 1 e; none_below = λ j h. absurd (omega arith) }

lowest_step : (x t d : ℕ) → x % 2 ≡ d → d < 2 → (d ≡ 0 → Lowest (x / 2) t) → Lowest x (under d t)
lowest_step x t zero e l ih = lowest_even x t e (ih refl)
lowest_step x t (suc zero) e l ih = lowest_odd x e
lowest_step x t (suc (suc d)) e l ih = absurd (omega arith)

pub trailing_lowest : (k x : ℕ) → 0 < x → x < 2 ^ k → Lowest x (count_trailing_zeros k x)
unfolding count_trailing_zeros
trailing_lowest zero x p h = absurd (omega arith)
trailing_lowest (suc k) x p h =
    lowest_step x (count_trailing_zeros k (x / 2)) (x % 2) refl (mod-lt x (zero-lt-suc 1))
    (λ z. trailing_lowest k (x / 2) (omega arith) (omega arith))

pub trailing_below : (k x : ℕ) → 0 < x → x < 2 ^ k → count_trailing_zeros k x < k
trailing_below k x p h = has_below k x (count_trailing_zeros k x) h (trailing_lowest k x p h).held

-- a set has one lowest member
pub one_lowest : (x s t : ℕ) → Lowest x s → Lowest x t → s ≡ t
one_lowest x s t p q = grind (arith, p.held, q.held, p.none_below t, q.none_below s)

-- `x & (x - 1)` leaves the lowest member out
pub clear_lowest : (x t : ℕ) → Lowest x t → bit_and x (x - 1) + 2 ^ t ≡ x
clear_lowest x zero p =
    let o : x % 2 ≡ 1 = eqb-true (x % 2) 1 (sym (has_zero x) ∙ p.held) in
    let e : (x - 1) / 2 ≡ x / 2 = omega arith in
    let a : bit_and x (x - 1) ≡ bit_and (x / 2) ((x - 1) / 2) * 2 + min (x % 2) ((x - 1) % 2) = and_step x (x - 1) in
    let b : bit_and (x / 2) ((x - 1) / 2) ≡ x / 2 = ap (bit_and (x / 2)) e ∙ and_self (x / 2) in
    omega arith
clear_lowest x (suc t) p =
    let z : x % 2 ≡ 0 = even in
    let ih : bit_and (x / 2) (x / 2 - 1) + 2 ^ t ≡ x / 2 =
    clear_lowest (x / 2) t (record { held = sym (has_suc x t) ∙ p.held; none_below = λ j h. sym (has_suc x j) ∙ p.none_below (suc j) (omega arith) }) in
    let pos : 0 < x / 2 = omega (arith, pow_pos t) in
    let e : (x - 1) / 2 ≡ x / 2 - 1 = omega arith in
    let a : bit_and x (x - 1) ≡ bit_and (x / 2) ((x - 1) / 2) * 2 + min (x % 2) ((x - 1) % 2) = and_step x (x - 1) in
    let b : bit_and (x / 2) ((x - 1) / 2) ≡ bit_and (x / 2) (x / 2 - 1) = ap (bit_and (x / 2)) e in
    omega arith
  where
    even : x % 2 ≡ 0
    even = let n : x % 2 ≡ 1 → ⊥ = eqb-false (x % 2) 1 (sym (has_zero x) ∙ p.none_below 0 (omega arith)) in omega arith

-- a member less
pub has_le : (x b : ℕ) → has x b ≡ true → 2 ^ b ≤ x
has_le x b h = part_le (2 ^ b) x (only_part x b h)

pub has_less : (x b j : ℕ) → has x b ≡ true → has (x - 2 ^ b) j ≡ (has x j && not (b == j))
has_less x zero zero h =
    let o : x % 2 ≡ 1 = eqb-true (x % 2) 1 (sym (has_zero x) ∙ h) in
    rw (has_zero (x - 1), has_zero x) (grind (arith, nat_tests))
has_less x zero (suc j) h =
    let o : x % 2 ≡ 1 = eqb-true (x % 2) 1 (sym (has_zero x) ∙ h) in
    let e : (x - 1) / 2 ≡ x / 2 = omega arith in
    rw (has_suc (x - 1) j, has_suc x j, e) (grind (arith, nat_tests))
has_less x (suc b) zero h =
    let l : 2 ^ suc b ≤ x = has_le x (suc b) h in
    let e : (x - 2 ^ suc b) % 2 ≡ x % 2 = omega arith in
    rw (has_zero (x - 2 ^ suc b), has_zero x, e) (grind (arith, nat_tests))
has_less x (suc b) (suc j) h =
    let l : 2 ^ suc b ≤ x = has_le x (suc b) h in
    let e : (x - 2 ^ suc b) / 2 ≡ x / 2 - 2 ^ b = omega arith in
    let same : nat_eq b j ≡ nat_eq (suc b) (suc j) = grind (arith, nat_tests) in
    rw (has_suc (x - 2 ^ suc b) j, has_suc x j, e, has_less (x / 2) b j (sym (has_suc x b) ∙ h), same)

pub ones_less : (x b : ℕ) → has x b ≡ true → ones (x - 2 ^ b) + 1 ≡ ones x
ones_less x b h =
    let gone : has (x - 2 ^ b) b ≡ false = has_less x b b h ∙ rw h (grind (arith, nat_tests)) in
    let back : with_bit (x - 2 ^ b) b ≡ x = omega (arith, with_adds (x - 2 ^ b) b gone, has_le x b h) in
    sym (ones_with (x - 2 ^ b) b gone) ∙ ap ones back

-- so what is left has every other member
pub cleared : (x t : ℕ) → Lowest x t → bit_and x (x - 1) ≡ x - 2 ^ t
cleared x t p = omega (arith, clear_lowest x t p)

pub has_cleared : (x t j : ℕ) → Lowest x t → has (bit_and x (x - 1)) j ≡ (has x j && not (t == j))
has_cleared x t j p = rw (cleared x t p) (has_less x t j p.held)

pub ones_cleared : (x t : ℕ) → Lowest x t → ones (bit_and x (x - 1)) + 1 ≡ ones x
ones_cleared x t p = rw (cleared x t p) (ones_less x t p.held)

-- ---- the highest member, by `leading_zeros`
pub highest : (x j : ℕ) → 2 ^ j ≤ x → x < 2 ^ suc j → Highest x j
highest x zero l h =
    record { held = rw (let e : x ≡ 1 = omega arith in e) (has_zero 1); none_above = λ j g. has_past 1 x j h g }
highest x (suc t) l h =
    let ih : Highest (x / 2) t = highest (x / 2) t (omega arith) (omega arith) in
    record { held = has_suc x t ∙ ih.held; none_above = λ j g. has_past (suc (suc t)) x j h g }

pub leading_highest : (k x : ℕ) → 0 < x → x < 2 ^ k → Highest x (k - 1 - count_leading_zeros k x)
leading_highest k x p h =
    let t = leading_top k x p h in
    let e : k - 1 - count_leading_zeros k x ≡ t.0 = omega (arith, t.1) in
    rw e (highest x t.0 t.2 t.3)

-- a set has one highest member
pub one_highest : (x s t : ℕ) → Highest x s → Highest x t → s ≡ t
one_highest x s t p q = grind (arith, p.held, q.held, p.none_above t, q.none_above s)

-- a mark taken out is its bit less
pub without_is : (s b : ℕ) → s < 2 ^ 32 → has s b ≡ true → without_bit s b ≡ s - 2 ^ b
without_is s b l h = same_members (without_bit s b) (s - 2 ^ b) (λ j. has_without s b j l (has_below 32 s b l h) ∙ sym (has_less s b j h))

pub without_less : (s b : ℕ) → s < 2 ^ 32 → has s b ≡ true → without_bit s b < s
without_less s b l h = omega (arith, without_is s b l h, has_le s b h, pow_pos b)
