-- Set algebra by members: each law is a line.
use Rattle.std.proofs.Common.{◌≡◌, ℕ, zero, suc, ◌+◌, ◌-◌, ◌*◌, ◌/◌, ◌%◌, ◌^◌, ◌<◌, ◌≤◌, min, true, false, not, ◌&&◌, ◌||◌, eqb, ltb, sym, ap, ◌∙◌, mod-lt, arith, pow_pos, shr-shr}
use lib.Bits.{bit_and, bit_or, and_mask, and_step, or_disjoint}
use Rattle.std.proofs.lemmas.Bool.{lt-ltb}
use Rattle.std.proofs.lemmas.Bool.Decides.{nat_tests}
use Rattle.marks.specs.Sets.{has, PartOf, all_below, minus}
use Rattle.marks.specs.Members.{members, has_and, has_or, has_all_below, has_zero, has_suc}
use Rattle.marks.specs.Parts.{same_members, part_from_has, part_has, has_minus, part_le, and_part_left}
use lib.Count.{ones}
use Rattle.marks.specs.Sizes.{ones_or_and, ones_zero}

pub or_assoc : (x y z : ℕ) → bit_or (bit_or x y) z ≡ bit_or x (bit_or y z)
or_assoc x y z = same_members (bit_or (bit_or x y) z) (bit_or x (bit_or y z)) (λ b. grind (arith, members))

pub and_or : (x y z : ℕ) → bit_and x (bit_or y z) ≡ bit_or (bit_and x y) (bit_and x z)
and_or x y z = same_members (bit_and x (bit_or y z)) (bit_or (bit_and x y) (bit_and x z)) (λ b. grind (arith, members))

pub or_absorb : (x y : ℕ) → bit_or x (bit_and x y) ≡ x
or_absorb x y = same_members (bit_or x (bit_and x y)) x (λ b. grind (arith, members))

pub or_of_part : (x r : ℕ) → PartOf x r → bit_or x r ≡ r
or_of_part x r w = same_members (bit_or x r) r (λ b. grind (arith, members, part_has x r b w))

pub and_mono : (x y u v : ℕ) → PartOf x u → PartOf y v → PartOf (bit_and x y) (bit_and u v)
and_mono x y u v p q = part_from_has (bit_and x y) (bit_and u v) (λ b e. grind (arith, members, part_has x u b p, part_has y v b q))

pub minus_part : (s t : ℕ) → s < 2 ^ 32 → t < 2 ^ 32 → PartOf (minus s t) s
minus_part s t p q = part_from_has (minus s t) s (λ b e. grind (arith, has_minus s t b p q))

pub minus_or : (s t : ℕ) → s < 2 ^ 32 → t < 2 ^ 32 → bit_or (minus s t) t ≡ bit_or s t
minus_or s t p q = same_members (bit_or (minus s t) t) (bit_or s t) (λ b. grind (arith, has_or, has_minus s t b p q))

-- sums of sets with nothing in common
pub has_sum : (x y b : ℕ) → bit_and x y ≡ 0 → has (x + y) b ≡ (has x b || has y b)
has_sum x y b d = rw (sym (or_disjoint x y d)) (has_or x y b)

-- the low part
pub has_mod : (s n b : ℕ) → has (s % 2 ^ n) b ≡ (has s b && ltb b n)
has_mod s n b = rw (sym (and_mask s n)) (has_and s (all_below n) b ∙ rw (has_all_below n b))

pub has_shr : (s k b : ℕ) → has (s / 2 ^ k) b ≡ has s (k + b)
unfolding has
has_shr s k b = ap (λ x. eqb (x % 2) 1) (shr-shr s k b)

-- agreement below b, as an equation
pub low_same : (b x y : ℕ) → ((j : ℕ) → j < b → has x j ≡ has y j) → x % 2 ^ b ≡ y % 2 ^ b
low_same b x y f = same_members (x % 2 ^ b) (y % 2 ^ b) (λ j. grind (arith, has_mod x b j, has_mod y b j, f j, nat_tests))

pub same_low : (b x y : ℕ) → x % 2 ^ b ≡ y % 2 ^ b → (j : ℕ) → j < b → has x j ≡ has y j
same_low b x y e j l =
    let t : ltb j b ≡ true = lt-ltb j b l in
    let m : has (x % 2 ^ b) j ≡ has (y % 2 ^ b) j = ap (λ s. has s j) e in
    grind (arith, has_mod x b j, has_mod y b j)

-- with no member from k on
pub below_from_has : (k x : ℕ) → ((j : ℕ) → k ≤ j → has x j ≡ false) → x < 2 ^ k
below_from_has k x f =
    let e : x % 2 ^ k ≡ x = same_members (x % 2 ^ k) x (λ j. grind (arith, has_mod x k j, f j, nat_tests)) in
    omega (arith, mod-lt x (pow_pos k))

pub within_sum_left : (x y : ℕ) → bit_and x y ≡ 0 → PartOf x (x + y)
within_sum_left x y d = part_from_has x (x + y) (λ b e. grind (arith, has_sum x y b d))

pub within_sum_right : (x y : ℕ) → bit_and x y ≡ 0 → PartOf y (x + y)
within_sum_right x y d = part_from_has y (x + y) (λ b e. grind (arith, has_sum x y b d))

-- sets with no member in common, by members
pub disjoint_from_has : (x y : ℕ) → ((b : ℕ) → has x b ≡ true → has y b ≡ false) → bit_and x y ≡ 0
disjoint_from_has x y f = same_members (bit_and x y) 0 (λ b. let g : has x b ≡ true → has y b ≡ false = f b in grind (arith, members))

-- of a set that is a part of another, the difference of the numbers is the difference of the sets
pub within_half : (x r : ℕ) → PartOf x r → (bit_and (x / 2) (r / 2) ≡ x / 2) × (x % 2 ≤ r % 2)
within_half x r w =
    let a : bit_and x r ≡ bit_and (x / 2) (r / 2) * 2 + min (x % 2) (r % 2) = and_step x r in
    (omega arith, omega arith)

pub has_diff : (x r b : ℕ) → PartOf x r → has (r - x) b ≡ (has r b && not (has x b))
has_diff x r zero w =
    let h = within_half x r w in
    let l : x / 2 ≤ r / 2 = part_le (x / 2) (r / 2) h.0 in
    let o : (r - x) % 2 ≡ r % 2 - x % 2 = omega (arith, h.1) in
    let e : eqb (r % 2 - x % 2) 1 ≡ (eqb (r % 2) 1 && not (eqb (x % 2) 1)) = grind (arith, h.1, nat_tests) in
    rw (has_zero (r - x), has_zero r, has_zero x, o, e)
has_diff x r (suc b) w =
    let h = within_half x r w in
    let l : x / 2 ≤ r / 2 = part_le (x / 2) (r / 2) h.0 in
    let o : (r - x) / 2 ≡ r / 2 - x / 2 = omega (arith, h.1) in
    rw (has_suc (r - x) b, has_suc r b, has_suc x b, o, has_diff (x / 2) (r / 2) b h.0)

pub rest_differ : (x r : ℕ) → PartOf x r → bit_and x (r - x) ≡ 0
rest_differ x r w = disjoint_from_has x (r - x) (λ b e. has_diff x r b w ∙ rw e (grind arith))

pub rest_part : (x r : ℕ) → PartOf x r → PartOf (r - x) r
rest_part x r w = part_from_has (r - x) r (λ b e. grind (arith, has_diff x r b w))

pub ones_rest : (x r : ℕ) → PartOf x r → ones x + ones (r - x) ≡ ones r
ones_rest x r w =
    let e : bit_or x (r - x) ≡ r = omega (arith, or_disjoint x (r - x) (rest_differ x r w), part_le x r w) in
    let z : ones (bit_and x (r - x)) ≡ 0 = ap ones (rest_differ x r w) ∙ ones_zero in
    omega (arith, ones_or_and x (r - x), ap ones e)

-- what the code writes for the difference is the difference of numbers
pub minus_is : (s t : ℕ) → s < 2 ^ 32 → t < 2 ^ 32 → minus s t ≡ s - bit_and s t
minus_is s t p q =
    same_members (minus s t) (s - bit_and s t)
    (λ b. grind (arith, has_minus s t b p q, has_diff (bit_and s t) s b (and_part_left s t), has_and s t b))
