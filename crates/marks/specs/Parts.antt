-- One set a part of another.
use Rattle.std.specs.Prelude.{◌≡◌, ℕ, zero, suc, ◌+◌, ◌^◌, ◌<◌, ◌≤◌, true, false, not, ◌&&◌, ◌||◌, Decides, ◌==◌, bit_and, bit_or, refl}
use Rattle.std.proofs.Common.{sym, ap, ◌∙◌, subst, ⊎_elim, arith, mod-eq_of_lt, pow_pos}
use Rattle.std.specs.Int.Bits.{and_self}
use Rattle.std.proofs.lemmas.Bool.{eqb-true, eq-eqb, and_from, cases_eq}
use Rattle.std.proofs.lemmas.Bool.Decides.{nat_tests}
use Rattle.std.proofs.lemmas.Nat.{pow_below, and_comm, and_le_l, and_le_r, and_mask, or_disjoint}
use Rattle.marks.specs.Sets.{has, PartOf, part_of, all_below, with_bit, without_bit, minus}
use Rattle.marks.specs.Members.{has_and, has_or, has_only, has_rest, has_none, has_below, same_from_has}

-- the test and the fact
pub part_fact : (x r : ℕ) → part_of x r ≡ true → PartOf x r
part_fact x r e = eqb-true (bit_and x r) x e

pub part_test : (x r : ℕ) → PartOf x r → part_of x r ≡ true
part_test x r e = eq-eqb (bit_and x r) x e

-- what is in x is in r
pub part_has : (x r b : ℕ) → PartOf x r → has x b ≡ true → has r b ≡ true
part_has x r b w h = let e : has (bit_and x r) b ≡ has x b = ap (λ s. has s b) w in grind (arith, has_and)

pub part_lacks : (x r b : ℕ) → PartOf x r → has r b ≡ false → has x b ≡ false
part_lacks x r b w h = let e : has (bit_and x r) b ≡ has x b = ap (λ s. has s b) w in grind (arith, has_and)

pub part_from_has_below : (n x r : ℕ) → x < 2 ^ n → ((b : ℕ) → b < n → has x b ≡ true → has r b ≡ true) → PartOf x r
part_from_has_below n x r p f =
    let l : bit_and x r < 2 ^ n = omega (arith, and_le_l x r) in
    same_from_has n (bit_and x r) x l p (λ b h. let g : has x b ≡ true → has r b ≡ true = f b h in grind (arith, has_and))

pub part_refl : (x : ℕ) → PartOf x x
part_refl x = and_self x

-- the same with no width: a number is below its own power
pub below_own : (n : ℕ) → n < 2 ^ n
below_own zero = omega arith
below_own (suc n) = omega (arith, below_own n)

pub same_members : (s t : ℕ) → ((b : ℕ) → has s b ≡ has t b) → s ≡ t
same_members s t f =
    let l : s < 2 ^ (s + t) = omega (arith, below_own (s + t)) in
    let m : t < 2 ^ (s + t) = omega (arith, below_own (s + t)) in
    same_from_has (s + t) s t l m (λ b h. f b)

pub part_from_has : (x r : ℕ) → ((b : ℕ) → has x b ≡ true → has r b ≡ true) → PartOf x r
part_from_has x r f = part_from_has_below x x r (below_own x) (λ b h. f b)

pub part_trans : (x y z : ℕ) → PartOf x y → PartOf y z → PartOf x z
part_trans x y z p q = part_from_has x z (λ b e. part_has y z b q (part_has x y b p e))

pub part_antisym : (x y : ℕ) → PartOf x y → PartOf y x → x ≡ y
part_antisym x y p q = sym p ∙ and_comm x y ∙ q

pub part_le : (x y : ℕ) → PartOf x y → x ≤ y
part_le x y p = omega (arith, and_le_r x y)

pub part_none : (x : ℕ) → PartOf 0 x
part_none x = refl

-- the greatest set that is a part of both
pub and_part_left : (x y : ℕ) → PartOf (bit_and x y) x
and_part_left x y = part_from_has (bit_and x y) x (λ b e. grind (arith, has_and))

pub and_part_right : (x y : ℕ) → PartOf (bit_and x y) y
and_part_right x y = part_from_has (bit_and x y) y (λ b e. grind (arith, has_and))

pub part_and : (z x y : ℕ) → PartOf z x → PartOf z y → PartOf z (bit_and x y)
part_and z x y p q = part_from_has z (bit_and x y) (λ b e. has_and x y b ∙ and_from (has x b) (has y b) (part_has z x b p e) (part_has z y b q e))

-- the least set that both are parts of
pub part_or_left : (x y : ℕ) → PartOf x (bit_or x y)
part_or_left x y = part_from_has x (bit_or x y) (λ b e. grind (arith, has_or))

pub part_or_right : (x y : ℕ) → PartOf y (bit_or x y)
part_or_right x y = part_from_has y (bit_or x y) (λ b e. grind (arith, has_or))

pub or_part : (x y z : ℕ) → PartOf x z → PartOf y z → PartOf (bit_or x y) z
or_part x y z p q =
    part_from_has (bit_or x y) z (λ b e. grind (arith, has_or x y b, part_has x z b p, part_has y z b q))

-- a part of the numbers below n
pub part_all_below : (n x : ℕ) → x < 2 ^ n → PartOf x (all_below n)
part_all_below n x h = and_mask x n ∙ mod-eq_of_lt h

pub below_from_part : (n x : ℕ) → PartOf x (all_below n) → x < 2 ^ n
below_from_part n x w = omega (arith, part_le x (all_below n) w, pow_pos n)

-- one member more
pub has_with : (s b j : ℕ) → has (with_bit s b) j ≡ (has s j || b == j)
has_with s b j = has_or s (2 ^ b) j ∙ ap (λ t. has s j || t) (has_only b j)

pub with_there : (s b : ℕ) → has s b ≡ true → with_bit s b ≡ s
with_there s b h = same_members (with_bit s b) s (λ j. has_with s b j ∙ at j)
  where
    at : (j : ℕ) → (has s j || b == j) ≡ has s j
    at j = ⊎_elim (λ e. let k : has s j ≡ true = subst (λ i. has s i ≡ true) e h in grind (arith, nat_tests)) (λ e. grind (arith, nat_tests)) (cases_eq b j)

-- a member not there is added as a sum
pub with_adds : (s b : ℕ) → has s b ≡ false → with_bit s b ≡ s + 2 ^ b
with_adds s b h = or_disjoint s (2 ^ b) (same_members (bit_and s (2 ^ b)) 0 at)
  where
    at : (j : ℕ) → has (bit_and s (2 ^ b)) j ≡ has 0 j
    at j =
        rw (has_and, has_only, has_none)
        (⊎_elim (λ e. let k : has s j ≡ false = subst (λ i. has s i ≡ false) e h in grind (arith, nat_tests)) (λ e. grind (arith, nat_tests)) (cases_eq b j))

pub only_part : (r b : ℕ) → has r b ≡ true → PartOf (2 ^ b) r
only_part r b h =
    part_from_has (2 ^ b) r (λ j e. let same : b ≡ j = eqb-true b j (sym (has_only b j) ∙ e) in subst (λ i. has r i ≡ true) same h)

pub with_part : (x r b : ℕ) → PartOf x r → has r b ≡ true → PartOf (with_bit x b) r
with_part x r b w h = or_part x (2 ^ b) r w (only_part r b h)

-- the test says whether it is so of every mark
pub part_decides : (x r : ℕ) → Decides (part_of x r) ((b : ℕ) → has x b ≡ true → has r b ≡ true)
part_decides x r = (λ t b. part_has x r b (part_fact x r t), λ f. part_test x r (part_from_has x r f))

-- a set with no mark is 0
pub empty_decides : (s : ℕ) → Decides (s == 0) ((b : ℕ) → has s b ≡ false)
empty_decides s = (
  λ t b. ap (λ x. has x b) (eqb-true s 0 t) ∙ has_none b,
  λ f. eq-eqb s 0 (same_members s 0 (λ b. f b ∙ sym (has_none b))),
)

-- difference
pub has_minus : (s t b : ℕ) → s < 2 ^ 32 → t < 2 ^ 32 → has (minus s t) b ≡ (has s b && not (has t b))
has_minus s t b p q = rw (has_and, has_rest 32 t b q) (grind (arith, has_below 32 s b p, nat_tests))

pub has_without : (s b j : ℕ) → s < 2 ^ 32 → b < 32 → has (without_bit s b) j ≡ (has s j && not (b == j))
has_without s b j p h = has_minus s (2 ^ b) j p (pow_below b 32 h) ∙ ap (λ t. has s j && not t) (has_only b j)

-- two sets with no member in common
pub sum_part : (x y r : ℕ) → bit_and x y ≡ 0 → PartOf x r → PartOf y r → PartOf (x + y) r
sum_part x y r d p q = rw (or_disjoint x y d) at (or_part x y r p q)
