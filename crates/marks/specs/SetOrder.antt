-- The list order of sets.
use Rattle.std.specs.Prelude.{◌≡◌, ℕ, zero, suc, ◌/◌, ◌%◌, ◌^◌, ◌<◌, true, false, ◌⊎◌, Decides, bit_xor, nat_eq, refl}
use Rattle.std.proofs.Common.{sym, ap, ◌∙◌, subst, inl, inr, arith}
use Rattle.std.proofs.lemmas.Bool.{eq-eqb, ne_eqb, both_ways, cases_order}
use Rattle.marks.specs.Sets.{has}
use Rattle.marks.specs.Orders.{Before}
use Rattle.marks.specs.Sets.{Lowest}
use Rattle.marks.specs.Sizes.{one_lowest}
use Rattle.std.specs.Int.Bits.{xor_add_and}
use Rattle.std.proofs.lemmas.Nat.{and_le_l, and_le_r}
use Rattle.marks.specs.Members.{has_zero, has_suc, has_xor}

pub before_irrefl : (x : ℕ) → Before x x → ⊥
before_irrefl x p = both_ways (has x p.at) p.lacks p.held

pub before_trans : (x y z : ℕ) → Before x y → Before y z → Before x z
before_trans x y z p q = by (cases_order p.at q.at)
  where
    by : (p.at ≡ q.at) ⊎ ((p.at < q.at) ⊎ (q.at < p.at)) → Before x z
    by (inl e) = absurd (both_ways (has y p.at) p.lacks (subst (λ i. has y i ≡ true) (sym e) q.held))
    by (inr (inl l)) =
        record { at = p.at; held = p.held; lacks = sym (q.same p.at l) ∙ p.lacks; same = λ j h. p.same j h ∙ q.same j (omega arith) }
    by (inr (inr l)) =
        record { at = q.at; held = p.same q.at l ∙ q.held; lacks = q.lacks; same = λ j h. p.same j (omega arith) ∙ q.same j h }

-- a lowest bit in common is left out, and put back
pub before_half : (x y : ℕ) → x % 2 ≡ y % 2 → Before (x / 2) (y / 2) → Before x y
before_half x y e p =
    record { at = suc p.at; held = has_suc x p.at ∙ p.held; lacks = has_suc y p.at ∙ p.lacks; same = below }
  where
    below : (j : ℕ) → j < suc p.at → has x j ≡ has y j
    below zero h = has_zero x ∙ ap (λ d. nat_eq d 1) e ∙ sym (has_zero y)
    below (suc j) h = has_suc x j ∙ p.same j (omega arith) ∙ sym (has_suc y j)

pub before_odd : (x y : ℕ) → x % 2 ≡ 1 → y % 2 ≡ 0 → Before x y
before_odd x y e f =
    record { at = 0; held = has_zero x ∙ eq-eqb (x % 2) 1 e; lacks = has_zero y ∙ ne_eqb (y % 2) 1 (omega arith); same = λ j h. absurd (omega arith) }

-- one of the two comes first, unless they are the same
pub before_total : (n x y : ℕ) → x < 2 ^ n → y < 2 ^ n → (x ≡ y) ⊎ (Before x y ⊎ Before y x)
before_total zero x y p q = inl (omega arith)
before_total (suc n) x y p q =
    by (cases_order (x % 2) (y % 2)) (before_total n (x / 2) (y / 2) (omega arith) (omega arith))
  where
    by : (x % 2 ≡ y % 2) ⊎ ((x % 2 < y % 2) ⊎ (y % 2 < x % 2)) → (x / 2 ≡ y / 2) ⊎ (Before (x / 2) (y / 2) ⊎ Before (y / 2) (x / 2))
        → (x ≡ y) ⊎ (Before x y ⊎ Before y x)
    by (inl e) (inl f) = inl (omega arith)
    by (inl e) (inr (inl b)) = inr (inl (before_half x y e b))
    by (inl e) (inr (inr b)) = inr (inr (before_half y x (sym e) b))
    by (inr (inl l)) r = inr (inr (before_odd y x (omega arith) (omega arith)))
    by (inr (inr l)) r = inr (inl (before_odd x y (omega arith) (omega arith)))

-- ---- as the code finds it, by the lowest mark on which they differ

pub same_from_xor : (x y : ℕ) → bit_xor x y ≡ 0 → x ≡ y
same_from_xor x y e = omega (arith, xor_add_and x y, and_le_l x y, and_le_r x y)

pub before_from_lowest : (x y t : ℕ) → Lowest (bit_xor x y) t → has x t ≡ true → Before x y
before_from_lowest x y t p h =
    record {
      at = t;
      held = h;
      lacks = grind (arith, has_xor x y t, p.held);
      same = λ j l. grind (arith, has_xor x y j, p.none_below j l);
    }

pub lowest_from_before : (x y : ℕ) (p : Before x y) → Lowest (bit_xor x y) p.at
lowest_from_before x y p =
    record {
      held = has_xor x y p.at ∙ rw (p.held, p.lacks);
      none_below = λ j l. grind (arith, has_xor x y j, p.same j l);
    }

-- where the lowest is t, x comes first exactly if it holds it
pub before_decided : (x y t : ℕ) → Lowest (bit_xor x y) t → Decides (has x t) (Before x y)
before_decided x y t low = (
  before_from_lowest x y t low,
  λ b. subst (λ i. has x i ≡ true) (one_lowest (bit_xor x y) b.at t (lowest_from_before x y b) low) b.held,
)

-- where they do not differ, neither comes first
pub same_undecided : (x y : ℕ) → bit_xor x y ≡ 0 → Decides false (Before x y)
same_undecided x y e = (
  λ t. absurd (both_ways false refl t),
  λ b. absurd (before_irrefl x (subst (Before x) (sym (same_from_xor x y e)) b)),
)
