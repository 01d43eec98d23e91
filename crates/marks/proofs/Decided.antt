-- The list order, as the test decides it.
use Rattle.std.proofs.Common.{◌≡◌, ℕ, Bool, false, Some, None, Option, sym, ◌∙◌, subst, Decides, MatchOption, bit_xor}
use Rattle.std.proofs.lemmas.Bool.Decides.{Decides-at}
use Rattle.marks.specs.Kinds.{Mark}
use Rattle.marks.specs.Numbers.{bit_of}
use Rattle.marks.specs.Orders.{Before}
use Rattle.marks.specs.Sets.{has, Lowest}
use Rattle.marks.specs.SetOrder.{before_decided, same_undecided}

module _ (x y : ℕ) where
  -- by the lowest mark on which the sets differ, if there is one
  pub decided : (apart : ℕ) → apart ≡ bit_xor x y → (lowest : Option Mark) → MatchOption lowest (apart ≡ 0) (λ mark. Lowest apart (bit_of mark.number))
      → (r : Bool) (P : Mark → Type 0) → MatchOption lowest (r ≡ false) P → ((mark : Mark) → P mark → r ≡ has x (bit_of mark.number)) → Decides r (Before x y)
  decided apart e None same r P f tells = Decides-at r false f (same_undecided x y (sym e ∙ same))
  decided apart e (Some mark) low r P f tells =
      Decides-at r (has x (bit_of mark.number)) (tells mark f) (before_decided x y (bit_of mark.number) (subst (λ (s : ℕ). Lowest s (bit_of mark.number)) e low))
