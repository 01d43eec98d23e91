-- An array that a function of the index made.
use Rattle.std.proofs.Common.{◌≡◌, ℕ, zero, suc, ◌+◌, ◌<◌, ◌≤◌, List, get_or, sym, subst, inl, inr, arith}
use Rattle.std.specs.Array.{IsFromFnResultFrom}
use Rattle.std.specs.Fn.{Called}
use Rattle.std.proofs.lemmas.Bool.{cases_eq}
use denote.Param.Members.{Mut}

-- what each call gives, which leaves the function as it was, each element has
module _ {F A : Type 0} (g : Mut F (ℕ × Unit {0}) A) (f : F) (P : ℕ → A → Type 0) (call : (i : ℕ) (x : A) (q : F) → Called g f (i, tt) x q → P i x × (q ≡ f)) where
  pub made : (xs : List A) (i n : ℕ) → IsFromFnResultFrom g f xs i n → (k : ℕ) → i ≤ k → k < i + n → (d : A) → P k (get_or xs k d)
  made xs i zero calls k low high d = absurd (omega arith)
  made xs i (suc n) calls k low high d =
      let now = call i calls.1 calls.0 calls.3 in
      elim (cases_eq i k) [
        | inl e ↦ subst (λ j. P j (get_or xs j d)) e (subst (P i) (sym (calls.2.1 d)) now.0)
        | inr other ↦ made xs (i + 1) n (subst (λ q. IsFromFnResultFrom g q xs (i + 1) n) now.1 calls.4) k (omega arith) (omega arith) d
      ]
