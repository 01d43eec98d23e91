-- Refusals that are due.
use Rattle.std.proofs.Common.{◌≡◌, ℕ, Bool, true, false, not, leb, is_err, IsOk, Some, None, Ok, Err, Option, Result, sym, refl, ap, arith}
use Rattle.std.proofs.lemmas.Bool.{le-leb, and_from}
use Rattle.marks.specs.declared.refusal.Reason.TheVariants.{Range}
use Rattle.marks.specs.declared.refusal.Refusal.{Refusal}
use Rattle.marks.specs.Numbers.{InRange}
use Rattle.marks.specs.Refusals.{Answers, due_if, unplaced, range_refusal}

-- not both: none is due, and one is
pub none_due : (due : Option Refusal) (refusal : Refusal) → due ≡ None → due ≡ Some refusal → ⊥
none_due due refusal none some = let both : ◌≡◌ {A = ℕ} 0 1 = cc in omega arith

-- of a number that is in range, none is
pub range_accepted : (most n : ℕ) → InRange most n → range_refusal most n ≡ None
range_accepted most n h =
    ap (λ b. due_if (not b) (unplaced Range)) (and_from (leb 1 n) (leb n most) (le-leb 1 n h.0) (le-leb n most h.1))

pub range_due : (most n : ℕ) (refusal : Refusal) → range_refusal most n ≡ Some refusal → InRange most n → ⊥
range_due most n refusal some h = none_due (range_refusal most n) refusal (range_accepted most n h) some

-- a call that refuses by one test refuses exactly where it holds
pub refused_if : {A : Type 0} (test : Bool) (refusal : Refusal) (P : A → Type 0) (r : Result A Refusal) → Answers (due_if test refusal) P r → is_err r ≡ test
refused_if true refusal P (Ok x) h = absurd (none_due None refusal refl (sym h.0))
refused_if true refusal P (Err e) h = refl
refused_if false refusal P (Ok x) h = refl
refused_if false refusal P (Err e) h = absurd (none_due None e refl h)

-- a call that refuses nothing answers a value
pub not_due : {A : Type 0} (due : Option Refusal) (P : A → Type 0) (r : Result A Refusal) → due ≡ None → Answers due P r → IsOk r
not_due due P (Ok x) none h = refl
not_due due P (Err e) none h = absurd (none_due due e none h)
