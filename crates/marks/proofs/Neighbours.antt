-- The elements of a list, each beside the next, as the check of neighbours goes over them.
use Rattle.std.proofs.Common.{Iter, ◌≡◌, ℕ, ◌+◌, ◌-◌, ◌<◌, ◌≤◌, List, [], ◌∷◌, length, get_or, drop, Some, None, sym, ap, ◌∙◌, subst, arith, length-drop}
use Rattle.std.specs.List.{zip, AllWithin, HoldsAt}
use Rattle.std.specs.declared.iter.Zip.{Zip}
use Rattle.std.specs.declared.iter.Skip.{Skip}
use Rattle.std.specs.Iterator.Adapters.{skip_source, skip_count, skip_steps, zip_first, zip_second}
use Rattle.std.specs.Slice.Iter.{iter_rest}
use Rattle.std.proofs.iter.Yields.{fronts}
use Rattle.std.proofs.lemmas.Iterator.{YieldsList, zips, YieldsList-from_slice, YieldsList-from_zip}
use Rattle.std.proofs.lemmas.Iterator.Adapters.{YieldsList-from_skip}
use Rattle.std.proofs.lemmas.List.{get_or-drop}
use Rattle.std.proofs.lemmas.Slice.Zip.{length-zip, get_or-zip}
use Rattle.marks.specs.Orders.{After, Rising, FirstUnordered}

module _ {A : Type 0} (before : A → A → Type 0) where
  -- each element but the last, beside the next
  abbrev pub pairs : List A → List (A × A)
  pairs xs = zip xs (drop 1 xs)

  -- that is what a list beside itself without its first gives
  pub pairs_yielded : (xs : List A) {s : Zip (Iter A) (Skip (Iter A))} → iter_rest (zip_first s) ≡ xs → iter_rest (skip_source (zip_second s)) ≡ xs → skip_count (zip_second s) ≡ 1
      → YieldsList {B = A × A} (zips fronts (skip_steps fronts)) (λ p. (p.0.now, p.1.now)) s (pairs xs)
  pairs_yielded xs {s} e f one = YieldsList-from_zip (YieldsList-from_slice {s = zip_first s} xs e) (YieldsList-from_skip {steps = fronts} {s = zip_second s} 1 (YieldsList-from_slice {s = skip_source (zip_second s)} xs f) one)

  count_pairs : (xs : List A) → length (pairs xs) ≡ length xs - 1
  count_pairs xs = omega (arith, length-zip xs (drop 1 xs), length-drop 1 xs)

  pair_at : (xs : List A) (k : ℕ) (d : A) → k + 1 < length xs → get_or (pairs xs) k (d, d) ≡ (get_or xs k d, get_or xs (k + 1) d)
  pair_at xs k d h =
      let e : 1 + k ≡ k + 1 = omega arith in
      get_or-zip xs (drop 1 xs) k (d, d) (omega arith) (omega (arith, length-drop 1 xs))
      ∙ ap (λ (y : A). (get_or xs k d, y)) (get_or-drop 1 xs k d ∙ ap (λ (i : ℕ). get_or xs i d) e)

  abbrev Ordered : A × A → Type 0
  Ordered p = before p.0 p.1

  -- where the first n pairs are ordered, the list rises that far
  rising_from : (xs : List A) (n : ℕ) → n ≤ length xs - 1 → AllWithin Ordered (pairs xs) 0 n → Rising before xs (n + 1)
  rising_from xs n h all k some under d =
      let e : k - 1 + 1 ≡ k = omega arith in
      subst (λ (i : ℕ). before (get_or xs (k - 1) d) (get_or xs i d)) e
      (subst Ordered (pair_at xs (k - 1) d (omega arith)) (all (k - 1) (d, d) (omega arith) (omega arith)))

  -- where a pair is not, neither is what stands there
  not_after : (xs : List A) (i : ℕ) → i + 1 < length xs → HoldsAt (λ p. Ordered p → ⊥) (pairs xs) i → After before xs (i + 1) → ⊥
  not_after [] i h turned after = absurd (omega arith)
  not_after (x ∷ xs) i h turned after =
      let e : i + 1 - 1 ≡ i = omega arith in
      turned (x, x) (subst Ordered (sym (pair_at (x ∷ xs) i x h)) (subst (λ (j : ℕ). before (get_or (x ∷ xs) j x) (get_or (x ∷ xs) (i + 1) x)) e (after x)))

  pub unordered_some : (xs : List A) (i : ℕ) → (i < length (pairs xs)) × HoldsAt (λ p. Ordered p → ⊥) (pairs xs) i × AllWithin Ordered (pairs xs) 0 i
      → FirstUnordered before xs (Some (i + 2))
  unordered_some xs i h =
      let e : i + 2 - 1 ≡ i + 1 = omega arith in
      let inside : i < length xs - 1 = omega (arith, h.0, count_pairs xs) in (
        omega arith,
        omega arith,
        subst (Rising before xs) (sym e) (rising_from xs i (omega arith) h.2),
        λ after. not_after xs i (omega arith) h.1 (subst (After before xs) e after),
      )

  pub unordered_none : (xs : List A) → AllWithin Ordered (pairs xs) 0 (length (pairs xs)) → FirstUnordered before xs None
  unordered_none xs all k some under =
      rising_from xs (length (pairs xs)) (omega (arith, count_pairs xs)) all k some (omega (arith, count_pairs xs))
