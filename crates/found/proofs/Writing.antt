-- A text written into memory from a place on, and that two such texts, one after the other, are one.
use Rattle.std.proofs.Common.{◌≡◌, ℕ, ◌+◌, ◌≤◌, List, ◌++◌, length, take, drop, sym, ap, ◌∙◌, append_assoc, arith, length-append, length-drop, length-take-le}
use Rattle.std.proofs.lemmas.List.{take_at}
use Rattle.std.proofs.lemmas.Slice.{drop-append-drop}

-- the text stands from `at` to `end`, and all else is as it was
pub record Wrote (old new : List ℕ) (at end : ℕ) (text : List ℕ) : Type 0 where
  pub ends : end ≡ at + length text
  pub room : end ≤ length old
  pub is : new ≡ take at old ++ (text ++ drop end old)

module _ {old mid : List ℕ} {a b : ℕ} {xs : List ℕ} where
  front : Wrote old mid a b xs → length (take a old ++ xs) ≡ b
  front w = let t = length-take-le a old (omega (arith, w.ends, w.room)) in length-append (take a old) xs ∙ omega (arith, w.ends)

  shape : Wrote old mid a b xs → mid ≡ (take a old ++ xs) ++ drop b old
  shape w = w.is ∙ sym (append_assoc (take a old) xs (drop b old))

  pub same_length : Wrote old mid a b xs → length mid ≡ length old
  same_length w =
      let f = front w in
      let d = length-drop b old in
      let r = w.room in
      ap length (shape w) ∙ length-append (take a old ++ xs) (drop b old) ∙ omega arith

module _ {old mid new : List ℕ} {a b c : ℕ} {xs ys : List ℕ} where
  pub then : Wrote old mid a b xs → Wrote mid new b c ys → Wrote old new a c (xs ++ ys)
  then w v =
      let same = same_length w in
      let we = w.ends in
      let ve = v.ends in
      let vr = v.room in
      let f = front w in
      let left : take b mid ≡ take a old ++ xs = ap (take b) (shape w) ∙ take_at (take a old ++ xs) (drop b old) b f in
      let right : drop c mid ≡ drop c old = ap (drop c) (shape w) ∙ drop-append-drop b old (take a old ++ xs) c (omega arith) f in
      record {
        ends = omega (arith, length-append xs ys);
        room = omega arith;
        is = v.is ∙ (λ i. left i ++ (ys ++ right i)) ∙ simp append_assoc;
      }
