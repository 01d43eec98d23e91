-- What fits a node, and a node narrowed to what the sets that fit it have in common.
use Rattle.std.proofs.Common.{◌≡◌, ℕ, ◌^◌, ◌<◌, Bool, true, false, not, ◌||◌, eqb, ltb, ◌⊎◌, List, sym, refl, ap, ◌∙◌, subst, inl, inr, ⊎_elim, arith}
use lib.Bits.{bit_and}
use Rattle.std.specs.List.{ContainsAt as Has, list_any}
use Rattle.std.proofs.lemmas.Bool.{both_ways, cases_lt, cases_Bool, lt-ltb, eqb-true, eq-eqb, and_parts, and_from, or_right, or_cases, not-true, not-false, not_from_true, not_from_false}
use Rattle.marks.specs.Sets.{has, no_marks, both, part_of, only, with_bit, picked}
use Rattle.marks.proofs.Algebra.{disjoint_from_has}
use Rattle.marks.specs.Members.{has_and, has_none, has_past, has_below}
use Rattle.marks.specs.Parts.{part_fact, part_test, part_has, part_from_has, part_antisym, part_le, part_or_left, has_with}
use Rattle.marks.proofs.Picks.{has_picked, picked_below}
use Rattle.closed.specs.Families.{Listed, Fits, list_of, fits_node, fitting, dead, in_every, in_none}
use Rattle.closed.specs.Walks.{Exact}
use Rattle.closed.proofs.Ordered.{any_some, some_any, none_any, any_none, has_filter, has_from_filter, list_has, list_only}
use Rattle.closed.proofs.WalkSteps.{Narrowed}

-- ---- a set with one mark more

pub with_here : (s b : ℕ) → has (with_bit s b) b ≡ true
with_here s b = has_with s b b ∙ or_right (has s b) (eqb b b) (eq-eqb b b refl)

pub with_cases : (s b j : ℕ) → has (with_bit s b) j ≡ true → (has s j ≡ true) ⊎ (b ≡ j)
with_cases s b j h = ⊎_elim (λ k. inl k) (λ k. inr (eqb-true b j k)) (or_cases (has s j) (eqb b j) (sym (has_with s b j) ∙ h))

-- ---- the marks that are in every set of a list, and those that are in none

-- the mark at b is picked, or it is not
picked_true : (test : ℕ → Bool) (n b : ℕ) → b < n → test b ≡ true → has (picked test n) b ≡ true
picked_true test n b l e = has_picked test n b ∙ and_from (ltb b n) (test b) (lt-ltb b n l) e

picked_passes : (test : ℕ → Bool) (n b : ℕ) → has (picked test n) b ≡ true → test b ≡ true
picked_passes test n b h = (and_parts (ltb b n) (test b) (sym (has_picked test n b) ∙ h)).1

picked_false : (test : ℕ → Bool) (n b : ℕ) → b < n → has (picked test n) b ≡ false → test b ≡ false
picked_false test n b l h =
    ⊎_elim (λ e. absurd (both_ways (has (picked test n) b) h (picked_true test n b l e))) (λ e. e) (cases_Bool (test b))

module _ (n : ℕ) (xs : List ℕ) where
  pub in_every_below : in_every n xs < 2 ^ n
  in_every_below = picked_below (λ b. not (list_any (λ x. not (has x b)) xs)) n

  pub in_none_below : in_none n xs < 2 ^ n
  in_none_below = picked_below (λ b. not (list_any (λ x. has x b) xs)) n

  pub in_every_has : (b x : ℕ) → has (in_every n xs) b ≡ true → Has xs x → has x b ≡ true
  in_every_has b x h m =
      let none : list_any (λ y. not (has y b)) xs ≡ false =
      not-true (list_any (λ y. not (has y b)) xs) (picked_passes (λ c. not (list_any (λ y. not (has y c)) xs)) n b h) in
      not-false (has x b) (none_any (λ y. not (has y b)) xs x none m)

  pub in_every_from : (b : ℕ) → b < n → ((x : ℕ) → Has xs x → has x b ≡ true) → has (in_every n xs) b ≡ true
  in_every_from b l f =
      picked_true (λ c. not (list_any (λ y. not (has y c)) xs)) n b l
      (not_from_false (list_any (λ y. not (has y b)) xs) (any_none (λ y. not (has y b)) xs (λ x m. not_from_true (has x b) (f x m))))

  pub in_every_missing : (b : ℕ) → b < n → has (in_every n xs) b ≡ false → (x : ℕ) × Has xs x × (has x b ≡ false)
  in_every_missing b l h =
      let some : list_any (λ y. not (has y b)) xs ≡ true =
      not-false (list_any (λ y. not (has y b)) xs) (picked_false (λ c. not (list_any (λ y. not (has y c)) xs)) n b l h) in
      let m = any_some (λ y. not (has y b)) xs some in
      (m.0, m.1, not-true (has m.0 b) m.2)

  pub in_none_lacks : (b x : ℕ) → has (in_none n xs) b ≡ true → Has xs x → has x b ≡ false
  in_none_lacks b x h m =
      none_any (λ y. has y b) xs x (not-true (list_any (λ y. has y b) xs) (picked_passes (λ c. not (list_any (λ y. has y c) xs)) n b h)) m

  pub in_none_from : (b : ℕ) → b < n → ((x : ℕ) → Has xs x → has x b ≡ false) → has (in_none n xs) b ≡ true
  in_none_from b l f =
      picked_true (λ c. not (list_any (λ y. has y c) xs)) n b l (not_from_false (list_any (λ y. has y b) xs) (any_none (λ y. has y b) xs f))

  pub in_none_missing : (b : ℕ) → b < n → has (in_none n xs) b ≡ false → (x : ℕ) × Has xs x × (has x b ≡ true)
  in_none_missing b l h =
      any_some (λ y. has y b) xs (not-false (list_any (λ y. has y b) xs) (picked_false (λ c. not (list_any (λ y. has y c) xs)) n b l h))

module _ (p : ℕ → Bool) (n : ℕ) where
  -- ---- what fits

  pub fits_listed : (i o x : ℕ) → Fits p n i o x → Listed p n x
  fits_listed i o x f = record { below = f.below; passes = f.passes }

  pub fits_has : (i o x b : ℕ) → Fits p n i o x → has i b ≡ true → has x b ≡ true
  fits_has i o x b f h = part_has i x b f.holds h

  pub fits_lacks : (i o x b : ℕ) → Fits p n i o x → has o b ≡ true → has x b ≡ false
  fits_lacks i o x b f h =
      let e : has (bit_and x o) b ≡ has 0 b = ap (λ s. has s b) f.avoids in
      grind (arith, has_and x o b, has_none b)

  -- a mark that is put in or put out: the node says whether x has it
  pub fits_decided : (i o x b : ℕ) → Fits p n i o x → (has i b || has o b) ≡ true → has x b ≡ has i b
  fits_decided i o x b f d =
      let u : has i b ≡ true → has x b ≡ true = fits_has i o x b f in
      let v : has o b ≡ true → has x b ≡ false = fits_lacks i o x b f in
      grind arith

  pub fits_from : (i o x : ℕ) → Listed p n x → ((b : ℕ) → has i b ≡ true → has x b ≡ true) → ((b : ℕ) → has o b ≡ true → has x b ≡ false)
      → Fits p n i o x
  fits_from i o x l f g =
      record {
        below = l.below;
        passes = l.passes;
        holds = part_from_has i x f;
        avoids = disjoint_from_has x o (λ b e. ⊎_elim (λ h. absurd (both_ways (has x b) (g b h) e)) (λ h. h) (cases_Bool (has o b)));
      }

  -- the marks that are put in are below n, where something fits
  pub fits_below : (i o x : ℕ) → Fits p n i o x → i < 2 ^ n
  fits_below i o x f = omega (arith, part_le i x f.holds, f.below)

  pub fits_in_below : (i o x b : ℕ) → Fits p n i o x → has i b ≡ true → b < n
  fits_in_below i o x b f h = has_below n i b (fits_below i o x f) h

  -- nothing is put in and nothing put out: every set of the family fits
  pub fits_root : (x : ℕ) → Listed p n x → Fits p n no_marks no_marks x
  fits_root x l =
      fits_from 0 0 x l (λ b e. absurd (both_ways (has 0 b) (has_none b) e)) (λ b e. absurd (both_ways (has 0 b) (has_none b) e))

  -- one mark more is put in
  pub fits_with : (i o x b : ℕ) → Fits p n i o x → has x b ≡ true → Fits p n (with_bit i b) o x
  fits_with i o x b f h = fits_from (with_bit i b) o x (fits_listed i o x f) at (λ j. fits_lacks i o x j f)
    where
      at : (j : ℕ) → has (with_bit i b) j ≡ true → has x j ≡ true
      at j e = ⊎_elim (λ k. fits_has i o x j f k) (λ k. subst (λ c. has x c ≡ true) k h) (with_cases i b j e)

  pub fits_with_back : (i o x b : ℕ) → Fits p n (with_bit i b) o x → Fits p n i o x
  fits_with_back i o x b f =
      fits_from i o x (fits_listed (with_bit i b) o x f)
      (λ j e. fits_has (with_bit i b) o x j f (part_has i (with_bit i b) j (part_or_left i (only b)) e))
      (λ j. fits_lacks (with_bit i b) o x j f)

  pub fits_with_has : (i o x b : ℕ) → Fits p n (with_bit i b) o x → has x b ≡ true
  fits_with_has i o x b f = fits_has (with_bit i b) o x b f (with_here i b)

  -- one mark more is put out
  pub fits_without : (i o x b : ℕ) → Fits p n i o x → has x b ≡ false → Fits p n i (with_bit o b) x
  fits_without i o x b f h = fits_from i (with_bit o b) x (fits_listed i o x f) (λ j. fits_has i o x j f) at
    where
      at : (j : ℕ) → has (with_bit o b) j ≡ true → has x j ≡ false
      at j e = ⊎_elim (λ k. fits_lacks i o x j f k) (λ k. subst (λ c. has x c ≡ false) k h) (with_cases o b j e)

  pub fits_without_back : (i o x b : ℕ) → Fits p n i (with_bit o b) x → Fits p n i o x
  fits_without_back i o x b f =
      fits_from i o x (fits_listed i (with_bit o b) x f) (λ j. fits_has i (with_bit o b) x j f)
      (λ j e. fits_lacks i (with_bit o b) x j f (part_has o (with_bit o b) j (part_or_left o (only b)) e))

  pub fits_without_lacks : (i o x b : ℕ) → Fits p n i (with_bit o b) x → has x b ≡ false
  fits_without_lacks i o x b f = fits_lacks i (with_bit o b) x b f (with_here o b)

  -- ---- the test of a node, the list of what fits, and a dead node

  pub fits_from_node : (i o x : ℕ) → Listed p n x → fits_node i o x ≡ true → Fits p n i o x
  fits_from_node i o x l e =
      let k = and_parts (part_of i x) (eqb (both x o) no_marks) e in
      record { below = l.below; passes = l.passes; holds = part_fact i x k.0; avoids = eqb-true (both x o) no_marks k.1 }

  pub node_from_fits : (i o x : ℕ) → Fits p n i o x → fits_node i o x ≡ true
  node_from_fits i o x f =
      and_from (part_of i x) (eqb (both x o) no_marks) (part_test i x f.holds) (eq-eqb (both x o) no_marks f.avoids)

  pub fits_from_fitting : (i o x : ℕ) → Has (fitting p n i o) x → Fits p n i o x
  fits_from_fitting i o x m =
      let k = has_from_filter (fits_node i o) (list_of p n) x m in
      fits_from_node i o x (list_only p n x k.0) k.1

  pub fitting_from_fits : (i o x : ℕ) → Fits p n i o x → Has (fitting p n i o) x
  fitting_from_fits i o x f =
      has_filter (fits_node i o) (list_of p n) x (list_has p n x (fits_listed i o x f)) (node_from_fits i o x f)

  pub fits_alive : (i o x : ℕ) → Fits p n i o x → dead p n i o ≡ false
  fits_alive i o x f =
      not_from_true (list_any (fits_node i o) (list_of p n))
      (some_any (fits_node i o) (list_of p n) x (list_has p n x (fits_listed i o x f)) (node_from_fits i o x f))

  pub dead_none : (i o x : ℕ) → dead p n i o ≡ true → Fits p n i o x → ⊥
  dead_none i o x e f = both_ways (dead p n i o) (fits_alive i o x f) e

  pub alive_some : (i o : ℕ) → dead p n i o ≡ false → (x : ℕ) × Fits p n i o x
  alive_some i o e =
      let m = any_some (fits_node i o) (list_of p n) (not-false (list_any (fits_node i o) (list_of p n)) e) in
      (m.0, fits_from_node i o m.0 (list_only p n m.0 m.1) m.2)

  pub none_dead : (i o : ℕ) → ((x : ℕ) → Fits p n i o x → ⊥) → dead p n i o ≡ true
  none_dead i o never =
      ⊎_elim (λ e. e) (λ e. let x = alive_some i o e in absurd (never x.0 x.1)) (cases_Bool (dead p n i o))

  -- ---- what a node is narrowed to

  -- what every set that fits has, the new marks in have
  pub narrowed_all_in : (i o u v b : ℕ) → Narrowed p n i o u v → ((z : ℕ) → Fits p n i o z → has z b ≡ true) → has u b ≡ true
  narrowed_all_in i o u v b w g = by (cases_Bool (has u b))
    where
      one : Fits p n i o w.tight.some
      one = w.same w.tight.some w.tight.fit

      by : (has u b ≡ true) ⊎ (has u b ≡ false) → has u b ≡ true
      by (inl e) = e
      by (inr e) =
          let x = w.tight.without_it b (has_below n w.tight.some b one.below (g w.tight.some one)) e in
          absurd (both_ways (has x.0 b) x.2 (g x.0 (w.same x.0 x.1)))

  -- what none has, the new marks out have
  pub narrowed_none_out : (i o u v b : ℕ) → Narrowed p n i o u v → b < n → ((z : ℕ) → Fits p n i o z → has z b ≡ false) → has v b ≡ true
  narrowed_none_out i o u v b w l g = by (cases_Bool (has v b))
    where
      by : (has v b ≡ true) ⊎ (has v b ≡ false) → has v b ≡ true
      by (inl e) = e
      by (inr e) =
          let x = w.tight.with_it b l e in
          absurd (both_ways (has x.0 b) (g x.0 (w.same x.0 x.1)) x.2)

  pub narrowed_exact : (i o u v : ℕ) → v < 2 ^ n → Narrowed p n i o u v → Exact p n i o u v
  narrowed_exact i o u v l w =
      record {
        in_all = λ b h z f. fits_has u v z b (w.keeps z f) h;
        all_in = λ b g. narrowed_all_in i o u v b w g;
        out_below = λ b h. has_below n v b l h;
        out_none = λ b h z f. fits_lacks u v z b (w.keeps z f) h;
        none_out = λ b h g. narrowed_none_out i o u v b w h g;
      }

  -- it is narrowed to one node only
  pub narrowed_one : (i o u v u' v' : ℕ) → Narrowed p n i o u v → Narrowed p n i o u' v' → v < 2 ^ n → v' < 2 ^ n → (u ≡ u') × (v ≡ v')
  narrowed_one i o u v u' v' w w' l l' = (
    part_antisym u u' (part_from_has u u' (λ b h. e'.all_in b (e.in_all b h))) (part_from_has u' u (λ b h. e.all_in b (e'.in_all b h))),
    part_antisym v v' (part_from_has v v' (λ b h. e'.none_out b (e.out_below b h) (e.out_none b h)))
        (part_from_has v' v (λ b h. e.none_out b (e'.out_below b h) (e'.out_none b h))),
  )
    where
      e : Exact p n i o u v
      e = narrowed_exact i o u v l w

      e' : Exact p n i o u' v'
      e' = narrowed_exact i o u' v' l' w'

  -- where some set fits, it is narrowed to what all that fit have, and what none has
  pub narrowed_defined : (i o z : ℕ) → Fits p n i o z → Narrowed p n i o (in_every n (fitting p n i o)) (in_none n (fitting p n i o))
  narrowed_defined i o z f =
      record {
        keeps = keeps;
        same = same;
        tight =
            record {
              some = z;
              fit = keeps z f;
              with_it = λ b l h. let m = in_none_missing n xs b l h in (m.0, keeps m.0 (fits_from_fitting i o m.0 m.1), m.2);
              without_it = λ b l h. let m = in_every_missing n xs b l h in (m.0, keeps m.0 (fits_from_fitting i o m.0 m.1), m.2);
            };
      }
    where
      xs : List ℕ
      xs = fitting p n i o

      u : ℕ
      u = in_every n xs

      v : ℕ
      v = in_none n xs

      keeps : (x : ℕ) → Fits p n i o x → Fits p n u v x
      keeps x g =
          fits_from u v x (fits_listed i o x g) (λ b h. in_every_has n xs b x h (fitting_from_fits i o x g))
          (λ b h. in_none_lacks n xs b x h (fitting_from_fits i o x g))

      same : (x : ℕ) → Fits p n u v x → Fits p n i o x
      same x g =
          fits_from i o x (fits_listed u v x g)
          (λ b h. fits_has u v x b g (in_every_from n xs b (fits_in_below i o z b f h) (λ y m. fits_has i o y b (fits_from_fitting i o y m) h)))
          (λ b h. ⊎_elim (λ l. fits_lacks u v x b g (in_none_from n xs b l (λ y m. fits_lacks i o y b (fits_from_fitting i o y m) h)))
          (λ l. has_past n x b g.below l) (cases_lt b n))
