-- Which listed sets fit a node, and how it is narrowed, from closures alone.
use Rattle.std.proofs.Common.{◌≡◌, ℕ, ◌^◌, ◌<◌, ◌≤◌, Bool, true, false, not, ◌&&◌, eqb, ltb, leb, ◌⊎◌, sym, ap, ◌∙◌, subst, inl, inr, ⊎_elim, arith, pow_mono}
use lib.Bits.{or_lt}
use Rattle.std.proofs.lemmas.Nat.{pow_below}
use Rattle.std.proofs.lemmas.Bool.{both_ways, cases_Bool, and_parts, and_from, eq-eqb, eqb-true, leb-true, le-leb, ltb-true, lt-ltb, not_from_true, not_from_false}
use Rattle.marks.specs.Numbers.{most_marks}
use Rattle.marks.specs.Sets.{has, no_marks, both, PartOf, with_bit, picked}
use Rattle.marks.specs.Members.{has_below}
use Rattle.marks.specs.Parts.{part_has}
use Rattle.marks.proofs.Picks.{has_picked, picked_below}
use Rattle.limits.specs.Limits.{AllowsParts}
use Rattle.tables.specs.Holding.{support_of, closure_of}
use Rattle.closed.specs.Families.{Fits, dead}
use Rattle.closed.specs.Closed.{Query, closed, wanted, listed, closure_passes, narrow_in, narrow_out, ListLaws}
use Rattle.closed.proofs.Closing.{closure_below, closure_holds, closure_grows, closure_again, support_falls, support_closure}
use Rattle.closed.proofs.Fitting.{fits_listed, fits_lacks, fits_from, fits_with, fits_with_back, fits_with_has, fits_alive, none_dead, alive_some, in_none_below, narrowed_one, narrowed_defined}
use Rattle.closed.proofs.Ordered.{list_ordered, list_has, list_only}
use Rattle.closed.proofs.Turning.{turns_are}
use Rattle.closed.proofs.WalkSteps.{Narrowed}

module _ (q : Query) where
  abbrev n : ℕ
  n = q.table.width

  abbrev closure : ℕ → ℕ
  closure x = closure_of q.table x

  -- what is listed has no mark above the width
  listed_below : (x : ℕ) → listed q x ≡ true → x < 2 ^ n
  listed_below x e =
      subst (λ y. y < 2 ^ n) (eqb-true (closure x) x (and_parts (closed q.table x) (wanted q x) e).0) (closure_below q.table x)

  pub list_laws : ListLaws q
  list_laws = record {
    ordered = list_ordered (listed q) n;
    only_listed = λ x h. (list_only (listed q) n x h).passes;
    all_listed = λ x e. list_has (listed q) n x (record { below = listed_below x e; passes = e });
    turned = turns_are (listed q) n;
  }

  module _ (small : n ≤ most_marks) (parts : AllowsParts q.allowed) where
    -- what is wanted, each part of it is
    wanted_part : (x y : ℕ) → y < 2 ^ n → PartOf x y → wanted q y ≡ true → wanted q x ≡ true
    wanted_part x y l w e =
        let k = and_parts (leb q.least (support_of q.table y)) (q.allowed y) e in
        and_from (leb q.least (support_of q.table x)) (q.allowed x)
        (le-leb q.least (support_of q.table x) (omega (arith, leb-true q.least (support_of q.table y) k.0, support_falls q.table x y w)))
        (parts x y (let m : 2 ^ n ≤ 2 ^ most_marks = pow_mono small in omega arith) w k.1)

    -- the closure of what is put in is in all that fits
    closure_in_fit : (i o z : ℕ) → Fits (listed q) n i o z → PartOf (closure i) z
    closure_in_fit i o z f =
        subst (PartOf (closure i)) (eqb-true (closure z) z (and_parts (closed q.table z) (wanted q z) f.passes).0)
        (closure_grows q.table i z f.holds)

    -- the test that the code makes
    abbrev pub lives : ℕ → ℕ → Bool
    lives i o = closure_passes q.allowed q.least o (support_of q.table i) (closure i)

    -- where it holds, the closure fits
    pub lives_fits : (i o : ℕ) → i < 2 ^ n → lives i o ≡ true → Fits (listed q) n i o (closure i)
    lives_fits i o l e =
        let k = and_parts (leb q.least (support_of q.table i) && q.allowed (closure i)) (eqb (both (closure i) o) no_marks) e in
        record {
          below = closure_below q.table i;
          passes =
              and_from (closed q.table (closure i)) (wanted q (closure i)) (eq-eqb (closure (closure i)) (closure i) (closure_again q.table i l))
              (ap (λ s. leb q.least s && q.allowed (closure i)) (support_closure q.table i l) ∙ k.0);
          holds = closure_holds q.table i l;
          avoids = eqb-true (both (closure i) o) no_marks k.1;
        }

    -- where anything fits, it holds
    pub fits_lives : (i o z : ℕ) → i < 2 ^ n → Fits (listed q) n i o z → lives i o ≡ true
    fits_lives i o z l f =
        let w = closure_in_fit i o z f in
        let k = wanted_part (closure i) z f.below w (and_parts (closed q.table z) (wanted q z) f.passes).1 in
        let fits = fits_from (listed q) n i o (closure i)
        (record {
          below = closure_below q.table i;
          passes = and_from (closed q.table (closure i)) (wanted q (closure i)) (eq-eqb (closure (closure i)) (closure i) (closure_again q.table i l)) k;
        })
        (λ b h. part_has i (closure i) b (closure_holds q.table i l) h)
        (λ b h. let lacks : has z b ≡ false = fits_lacks (listed q) n i o z b f h in
        let held : has (closure i) b ≡ true → has z b ≡ true = part_has (closure i) z b w in grind arith) in
        and_from (leb q.least (support_of q.table i) && q.allowed (closure i)) (eqb (both (closure i) o) no_marks)
        (ap (λ s. leb q.least s && q.allowed (closure i)) (sym (support_closure q.table i l)) ∙ k)
        (eq-eqb (both (closure i) o) no_marks fits.avoids)

    pub dead_lives : (i o : ℕ) → i < 2 ^ n → dead (listed q) n i o ≡ not (lives i o)
    dead_lives i o l = ⊎_elim alive none (cases_Bool (lives i o))
      where
        alive : lives i o ≡ true → dead (listed q) n i o ≡ not (lives i o)
        alive e = fits_alive (listed q) n i o (closure i) (lives_fits i o l e) ∙ sym (not_from_true (lives i o) e)

        none : lives i o ≡ false → dead (listed q) n i o ≡ not (lives i o)
        none e = none_dead (listed q) n i o (λ z f. both_ways (lives i o) e (fits_lives i o z l f)) ∙ sym (not_from_false (lives i o) e)

    -- the marks up to the width with which nothing fits
    abbrev pub excluded : ℕ → ℕ → ℕ
    excluded i o = picked (λ b. not (lives (with_bit i b) o)) n

    -- the closure, and the marks with which nothing fits, are what a node is narrowed to
    narrowed_closure : (i o : ℕ) → i < 2 ^ n → lives i o ≡ true → Narrowed (listed q) n i o (closure i) (excluded i o)
    narrowed_closure i o l e =
        record {
          keeps = keeps;
          same = same;
          tight =
              record {
                some = closure i;
                fit = keeps (closure i) own;
                with_it = λ b h g. let f = lives_fits (with_bit i b) o (with_below b h) (alive b h g) in (
                  closure (with_bit i b),
                  keeps (closure (with_bit i b)) (fits_with_back (listed q) n i o (closure (with_bit i b)) b f),
                  fits_with_has (listed q) n i o (closure (with_bit i b)) b f,
                );
                without_it = λ b h g. (closure i, keeps (closure i) own, g);
              };
        }
      where
        own : Fits (listed q) n i o (closure i)
        own = lives_fits i o l e

        with_below : (b : ℕ) → b < n → with_bit i b < 2 ^ n
        with_below b h = or_lt n i (2 ^ b) l (pow_below b n h)

        is : (b : ℕ) → has (excluded i o) b ≡ (ltb b n && not (lives (with_bit i b) o))
        is b = has_picked (λ b. not (lives (with_bit i b) o)) n b

        alive : (b : ℕ) → b < n → has (excluded i o) b ≡ false → lives (with_bit i b) o ≡ true
        alive b h g = let k = is b in let t : ltb b n ≡ true = lt-ltb b n h in grind arith

        keeps : (z : ℕ) → Fits (listed q) n i o z → Fits (listed q) n (closure i) (excluded i o) z
        keeps z f =
            fits_from (listed q) n (closure i) (excluded i o) z (fits_listed (listed q) n i o z f)
            (λ b h. part_has (closure i) z b (closure_in_fit i o z f) h) (λ b h. by b h (cases_Bool (has z b)))
          where
            by : (b : ℕ) → has (excluded i o) b ≡ true → (has z b ≡ true) ⊎ (has z b ≡ false) → has z b ≡ false
            by b h (inr g) = g
            by b h (inl g) =
                let k = and_parts (ltb b n) (not (lives (with_bit i b) o)) (sym (is b) ∙ h) in
                let in' : b < n = ltb-true b n k.0 in
                absurd (both_ways (not (lives (with_bit i b) o))
                (not_from_true (lives (with_bit i b) o) (fits_lives (with_bit i b) o z (with_below b in') (fits_with (listed q) n i o z b f g))) k.1)

        same : (z : ℕ) → Fits (listed q) n (closure i) (excluded i o) z → Fits (listed q) n i o z
        same z f =
            fits_from (listed q) n i o z (fits_listed (listed q) n (closure i) (excluded i o) z f)
            (λ b h. part_has (closure i) z b f.holds (part_has i (closure i) b (closure_holds q.table i l) h)) (λ b h. by b h (cases_Bool (has z b)))
          where
            by : (b : ℕ) → has o b ≡ true → (has z b ≡ true) ⊎ (has z b ≡ false) → has z b ≡ false
            by b h (inr g) = g
            by b h (inl g) =
                let in' : b < n = has_below n z b f.below g in
                let none : lives (with_bit i b) o ≡ false =
                ⊎_elim (λ t. let y = lives_fits (with_bit i b) o (with_below b in') t in
                absurd (both_ways (has (closure (with_bit i b)) b) (fits_lacks (listed q) n (with_bit i b) o (closure (with_bit i b)) b y h)
                (fits_with_has (listed q) n i o (closure (with_bit i b)) b y)))
                (λ t. t) (cases_Bool (lives (with_bit i b) o)) in
                let out : has (excluded i o) b ≡ true =
                is b ∙ and_from (ltb b n) (not (lives (with_bit i b) o)) (lt-ltb b n in') (not_from_false (lives (with_bit i b) o) none) in
                absurd (both_ways (has z b) (fits_lacks (listed q) n (closure i) (excluded i o) z b f out) g)

    -- so they are the marks of all that fit, and of none
    pub narrow_by_closures : (i o : ℕ) → i < 2 ^ n → lives i o ≡ true → (closure i ≡ narrow_in q i o) × (excluded i o ≡ narrow_out q i o)
    unfolding narrow_in narrow_out
    narrow_by_closures i o l e =
        narrowed_one (listed q) n i o _ _ _ _ (narrowed_closure i o l e) (narrowed_defined (listed q) n i o (closure i) (lives_fits i o l e))
        (picked_below (λ b. not (lives (with_bit i b) o)) n) (in_none_below n _)

-- what the definitions give is exact
pub narrow_exact : (q : Query) (i o : ℕ) → dead (listed q) q.table.width i o ≡ false
    → Narrowed (listed q) q.table.width i o (narrow_in q i o) (narrow_out q i o)
unfolding narrow_in narrow_out
narrow_exact q i o e = let x = alive_some (listed q) q.table.width i o e in narrowed_defined (listed q) q.table.width i o x.0 x.1

pub narrow_out_below : (q : Query) (i o : ℕ) → narrow_out q i o < 2 ^ q.table.width
unfolding narrow_out
narrow_out_below q i o = in_none_below q.table.width _
