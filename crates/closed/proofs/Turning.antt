-- The turns of a set, as they are defined, are its marks at which some set of the family turns aside.
use Rattle.std.proofs.Common.{◌≡◌, ℕ, ◌^◌, ◌<◌, Bool, true, not, ◌&&◌, eqb, ltb, sym, ap, ◌∙◌, arith}
use Rattle.std.specs.List.{list_any}
use Rattle.std.proofs.lemmas.Bool.{and_parts, and_from, lt-ltb, eqb-true, eq-eqb, not-true, not_from_false}
use Rattle.std.proofs.lemmas.Bool.Decides.{nat_tests}
use Rattle.marks.specs.Sets.{has}
use Rattle.marks.specs.Members.{has_below}
use Rattle.marks.specs.Parts.{same_members}
use Rattle.marks.proofs.Picks.{has_picked, picked_below}
use Rattle.closed.specs.Families.{Agree, Turn, Turns, list_of, part_in, lacks_first, turns}
use Rattle.closed.specs.Walks.{At}
use Rattle.closed.proofs.Ordered.{any_some, some_any, list_has, list_only}
use Rattle.closed.proofs.Walking.{turns_one}
use Rattle.closed.proofs.Stepping.{has_part_in, agree_part_in, at_listed}

-- agreement below b, as an equation
pub part_from_agree : (b x y : ℕ) → Agree b x y → part_in x b ≡ part_in y b
part_from_agree b x y a =
    same_members (part_in x b) (part_in y b)
    (λ j. let s : j < b → has x j ≡ has y j = a j in grind (arith, has_part_in x b j, has_part_in y b j, nat_tests))

pub agree_from_part : (b x y : ℕ) → part_in x b ≡ part_in y b → Agree b x y
agree_from_part b x y e j l = sym (agree_part_in b x j l) ∙ ap (λ s. has s j) e ∙ agree_part_in b y j l

module _ (p : ℕ → Bool) (n x : ℕ) where
  any_turn : (b : ℕ) → list_any (lacks_first x b) (list_of p n) ≡ true → Turn p n x b
  any_turn b e =
      let m = any_some (lacks_first x b) (list_of p n) e in
      let k = and_parts (eqb (part_in m.0 b) (part_in x b)) (not (has m.0 b)) m.2 in
      record {
        to = m.0;
        listed = list_only p n m.0 m.1;
        lacks = not-true (has m.0 b) k.1;
        same = agree_from_part b m.0 x (eqb-true (part_in m.0 b) (part_in x b) k.0);
      }

  turn_any : (b : ℕ) → Turn p n x b → list_any (lacks_first x b) (list_of p n) ≡ true
  turn_any b t =
      some_any (lacks_first x b) (list_of p n) t.to (list_has p n t.to t.listed)
      (and_from (eqb (part_in t.to b) (part_in x b)) (not (has t.to b))
      (eq-eqb (part_in t.to b) (part_in x b) (part_from_agree b t.to x t.same)) (not_from_false (has t.to b) t.lacks))

  pub has_turns : (b : ℕ) → has (turns p n x) b ≡ (ltb b n && (has x b && list_any (lacks_first x b) (list_of p n)))
  unfolding turns
  has_turns b = has_picked (λ c. has x c && list_any (lacks_first x c) (list_of p n)) n b

  pub turns_below : turns p n x < 2 ^ n
  unfolding turns
  turns_below = picked_below (λ c. has x c && list_any (lacks_first x c) (list_of p n)) n

  pub turns_are : x < 2 ^ n → Turns p n x (turns p n x)
  turns_are h =
      record {
        within = λ b e. (parts b e).0;
        turn = λ b e. any_turn b (parts b e).1;
        only = λ b e t. has_turns b
            ∙ and_from (ltb b n) (has x b && list_any (lacks_first x b) (list_of p n)) (lt-ltb b n (has_below n x b h e))
            (and_from (has x b) (list_any (lacks_first x b) (list_of p n)) e (turn_any b t));
      }
    where
      parts : (b : ℕ) → has (turns p n x) b ≡ true → (has x b ≡ true) × (list_any (lacks_first x b) (list_of p n) ≡ true)
      parts b e =
          and_parts (has x b) (list_any (lacks_first x b) (list_of p n))
          (and_parts (ltb b n) (has x b && list_any (lacks_first x b) (list_of p n)) (sym (has_turns b) ∙ e)).1

-- the turns that a walk keeps are these
pub at_turns : (p : ℕ → Bool) (n k x t c : ℕ) → At p n k x t c → t ≡ turns p n x
at_turns p n k x t c a = turns_one p n x t (turns p n x) a.turns (turns_are p n x (at_listed p n k x t c a).below)
