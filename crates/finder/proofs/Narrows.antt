-- What narrowing answers.
use Rattle.std.proofs.Common.{◌≡◌, ℕ, ◌^◌, ◌<◌, ◌≤◌, true, false, Bool, not, ◌&&◌, ◌==◌, eqb, [], ◌∷◌, get_or, Some, None, Ok, Err, Option, Result, IfOk, refl, sym, ap, ◌∙◌, subst, arith}
use lib.Bits.{or_lt}
use Rattle.std.specs.Option.{option_map_or}
use Rattle.std.proofs.lemmas.Nat.{pow_below}
use Rattle.std.proofs.lemmas.Bool.{both_ways, eqb-true, lt-ltb, or_right, eq-eqb, or_parts, not-false, not_from_true, not_from_false}
use Rattle.marks.specs.declared.refusal.Reason.TheVariants.{Clash, DeadEnd}
use Rattle.marks.specs.Numbers.{most_marks}
use Rattle.marks.specs.declared.refusal.Refusal.{Refusal}
use Rattle.marks.specs.Refusals.{number_of, unplaced, due_if, first_due, Answers}
use Rattle.marks.proofs.Due.{none_due}
use Rattle.marks.specs.Sets.{has, no_marks, either, both, with_bit, picked}
use Rattle.marks.specs.Members.{has_and, has_or, has_none, has_all_below}
use Rattle.marks.specs.Parts.{part_fact, part_has, has_with, part_refl, part_antisym, part_or_left, with_part, below_from_part}
use Rattle.marks.proofs.Picks.{picked_same}
use Rattle.limits.specs.Limits.{AllowsParts}
use Rattle.tables.specs.declared.holding.Holding.{Holding}
use Rattle.tables.specs.Holding.{support_of, closure_of, holding_of, unheld}
use Rattle.closed.specs.Families.{dead}
use Rattle.closed.specs.Walks.{Exact}
use Rattle.closed.specs.Closed.{Query, listed, clash, above, Clashing, Refuses, narrow_refusal, narrow_in, narrow_out}
use Rattle.closed.proofs.Closing.{closure_holds, support_closure}
use Rattle.closed.proofs.Clashes.{clash_is}
use Rattle.closed.proofs.Fitting.{narrowed_exact, alive_some, dead_none}
use Rattle.closed.proofs.Narrowing.{dead_lives, narrow_by_closures, narrow_exact, narrow_out_below}
use Rattle.finder.specs.declared.narrowing.Node.{Node}
use Rattle.finder.specs.declared.tally.Tally.{Tally}
use Rattle.finder.specs.Nodes.{node_of, holding_passes}
use Rattle.finder.specs.Tallies.{no_holding, tally_besides}
use Rattle.finder.proofs.Tallying.{besides_with, besides_skipped}

abbrev made : ℕ → ℕ → ℕ → Node
made ins outs support = record { ins = record { bits = ins }; outs = record { bits = outs }; support = support }

module _ (q : Query) (i o : ℕ) where
  pub refused_clash : clash q.table.width i o ≡ true → narrow_refusal q i o ≡ Some (unplaced Clash)
  unfolding narrow_refusal
  refused_clash e = rw e

  module _ (fair : clash q.table.width i o ≡ false) where
    in_below : i < 2 ^ q.table.width
    in_below =
        let parts = or_parts _ (above q.table.width o) fair in
        below_from_part q.table.width i (part_fact i _ (not-false _ (or_parts _ (above q.table.width i) parts.0).1))

    module _ (small : q.table.width ≤ most_marks) (parts : AllowsParts q.allowed) (tally : Tally) (is : tally ≡ tally_besides q.table i (either i o)) where
      own_is : holding_passes q o tally.own ≡ holding_passes q o (holding_of q.table i)
      unfolding tally_besides
      own_is = ap (λ t. holding_passes q o t.own) is

      own_closure : tally.own.closure.bits ≡ closure_of q.table i
      unfolding tally_besides
      own_closure = ap (λ t. t.own.closure.bits) is

      own_support : tally.own.support ≡ support_of q.table i
      unfolding tally_besides
      own_support = ap (λ t. t.own.support) is

      pub refused_dead : holding_passes q o tally.own ≡ false → narrow_refusal q i o ≡ Some (unplaced DeadEnd)
      unfolding narrow_refusal
      refused_dead e =
          let d : dead (listed q) q.table.width i o ≡ true =
          dead_lives q small parts i o in_below ∙ not_from_false (holding_passes q o (holding_of q.table i)) (sym own_is ∙ e) in
          rw (fair, d)

      module _ (alive : holding_passes q o tally.own ≡ true) where
        not_dead : dead (listed q) q.table.width i o ≡ false
        not_dead = dead_lives q small parts i o in_below ∙ not_from_true (holding_passes q o (holding_of q.table i)) (sym own_is ∙ alive)

        pub accepted : narrow_refusal q i o ≡ None
        unfolding narrow_refusal
        accepted = let d = not_dead in rw (fair, d)

        pub narrowed_node : (ins outs support : ℕ) → ins ≡ tally.own.closure.bits → support ≡ tally.own.support
            → outs ≡ picked (λ b. not (has i b) && not (holding_passes q o (get_or tally.marks b no_holding))) q.table.width
            → made ins outs support ≡ node_of q i o
        narrowed_node ins outs support e s f =
            ap (λ x. made x outs support) (ins_is (e ∙ own_closure)) ∙ ap (λ x. made (narrow_in q i o) x support) (f ∙ outs_are)
            ∙ ap (made (narrow_in q i o) (narrow_out q i o)) (s ∙ own_support ∙ sym (support_closure q.table i in_below) ∙ ap (support_of q.table) by_closures.0)
          where
            by_closures : (closure_of q.table i ≡ narrow_in q i o) × (picked (λ b. not (holding_passes q o (holding_of q.table (with_bit i b)))) q.table.width ≡ narrow_out q i o)
            by_closures = narrow_by_closures q small parts i o in_below (sym own_is ∙ alive)

            ins_is : ins ≡ closure_of q.table i → ins ≡ narrow_in q i o
            ins_is x = x ∙ by_closures.0

            -- a set whose closure has a mark that is put out does not pass
            out_fails : (b : ℕ) (h : Holding) → has h.closure.bits b ≡ true → has o b ≡ true → holding_passes q o h ≡ false
            out_fails b h e f = by (both h.closure.bits o == no_marks) refl
              where
                shared : has (both h.closure.bits o) b ≡ true
                shared = has_and h.closure.bits o b ∙ rw (e, f) refl

                by : (t : Bool) → (both h.closure.bits o == no_marks) ≡ t → holding_passes q o h ≡ false
                by true z = absurd (both_ways (has (both h.closure.bits o) b) (ap (λ s. has s b) (eqb-true (both h.closure.bits o) no_marks z) ∙ has_none b) shared)
                by false z = grind (arith, z)

            -- what the tally has at a mark says whether a listed set fits with it, but for the marks that are put in, with which one does
            same : (b : ℕ) → b < q.table.width → (x y : Bool) → has i b ≡ x → has o b ≡ y
                → (not x && not (holding_passes q o (get_or tally.marks b no_holding))) ≡ not (holding_passes q o (holding_of q.table (with_bit i b)))
            same b l true y e f = ap not (sym (ap (λ s. holding_passes q o (holding_of q.table s)) (part_antisym (with_bit i b) i (with_part i i b (part_refl i) e) (part_or_left i (2 ^ b))) ∙ sym own_is ∙ alive))
            same b l false true e f =
                let out : has (either i o) b ≡ true = has_or i o b ∙ rw (e, f) refl in
                let skip : get_or tally.marks b no_holding ≡ unheld q.table.width = ap (λ t. get_or t.marks b no_holding) is ∙ besides_skipped q.table i (either i o) b (omega (arith, small)) out in
                let there : has (closure_of q.table (with_bit i b)) b ≡ true =
                part_has (with_bit i b) (closure_of q.table (with_bit i b)) b
                (closure_holds q.table (with_bit i b) (or_lt q.table.width i (2 ^ b) in_below (pow_below b q.table.width l)))
                (has_with i b b ∙ or_right (has i b) (eqb b b) (eq-eqb b b refl)) in
                ap not (ap (holding_passes q o) skip ∙ out_fails b (unheld q.table.width) (has_all_below q.table.width b ∙ lt-ltb b q.table.width l) f ∙ sym (out_fails b (holding_of q.table (with_bit i b)) there f))
            same b l false false e f =
                let free : has (either i o) b ≡ false = has_or i o b ∙ rw (e, f) refl in
                ap (λ h. not (holding_passes q o h)) (ap (λ t. get_or t.marks b no_holding) is ∙ besides_with q.table i (either i o) b (omega (arith, small)) free)

            outs_are : picked (λ b. not (has i b) && not (holding_passes q o (get_or tally.marks b no_holding))) q.table.width ≡ narrow_out q i o
            outs_are =
                picked_same (λ b. not (has i b) && not (holding_passes q o (get_or tally.marks b no_holding)))
                (λ b. not (holding_passes q o (holding_of q.table (with_bit i b)))) q.table.width
                (λ b l. same b l (has i b) (has o b) refl refl)
                ∙ by_closures.1

-- which tests failed where nothing is refused
neither_due : (a b : Bool) (x y : Refusal) → first_due (due_if a x ∷ due_if b y ∷ []) ≡ None → (a ≡ false) × (b ≡ false)
neither_due true b x y e = absurd (none_due (Some x) x e refl)
neither_due false true x y e = absurd (none_due (Some y) y e refl)
neither_due false false x y e = (refl, refl)

module _ (q : Query) (i o : ℕ) where
  pub accepted_parts : narrow_refusal q i o ≡ None → (clash q.table.width i o ≡ false) × (dead (listed q) q.table.width i o ≡ false)
  unfolding narrow_refusal
  accepted_parts e = neither_due (clash q.table.width i o) (dead (listed q) q.table.width i o) (unplaced Clash) (unplaced DeadEnd) e

  -- the node that narrowing answers has all that the listed sets that fit have in common
  pub exact_node : (r : Result Node Refusal) → Answers (narrow_refusal q i o) (λ node. node ≡ node_of q i o) r
      → IfOk r (λ node. Exact (listed q) q.table.width i o node.ins.bits node.outs.bits)
  exact_node (Ok node) e =
      subst (λ (n : Node). Exact (listed q) q.table.width i o n.ins.bits n.outs.bits) (sym e.1)
      (narrowed_exact (listed q) q.table.width i o (narrow_in q i o) (narrow_out q i o) (narrow_out_below q i o) (narrow_exact q i o (accepted_parts e.0).1))
  exact_node (Err refusal) e = tt

-- the number of the refusal that is answered, and 0 where none is
abbrev answered : {A : Type 0} → Result A Refusal → ℕ
answered (Ok x) = 0
answered (Err refusal) = number_of refusal.reason

module _ {A : Type 0} (P : A → Type 0) (q : Query) (i o : ℕ) where
  abbrev failed : Refusal → Result A Refusal
  failed refusal = Err refusal

  fair : clash q.table.width i o ≡ false → Clashing q.table.width i o → ⊥
  fair e m = both_ways (clash q.table.width i o) e ((clash_is q.table.width i o).1 m)

  -- the refusal that is due is the one that is answered
  is_due : (due refusal : Refusal) → Some due ≡ Some refusal → failed refusal ≡ failed due
  is_due due refusal e = let same : refusal ≡ due = cc in ap failed same

  -- what is answered, by the two tests
  refuses_by : (c d : Bool) → clash q.table.width i o ≡ c → dead (listed q) q.table.width i o ≡ d → (r : Result A Refusal)
      → Answers (first_due (due_if c (unplaced Clash) ∷ due_if d (unplaced DeadEnd) ∷ [])) P r → Refuses q i o r
  refuses_by true d e f (Ok x) a = absurd (none_due (Some (unplaced Clash)) (unplaced Clash) a.0 refl)
  refuses_by true d e f (Err refusal) a =
      let m = (clash_is q.table.width i o).0 e in
      let is : answered (failed refusal) ≡ 19 = ap (λ (x : Option Refusal). option_map_or (λ r. number_of r.reason) x 0) (sym a) in
      record {
        clash = (λ z. m, λ z. is_due _ refusal a);
        dead_end = (λ z. absurd (let n : answered (failed refusal) ≡ 20 = ap answered z in omega arith), λ g. absurd (g.0 m));
        narrowed = (λ z. absurd (both_ways false refl z), λ g. absurd (g.0 m));
      }
  refuses_by false true e f (Ok x) a = absurd (none_due (Some (unplaced DeadEnd)) (unplaced DeadEnd) a.0 refl)
  refuses_by false true e f (Err refusal) a =
      let is : answered (failed refusal) ≡ 20 = ap (λ (x : Option Refusal). option_map_or (λ r. number_of r.reason) x 0) (sym a) in
      record {
        clash = (λ z. absurd (let n : answered (failed refusal) ≡ 19 = ap answered z in omega arith), λ m. absurd (fair e m));
        dead_end = (λ z. (fair e, λ x. dead_none (listed q) q.table.width i o x f), λ g. is_due _ refusal a);
        narrowed = (λ z. absurd (both_ways false refl z), λ g. absurd (dead_none (listed q) q.table.width i o g.1.0 f g.1.1));
      }
  refuses_by false false e f (Err refusal) a = absurd (none_due None refusal refl a)
  refuses_by false false e f (Ok x) a =
      let fits = alive_some (listed q) q.table.width i o f in
      record {
        clash = (λ z. absurd (let n : 0 ≡ 19 = ap answered z in omega arith), λ m. absurd (fair e m));
        dead_end = (λ z. absurd (let n : 0 ≡ 20 = ap answered z in omega arith), λ g. absurd (g.1 fits.0 fits.1));
        narrowed = (λ z. (fair e, fits), λ g. refl);
      }

  pub refuses : (r : Result A Refusal) → Answers (narrow_refusal q i o) P r → Refuses q i o r
  unfolding narrow_refusal
  refuses r a = refuses_by (clash q.table.width i o) (dead (listed q) q.table.width i o) refl refl r a
