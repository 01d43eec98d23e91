-- The way down from a node to its first leaf.
use Rattle.std.proofs.Common.{◌≡◌, ℕ, ◌+◌, ◌^◌, ◌<◌, ◌≤◌, true, false, eqb, Some, None, Option, sym, refl, ap, ◌∙◌, subst, ⊎_elim, arith}
use lib.Count.{ones-le}
use Rattle.std.proofs.lemmas.Bool.{both_ways, cases_Bool, eq-eqb}
use Rattle.marks.specs.Numbers.{most_marks}
use Rattle.marks.specs.Sets.{has, no_marks, all_below, both, either, minus, part_of, with_bit, size_of, Lowest}
use Rattle.marks.proofs.Algebra.{disjoint_from_has}
use Rattle.marks.specs.Parts.{part_test, part_all_below, part_from_has, part_le}
use Rattle.closed.specs.Families.{Fits}
use Rattle.closed.specs.Closed.{Query, listed, clash, narrow_refusal, narrow_in, narrow_out}
use Rattle.closed.proofs.Fitting.{fits_has, fits_lacks, fits_with, fits_below, fits_alive, in_every_below, in_none_below}
use Rattle.closed.proofs.Narrowing.{narrow_exact}
use Rattle.closed.proofs.Stepping.{small_below, free_lowest, free_none, free_falls, descent_step, descent_done}
use Rattle.closed.proofs.WalkSteps.{Narrowed, Free, Done, Descent, free_marks}
use Rattle.finder.specs.declared.finder.descent.Start.{Start}
use Rattle.finder.specs.declared.narrowing.Node.{Node}
use Rattle.finder.specs.Descents.{opened_node, unless, one_more, Ready, Begun, Landed}
use Rattle.finder.specs.Nodes.{node_of}

module _ (q : Query) where
  abbrev n : ℕ
  n = q.table.width

  -- a node that some set fits is opened
  module _ (i o z : ℕ) (f : Fits (listed q) n i o z) (l : o < 2 ^ n) where
    fits_fair : clash n i o ≡ false
    fits_fair =
        let apart : eqb (both i o) no_marks ≡ true =
        eq-eqb (both i o) no_marks
        (disjoint_from_has i o (λ b h. ⊎_elim (λ t. absurd (both_ways (has z b) (fits_lacks (listed q) n i o z b f t) (fits_has (listed q) n i o z b f h))) (λ t. t) (cases_Bool (has o b)))) in
        let in_width : part_of i (all_below n) ≡ true = part_test i (all_below n) (part_all_below n i (fits_below (listed q) n i o z f)) in
        let out_width : part_of o (all_below n) ≡ true = part_test o (all_below n) (part_all_below n o l) in
        rw (apart, in_width, out_width)

    fits_accepted : narrow_refusal q i o ≡ None
    unfolding narrow_refusal
    fits_accepted = rw (fits_fair, fits_alive (listed q) n i o z f)

    pub fits_opened : opened_node q i o ≡ Some (node_of q i o)
    fits_opened = ap (λ r. unless r (node_of q i o)) fits_accepted

    pub fits_narrowed : Narrowed (listed q) n i o (narrow_in q i o) (narrow_out q i o)
    fits_narrowed = narrow_exact q i o (fits_alive (listed q) n i o z f)

    pub fits_ready : Ready q (node_of q i o)
    unfolding narrow_in narrow_out
    fits_ready = record { tight = fits_narrowed.tight; ins_below = in_every_below n _; outs_below = in_none_below n _; support_is = refl }

  -- a free mark of a node can be put in
  module _ (small : n ≤ most_marks) (node : Node) (ready : Ready q node) where
    abbrev i : ℕ
    i = node.ins.bits

    abbrev o : ℕ
    o = node.outs.bits

    pub ins_small : i < 2 ^ 32
    ins_small = small_below n i small ready.ins_below

    pub outs_small : o < 2 ^ 32
    outs_small = small_below n o small ready.outs_below

    -- the free marks, as the code finds them
    module _ (free all width : ℕ) (free_is : free ≡ minus all (either i o)) (all_is : all ≡ all_below width) (width_is : width ≡ n) where
      free_are : free ≡ free_marks n i o
      free_are = free_is ∙ ap (λ a. minus a (either i o)) (all_is ∙ ap all_below width_is)

      pub ready_free : (f : ℕ) → Lowest free f → Free n i o f
      ready_free f low = free_lowest n i o small ins_small outs_small f (subst (λ s. Lowest s f) free_are low)

      pub ready_done : free ≡ 0 → Done n i o
      ready_done z = free_none n i o small ins_small outs_small (sym free_are ∙ z)

    module _ (f : ℕ) (free : Free n i o f) where
      child_fits : (x : ℕ) × Fits (listed q) n (with_bit i f) o x
      child_fits =
          let x = ready.tight.with_it f free.below free.not_out in
          (x.0, fits_with (listed q) n i o x.0 f x.1 x.2)

      pub child_opened : opened_node q (with_bit i f) o ≡ Some (node_of q (with_bit i f) o)
      child_opened = fits_opened (with_bit i f) o child_fits.0 child_fits.1 ready.outs_below

      -- as the code has it
      module _ (ins : ℕ) (e : ins ≡ with_bit i f) (r : Option Node) (is : r ≡ opened_node q ins o) where
        opens : r ≡ Some (node_of q (with_bit i f) o)
        opens = is ∙ ap (λ x. opened_node q x o) e ∙ child_opened

        pub child_is : (child : Node) → r ≡ Some child → child ≡ node_of q (with_bit i f) o
        child_is child c = let o = opens in cc

        pub child_there : r ≡ None → ⊥
        child_there c = let o = opens in let z : ◌≡◌ {A = ℕ} 0 1 = cc in omega arith

      pub child_ready : Ready q (node_of q (with_bit i f) o)
      child_ready = fits_ready (with_bit i f) o child_fits.0 child_fits.1 ready.outs_below

      pub child_narrowed : Narrowed (listed q) n (with_bit i f) o (narrow_in q (with_bit i f) o) (narrow_out q (with_bit i f) o)
      child_narrowed = fits_narrowed (with_bit i f) o child_fits.0 child_fits.1 ready.outs_below

      -- and then fewer are free
      pub child_falls : size_of (free_marks n (narrow_in q (with_bit i f) o) (narrow_out q (with_bit i f) o)) < size_of (free_marks n i o)
      child_falls =
          free_falls (listed q) n i o f (narrow_in q (with_bit i f) o) (narrow_out q (with_bit i f) o) small ins_small outs_small
          (small_below n (narrow_in q (with_bit i f) o) small child_ready.ins_below) (small_below n (narrow_out q (with_bit i f) o) small child_ready.outs_below)
          free child_narrowed

-- ---- the loop

-- the descent from `start` has come to `node`
pub record Descending (q : Query) (start : Start) (opened : ℕ) (node : Node) (turned opened' : ℕ) : Type 0 where
  pub ready : Ready q node
  pub from : (k b : ℕ) → Begun q k b start opened
      → Descent (listed q) q.table.width k opened b start.node.ins.bits start.node.outs.bits node.ins.bits node.outs.bits turned opened'

module _ (q : Query) (small : q.table.width ≤ most_marks) (start : Start) (opened : ℕ) where
  module _ (node : Node) (turned opened' : ℕ) (d : Descending q start opened node turned opened') where
    pub descending_more : (f : ℕ) → Free q.table.width node.ins.bits node.outs.bits f
        → (child : Node) (turned'' opened'' : ℕ) → child ≡ node_of q (with_bit node.ins.bits f) node.outs.bits → turned'' ≡ with_bit turned f → opened'' ≡ one_more opened'
        → Descending q start opened child turned'' opened''
    descending_more f free child turned'' opened'' e t c =
        subst (λ x. Descending q start opened x turned'' opened'') (sym e)
        (record {
          ready = child_ready q small node d.ready f free;
          from = λ k b s. let was = d.from k b s in
              let held = part_from_has turned node.ins.bits (λ j h. (was.reached.within j h).1) in
              let in_bits = ins_small q small node d.ready in
              let fits : turned < 2 ^ 32 = omega (arith, part_le turned node.ins.bits held) in
              let exact : one_more opened' ≡ opened' + 1 = omega (arith, was.opened, s.few, ones-le 32 turned fits) in
              subst (λ x. step k b x opened'') (sym t)
              (subst (step k b (with_bit turned f)) (sym (c ∙ exact))
              (descent_step (listed q) q.table.width k opened b start.node.ins.bits start.node.outs.bits node.ins.bits node.outs.bits turned opened' f
              (narrow_in q (with_bit node.ins.bits f) node.outs.bits) (narrow_out q (with_bit node.ins.bits f) node.outs.bits) was free
              (child_narrowed q small node d.ready f free)));
        })
      where
        step : ℕ → ℕ → ℕ → ℕ → Type 0
        step k b x y =
            Descent (listed q) q.table.width k opened b start.node.ins.bits start.node.outs.bits
            (narrow_in q (with_bit node.ins.bits f) node.outs.bits) (narrow_out q (with_bit node.ins.bits f) node.outs.bits) x y

    pub descending_done : Done q.table.width node.ins.bits node.outs.bits
        → Landed q start opened (record { set = node.ins; support = node.support; turns = record { bits = turned } }) opened'
    descending_done z = record {
      support_is = d.ready.support_is;
      found = λ k b s. descent_done (listed q) q.table.width k opened b start.node.ins.bits start.node.outs.bits node.ins.bits node.outs.bits turned opened' (d.from k b s) z;
    }
