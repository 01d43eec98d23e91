-- From where a finder stands to the node that is opened next.
use Rattle.std.proofs.Common.{◌≡◌, ℕ, suc, ◌+◌, ◌-◌, ◌*◌, ◌^◌, ◌<◌, ◌≤◌, min, false, eqb, get_or, IfSome, Some, None, Option, sym, refl, ap, ◌∙◌, subst, inl, inr, arith, pow_pos}
use Rattle.std.proofs.lemmas.Bool.{or_parts, not-false, ne_eqb}
use Rattle.std.proofs.lemmas.Bool.Decides.{nat_tests}
use Rattle.std.specs.Option.{option_map_or}
use Rattle.marks.specs.declared.refusal.Refusal.{Refusal}
use Rattle.marks.specs.Numbers.{most_marks}
use Rattle.marks.specs.Sets.{no_marks, without_bit, size_of, Highest}
use Rattle.marks.proofs.Algebra.{below_from_has}
use Rattle.marks.specs.Members.{has_below}
use Rattle.marks.specs.Parts.{part_fact, below_from_part, part_from_has, part_le}
use Rattle.marks.specs.Sizes.{without_is}
use Rattle.tables.specs.Meaning.{Proper}
use Rattle.tables.specs.Holding.{support_of}
use Rattle.closed.specs.Families.{Fits, part_in, turns, turn_count}
use Rattle.closed.specs.Walks.{Reached, Opened, Descended, At, aside_out}
use Rattle.closed.specs.Closed.{Query, listed, the_list, above, narrow_refusal}
use Rattle.closed.proofs.Fitting.{alive_some}
use Rattle.closed.proofs.Stepping.{small_below, has_aside_out, aside_some, reached_aside, opened_root, opened_out, at_listed, at_first, at_next, at_last, at_none}
use Rattle.closed.proofs.Turning.{turns_are, at_turns}
use Rattle.closed.proofs.Walking.{first_narrowed, reached_root, reached_narrowed}
use Rattle.closed.proofs.WalkSteps.{Narrowed}
use Rattle.finder.specs.declared.finder.Last.{Last}
use Rattle.finder.specs.declared.finder.descent.Start.{Start}
use Rattle.finder.specs.declared.narrowing.Node.{Node}
use Rattle.finder.specs.Descents.{opened_node, unless, one_more, start_of, Ready, Turned, TurnedAside}
use Rattle.finder.specs.Found.{how_many, record_of, kth_record, last_of, ordinal_of, last_at_place, opened_at_end}
use Rattle.finder.specs.Nodes.{node_of}
use Rattle.finder.proofs.Descending.{fits_opened, fits_narrowed, fits_ready}
use Rattle.finder.proofs.Narrows.{accepted_parts}
use Rattle.finder.proofs.Listing.{kth_more, last_at_more, last_at_some, set_listed, turns_few, how_many_few}

module _ (q : Query) where
  abbrev n : ℕ
  n = q.table.width

  -- what is opened is fitted by some set
  record Fitted (i o : ℕ) (node : Node) : Type 0 where
    some : ℕ
    fits : Fits (listed q) n i o some
    outs_below : o < 2 ^ n
    is : node ≡ node_of q i o

  opened_fitted : (i o : ℕ) (node : Node) → opened_node q i o ≡ Some node → Fitted i o node
  opened_fitted i o node e = by (narrow_refusal q i o) refl e
    where
      by : (r : Option Refusal) → narrow_refusal q i o ≡ r → unless r (node_of q i o) ≡ Some node → Fitted i o node
      by None f g =
          let parts = accepted_parts q i o f in
          let x = alive_some (listed q) n i o parts.1 in
          record {
            some = x.0;
            fits = x.1;
            outs_below = below_from_part n o (part_fact o _ (not-false _ (or_parts _ (above n o) parts.0).1));
            is = cc;
          }
      by (Some refusal) f g = absurd (let z : ◌≡◌ {A = ℕ} 0 1 = cc in omega arith)

  pub opened_ready : (i o : ℕ) (node : Node) → opened_node q i o ≡ Some node → Ready q node
  opened_ready i o node e =
      let f = opened_fitted i o node e in
      subst (Ready q) (sym f.is) (fits_ready q i o f.some f.fits f.outs_below)

  -- what is found below a narrowed node is found below the node
  found_back : (k c b i o x t c' : ℕ) (node : Node) → opened_node q i o ≡ Some node
      → Descended (listed q) n k c b node.ins.bits node.outs.bits x t c' → Descended (listed q) n k c b i o x t c'
  found_back k c b i o x t c' node e d =
      let f = opened_fitted i o node e in
      let w : Narrowed (listed q) n i o node.ins.bits node.outs.bits =
      subst (λ (m : Node). Narrowed (listed q) n i o m.ins.bits m.outs.bits) (sym f.is) (fits_narrowed q i o f.some f.fits f.outs_below) in
      record {
        first = first_narrowed (listed q) n i o node.ins.bits node.outs.bits x w d.first;
        turns = d.turns;
        opened = d.opened;
        grown = d.grown;
      }

  reached_opened : (b i o t : ℕ) (node : Node) → opened_node q i o ≡ Some node → Reached (listed q) n b i o t
      → Reached (listed q) n b node.ins.bits node.outs.bits t
  reached_opened b i o t node e r =
      let f = opened_fitted i o node e in
      reached_narrowed (listed q) n b i o node.ins.bits node.outs.bits t r
      (subst (λ (m : Node). Narrowed (listed q) n i o m.ins.bits m.outs.bits) (sym f.is) (fits_narrowed q i o f.some f.fits f.outs_below))

  -- ---- the root

  pub root_turned : (start : Option Node) → start ≡ opened_node q no_marks no_marks → Turned q 0 (start_of start no_marks) 1
  root_turned None e = (sym (at_none (listed q) n never), refl)
    where
      never : (z : ℕ) → Fits (listed q) n 0 0 z → ⊥
      never z f =
          let o : opened_node q 0 0 ≡ Some (node_of q 0 0) = fits_opened q 0 0 z f (omega (arith, pow_pos n)) in
          let y : ◌≡◌ {A = ℕ} 0 1 = cc in omega arith
  root_turned (Some node) e = (
    0,
    record {
      reached = reached_opened 0 0 0 0 node (sym e) (reached_root (listed q) n);
      counted = opened_root;
      few = omega arith;
    },
    λ x t c d. (at_first (listed q) n x t c (found_back 1 1 0 0 0 x t c node (sym e) d)).0,
  )

  -- ---- turning aside from the k-th set

  module _ (small : n ≤ most_marks) (k x t c : ℕ) (at : At (listed q) n k x t c) (few : k ≤ 2 ^ 32) (many : c < 2 ^ 63) where
    pub aside_none : t ≡ no_marks → k ≡ how_many q
    aside_none z = at_last (listed q) n k x c (subst (λ s. At (listed q) n k x s c) z at)

    module _ (b : ℕ) (high : Highest t b) where
      mark_below : b < n
      mark_below = has_below n x b (at_listed (listed q) n k x t c at).below (at.turns.within b high.held)

      set_small : x < 2 ^ 32
      set_small = small_below n x small (at_listed (listed q) n k x t c at).below

      outs_below : aside_out x b < 2 ^ n
      outs_below =
          below_from_has n (aside_out x b)
          (λ j h. has_aside_out x b j set_small (omega (arith, mark_below, small)) ∙ (let l = mark_below in grind (arith, nat_tests)))

      turns_small : t < 2 ^ 32
      turns_small =
          let held = part_from_has t x (λ j h. at.turns.within j h) in
          omega (arith, part_le t x held, set_small)

      pub aside_turned : (start : Option Node) → start ≡ opened_node q (part_in x b) (aside_out x b) → Turned q k (start_of start (without_bit t b)) (one_more c)
      aside_turned None e =
          absurd (let o : opened_node q (part_in x b) (aside_out x b) ≡ Some (node_of q (part_in x b) (aside_out x b)) =
          fits_opened q (part_in x b) (aside_out x b) (at.turns.turn b high.held).to
          (aside_some (listed q) n x t b set_small (omega (arith, mark_below, small)) at.turns high.held) outs_below in
          let y : ◌≡◌ {A = ℕ} 0 1 = cc in omega arith)
      aside_turned (Some node) e =
          let gone : without_bit t b ≡ t - 2 ^ b = without_is t b turns_small high.held in
          let one : one_more c ≡ c + 1 = omega arith in (
            suc b,
            record {
              reached =
                  subst (Reached (listed q) n (suc b) node.ins.bits node.outs.bits) (sym gone)
                  (reached_opened (suc b) (part_in x b) (aside_out x b) (t - 2 ^ b) node (sym e)
                  (reached_aside (listed q) n x t b small (at_listed (listed q) n k x t c at) at.turns high));
              counted =
                  subst (λ s. Opened (k + 1) (size_of s) (one_more c)) (sym gone)
                  (subst (Opened (k + 1) (size_of (t - 2 ^ b))) (sym one) (opened_out k t b c high.held at.opened));
              few = omega arith;
            },
            λ y u d f. (at_next (listed q) n k x t c b y u d small at high
                (subst (λ m. Descended (listed q) n (k + 1) m (suc b) (part_in x b) (aside_out x b) y u d) one
                (found_back (k + 1) (one_more c) (suc b) (part_in x b) (aside_out x b) y u d node (sym e) f))).0,
          )

  -- ---- as the code has it

  pub start_ready : (i o t : ℕ) (r : Option Start) → r ≡ start_of (opened_node q i o) t → IfSome r (λ start. Ready q start.node)
  start_ready i o t r e = by (opened_node q i o) refl r e
    where
      by : (node : Option Node) → opened_node q i o ≡ node → (r : Option Start) → r ≡ start_of node t → IfSome r (λ start. Ready q start.node)
      by _ f None g = tt
      by None f (Some start) g = absurd (let z : ◌≡◌ {A = ℕ} 0 1 = cc in omega arith)
      by (Some node) f (Some start) g =
          let same : start ≡ record { node = node; turns = record { bits = t } } = cc in
          subst (λ (s : Start). Ready q s.node) (sym same) (opened_ready i o node f)

  pub aside_ready : (x t opened : ℕ) (r : Option Start) (opened' : ℕ) → TurnedAside q x t opened r opened' → IfSome r (λ start. Ready q start.node)
  aside_ready x t opened r opened' (inl e) = subst (λ s. IfSome s (λ start. Ready q start.node)) (sym e.1) tt
  aside_ready x t opened r opened' (inr e) = start_ready (part_in x e.0) (aside_out x e.0) (without_bit t e.0) r e.2

  -- after a set, the end has the numbers of that set
  opened_end_some : (j k : ℕ) → j + 1 ≡ k → opened_at_end q k ≡ (kth_record q k).opened
  opened_end_some j k e = let z : eqb k 0 ≡ false = ne_eqb k 0 (omega arith) in rw z

  -- this is what is remembered of the set after the place k
  pub record Next (k : ℕ) (last : Last) : Type 0 where
    pub more : k < how_many q
    pub counted : last.found.ordinal ≡ k + 1
    pub is : Some last ≡ last_at_place q (k + 1)

  pub remembered : (k : ℕ) → Proper q.table → (x t c support ordinal : ℕ) → At (listed q) n (k + 1) x t c → support ≡ support_of q.table x
      → ordinal ≡ min (k + 1) (2 ^ 64 - 1)
      → Next k (record { found = record { set = record { bits = x }; support = support; ordinal = ordinal; opened = c }; turns = record { bits = t } })
  remembered k proper x t c support ordinal at s o = record { more = here; counted = counted; is = same }
    where
      here : k < how_many q
      here = let w = at.within in omega arith

      entry : get_or (the_list q) k 0 ≡ x
      entry = ap (λ i. get_or (the_list q) i 0) (let i : k ≡ k + 1 - 1 = omega arith in i) ∙ at.entry

      turned : t ≡ turns (listed q) n x
      turned = at_turns (listed q) n (k + 1) x t c at

      counted : ordinal ≡ k + 1
      counted = omega (arith, how_many_few q proper, here)

      opened : c ≡ 2 * (k + 1) - 1 + turn_count (listed q) n x
      opened = let a = at.opened in let e = ap size_of turned in omega arith

      same : Some (record { found = record { set = record { bits = x }; support = support; ordinal = ordinal; opened = c }; turns = record { bits = t } }) ≡ last_at_place q (k + 1)
      same =
          let last : Last = record { found = record { set = record { bits = x }; support = support; ordinal = ordinal; opened = c }; turns = record { bits = t } } in
          let is : last ≡ last_of q (record_of q (k + 1) x) = cc (s, counted, opened, turned) in
          ap (λ l. Some l) (is ∙ ap (λ y. last_of q (record_of q (k + 1) y)) (sym entry)) ∙ sym (last_at_more q k here)

  -- where the finder stands is enough to go on
  stands_at : (j : ℕ) → j < how_many q → (last : Last) → last ≡ last_of q (kth_record q (j + 1)) → At (listed q) n (j + 1) last.found.set.bits last.turns.bits last.found.opened
  stands_at j h last e =
      subst (λ (l : Last). At (listed q) n (j + 1) l.found.set.bits l.turns.bits l.found.opened) (sym (e ∙ ap (last_of q) (kth_more q j h)))
      (record {
        counted = omega arith;
        within = omega arith;
        entry = ap (λ i. get_or (the_list q) i 0) (let i : j + 1 - 1 ≡ j = omega arith in i);
        turns = turns_are (listed q) n x (set_listed q j h).below;
        opened = omega arith;
      })
    where
      x : ℕ
      x = get_or (the_list q) j 0

  module _ (last : Option Last) (within : ordinal_of last ≤ how_many q) (stands : last ≡ last_at_place q (ordinal_of last)) where
    abbrev k : ℕ
    k = ordinal_of last

    pub turn_at_root : last ≡ None → (entry exit : ℕ) → entry ≡ option_map_or (λ l. l.found.opened) last 0 → exit ≡ one_more entry
        → (r : Option Start) → r ≡ start_of (opened_node q no_marks no_marks) no_marks → Turned q (ordinal_of last) r exit
    turn_at_root none entry exit e x r is =
        let zero' : entry ≡ 0 = e ∙ ap (λ l. option_map_or (λ l. l.found.opened) l 0) none in
        let one : exit ≡ 1 = omega arith in
        subst (λ j. Turned q j r exit) (sym (ap ordinal_of none))
        (subst (λ s. Turned q 0 s exit) (sym is) (subst (Turned q 0 (start_of (opened_node q no_marks no_marks) no_marks)) (sym one) (root_turned (opened_node q no_marks no_marks) refl)))

    pub turn_from : Proper q.table → (set : Last) → last ≡ Some set → (entry exit : ℕ) → entry ≡ option_map_or (λ l. l.found.opened) last 0 → (r : Option Start)
        → TurnedAside q set.found.set.bits set.turns.bits entry r exit → Turned q (ordinal_of last) r exit
    turn_from proper set some entry exit e r turned = by turned
      where
        came : (1 ≤ k) × (set ≡ last_of q (kth_record q k))
        came = last_at_some q k set (sym stands ∙ some)

        x : ℕ
        x = set.found.set.bits

        t : ℕ
        t = set.turns.bits

        c : ℕ
        c = set.found.opened

        entry_is : entry ≡ c
        entry_is = e ∙ ap (λ l. option_map_or (λ l. l.found.opened) l 0) some

        j : ℕ
        j = k - 1

        k_is : j + 1 ≡ k
        k_is = omega (arith, came.0)

        here : j < how_many q
        here = omega (arith, within, came.0)

        set_is : set ≡ last_of q (kth_record q (j + 1))
        set_is = came.1 ∙ ap (λ i. last_of q (kth_record q i)) (sym k_is)

        at : At (listed q) n k x t c
        at = subst (λ i. At (listed q) n i x t c) k_is (stands_at j here set set_is)

        opened_is : c ≡ 2 * (j + 1) - 1 + turn_count (listed q) n (get_or (the_list q) j 0)
        opened_is = ap (λ l. l.found.opened) (set_is ∙ ap (last_of q) (kth_more q j here))

        few : k ≤ 2 ^ 32
        few = omega (arith, within, how_many_few q proper)

        many : c < 2 ^ 63
        many = omega (arith, opened_is, k_is, few, turns_few q j, proper.wide.1)

        by : TurnedAside q x t entry r exit → Turned q k r exit
        by (inl s) =
            let end : exit ≡ opened_at_end q k = s.2 ∙ entry_is ∙ ap (λ l. l.found.opened) came.1 ∙ sym (opened_end_some j k k_is) in
            subst (λ m. Turned q k m exit) (sym s.1) (aside_none proper.wide.1 k x t c at few many s.0, end)
        by (inr s) =
            let b = s.0 in
            subst (λ m. Turned q k m exit) (sym s.2)
            (subst (Turned q k (start_of (opened_node q (part_in x b) (aside_out x b)) (without_bit t b))) (sym (s.3 ∙ ap one_more entry_is))
            (aside_turned proper.wide.1 k x t c at few many b s.1 (opened_node q (part_in x b) (aside_out x b)) refl))
