-- From a set to the one that follows it, and how many nodes that opens.
use Rattle.std.proofs.Common.{◌≡◌, ℕ, suc, ◌+◌, ◌-◌, ◌^◌, ◌<◌, ◌≤◌, Bool, true, false, not, ◌&&◌, ◌||◌, eqb, ltb, ◌⊎◌, length, get_or, sym, ap, ◌∙◌, subst, inl, inr, ⊎_elim, arith, pow_pos, pow_mono}
use lib.Bits.{or_lt}
use Rattle.std.proofs.lemmas.Bool.{both_ways, cases_order, cases_lt, cases_eq, cases_Bool, lt-ltb, le-ltb, ne_eqb}
use Rattle.std.proofs.lemmas.Bool.Decides.{nat_tests}
use Rattle.marks.specs.Orders.{Before}
use Rattle.marks.specs.Sets.{has, only, all_below, either, minus, with_bit, PartOf, size_of, Lowest, Highest}
use Rattle.marks.specs.Members.{has_and, has_or, has_none, has_all_below, has_below}
use Rattle.marks.specs.Parts.{part_from_has, has_with, has_minus}
use Rattle.marks.specs.SetOrder.{before_irrefl, before_trans}
use Rattle.marks.specs.Sizes.{has_less, ones_less, ones_with, ones_zero, ones_part, ones_strict}
use Rattle.closed.specs.Families.{Listed, Fits, Agree, Turn, Turns, First, list_of, part_in}
use Rattle.closed.specs.Walks.{Tight, Reached, aside_out, Opened, Descended, At}
use Rattle.closed.proofs.Ordered.{place_listed, first_listed, next_listed, last_listed}
use Rattle.closed.proofs.Fitting.{with_here, fits_listed, fits_has, fits_lacks, fits_from, fits_root}
use Rattle.closed.proofs.Walking.{agree_sym, agree_less, turn_agree, first_in, first_narrowed, first_done, narrowed_in, narrowed_decided}
use Rattle.closed.proofs.Walking.{reached_narrowed, reached_in, reached_turns, free_from}
use Rattle.closed.proofs.WalkSteps.{Follows, Narrowed, Free, Done, free_marks, Descent}

-- ---- the marks of the nodes

-- marks below n, where n is a width
pub small_below : (n x : ℕ) → n ≤ 32 → x < 2 ^ n → x < 2 ^ 32
small_below n x w h = omega (arith, (let m : 2 ^ n ≤ 2 ^ 32 = pow_mono w in m))

pub all_below_small : (n : ℕ) → n ≤ 32 → all_below n < 2 ^ 32
all_below_small n l = small_below n (all_below n) l (omega (arith, pow_pos n))

pub has_part_in : (x b j : ℕ) → has (part_in x b) j ≡ (has x j && ltb j b)
has_part_in x b j = has_and x (all_below b) j ∙ rw (has_all_below b j)

pub has_aside_out : (x b j : ℕ) → x < 2 ^ 32 → b ≤ 32 → has (aside_out x b) j ≡ ((ltb j b && not (has x j)) || eqb b j)
has_aside_out x b j h l = has_with (minus (all_below b) x) b j ∙ rw (has_minus (all_below b) x j (all_below_small b l) h, has_all_below b j)

-- x agrees with its part below b
pub agree_part_in : (b x : ℕ) → Agree b (part_in x b) x
agree_part_in b x j l = has_part_in x b j ∙ rw (lt-ltb j b l) (grind arith)

module _ (n i o : ℕ) (w : n ≤ 32) (hi : i < 2 ^ 32) (ho : o < 2 ^ 32) where
  pub has_free_marks : (j : ℕ) → has (free_marks n i o) j ≡ (ltb j n && not (has i j || has o j))
  has_free_marks j = has_minus (all_below n) (either i o) j (all_below_small n w) (or_lt 32 i o hi ho) ∙ rw (has_all_below n j, has_or i o j)

  -- the lowest of the free marks
  pub free_lowest : (f : ℕ) → Lowest (free_marks n i o) f → Free n i o f
  free_lowest f low =
      let e : (ltb f n && not (has i f || has o f)) ≡ true = sym (has_free_marks f) ∙ low.held in
      let b : f < n = grind (arith, nat_tests) in
      record { below = b; not_in = grind arith; not_out = grind arith; decided = at b }
    where
      at : f < n → (j : ℕ) → j < f → (has i j || has o j) ≡ true
      at b j k =
          let e : (ltb j n && not (has i j || has o j)) ≡ false = sym (has_free_marks j) ∙ low.none_below j k in
          let t : ltb j n ≡ true = lt-ltb j n (omega arith) in
          grind arith

  -- there is none
  pub free_none : free_marks n i o ≡ 0 → Done n i o
  free_none z j k =
      let e : (ltb j n && not (has i j || has o j)) ≡ false = sym (has_free_marks j) ∙ ap (λ s. has s j) z ∙ has_none j in
      let t : ltb j n ≡ true = lt-ltb j n k in
      grind arith

-- ---- how many nodes are opened

pub opened_root : Opened 1 (size_of 0) 1
opened_root = omega (arith, ones_zero)

pub opened_out : (k t b c : ℕ) → has t b ≡ true → Opened k (size_of t) c → Opened (k + 1) (size_of (t - only b)) (c + 1)
opened_out k t b c h o = omega (arith, ones_less t b h)

pub opened_in : (k t f c : ℕ) → has t f ≡ false → Opened k (size_of t) c → Opened k (size_of (with_bit t f)) (c + 1)
opened_in k t f c h o = omega (arith, ones_with t f h)

module _ (p : ℕ → Bool) (n : ℕ) where
  -- ---- the sets that agree with x below b, and lack b

  module _ (x b : ℕ) (h : x < 2 ^ 32) (l : b ≤ 32) where
    pub aside_fits : (z : ℕ) → Listed p n z → Agree b z x → has z b ≡ false → Fits p n (part_in x b) (aside_out x b) z
    aside_fits z m a e =
        fits_from p n (part_in x b) (aside_out x b) z m
        (λ j g. let s : j < b → has z j ≡ has x j = a j in grind (arith, has_part_in x b j, nat_tests))
        (λ j g. ⊎_elim (λ k. subst (λ c. has z c ≡ false) k e)
        (λ k. let s : j < b → has z j ≡ has x j = a j in grind (arith, has_aside_out x b j h l, nat_tests)) (cases_eq b j))

    pub aside_agrees : (z : ℕ) → Fits p n (part_in x b) (aside_out x b) z → Agree b z x
    aside_agrees z f j k =
        let t : ltb j b ≡ true = lt-ltb j b k in
        let u : has (part_in x b) j ≡ true → has z j ≡ true = fits_has p n (part_in x b) (aside_out x b) z j f in
        let v : has (aside_out x b) j ≡ true → has z j ≡ false = fits_lacks p n (part_in x b) (aside_out x b) z j f in
        grind (arith, has_part_in x b j, has_aside_out x b j h l)

  pub aside_lacks : (x b z : ℕ) → Fits p n (part_in x b) (aside_out x b) z → has z b ≡ false
  aside_lacks x b z f = fits_lacks p n (part_in x b) (aside_out x b) z b f (with_here (minus (all_below b) x) b)

  -- ---- from a set to the next

  -- what comes after x turns aside at one of its turns
  pub after_turns : (x t z : ℕ) → Turns p n x t → Listed p n z → (a : Before x z) → has t a.at ≡ true
  after_turns x t z s l a = s.only a.at a.held (record { to = z; listed = l; lacks = a.lacks; same = agree_sym a.at x z a.same })

  pub no_turns_last : (x z : ℕ) → Turns p n x 0 → Listed p n z → Before x z → ⊥
  no_turns_last x z s l a = both_ways (has 0 a.at) (has_none a.at) (after_turns x 0 z s l a)

  -- some set turns aside at a turn
  pub aside_some : (x t b : ℕ) → x < 2 ^ 32 → b ≤ 32 → (s : Turns p n x t) → (h : has t b ≡ true) → Fits p n (part_in x b) (aside_out x b) (s.turn b h).to
  aside_some x t b h l s e = let k = s.turn b e in aside_fits x b h l k.to k.listed k.same k.lacks

  -- the first that does so at the highest turn follows x
  pub aside_follows : (x t b y : ℕ) → x < 2 ^ 32 → b ≤ 32 → Turns p n x t → Highest t b → First p n (part_in x b) (aside_out x b) y → Follows p n x y
  aside_follows x t b y h l s e f =
      record {
        listed = fits_listed p n (part_in x b) (aside_out x b) y f.fits;
        after = record { at = b; held = s.within b e.held; lacks = aside_lacks x b y f.fits; same = agree_sym b y x same };
        between = λ z m a c. between z m a c (cases_order a.at b);
      }
    where
      same : Agree b y x
      same = aside_agrees x b h l y f.fits

      between : (z : ℕ) → Listed p n z → (a : Before x z) → Before z y → (a.at ≡ b) ⊎ ((a.at < b) ⊎ (b < a.at)) → ⊥
      between z m a c (inl k) =
          f.none_before z (aside_fits x b h l z m (λ j g. sym (a.same j (omega arith))) (subst (λ c. has z c ≡ false) k a.lacks)) c
      between z m a c (inr (inl k)) =
          before_irrefl z (before_trans z y z c
          (record { at = a.at; held = same a.at k ∙ a.held; lacks = a.lacks; same = λ j g. same j (omega arith) ∙ a.same j g }))
      between z m a c (inr (inr k)) = both_ways (has t a.at) (e.none_above a.at k) (after_turns x t z s m a)

  -- the node of those that turn aside at the highest turn: the turns are all but that one
  pub reached_aside : (x t b : ℕ) → n ≤ 32 → Listed p n x → Turns p n x t → Highest t b
      → Reached p n (suc b) (part_in x b) (aside_out x b) (t - only b)
  reached_aside x t b w m s e =
      record { low = in_width; decided = decided; prefix = prefix; within = within; turn = turn; only = all_turns }
    where
      in_width : b < n
      in_width = has_below n x b m.below (s.within b e.held)

      h : x < 2 ^ 32
      h = small_below n x w m.below

      l : b ≤ 32
      l = omega (arith, in_width)

      same : Agree b (part_in x b) x
      same = agree_part_in b x

      lower : (c : ℕ) → has (t - only b) c ≡ true → (has t c ≡ true) × (c < b)
      lower c k =
          let g = has_less t b c e.held in
          let u : b < c → has t c ≡ false = e.none_above c in
          (grind arith, grind (arith, nat_tests))

      decided : (j : ℕ) → j < suc b → (has (part_in x b) j || has (aside_out x b) j) ≡ true
      decided j k = grind (arith, has_part_in x b j, has_aside_out x b j h l, nat_tests)

      prefix : (z : ℕ) → Listed p n z → Agree (suc b) z (part_in x b) → Fits p n (part_in x b) (aside_out x b) z
      prefix z g a =
          aside_fits x b h l z g (λ j k. a j (omega arith) ∙ same j k)
          (a b (omega arith) ∙ has_part_in x b b ∙ rw (le-ltb b b (omega arith)) (grind arith))

      within : (c : ℕ) → has (t - only b) c ≡ true → (c < suc b) × (has (part_in x b) c ≡ true)
      within c k = let g = lower c k in (omega arith, same c g.1 ∙ s.within c g.0)

      turn : (c : ℕ) → has (t - only b) c ≡ true → Turn p n (part_in x b) c
      turn c k =
          let g = lower c k in
          turn_agree p n c x (part_in x b) (agree_sym c (part_in x b) x (agree_less b c (part_in x b) x (omega arith) same)) (s.turn c g.0)

      all_turns : (c : ℕ) → c < suc b → has (part_in x b) c ≡ true → Turn p n (part_in x b) c → has (t - only b) c ≡ true
      all_turns c k g r =
          let d : c < b = grind (arith, has_part_in x b c, nat_tests) in
          let u : has t c ≡ true =
          s.only c (sym (same c d) ∙ g) (turn_agree p n c (part_in x b) x (agree_less b c (part_in x b) x (omega arith) same) r) in
          has_less t b c e.held ∙ rw (u, ne_eqb b c (omega arith))

  -- ---- the descent

  pub descent_from : (k c q i o t : ℕ) → Reached p n q i o t → Tight p n i o → Opened k (size_of t) c → Descent p n k c q i o i o t c
  descent_from k c q i o t r w e = record { upto = q; reached = r; tight = w; leads = λ y f. f; opened = e; grown = omega arith }

  -- the lowest free mark is put in, and the node narrowed: one node more
  pub descent_step : (k c₀ q₀ i₀ o₀ i o t c f u v : ℕ) → Descent p n k c₀ q₀ i₀ o₀ i o t c → Free n i o f → Narrowed p n (with_bit i f) o u v
      → Descent p n k c₀ q₀ i₀ o₀ u v (with_bit t f) (c + 1)
  descent_step k c₀ q₀ i₀ o₀ i o t c f u v d e w =
      record {
        upto = suc f;
        reached = reached_narrowed p n (suc f) (with_bit i f) o u v (with_bit t f) (reached_in p n d.upto i o t f d.reached d.tight e) w;
        tight = w.tight;
        leads = λ y g. d.leads y (first_in p n i o f y e (first_narrowed p n (with_bit i f) o u v y w g));
        opened = opened_in k t f c fresh d.opened;
        grown = omega (arith, d.grown, lower);
      }
    where
      lower : d.upto ≤ f
      lower = free_from p n d.upto i o t f d.reached e

      fresh : has t f ≡ false
      fresh = ⊎_elim (λ h. absurd (omega (arith, (d.reached.within f h).0, lower))) (λ h. h) (cases_Bool (has t f))

  pub descent_done : (k c₀ q₀ i₀ o₀ i o t c : ℕ) → Descent p n k c₀ q₀ i₀ o₀ i o t c → Done n i o → Descended p n k c₀ q₀ i₀ o₀ i t c
  descent_done k c₀ q₀ i₀ o₀ i o t c d e =
      record {
        first = d.leads i (first_done p n i o e d.tight);
        turns = reached_turns p n d.upto i o t d.reached;
        opened = d.opened;
        grown = omega (arith, d.grown, d.reached.low);
      }

  -- it ends, since fewer marks are free
  pub free_falls : (i o f u v : ℕ) → n ≤ 32 → i < 2 ^ 32 → o < 2 ^ 32 → u < 2 ^ 32 → v < 2 ^ 32 → Free n i o f → Narrowed p n (with_bit i f) o u v
      → size_of (free_marks n u v) < size_of (free_marks n i o)
  free_falls i o f u v l hi ho hu hv e w = by (cases_order (size_of (free_marks n u v)) (size_of (free_marks n i o)))
    where
      less : (j : ℕ) → has (free_marks n u v) j ≡ true → has (free_marks n i o) j ≡ true
      less j h =
          let g = has_free_marks n u v l hu hv j in
          let k = has_free_marks n i o l hi ho j in
          let r = has_with i f j in
          let b : j < n = grind (arith, nat_tests) in
          let d : (has (with_bit i f) j || has o j) ≡ true → (has u j || has v j) ≡ true = narrowed_decided p n (with_bit i f) o u v j w b in
          grind arith

      part : PartOf (free_marks n u v) (free_marks n i o)
      part = part_from_has (free_marks n u v) (free_marks n i o) less

      not_same : free_marks n u v ≡ free_marks n i o → ⊥
      not_same q =
          let here : has (free_marks n i o) f ≡ true = has_free_marks n i o l hi ho f ∙ rw (lt-ltb f n e.below, e.not_in, e.not_out) in
          let gone : has u f ≡ true = narrowed_in p n (with_bit i f) o u v f w (with_here i f) in
          let there : has (free_marks n u v) f ≡ false = has_free_marks n u v l hu hv f ∙ rw gone (grind arith) in
          both_ways (has (free_marks n u v) f) there (ap (λ s. has s f) q ∙ here)

      by : (size_of (free_marks n u v) ≡ size_of (free_marks n i o))
          ⊎ ((size_of (free_marks n u v) < size_of (free_marks n i o)) ⊎ (size_of (free_marks n i o) < size_of (free_marks n u v)))
          → size_of (free_marks n u v) < size_of (free_marks n i o)
      by (inl q) = absurd (not_same (ones_strict (free_marks n u v) (free_marks n i o) part q))
      by (inr (inl q)) = q
      by (inr (inr q)) = absurd (omega (arith, ones_part (free_marks n u v) (free_marks n i o) part))

  -- ---- the first set, the next, and the last

  pub at_listed : (k x t c : ℕ) → At p n k x t c → Listed p n x
  at_listed k x t c a = subst (Listed p n) a.entry (place_listed p n (k - 1) (omega (arith, a.within, a.counted)))

  pub at_first : (x t c : ℕ) → Descended p n 1 1 0 0 0 x t c → At p n 1 x t c × (c ≤ n + 1)
  at_first x t c d =
      let f = d.first in
      let g = first_listed p n x (fits_listed p n 0 0 x f.fits) (λ z l b. f.none_before z (fits_root p n z l) b) in
      (record { counted = omega arith; within = omega (arith, g.0); entry = g.1; turns = d.turns; opened = d.opened }, omega (arith, d.grown))

  pub at_next : (k x t c b y u d : ℕ) → n ≤ 32 → At p n k x t c → Highest t b
      → Descended p n (k + 1) (c + 1) (suc b) (part_in x b) (aside_out x b) y u d → At p n (k + 1) y u d × (d ≤ c + n)
  at_next k x t c b y u d w a e s = (
    record {
      counted = omega arith;
      within = omega (arith, next.0);
      entry = ap (λ m. get_or (list_of p n) m 0) (let z : k + 1 - 1 ≡ k - 1 + 1 = omega (arith, a.counted) in z) ∙ next.1;
      turns = s.turns;
      opened = s.opened;
    },
    omega (arith, s.grown),
  )
    where
      m : Listed p n x
      m = at_listed k x t c a

      l : b ≤ 32
      l = omega (arith, w, has_below n x b m.below (a.turns.within b e.held))

      next : (k - 1 + 1 < length (list_of p n)) × (get_or (list_of p n) (k - 1 + 1) 0 ≡ y)
      next =
          next_listed p n (k - 1) x y (omega (arith, a.within, a.counted)) a.entry
          (aside_follows x t b y (small_below n x w m.below) l a.turns e s.first)

  -- with no turn it is the last
  pub at_last : (k x c : ℕ) → At p n k x 0 c → k ≡ length (list_of p n)
  at_last k x c a =
      let e = last_listed p n (k - 1) x (omega (arith, a.within, a.counted)) a.entry (λ z l b. no_turns_last x z a.turns l b) in
      omega (arith, a.counted)

  -- where the root has no fit there is no set
  pub at_none : ((z : ℕ) → Fits p n 0 0 z → ⊥) → length (list_of p n) ≡ 0
  at_none never =
      ⊎_elim (λ l. absurd (never (get_or (list_of p n) 0 0) (fits_root p n (get_or (list_of p n) 0 0) (place_listed p n 0 l)))) (λ l. omega arith)
      (cases_lt 0 (length (list_of p n)))
