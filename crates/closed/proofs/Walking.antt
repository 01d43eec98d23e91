-- The walk over the nodes of a family: the first set that fits, and the turns.
use Rattle.std.proofs.Common.{◌≡◌, ℕ, suc, ◌<◌, ◌≤◌, Bool, true, false, ◌||◌, eqb, ◌⊎◌, sym, ◌∙◌, subst, inl, inr, ⊎_elim, arith}
use Rattle.std.proofs.lemmas.Bool.{both_ways, cases_lt, cases_eq, cases_Bool, eq-eqb, ne_eqb, or_left, or_right, or_cases}
use Rattle.marks.specs.Orders.{Before}
use Rattle.marks.specs.Sets.{has, with_bit}
use Rattle.marks.specs.Members.{has_none, has_past}
use Rattle.marks.specs.Parts.{part_from_has, part_antisym, same_members, has_with}
use Rattle.marks.specs.SetOrder.{before_irrefl, before_trans}
use Rattle.closed.specs.Families.{Listed, Fits, Agree, Turn, Turns, First}
use Rattle.closed.specs.Walks.{Tight, Reached}
use Rattle.closed.proofs.Fitting.{with_here, with_cases, fits_listed, fits_has, fits_lacks, fits_decided, fits_root}
use Rattle.closed.proofs.Fitting.{fits_with, fits_with_back, fits_with_has, fits_without, narrowed_all_in, narrowed_none_out}
use Rattle.closed.proofs.WalkSteps.{Narrowed, Free, Done}

-- ---- agreement

pub agree_sym : (b x y : ℕ) → Agree b x y → Agree b y x
agree_sym b x y a j l = sym (a j l)

pub agree_trans : (b x y z : ℕ) → Agree b x y → Agree b y z → Agree b x z
agree_trans b x y z a c j l = a j l ∙ c j l

pub agree_less : (b c x y : ℕ) → c ≤ b → Agree b x y → Agree c x y
agree_less b c x y l a j h = a j (omega arith)

-- a mark is added, and nothing changes below it
pub agree_with : (b x : ℕ) → Agree b (with_bit x b) x
agree_with b x j l = has_with x b j ∙ rw (ne_eqb b j (omega arith)) (grind arith)

module _ (p : ℕ → Bool) (n : ℕ) where
  pub turn_agree : (b x y : ℕ) → Agree b x y → Turn p n x b → Turn p n y b
  turn_agree b x y a t = record { to = t.to; listed = t.listed; lacks = t.lacks; same = agree_trans b t.to x y t.same a }

  -- what fits agrees with the node where that is decided
  pub fits_agree : (q i o x : ℕ) → Fits p n i o x → ((j : ℕ) → j < q → (has i j || has o j) ≡ true) → Agree q x i
  fits_agree q i o x f d j l = fits_decided p n i o x j f (d j l)

  -- two sets that fit agree there
  pub fits_alike : (q i o x y : ℕ) → Fits p n i o x → Fits p n i o y → ((j : ℕ) → j < q → (has i j || has o j) ≡ true) → Agree q x y
  fits_alike q i o x y f g d = agree_trans q x i y (fits_agree q i o x f d) (agree_sym q y i (fits_agree q i o y g d))

  -- ---- the first that fits

  -- the first with the lowest free mark put in is the first of all
  pub first_in : (i o f y : ℕ) → Free n i o f → First p n (with_bit i f) o y → First p n i o y
  first_in i o f y e g = record { fits = mine; none_before = λ z h b. by z h b (cases_Bool (has z f)) }
    where
      mine : Fits p n i o y
      mine = fits_with_back p n i o y f g.fits

      by : (z : ℕ) → Fits p n i o z → Before z y → (has z f ≡ true) ⊎ (has z f ≡ false) → ⊥
      by z h b (inl t) = g.none_before z (fits_with p n i o z f h t) b
      by z h b (inr t) =
          before_irrefl z (before_trans z y z b
          (record { at = f; held = fits_with_has p n i o y f g.fits; lacks = t; same = fits_alike f i o y z mine h e.decided }))

  pub first_narrowed : (i o u v y : ℕ) → Narrowed p n i o u v → First p n u v y → First p n i o y
  first_narrowed i o u v y w g =
      record { fits = w.same y g.fits; none_before = λ z f b. g.none_before z (w.keeps z f) b }

  -- where no mark is free, what is put in is all that fits
  pub done_only : (i o x : ℕ) → Done n i o → Fits p n i o x → x ≡ i
  done_only i o x d f = same_members x i (λ b. by b (cases_lt b n))
    where
      by : (b : ℕ) → (b < n) ⊎ (n ≤ b) → has x b ≡ has i b
      by b (inl l) = fits_decided p n i o x b f (d b l)
      by b (inr l) =
          let e : has x b ≡ false = has_past n x b f.below l in
          let g : has i b ≡ true → has x b ≡ true = fits_has p n i o x b f in
          grind arith

  pub done_fits : (i o : ℕ) → Done n i o → Tight p n i o → Fits p n i o i
  done_fits i o d w = subst (Fits p n i o) (done_only i o w.some d w.fit) w.fit

  pub first_done : (i o : ℕ) → Done n i o → Tight p n i o → First p n i o i
  first_done i o d w =
      record {
        fits = done_fits i o d w;
        none_before = λ z f b. before_irrefl i (subst (λ k. Before k i) (done_only i o z d f) b);
      }

  -- ---- narrowing keeps what is decided

  pub narrowed_in : (i o u v b : ℕ) → Narrowed p n i o u v → has i b ≡ true → has u b ≡ true
  narrowed_in i o u v b w h = narrowed_all_in p n i o u v b w (λ z f. fits_has p n i o z b f h)

  pub narrowed_out : (i o u v b : ℕ) → Narrowed p n i o u v → b < n → has o b ≡ true → has v b ≡ true
  narrowed_out i o u v b w l h = narrowed_none_out p n i o u v b w l (λ z f. fits_lacks p n i o z b f h)

  pub narrowed_decided : (i o u v b : ℕ) → Narrowed p n i o u v → b < n → (has i b || has o b) ≡ true → (has u b || has v b) ≡ true
  narrowed_decided i o u v b w l d =
      ⊎_elim (λ h. or_left (has u b) (has v b) (narrowed_in i o u v b w h)) (λ h. or_right (has u b) (has v b) (narrowed_out i o u v b w l h))
      (or_cases (has i b) (has o b) d)

  pub narrowed_same : (i o u v b : ℕ) → Narrowed p n i o u v → b < n → (has i b || has o b) ≡ true → has u b ≡ has i b
  narrowed_same i o u v b w l d =
      sym (fits_decided p n u v w.tight.some b w.tight.fit (narrowed_decided i o u v b w l d))
      ∙ fits_decided p n i o w.tight.some b (w.same w.tight.some w.tight.fit) d

  -- ---- where the walk has come

  pub reached_root : Reached p n 0 0 0 0
  reached_root =
      record {
        low = omega arith;
        decided = λ j l. absurd (omega arith);
        prefix = λ z l a. fits_root p n z l;
        within = λ b e. absurd (both_ways (has 0 b) (has_none b) e);
        turn = λ b e. absurd (both_ways (has 0 b) (has_none b) e);
        only = λ b l. absurd (omega arith);
      }

  pub reached_narrowed : (q i o u v t : ℕ) → Reached p n q i o t → Narrowed p n i o u v → Reached p n q u v t
  reached_narrowed q i o u v t r w =
      record {
        low = r.low;
        decided = λ j l. narrowed_decided i o u v j w (omega (arith, r.low)) (r.decided j l);
        prefix = λ z l a. w.keeps z (r.prefix z l (agree_trans q z u i a same));
        within = λ b h. let k = r.within b h in (k.0, same b k.0 ∙ k.1);
        turn = λ b h. turn_agree b i u (agree_sym b u i (agree_less q b u i (omega (arith, (r.within b h).0)) same)) (r.turn b h);
        only = λ b l h s. r.only b l (sym (same b l) ∙ h) (turn_agree b u i (agree_less q b u i (omega arith) same) s);
      }
    where
      same : Agree q u i
      same j l = narrowed_same i o u v j w (omega (arith, r.low)) (r.decided j l)

  -- no set turns aside at a mark from q on that is put in
  pub no_turn : (q i o t b : ℕ) → Reached p n q i o t → q ≤ b → has i b ≡ true → Turn p n i b → ⊥
  no_turn q i o t b r l h s =
      let f : Fits p n i o s.to = r.prefix s.to s.listed (agree_less b q s.to i l s.same) in
      both_ways (has s.to b) s.lacks (fits_has p n i o s.to b f h)

  -- the lowest free mark is not below q
  pub free_from : (q i o t f : ℕ) → Reached p n q i o t → Free n i o f → q ≤ f
  free_from q i o t f r e =
      ⊎_elim (λ l. absurd (both_ways (has i f || has o f) (rw (e.not_in, e.not_out)) (r.decided f l))) (λ l. l) (cases_lt f q)

  -- the child with the lowest free mark put in, which is one more turn
  pub reached_in : (q i o t f : ℕ) → Reached p n q i o t → Tight p n i o → Free n i o f → Reached p n (suc f) (with_bit i f) o (with_bit t f)
  reached_in q i o t f r w e =
      record { low = e.below; decided = decided; prefix = prefix; within = within; turn = turn; only = only }
    where
      lower : q ≤ f
      lower = free_from q i o t f r e

      same : Agree f (with_bit i f) i
      same = agree_with f i

      decided : (j : ℕ) → j < suc f → (has (with_bit i f) j || has o j) ≡ true
      decided j l = by (cases_eq f j)
        where
          by : (f ≡ j) ⊎ (f ≡ j → ⊥) → (has (with_bit i f) j || has o j) ≡ true
          by (inl g) = or_left (has (with_bit i f) j) (has o j) (subst (λ k. has (with_bit i f) k ≡ true) g (with_here i f))
          by (inr g) = rw (same j (omega arith)) (e.decided j (omega arith))

      prefix : (z : ℕ) → Listed p n z → Agree (suc f) z (with_bit i f) → Fits p n (with_bit i f) o z
      prefix z l a =
          fits_with p n i o z f (r.prefix z l (λ j h. a j (omega (arith, lower)) ∙ same j (omega (arith, lower)))) (a f (omega arith) ∙ with_here i f)

      within : (b : ℕ) → has (with_bit t f) b ≡ true → (b < suc f) × (has (with_bit i f) b ≡ true)
      within b h = by (with_cases t f b h)
        where
          by : (has t b ≡ true) ⊎ (f ≡ b) → (b < suc f) × (has (with_bit i f) b ≡ true)
          by (inl k) = let m = r.within b k in (omega (arith, lower), has_with i f b ∙ or_left (has i b) (eqb f b) m.1)
          by (inr k) = (omega arith, subst (λ c. has (with_bit i f) c ≡ true) k (with_here i f))

      turn : (b : ℕ) → has (with_bit t f) b ≡ true → Turn p n (with_bit i f) b
      turn b h = by (with_cases t f b h)
        where
          at : Turn p n (with_bit i f) f
          at =
              let x = w.without_it f e.below e.not_in in
              record {
                to = x.0;
                listed = fits_listed p n i o x.0 x.1;
                lacks = x.2;
                same = agree_trans f x.0 i (with_bit i f) (fits_agree f i o x.0 x.1 e.decided) (agree_sym f (with_bit i f) i same);
              }

          by : (has t b ≡ true) ⊎ (f ≡ b) → Turn p n (with_bit i f) b
          by (inl k) =
              let m = r.within b k in
              turn_agree b i (with_bit i f) (agree_sym b (with_bit i f) i (agree_less f b (with_bit i f) i (omega (arith, lower)) same)) (r.turn b k)
          by (inr k) = subst (Turn p n (with_bit i f)) k at

      only : (b : ℕ) → b < suc f → has (with_bit i f) b ≡ true → Turn p n (with_bit i f) b → has (with_bit t f) b ≡ true
      only b l h s = by (cases_eq f b) (cases_lt b q)
        where
          by : (f ≡ b) ⊎ (f ≡ b → ⊥) → (b < q) ⊎ (q ≤ b) → has (with_bit t f) b ≡ true
          by (inl g) c = subst (λ c. has (with_bit t f) c ≡ true) g (with_here t f)
          by (inr g) c =
              let k : has i b ≡ true = sym (same b (omega arith)) ∙ h in
              let s' : Turn p n i b = turn_agree b (with_bit i f) i (agree_less f b (with_bit i f) i (omega arith) same) s in
              ⊎_elim (λ m. has_with t f b ∙ or_left (has t b) (eqb f b) (r.only b m k s')) (λ m. absurd (no_turn q i o t b r m k s')) c

  -- the child with a mark put out that was not put in
  pub reached_out : (q i o t : ℕ) → q < n → Reached p n q i o t → has i q ≡ false → Reached p n (suc q) i (with_bit o q) t
  reached_out q i o t l r g =
      record {
        low = l;
        decided = decided;
        prefix = λ z m a. fits_without p n i o z q (r.prefix z m (agree_less (suc q) q z i (omega arith) a)) (a q (omega arith) ∙ g);
        within = λ b h. let k = r.within b h in (omega arith, k.1);
        turn = r.turn;
        only = λ b h e s. ⊎_elim (λ k. r.only b k e s)
            (λ k. absurd (both_ways (has i b) (subst (λ c. has i c ≡ false) (let s : q ≡ b = omega arith in s) g) e)) (cases_lt b q);
      }
    where
      decided : (j : ℕ) → j < suc q → (has i j || has (with_bit o q) j) ≡ true
      decided j h =
          ⊎_elim (λ e. let d : (has i j || has o j) ≡ true = r.decided j e in grind (arith, has_with o q j))
          (λ e. let s : q ≡ j = omega arith in or_right (has i j) (has (with_bit o q) j) (has_with o q j ∙ or_right (has o j) (eqb q j) (eq-eqb q j s)))
          (cases_lt j q)

  -- a mark that narrowing has decided
  pub reached_skip : (q i o t : ℕ) → q < n → Reached p n q i o t → (has i q || has o q) ≡ true → Reached p n (suc q) i o t
  reached_skip q i o t l r d =
      record {
        low = l;
        decided = λ j h. ⊎_elim (λ e. r.decided j e) (λ e. subst (λ k. (has i k || has o k) ≡ true) (let s : q ≡ j = omega arith in s) d) (cases_lt j q);
        prefix = λ z m a. r.prefix z m (agree_less (suc q) q z i (omega arith) a);
        within = λ b h. let k = r.within b h in (omega arith, k.1);
        turn = r.turn;
        only = λ b h e s. ⊎_elim (λ k. r.only b k e s) (λ k. absurd (no_turn q i o t b r k e s)) (cases_lt b q);
      }

  -- so t has all the turns of what is put in
  pub reached_turns : (q i o t : ℕ) → Reached p n q i o t → Turns p n i t
  reached_turns q i o t r =
      record {
        within = λ b h. (r.within b h).1;
        turn = r.turn;
        only = λ b h s. ⊎_elim (λ l. r.only b l h s) (λ l. absurd (no_turn q i o t b r l h s)) (cases_lt b q);
      }

  -- a set has but one set of turns
  pub turns_one : (x s t : ℕ) → Turns p n x s → Turns p n x t → s ≡ t
  turns_one x s t u v =
      part_antisym s t (part_from_has s t (λ b e. v.only b (u.within b e) (u.turn b e)))
      (part_from_has t s (λ b e. u.only b (v.within b e) (v.turn b e)))
