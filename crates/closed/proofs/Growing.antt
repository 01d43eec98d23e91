-- The tree of the nodes of a family: its leaves are the list, and the nodes up to a leaf are counted by the turns of its set.
use Rattle.std.proofs.Common.{◌≡◌, ℕ, zero, suc, ◌+◌, ◌-◌, ◌<◌, ◌≤◌, Bool, true, false, cond, ◌||◌, ltb, ◌⊎◌, [], ◌∷◌, ◌++◌, length, get_or, sym, refl, ap, ◌∙◌, subst, inl, inr, ⊎_elim, arith}
use Rattle.std.specs.List.{ContainsAt as Has, AllByRecursion, AllPairs}
use Rattle.std.proofs.lemmas.List.{length-append, get_or_append_left, get_or-append_right, nil_from_length}
use Rattle.std.proofs.ByRecursion.{All-append, All-weaker, all-has, has_append_left, has_append_right}
use Rattle.std.proofs.lemmas.Bool.{ltb-true, ltb-false, cases_Bool, or_parts, cond-true, cond-false}
use Rattle.marks.specs.Orders.{Before}
use Rattle.marks.specs.Sets.{has, no_marks, with_bit, size_of}
use Rattle.marks.specs.Sizes.{ones_with, ones_zero}
use Rattle.closed.specs.Families.{Fits, list_of, dead, fitting, in_every, in_none, turn_count, turns}
use Rattle.closed.specs.Walks.{Tight, Reached, At}
use Rattle.closed.specs.Trees.{Tree, dead_end, leaf, fork, leaves, nodes, upto_leaf, Alive, grow, node_tree, TreeLaw}
use Rattle.closed.proofs.Ordered.{pairs_append, has_here, list_ordered, list_has, list_only, same_listed}
use Rattle.closed.proofs.Fitting.{fits_listed, fits_below, fits_root, fits_with, fits_with_back, fits_with_has}
use Rattle.closed.proofs.Fitting.{fits_without, fits_without_back, fits_without_lacks, fits_alive, dead_none, alive_some, narrowed_defined}
use Rattle.closed.proofs.Walking.{fits_alike, done_only, done_fits, reached_root, reached_narrowed, reached_in, reached_out, reached_skip, reached_turns, turns_one}
use Rattle.closed.proofs.Stepping.{at_last, at_none}
use Rattle.closed.proofs.Turning.{turns_are, at_turns}
use Rattle.closed.proofs.Counting.{lefts, upto_lefts, length_nodes}
use Rattle.closed.proofs.WalkSteps.{Narrowed, Free, Done}

module _ (p : ℕ → Bool) (n : ℕ) where
  -- what is known of the tree g below the node (i, o), to which t turns lead
  record Grown (i o t : ℕ) (g : Tree) : Type 0 where
    fit : AllByRecursion (Fits p n i o) (leaves g)
    all : (z : ℕ) → Fits p n i o z → Has (leaves g) z
    ordered : AllPairs Before (leaves g)
    turned : (k : ℕ) → k < length (leaves g) → turn_count p n (get_or (leaves g) k 0) ≡ size_of t + lefts g k
    alive : Alive g

  grown_leaf : (q i o t : ℕ) → Reached p n q i o t → Tight p n i o → Done n i o → Grown i o t (leaf i o)
  grown_leaf q i o t r w d =
      record {
        fit = (done_fits p n i o d w, tt);
        all = λ z f. subst (Has (i ∷ [])) (sym (done_only p n i o z d f)) (has_here i []);
        ordered = λ j k d l h. absurd (omega arith);
        turned = turned;
        alive = tt;
      }
    where
      same : t ≡ turns p n i
      same = turns_one p n i t (turns p n i) (reached_turns p n q i o t r) (turns_are p n i (fits_below p n i o w.some w.fit))

      turned : (k : ℕ) → k < 1 → turn_count p n (get_or (i ∷ []) k 0) ≡ size_of t + 0
      turned zero h = omega (arith, ap size_of same)
      turned (suc k) h = absurd (omega arith)

  -- the two children, each narrowed
  grown_fork : (q i o t a b c d : ℕ) (x y : Tree) → Reached p n q i o t → Free n i o q
      → Narrowed p n (with_bit i q) o a b → Narrowed p n i (with_bit o q) c d
      → Grown a b (with_bit t q) x → Grown c d t y → Grown i o t (fork i o q x y)
  grown_fork q i o t a b c d x y r e v w g h =
      record {
        fit = All-append (Fits p n i o) (leaves x) (leaves y)
            (All-weaker (Fits p n a b) (Fits p n i o) (λ z f. fits_with_back p n i o z q (v.same z f)) (leaves x) g.fit)
            (All-weaker (Fits p n c d) (Fits p n i o) (λ z f. fits_without_back p n i o z q (w.same z f)) (leaves y) h.fit);
        all = λ z f. by z f (cases_Bool (has z q));
        ordered = pairs_append Before (leaves x) (leaves y) g.ordered h.ordered
            (All-weaker (Fits p n a b) (λ z. AllByRecursion (Before z) (leaves y))
            (λ z f. All-weaker (Fits p n c d) (Before z) (λ u k. before z u (v.same z f) (w.same u k)) (leaves y) h.fit) (leaves x) g.fit);
        turned = λ k l. turned k l (ltb k (length (leaves x))) refl;
        alive = (g.alive, h.alive);
      }
    where
      by : (z : ℕ) → Fits p n i o z → (has z q ≡ true) ⊎ (has z q ≡ false) → Has (leaves x ++ leaves y) z
      by z f (inl s) = has_append_left (leaves x) (leaves y) z (g.all z (v.keeps z (fits_with p n i o z q f s)))
      by z f (inr s) = has_append_right (leaves x) (leaves y) z (h.all z (w.keeps z (fits_without p n i o z q f s)))

      before : (z u : ℕ) → Fits p n (with_bit i q) o z → Fits p n i (with_bit o q) u → Before z u
      before z u f k =
          record {
            at = q;
            held = fits_with_has p n i o z q f;
            lacks = fits_without_lacks p n i o u q k;
            same = fits_alike p n q i o z u (fits_with_back p n i o z q f) (fits_without_back p n i o u q k) e.decided;
          }

      fresh : has t q ≡ false
      fresh = ⊎_elim (λ s. absurd (omega (arith, (r.within q s).0))) (λ s. s) (cases_Bool (has t q))

      turned : (k : ℕ) → k < length (leaves x ++ leaves y) → (z : Bool) → ltb k (length (leaves x)) ≡ z
          → turn_count p n (get_or (leaves x ++ leaves y) k 0) ≡ size_of t + cond z (suc (lefts x k)) (lefts y (k - length (leaves x)))
      turned k l true z =
          let m : k < length (leaves x) = ltb-true k (length (leaves x)) z in
          ap (turn_count p n) (get_or_append_left (leaves x) (leaves y) 0 k m) ∙ omega (arith, g.turned k m, ones_with t q fresh)
      turned k l false z =
          let m : length (leaves x) ≤ k = ltb-false k (length (leaves x)) z in
          ap (turn_count p n) (get_or-append_right (leaves x) (leaves y) (length (leaves x)) k 0 refl m)
          ∙ h.turned (k - length (leaves x)) (omega (arith, length-append (leaves x) (leaves y)))

  -- what the node (i, o) is narrowed to
  abbrev ins : ℕ → ℕ → ℕ
  ins i o = in_every n (fitting p n i o)

  abbrev outs : ℕ → ℕ → ℕ
  outs i o = in_none n (fitting p n i o)

  -- a node that some set fits is no dead end
  alive_tree : (i o z : ℕ) (g : Tree) → Fits p n i o z → cond (dead p n i o) dead_end g ≡ g
  alive_tree i o z g f = cond-false (dead p n i o) dead_end g (fits_alive p n i o z f)

  grown : (m q i o t : ℕ) → m + q ≡ n → Reached p n q i o t → Tight p n i o → Grown i o t (grow p n m q i o)
  grown zero q i o t e r w = grown_leaf q i o t r w (λ j h. r.decided j (omega arith))
  grown (suc m) q i o t e r w =
      by (has i q || has o q) refl
      (λ d. grown m (suc q) i o t (omega arith) (reached_skip p n q i o t (omega arith) r d) w)
      (λ k b s z f d. let c = narrowed_defined p n k b z f in
      subst (Grown (ins k b) (outs k b) s) (sym (alive_tree k b z (grow p n m (suc q) (ins k b) (outs k b)) f))
      (grown m (suc q) (ins k b) (outs k b) s (omega arith) (reached_narrowed p n (suc q) k b (ins k b) (outs k b) s d c) c.tight))
    where
      child : ℕ → ℕ → Tree
      child k b = cond (dead p n k b) dead_end (grow p n m (suc q) (ins k b) (outs k b))

      by : (z : Bool) → (has i q || has o q) ≡ z
          → ((has i q || has o q) ≡ true → Grown i o t (grow p n m (suc q) i o))
          → ((k b s z : ℕ) → Fits p n k b z → Reached p n (suc q) k b s
          → Grown (ins k b) (outs k b) s (cond (dead p n k b) dead_end (grow p n m (suc q) (ins k b) (outs k b))))
          → Grown i o t (cond z (grow p n m (suc q) i o) (fork i o q (child (with_bit i q) o) (child i (with_bit o q))))
      by true d skip down = skip d
      by false d skip down =
          let c = or_parts (has i q) (has o q) d in
          let low : q < n = omega arith in
          let free : Free n i o q = record { below = low; not_in = c.0; not_out = c.1; decided = r.decided } in
          let x = w.with_it q low c.1 in
          let y = w.without_it q low c.0 in
          let a : Fits p n (with_bit i q) o x.0 = fits_with p n i o x.0 q x.1 x.2 in
          let b : Fits p n i (with_bit o q) y.0 = fits_without p n i o y.0 q y.1 y.2 in
          grown_fork q i o t (ins (with_bit i q) o) (outs (with_bit i q) o) (ins i (with_bit o q)) (outs i (with_bit o q))
          (child (with_bit i q) o) (child i (with_bit o q))
          r free (narrowed_defined p n (with_bit i q) o x.0 a) (narrowed_defined p n i (with_bit o q) y.0 b)
          (down (with_bit i q) o (with_bit t q) x.0 a (reached_in p n q i o t q r w free))
          (down i (with_bit o q) t y.0 b (reached_out p n q i o t low r c.0))

  -- ---- the whole tree

  root_alive : (z : ℕ) → Fits p n no_marks no_marks z → node_tree p n ≡ grow p n n 0 (ins no_marks no_marks) (outs no_marks no_marks)
  unfolding node_tree
  root_alive z f = alive_tree no_marks no_marks z (grow p n n 0 (ins no_marks no_marks) (outs no_marks no_marks)) f

  root_dead : dead p n no_marks no_marks ≡ true → node_tree p n ≡ dead_end
  unfolding node_tree
  root_dead e = cond-true (dead p n no_marks no_marks) dead_end (grow p n n 0 (ins no_marks no_marks) (outs no_marks no_marks)) e

  -- where no set fits the root
  law_dead : dead p n no_marks no_marks ≡ true → TreeLaw p n
  law_dead e =
      record {
        leaves_are = ap leaves (root_dead e) ∙ sym (nil_from_length (list_of p n) none);
        counted = λ k l h. absurd (omega (arith, none));
        all = λ l. absurd (omega (arith, none));
        alive = λ l. absurd (omega (arith, none));
        empty = λ z. root_dead e;
      }
    where
      none : length (list_of p n) ≡ 0
      none = at_none p n (λ z f. dead_none p n no_marks no_marks z e f)

  -- where some set does
  law_alive : (z : ℕ) → Fits p n no_marks no_marks z → TreeLaw p n
  law_alive z f =
      record {
        leaves_are = leaves_are;
        counted = λ k l h.
            let s : k - 1 < length (leaves (node_tree p n)) = omega (arith, ap length leaves_are) in
            let t : turn_count p n (get_or (leaves (node_tree p n)) (k - 1) 0) ≡ turn_count p n (get_or (list_of p n) (k - 1) 0) =
            ap (λ xs. turn_count p n (get_or xs (k - 1) 0)) leaves_are in
            omega (arith, upto_lefts (node_tree p n) (k - 1) whole.alive s, whole.turned (k - 1) s, ones_zero);
        all = λ l. omega (arith, length_nodes (node_tree p n) whole.alive, ap length leaves_are);
        alive = λ l. whole.alive;
        empty = λ e. absurd (omega (arith, (list_has p n z (fits_listed p n no_marks no_marks z f)).1));
      }
    where
      root : Narrowed p n no_marks no_marks (ins no_marks no_marks) (outs no_marks no_marks)
      root = narrowed_defined p n no_marks no_marks z f

      whole : Grown (ins no_marks no_marks) (outs no_marks no_marks) 0 (node_tree p n)
      whole =
          subst (Grown (ins no_marks no_marks) (outs no_marks no_marks) 0) (sym (root_alive z f))
          (grown n 0 (ins no_marks no_marks) (outs no_marks no_marks) 0 (omega arith)
          (reached_narrowed p n 0 no_marks no_marks (ins no_marks no_marks) (outs no_marks no_marks) 0 (reached_root p n) root) root.tight)

      leaves_are : leaves (node_tree p n) ≡ list_of p n
      leaves_are =
          same_listed (leaves (node_tree p n)) (list_of p n) whole.ordered (list_ordered p n)
          (λ x h. list_has p n x (fits_listed p n (ins no_marks no_marks) (outs no_marks no_marks) x
          (all-has (Fits p n (ins no_marks no_marks) (outs no_marks no_marks)) (leaves (node_tree p n)) x whole.fit h)))
          (λ x h. whole.all x (root.keeps x (fits_root p n x (list_only p n x h))))

  pub tree_law : TreeLaw p n
  tree_law =
      ⊎_elim law_dead (λ e. let x = alive_some p n no_marks no_marks e in law_alive x.0 x.1) (cases_Bool (dead p n no_marks no_marks))

  -- what was opened on the way to a set are the nodes up to its leaf
  pub opened_nodes : (k x t c : ℕ) → At p n k x t c → c ≡ upto_leaf (nodes (node_tree p n)) (k - 1)
  opened_nodes k x t c a =
      let s : turn_count p n (get_or (list_of p n) (k - 1) 0) ≡ size_of t =
      ap (turn_count p n) a.entry ∙ ap size_of (sym (at_turns p n k x t c a)) in
      omega (arith, tree_law.counted k a.counted a.within, a.opened)

  -- at the last set every node was opened
  pub opened_all : (k x c : ℕ) → At p n k x 0 c → c ≡ length (nodes (node_tree p n))
  opened_all k x c a =
      let l : k ≡ length (list_of p n) = at_last p n k x c a in
      omega (arith, tree_law.all (omega (arith, a.counted)), ones_zero, a.opened)
