-- What runs tell of the count: in each record what was opened is a count of the nodes of the tree, and End carries the last count again.
use Rattle.std.proofs.Common.{◌≡◌, ℕ, ◌+◌, ◌-◌, ◌*◌, ◌<◌, eqb, List, [], ◌∷◌, Ok, sym, ap, ◌∙◌, subst, arith}
use Rattle.std.proofs.lemmas.Bool.{ne_eqb, cond-false}
use Rattle.tables.specs.Meaning.{Proper}
use Rattle.tables.specs.declared.table.Table.{Ghosts as Tables}
use Rattle.limits.specs.declared.limit.Limit.{Ghosts as Limits}
use Rattle.found.specs.declared.record.Record.{Record}
use Rattle.closed.specs.Closed.{Query, listed}
use Rattle.closed.specs.Families.{turn_count}
use Rattle.closed.specs.Trees.{upto_leaf}
use Rattle.finder.specs.declared.finder.Finder.{Finder}
use Rattle.finder.specs.declared.step.Step.TheVariants.{End}
use Rattle.finder.specs.Found.{how_many, kth_record, ordinal_of, opened_at_end}
use Rattle.finder.specs.Runs.{Entry, next, handed_out, nodes_of, EndTells, CountPart}
use Rattle.finder.specs.Running.{Does, Run}
use Rattle.finder.proofs.Handing.{handed_nil, handed_last}
use Rattle.finder.proofs.Listing.{found_at, kth_more, opened_counts, opened_all}
use Rattle.finder.proofs.Standing.{Standing, amid, shows_list}

module _ (q : Query) where
  -- after a set, the end has the numbers of that set
  end_again : (j : ℕ) → j < how_many q → opened_at_end q (j + 1) ≡ (found_at q j).opened
  end_again j h =
      cond-false (eqb (j + 1) 0) 1 (kth_record q (j + 1)).opened (ne_eqb (j + 1) 0 (λ e. omega arith)) ∙ ap (λ r. r.opened) (kth_more q j h)

  formula_is : (j : ℕ) → (found_at q j).opened + 1 ≡ 2 * (found_at q j).ordinal + turn_count (listed q) q.table.width (found_at q j).set.bits
  formula_is j = omega arith

module _ {T W : Type 0} {tables : Tables T} {limits : Limits W} (q : Query) (proper : Proper q.table) where
  end_tells : (f h : Finder T W tables limits) (out : List Record) (before : List ℕ) (ordinal opened : ℕ) (after : List ℕ) → Standing q f out
      → Does f (next before (Ok (End ordinal opened)) after) h → EndTells q out ordinal opened
  end_tells f h out before ordinal opened after s d =
      let k = ordinal_of f.last in
      let all : k ≡ how_many q = subst (λ p. k ≡ how_many p) s.lists d.1 in
      let opened_is : opened ≡ opened_at_end q k = subst (λ p. opened ≡ opened_at_end p k) s.lists d.3 in
      record {
        none = λ e.
            let zero' = handed_nil q out k s.handed e in
            (d.2 ∙ zero', opened_is ∙ ap (opened_at_end q) zero');
        again = λ earlier last e.
            let was = handed_last q out k s.handed earlier last e in
            (d.2 ∙ was.1 ∙ ap (λ r. r.ordinal) (sym was.3), opened_is ∙ ap (opened_at_end q) was.1 ∙ end_again q was.0 was.2 ∙ ap (λ r. r.opened) (sym was.3));
        all = opened_is ∙ ap (opened_at_end q) all ∙ opened_all q;
      }

  pub count_part : (entries : List Entry) (f h : Finder T W tables limits) → Standing q f [] → Run f entries h → CountPart q entries
  count_part entries f h s run =
      record {
        formula = λ r m.
            let o = shows_list q proper entries f h [] s run r m in
            subst (λ x. x.opened + 1 ≡ 2 * x.ordinal + turn_count (listed q) q.table.width x.set.bits) (sym o.is) (formula_is q o.place);
        counts = λ r m.
            let o = shows_list q proper entries f h [] s run r m in
            subst (λ x. x.opened ≡ upto_leaf (nodes_of q) (x.ordinal - 1)) (sym o.is) (opened_counts q o.place o.within);
        ends = λ past before ordinal opened after future z.
            let a = amid q proper entries f h [] s run past (next before (Ok (End ordinal opened)) after ∷ future) z in
            end_tells a.then a.run.0 (handed_out past) before ordinal opened after a.standing a.run.1;
      }
