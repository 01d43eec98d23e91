-- What runs tell of the bound: between two sets in a row at most as many nodes are opened as there are marks.
use Rattle.std.proofs.Common.{◌≡◌, ◌+◌, ◌<◌, ◌≤◌, List, [], sym, ap, ◌∙◌, subst, arith}
use Rattle.tables.specs.Meaning.{Proper}
use Rattle.tables.specs.declared.table.Table.{Ghosts as Tables}
use Rattle.limits.specs.declared.limit.Limit.{Ghosts as Limits}
use Rattle.found.specs.declared.record.Record.{Record}
use Rattle.closed.specs.Closed.{Query}
use Rattle.finder.specs.declared.finder.Finder.{Finder}
use Rattle.finder.specs.Found.{how_many}
use Rattle.finder.specs.Runs.{Entry, BoundPart}
use Rattle.finder.specs.Running.{Run}
use Rattle.finder.proofs.Listing.{found_at, turns_few, opened_grows}
use Rattle.finder.proofs.Standing.{OfList, Standing, shows_list}

module _ (q : Query) where
  first_few : (r : Record) → OfList q r → r.ordinal ≡ 1 → r.opened ≤ q.table.width + 1
  first_few r o e =
      let place : o.place + 1 ≡ 1 = ap (λ x. x.ordinal) (sym o.is) ∙ e in
      subst (λ x. x.opened ≤ q.table.width + 1) (sym o.is) (omega (arith, place, turns_few q o.place))

  grows_few : (r s : Record) → OfList q r → OfList q s → s.ordinal ≡ r.ordinal + 1 → s.opened ≤ r.opened + q.table.width
  grows_few r s o p e =
      let place : p.place ≡ o.place + 1 = omega (arith, e, ap (λ x. x.ordinal) o.is, ap (λ x. x.ordinal) p.is) in
      let here : o.place + 1 < how_many q = omega (arith, place, p.within) in
      let s_is : s ≡ found_at q (o.place + 1) = p.is ∙ ap (found_at q) place in
      subst (λ x. s.opened ≤ x.opened + q.table.width) (sym o.is)
      (subst (λ x. x.opened ≤ (found_at q o.place).opened + q.table.width) (sym s_is) (opened_grows q o.place here))

module _ {T W : Type 0} {tables : Tables T} {limits : Limits W} (q : Query) (proper : Proper q.table) where
  pub bound_part : (entries : List Entry) (f h : Finder T W tables limits) → Standing q f [] → Run f entries h → BoundPart q entries
  bound_part entries f h s run =
      let of_list = shows_list q proper entries f h [] s run in
      record {
        at_first = λ r m e. first_few q r (of_list r m) e;
        grows = λ r s m n e. grows_few q r s (of_list r m) (of_list s n) e;
      }
