use Rattle.std.proofs.Common.{rules, ◌≡◌, ℕ, ◌+◌, ◌-◌, ◌^◌, ◌≤◌, ◌∙◌, min, length, Some, None, refl, sym, ap, subst, arith}
use Rattle.std.proofs.lemmas.Bool.Decides.{nat_tests}
use Rattle.std.specs.Option.{option_map_or}
use Rattle.found.specs.Records.{written, slot_refusal, record_length}
use Rattle.closed.specs.Closed.{Query}
use Rattle.finder.specs.declared.finder.Last.{Last}
use Rattle.finder.specs.Calls.{query_of}
use Rattle.finder.specs.Descents.{Turned}
use Rattle.finder.specs.Found.{ordinal_of, last_at_place}
use Rattle.finder.proofs.Listing.{last_shows}
use Rattle.finder.proofs.Turns.{Next, remembered}
use Rattle.finder.proofs.finder.Finder.next.Given.{Over}
use Rattle.finder.proofs.finder.Finder.next.Goals as goal
use Rattle.finder.proofs.finder.Finder.next.Goals.{After-saturating_add}

long_enough : (size : ℕ) → record_length ≤ size → slot_refusal size ≡ None
long_enough size h = grind (arith, nat_tests)

-- the set that is found is the next of the list
module _ (g : Over) (c : After-saturating_add g) where
  abbrev q : Query
  q = query_of c.args.self.now

  abbrev k : ℕ
  k = ordinal_of c.args.self.now.last

  abbrev last : Last
  last = record {
    found = record { set = c.descend-leaf.result.set; support = c.descend-leaf.result.support; ordinal = c.saturating_add.result; opened = c.descend-leaf.new.opened };
    turns = c.descend-leaf.result.turns;
  }

  next : Next q k last
  next =
      let leaf = c.descend-leaf.result in
      let opened : c.map_or-ordinal.result.1 ≡ option_map_or (λ l. l.found.opened) c.args.self.now.last 0 = search rules in
      let ordinal : c.saturating_add.result ≡ min (k + 1) (2 ^ 64 - 1) = search rules in
      let begun = subst (λ r. Turned q k r c.turn.new.opened) c.in-Some.is (c.turn.ensures.turned opened) in
      let at = begun.2 leaf.set.bits leaf.turns.bits c.descend-leaf.new.opened (c.descend-leaf.ensures.found (k + 1) begun.0 begun.1) in
      remembered q k (g.met.T.Table.proper c.args.self.now.query.table) leaf.set.bits leaf.turns.bits c.descend-leaf.new.opened leaf.support c.saturating_add.result
      at c.descend-leaf.ensures.support_is ordinal

pub invariant_of-self : goal.invariant_of-self
invariant_of-self g c =
    let after = (goal.at.invariant_of-self g c).After-saturating_add in
    let n = next g after in
    record {
      within = omega (arith, n.more, n.counted);
      stands = subst (λ j. Some (last g after) ≡ last_at_place (q g after) j) (sym n.counted) n.is;
    }

pub returns-in_default : goal.returns-in_default
returns-in_default g c =
    let f = c.args.self.now in
    let ordinal : c.map_or-ordinal.result.0 ≡ ordinal_of f.last = search rules in
    let opened : c.map_or-ordinal.result.1 ≡ option_map_or (λ l. l.found.opened) f.last 0 = search rules in
    let end = subst (λ r. Turned (query_of f) (ordinal_of f.last) r c.turn.new.opened) c.in_default.is (c.turn.ensures.turned opened) in
    (long_enough (length c.args.slot.now) c.if-slot-lt-RECORD_BYTES.false, end.0, ordinal, end.1, refl, refl)

pub returns : goal.returns
returns g c =
    let after = (goal.at.returns g c).After-saturating_add in
    let n = next g after in (
      c.in_ok-write.ensures.answer.0,
      n.more,
      c.in_ok-write.ensures.answer.1 ∙ ap (λ r. written r c.args.slot.now) (last_shows (q g after) (k g after + 1) (last g after) n.is),
      refl,
      n.counted,
    )
