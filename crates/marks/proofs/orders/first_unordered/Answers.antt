use Rattle.std.proofs.Common.{rules}
use Rattle.std.proofs.lemmas.Iterator.{IsFirst-from_position}
use borrow.Author.Tests.{tests}
use Rattle.marks.proofs.Neighbours.{pairs_yielded, unordered_some, unordered_none}
use Rattle.marks.proofs.orders.first_unordered.Goals as goal

pub returns-in_err-left : goal.returns-in_err-left
returns-in_err-left g c =
    let first = IsFirst-from_position c.position.new.self _ _ (λ p. g.E.StrictOrder.before p.0 p.1 → ⊥) (λ p. g.E.StrictOrder.before p.0 p.1) c.position.ensures.ran
    (pairs_yielded g.E.StrictOrder.before c.args.elements.now {s = c.zip.result} (cc) (cc) (cc)) (λ x q k. search (rules, tests)) (λ x q k. search (rules, tests)) in
    rw c.from_residual.ensures (unordered_none g.E.StrictOrder.before c.args.elements.now (rw c.in_err-left.was at first))

pub returns : goal.returns
returns g c =
    let first = IsFirst-from_position c.position.new.self _ _ (λ p. g.E.StrictOrder.before p.0 p.1 → ⊥) (λ p. g.E.StrictOrder.before p.0 p.1) c.position.ensures.ran
    (pairs_yielded g.E.StrictOrder.before c.args.elements.now {s = c.zip.result} (cc) (cc) (cc)) (λ x q k. search (rules, tests)) (λ x q k. search (rules, tests)) in
    unordered_some g.E.StrictOrder.before c.args.elements.now c.in_ok-left.left (rw c.in_ok-left.was at first)
