use Rattle.std.proofs.Common.{ℕ, Bool, eqb, take, sym, rules}
use Rattle.std.specs.List.{list_any, enumerate_from}
use Rattle.std.proofs.lemmas.Iterator.{YieldsList-from_slice}
use Rattle.std.proofs.lemmas.Iterator.Consumers.{YieldsList-from_enumerate}
use Rattle.std.proofs.lemmas.Iterator.Search.{position_from_yields_List}
use borrow.Author.Tests.{tests}
use Rattle.marks.proofs.Places.{place_of}
use Rattle.tables.proofs.Occurring.{repeat_place}
use Rattle.tables.proofs.layers.choice.first_repeat.Goals as goal

pub returns : goal.returns
returns c =
    let numbers = c.args.numbers.now in
    let again : ℕ × ℕ → Bool = λ p. list_any (λ y. eqb y p.1) (take p.0 numbers) in
    let at = position_from_yields_List again _ _ c.position.result c.position.ensures.ran (YieldsList-from_enumerate (YieldsList-from_slice numbers (cc)) (cc)) (λ x b q k. search (rules, tests)) in
    rw (sym (repeat_place numbers), place_of again (enumerate_from 0 numbers) c.position.result (sym at)) (search (rules, tests))
