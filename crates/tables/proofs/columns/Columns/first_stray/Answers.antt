use Rattle.std.proofs.Common.{ℕ, ◌≤◌, Bool, not, eqb, arith, rules}
use Rattle.std.proofs.lemmas.Iterator.Adapters.{serves_from_places}
use Rattle.std.proofs.lemmas.Iterator.Search.{find_from_yields_List}
use Rattle.std.proofs.lemmas.List.FromFn.{length-range_with_len, get_or-range_with_len}
use borrow.Author.Tests.{tests}
use Rattle.marks.specs.Numbers.{bit_of}
use Rattle.marks.specs.Sets.{no_marks}
use Rattle.tables.specs.Columns.{past_count}
use Rattle.tables.proofs.Across.{each_number, number_found}
use Rattle.tables.proofs.columns.Columns.first_stray.Goals as goal

pub find-requires-clause-callable : goal.find-requires-clause-callable
find-requires-clause-callable c =
    let n = c.args.self.now.width.number in
    serves_from_places (each_number n c.up_to.result (cc) (cc)) (λ x q k. search (rules, tests))
    (λ x k l e. let low : x.number ≤ n = omega (arith, e, l, length-range_with_len 1 n, get_or-range_with_len 1 n k x.number) in
    search (rules, low))

pub returns : goal.returns
returns c =
    let n = c.args.self.now.width.number in
    let test : ℕ → Bool = λ b. not (eqb (past_count c.args.self.now.words.now c.args.self.now.count b) no_marks) in
    number_found test n _
    (find_from_yields_List (λ m. test (bit_of m)) c.find.new.self _ c.find.result c.find.ensures.ran (each_number n c.up_to.result (cc) (cc)) (λ x b q k. search (rules, tests)))
