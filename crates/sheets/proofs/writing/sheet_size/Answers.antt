use Rattle.std.proofs.Common.{◌≡◌, ℕ, ◌+◌, ◌-◌, length, min, ap₂, ◌∙◌, rules, arith}
use Rattle.std.proofs.lemmas.Iterator.{YieldsList, YieldsList-from_map}
use Rattle.std.proofs.lemmas.Iterator.Consumers.{YieldsList-from_first, sum_by_from_yields_List}
use Rattle.std.proofs.lemmas.Iterator.Adapters.{at_most_from_yields_List, fits_from_length}
use Rattle.std.proofs.lemmas.List.FromFn.{length-range_with_len}
use Rattle.std.specs.Iterator.{YieldsFirstBy}
use Rattle.std.specs.List.{range_with_len}
use borrow.Author.Tests.{tests}
use Rattle.marks.specs.declared.numbers.charge.Charges.{Charges}
use Rattle.marks.specs.Kinds.{Charge}
use Rattle.marks.specs.Numbers.{most_charges}
use Rattle.tables.proofs.Passing.{to_come}
use Rattle.tables.specs.Meaning.{Meaning, Proper, count_of, row_of}
use Rattle.sheets.specs.Rendering.{row_text}
use Rattle.sheets.proofs.Lined.{charges_of, lines_summed}
use Rattle.sheets.proofs.writing.sheet_size.Goals as goal

abbrev number : Charge → ℕ
number charge = charge.number

-- the charges that come are those of the table
all_come : (m : Meaning) → Proper m → (n : ℕ) → n ≡ count_of m → (charges : Charges) → charges.passed ≡ 0 → charges.count ≡ min n most_charges
    → YieldsList (YieldsFirstBy number to_come) number charges (charges_of m)
all_come m proper n whole charges none all =
    let first : charges.passed + 1 ≡ 1 = omega arith in
    let many : charges.count - charges.passed ≡ count_of m = omega (arith, proper.few) in
    YieldsList-from_first number to_come (charges_of m) (ap₂ range_with_len first many)

pub sum-requires-clause-fits : goal.sum-requires-clause-fits
sum-requires-clause-fits g c =
    let m = g.T.Table.meaning c.args.table.now in
    let proper = g.met.T.Table.proper c.args.table.now in
    fits_from_length _ _ most_charges _
    (at_most_from_yields_List (all_come m proper c.count.result c.count.ensures c.map.result.iter (cc) (cc)) (omega (arith, length-range_with_len 1 (count_of m), proper.few)))
    c.map.ensures.closure (omega arith) (λ x r q k. search (rules, tests))

pub returns : goal.returns
returns g c =
    let m = g.T.Table.meaning c.args.table.now in
    let proper = g.met.T.Table.proper c.args.table.now in
    sum_by_from_yields_List (λ charge. length (row_text (row_of m charge))) (charges_of m) c.map.result _ c.sum.ensures.ran
    (YieldsList-from_map _ (λ charge. length (row_text (row_of m charge))) (all_come m proper c.count.result c.count.ensures c.map.result.iter (cc) (cc))
    c.map.ensures.closure (λ x r q k. search (rules, tests)))
    ∙ lines_summed m
