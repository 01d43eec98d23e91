use Rattle.std.proofs.Common.{rules, ℕ, ◌-◌, ◌≤◌, Bool, get_or, refl, sym, ap, ◌∙◌, arith}
use Rattle.std.proofs.lemmas.List.{get_or_past}
use Rattle.marks.specs.Sets.{all_below}
use Rattle.marks.proofs.Gathering.{filtered_picked}
use Rattle.tables.specs.Columns.{words_per_mark, column_has, columns_meaning}
use Rattle.tables.specs.Meaning.{Meaning}
use Rattle.tables.specs.Columned.{column_at, columns_count, columns_same}
use Rattle.tables.proofs.Across.{mark_within}
use Rattle.tables.proofs.columns.ColumnsTable.row.Goals as goal

pub returns-then-get-self : goal.returns-then-get-self
returns-then-get-self c =
    let t = c.args.self.now in
    c.empty.ensures
    ∙ sym (get_or_past (columns_meaning t.words.now t.width.number t.count).rows (c.args.charge.number - 1) 0 (omega (arith, columns_count t.words.now t.width.number t.count)))

pub passing-requires : goal.passing-requires
passing-requires c mark held =
    let n = c.args.self.now.width.number in
    let inside : mark.number ≤ n = mark_within n (all_below n) refl mark held in
    let has-charge : c.args.charge.number ≤ c.args.self.now.count = omega (arith, c.get.ensures.value, c.if-get-self.false) in
    search rules

pub returns : goal.returns
returns c =
    let t = c.args.self.now in
    let n = t.width.number in
    let k : ℕ = c.args.charge.number - 1 in
    let test : ℕ → Bool = λ b. column_has t.words.now (words_per_mark t.count) b k in
    filtered_picked _ test (all_below n) c.passing.result.bits (λ mark answer held post. search rules) n refl c.passing.ensures
    ∙ sym (ap (λ (m : Meaning). get_or m.rows k 0) (columns_same t.words.now n t.count t.width.range t.few) ∙ column_at t.words.now n t.count k (omega arith))
