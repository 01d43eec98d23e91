use Rattle.std.proofs.Common.{◌*◌, ◌≤◌, Some, sym, ap, ap₂, ◌∙◌, arith}
use Rattle.marks.specs.declared.refusal.Reason.TheVariants.{Stray}
use Rattle.marks.specs.declared.refusal.Refusal.{Refusal}
use Rattle.marks.specs.Numbers.{most_charges}
use Rattle.marks.specs.Refusals.{placed_at}
use Rattle.tables.specs.Columned.{columns_same}
use Rattle.tables.proofs.Spills.{refused_many, refused_size, refused_stray, accepted}
use Rattle.tables.proofs.columns.Columns.new.Goals as goal

pub returns-then-count-from : goal.returns-then-count-from
returns-then-count-from c =
    refused_many c.args.words.now c.args.width.number c.args.count (omega (arith, c.from.ensures))
    ∙ ap (λ (e : Refusal). Some e) (sym c.unplaced.ensures)

pub returns-then-words-get : goal.returns-then-words-get
returns-then-words-get c =
    let n = c.args.width.number in
    let m = c.args.count in
    let e = ap₂ (λ n per. n * per) c.get.ensures.value c.words_per_mark.ensures.value in
    refused_size c.args.words.now n m (omega (arith, c.from.ensures)) (λ same. c.if-words-get.true (same ∙ sym e))
    ∙ ap (λ (e : Refusal). Some e) (sym c.unplaced-then-words-get.ensures)

pub returns-in-Some : goal.returns-in-Some
returns-in-Some c =
    let n = c.args.width.number in
    let m = c.args.count in
    let e = ap₂ (λ n per. n * per) c.get.ensures.value c.words_per_mark.ensures.value in
    let mark = c.from-in-Some.ensures ∙ c.get-in-Some.ensures.value in
    refused_stray c.args.words.now n m (omega (arith, c.from.ensures)) (c.if-words-get.false ∙ e) c.in-Some.mark.number (sym c.in-Some.ensures)
    ∙ ap (λ (e : Refusal). Some e) (ap (placed_at Stray) (sym mark) ∙ sym c.at.ensures)

pub returns : goal.returns
returns c =
    let words = c.args.words.now in
    let n = c.args.width.number in
    let m = c.args.count in
    let few : m ≤ most_charges = omega (arith, c.from.ensures) in
    let e = ap₂ (λ n per. n * per) c.get.ensures.value c.words_per_mark.ensures.value in
    (accepted words n m few (c.if-words-get.false ∙ e) (sym c.in_default.ensures), columns_same words n m c.args.width.range few)
