use Rattle.std.proofs.Common.{◌≡◌, ℕ, ◌+◌, ◌-◌, ◌*◌, ◌/◌, ◌%◌, ◌^◌, ◌<◌, not, eqb, get_or, sym, ap, ap₂, subst, ◌∙◌, arith}
use Rattle.std.proofs.lemmas.Bool.{eq-eqb}
use Rattle.marks.specs.Numbers.{bit_of}
use Rattle.marks.specs.Sets.{no_marks}
use Rattle.tables.specs.Columns.{word_bits, words_per_mark, past_count}
use Rattle.tables.proofs.Spills.{none_past, past_is}
use Rattle.tables.proofs.columns.Columns.spills.Goals as goal

pub returns-then-used-ne0 : goal.returns-then-used-ne0
returns-then-used-ne0 c =
    let t = c.args.self.now in
    let at : ℕ → ℕ → ℕ = λ b per. get_or t.words.now (b * per + per - 1) 0 in
    let read : at c.place.result c.words_per_mark-per.result < 2 ^ word_bits = omega arith in
    let same : at c.place.result c.words_per_mark-per.result ≡ at (bit_of c.args.mark.number) (words_per_mark t.count) = ap₂ at c.place.ensures.value c.words_per_mark-per.ensures.value in
    let past = past_is t.words.now t.count (bit_of c.args.mark.number) c.if-used-ne0.true (subst (λ word. word < 2 ^ word_bits) same read) in
    ap (λ past. not (eqb past no_marks)) (ap (λ word. word / 2 ^ (t.count % word_bits)) same ∙ sym past)

pub returns-else-used-ne0 : goal.returns-else-used-ne0
returns-else-used-ne0 c =
    let t = c.args.self.now in
    let none : past_count t.words.now t.count (bit_of c.args.mark.number) ≡ no_marks = none_past t.words.now t.count (bit_of c.args.mark.number) c.if-used-ne0.false in
    ap not (eq-eqb (t.count % word_bits) 0 c.if-used-ne0.false ∙ sym (eq-eqb _ no_marks none))
