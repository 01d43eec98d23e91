use Rattle.std.proofs.Common.{◌≡◌, ◌+◌, ◌-◌, ◌*◌, ◌^◌, ◌<◌, length, get_or, take, min, Some, refl, sym, ap, ◌∙◌, subst, ap₂, arith}
use Rattle.std.specs.List.{range_with_len}
use Rattle.std.proofs.lemmas.List.{length_push, take_all}
use Rattle.marks.specs.declared.refusal.Refusal.{Refusal}
use Rattle.marks.specs.Members.{has_below}
use Rattle.marks.specs.Numbers.{most_charges}
use Rattle.marks.proofs.Counting.{left, comes, all_passed}
use Rattle.tables.specs.Columns.{words_per_mark, put_word, turned_word, turned, SameColumns}
use Rattle.tables.specs.Meaning.{count_of}
use Rattle.tables.proofs.Turned.{marks_words, turned_none, turned_more, turned_whole, turned_accepted, turned_same, turn_refused, turn_accepted}
use Rattle.tables.proofs.columns.turning.turn.Goals as goal

pub returns-then-words-get-clause-words : goal.returns-then-words-get-clause-words
returns-then-words-get-clause-words g c =
    let m = g.T.Table.meaning c.args.table.now in
    let size : c.get.result * c.words_per_mark-per.result ≡ m.width * words_per_mark (count_of m) = cc in
    turn_refused m (length c.args.words.now) (λ e. c.if-words-get.true (e ∙ sym size)) ∙ ap (λ (e : Refusal). Some e) (sym c.unplaced.ensures)

pub loop-charge-init : goal.loop-charge-init
loop-charge-init g c =
    let m = g.T.Table.meaning c.args.table.now in
    let charges = c.into_iter-charge-iterator.result in
    let none : charges.passed ≡ 0 = cc in
    let asked : charges.count ≡ min (count_of m) most_charges = cc in
    let all : charges.count ≡ count_of m = omega (arith, (g.met.T.Table.proper c.args.table.now).few) in
    let size : length c.args.words.now ≡ m.width * words_per_mark (count_of m) = cc in
    record {
      to_come = sym (ap₂ (λ p n. range_with_len (p + 1) (n - p)) none all);
      so_far = λ i h. c.fill.ensures.clones i 0 (omega (arith, size)) refl ∙ sym (turned_none (words_per_mark (count_of m)) m.rows i);
    }

pub put-requires-clause-place : goal.put-requires-clause-place
put-requires-clause-place g c =
    let m = g.T.Table.meaning c.args.table.now in
    let here = comes (count_of m) (length c.loop-charge.yielded) c.in-Some.charge.number _ (c.loop-charge.invariant.to_come ∙ c.in-Some.ensures.steps) in
    omega (arith, c.words_per_mark-per.ensures.value, c.count-count.ensures, here.is_next, here.within)

pub put-requires-clause-room : goal.put-requires-clause-room
put-requires-clause-room g c b held =
    let m = g.T.Table.meaning c.args.table.now in
    let n = m.width in
    let per = c.words_per_mark-per.result in
    let size : length c.loop-charge.words ≡ n * per = cc in
    let fits : c.row.result.bits < 2 ^ n = rw c.row.ensures ((g.met.T.Table.proper c.args.table.now).within (c.in-Some.charge.number - 1)) in
    omega (arith, size, marks_words per n b (has_below n c.row.result.bits b fits held))

pub loop-charge-preserved : goal.loop-charge-preserved
loop-charge-preserved g c =
    let m = g.T.Table.meaning c.args.table.now in
    let charge = c.in-Some.charge in
    let k = length c.loop-charge.yielded in
    let here = comes (count_of m) k charge.number _ (c.loop-charge.invariant.to_come ∙ c.in-Some.ensures.steps) in
    let long = length_push c.loop-charge.yielded charge in
    let place : charge.number - 1 ≡ k = omega (arith, here.is_next) in
    let per = words_per_mark (count_of m) in
    let wide : c.words_per_mark-per.result ≡ per = cc in
    let size : length c.args.words.now ≡ m.width * per = cc in
    let row : c.row.result.bits ≡ get_or m.rows k 0 = c.row.ensures ∙ ap (λ i. get_or m.rows i 0) place in
    record {
      to_come = ap (left (count_of m)) long ∙ sym here.others;
      so_far = λ i h.
          c.put.ensures i (omega (arith, size, c.loop-charge.auto.words, c.fill.ensures.len))
          ∙ ap₂ (λ p r. put_word p (charge.number - 1) r i (get_or c.loop-charge.words i 0)) wide row
          ∙ ap₂ (λ t word. put_word per t (get_or m.rows k 0) i word) place (c.loop-charge.invariant.so_far i h)
          ∙ turned_more per m.rows k i ∙ ap (λ n. turned_word per (take n m.rows) i) (sym long);
    }

pub returns : goal.returns
returns g c =
    let m = g.T.Table.meaning c.args.table.now in
    let proper = g.met.T.Table.proper c.args.table.now in
    let k = length c.loop-charge.yielded in
    let size : length c.args.words.now ≡ m.width * words_per_mark (count_of m) = cc in
    let done : take k m.rows ≡ m.rows = take_all k m.rows (all_passed (count_of m) k (c.loop-charge.invariant.to_come ∙ c.in-None.ensures.steps.0)) in
    let whole : c.loop-charge.words ≡ turned m =
    turned_whole m c.loop-charge.words (omega (arith, size, c.loop-charge.auto.words, c.fill.ensures.len))
    (λ i h. c.loop-charge.invariant.so_far i h ∙ ap (λ rows. turned_word (words_per_mark (count_of m)) rows i) done) in
    record {
      words = (turn_accepted m (length c.args.words.now) size, whole);
      columns = subst (SameColumns m) (sym whole) (turned_accepted m proper, turned_same m proper);
    }
