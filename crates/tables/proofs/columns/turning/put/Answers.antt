use Rattle.std.proofs.Common.{◌≡◌, ℕ, ◌+◌, ◌*◌, ◌/◌, ◌%◌, ◌^◌, ◌<◌, ◌≤◌, true, ◌∷◌, length, get_or, set, refl, sym, ap, ◌∙◌, arith}
use lib.Bits.{bit_or}
use Rattle.std.proofs.lemmas.Nat.{one_shl, pow_below}
use Rattle.marks.specs.declared.sets.Marks.{Marks}
use Rattle.marks.specs.Numbers.{bit_of}
use Rattle.marks.specs.Sets.{has, bits_below, with_bit, without_bit, PartOf}
use Rattle.marks.proofs.Algebra.{minus_part}
use Rattle.marks.proofs.Enumerated.{follows}
use Rattle.marks.proofs.Gathering.{no_more}
use Rattle.marks.specs.Members.{has_below}
use Rattle.marks.specs.Parts.{part_has, part_refl, part_trans}
use Rattle.tables.specs.Columns.{word_bits, put_word}
use Rattle.tables.proofs.Turned.{put_none, put_all, put_more}
use Rattle.tables.proofs.columns.turning.put.Goals as goal

pub loop-mark-init : goal.loop-mark-init
loop-mark-init c =
    let row = c.args.row.bits in
    let all : c.into_iter-mark-iterator.result.rest.bits ≡ row = cc in
    rw all (record {
      part = part_refl row;
      so_far = λ i h. sym (put_none c.args.per c.place-place.result row (omega arith) (omega arith) i (get_or c.args.words.now i 0));
    })

-- the word of the mark that comes lies among the words
within : (per t row b bit size : ℕ) (before after : Marks) → ((b : ℕ) → has row b ≡ true → b * per + per ≤ size) → PartOf before.rest.bits row → t / word_bits < per
    → bits_below 32 before.rest.bits ≡ b ∷ bits_below 32 after.rest.bits → bit ≡ b → bit * per + t / word_bits < size
within per t row b bit size before after room part inside e same =
    let next = follows before.rest.bits b after.rest.bits before.fits after.fits e in
    omega (arith, room b (part_has before.rest.bits row b part next.lowest.held), ap (λ x. x * per) same)

pub bounds-words-place : goal.bounds-words-place
bounds-words-place c =
    let words = c.args.words.now in
    let at = within c.args.per c.place-place.result c.args.row.bits _ c.place.result (length words) c.loop-mark.mark-iterator c.next.new.self c.requires.room c.loop-mark.invariant.part (omega arith) c.in-Some.ensures.steps c.place.ensures.value in
    omega (arith, at, c.loop-mark.auto.words)

pub bounds-words-place-in-loop-mark : goal.bounds-words-place-in-loop-mark
bounds-words-place-in-loop-mark c =
    let words = c.args.words.now in
    let at = within c.args.per c.place-place.result c.args.row.bits _ c.place.result (length words) c.loop-mark.mark-iterator c.next.new.self c.requires.room c.loop-mark.invariant.part (omega arith) c.in-Some.ensures.steps c.place.ensures.value in
    omega (arith, at, c.loop-mark.auto.words)

pub loop-mark-preserved : goal.loop-mark-preserved
loop-mark-preserved c =
    let per = c.args.per in
    let t = c.place-place.result in
    let row = c.args.row.bits in
    let before = c.loop-mark.mark-iterator in
    let after = c.next.new.self in
    let rest = before.rest.bits in
    let b = bit_of c.in-Some.mark.number in
    let words = c.loop-mark.words in
    let old = c.args.words.now in
    let next = follows rest b after.rest.bits before.fits after.fits c.in-Some.ensures.steps in
    let held = next.lowest.held in
    let low = has_below 32 rest b before.fits held in
    let part = c.loop-mark.invariant.part in
    let inside : t / word_bits < per = omega arith in
    let at : ℕ → ℕ = λ x. x * per + t / word_bits in
    let size = within per t row b b (length old) before after c.requires.room part inside c.in-Some.ensures.steps refl in
    rw next.rest (record {
      part = part_trans (without_bit rest b) rest row (minus_part rest (2 ^ b) before.fits (pow_below b 32 low)) part;
      so_far = λ i h.
          ap (λ v. get_or (set words (at c.place.result) (bit_or (get_or words (at c.place.result) 0) v)) i 0) (one_shl (t % word_bits) word_bits (omega arith))
          ∙ ap (λ x. get_or (set words (at x) (with_bit (get_or words (at x) 0) (t % word_bits))) i 0) c.place.ensures.value
          ∙ put_more per t row inside (omega arith) rest b held part before.fits low words old (length old) (omega (arith, size, c.loop-mark.auto.words)) c.loop-mark.invariant.so_far size i h;
    })

pub returns : goal.returns
returns c i h =
    let rest = c.loop-mark.mark-iterator in
    let word = get_or c.args.words.now i 0 in
    c.loop-mark.invariant.so_far i h
    ∙ put_all c.args.per c.place-place.result c.args.row.bits (omega arith) (omega arith) rest.rest.bits i word (no_more rest.rest.bits rest.fits c.in-None.ensures.steps.0)
    ∙ ap (λ n. put_word c.args.per n c.args.row.bits i word) c.place-place.ensures.value
