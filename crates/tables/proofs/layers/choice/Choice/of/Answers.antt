use Rattle.std.proofs.Common.{rules, ◌≡◌, ℕ, ◌≤◌, Bool, true, length, get_or, refl, sym, ap, ◌∙◌, arith}
use Rattle.marks.specs.Kinds.{Mark}
use Rattle.marks.specs.Numbers.{bit_of}
use Rattle.marks.specs.Sets.{has, all_below, picked}
use Rattle.marks.proofs.Gathering.{filtered_picked}
use Rattle.tables.specs.Chosen.{chosen}
use Rattle.tables.specs.Choosing.{chosen_length, chosen_at}
use Rattle.tables.proofs.Across.{mark_within}
use Rattle.tables.proofs.layers.choice.Choice.of.Goals as goal

pub returns : goal.returns
returns c =
    let n = c.args.self.width.number in
    let all = c.args.self.marks in
    let marks = chosen all n in
    let row = c.args.row.bits in
    let test : ℕ → Bool = λ j. has row (bit_of (get_or marks j 0)) in
    let long : length marks ≡ n = omega (arith, chosen_length all n) in
    let at : (mark : Mark) → has (all_below n) (bit_of mark.number) ≡ true → (d : Mark) → has row (bit_of (get_or all (bit_of mark.number) d).number) ≡ test (bit_of mark.number) =
    λ mark held d. let inside : mark.number ≤ n = mark_within n (all_below n) refl mark held in
    ap (λ i. has row (bit_of i)) (sym (chosen_at all n (bit_of mark.number) d (omega (arith, mark.range.0)) (omega (arith, mark.range.0)))) in
    filtered_picked _ test (all_below n) c.passing.result.bits (λ mark answer held post. let same = at mark held in search (rules, same)) n refl c.passing.ensures
    ∙ ap (picked test) (sym long)
