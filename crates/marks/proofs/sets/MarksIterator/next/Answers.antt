use Rattle.std.proofs.Common.{◌≡◌, ℕ, ◌<◌, ◌∷◌, length, ap, ◌∙◌, arith}
use Rattle.marks.specs.Numbers.{bit_of, most_marks}
use Rattle.marks.specs.Sets.{has, bits_below}
use Rattle.marks.specs.Parts.{has_without}
use Rattle.marks.proofs.Enumerated.{bits_none, bits_lowest}
use Rattle.marks.proofs.sets.MarksIterator.next.Goals as goal

pub returns-in_err-mark-clause-steps : goal.returns-in_err-mark-clause-steps
returns-in_err-mark-clause-steps c =
    let none = ap (bits_below most_marks) c.in_err-mark.ensures ∙ bits_none most_marks in
    rw c.from_residual.ensures (none, none)

-- the mark that is given, and then those that are left
parts : (c : goal.After-self-1) → bits_below most_marks c.args.self.now.rest.bits ≡ bit_of c.in_ok-mark.mark.number ∷ bits_below most_marks c.without-self.result.bits
parts c =
    let s = c.args.self.now.rest.bits in
    let b = bit_of c.in_ok-mark.mark.number in
    let low : b < 32 = omega (arith, c.in_ok-mark.mark.range.0, c.in_ok-mark.mark.range.1) in
    bits_lowest most_marks s c.without-self.result.bits b low c.in_ok-mark.ensures (λ (j : ℕ). ap (λ (t : ℕ). has t j) c.without-self.ensures ∙ has_without s b j c.args.self.now.fits low)

pub returns-clause-steps : goal.returns-clause-steps
returns-clause-steps c = parts c

pub returns-clause-goes : goal.returns-clause-goes
returns-clause-goes c = let fewer = ap length (parts c) in record {
  on = λ _. (tt, tt, omega (arith, fewer));
  keeps = tt;
  rests = λ _. tt;
}
