use Rattle.std.proofs.Common.{rules, Bool, true, false, refl}
use Rattle.std.specs.Fn.{FnReturnsAt}
use Rattle.std.proofs.lemmas.Iterator.{YieldsList-from_slice, IsFirst-from_position}
use denote.Param.Members.{step_gives, step_stays_lem}
use Rattle.marks.proofs.Places.{first_of_position}
use Rattle.marks.proofs.firsts.first_passing.Goals as goal

pub returns : goal.returns
returns g c =
    let test = c.args.test in
    let may = λ (b : Bool) (x : g.row.T.Denot). FnReturnsAt g.F.Fn test x b in
    let first = IsFirst-from_position c.position.new.self _ c.position.result (may true) (may false) c.position.ensures.ran
    (YieldsList-from_slice c.args.elements.now (cc)) (λ x q k. record { shown = x; shows = refl; says = record { met = step_gives g.F.Fn test (x, tt) true q g.met.F.FnMut.1 (record { met = k.met }) } })
    (λ x q k. (step_stays_lem g.F.Fn test (x, tt) false q g.met.F.Fn.1 (record { met = k.met }), record { shown = x; shows = refl; says = record { met = step_gives g.F.Fn test (x, tt) false q g.met.F.FnMut.1 (record { met = k.met }) } })) in
    first_of_position (FnReturnsAt g.F.Fn test) c.args.elements.now c.position.result c.map.result first (search rules)
