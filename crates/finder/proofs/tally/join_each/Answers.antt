use Rattle.marks.proofs.Enumerated.{follows}
use Rattle.marks.proofs.Gathering.{no_more}
use Rattle.marks.specs.Numbers.{bit_of}
use Rattle.finder.proofs.Tallying.{joining_more, joining_all}
use Rattle.finder.proofs.tally.join_each.Goals as goal

pub loop-mark-preserved : goal.loop-mark-preserved
loop-mark-preserved c =
    let rest = c.loop-mark.mark-iterator in
    let b = bit_of c.in-Some.mark.number in
    let rest' = c.next.new.self in
    joining_more c.args.some.bits c.args.row.bits rest.rest.bits b rest'.rest.bits rest.fits (follows rest.rest.bits b rest'.rest.bits rest.fits rest'.fits c.in-Some.ensures.steps)
    c.args.marks.now c.loop-mark.marks c.place.result _ c.place.ensures.value c.join.ensures c.loop-mark.invariant

pub returns : goal.returns
returns c =
    let rest = c.loop-mark.mark-iterator in
    joining_all c.args.some.bits c.args.row.bits rest.rest.bits c.args.marks.now c.loop-mark.marks c.loop-mark.invariant (no_more rest.rest.bits rest.fits c.in-None.ensures.steps.0)
