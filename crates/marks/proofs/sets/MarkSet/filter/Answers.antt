use Rattle.marks.specs.Numbers.{bit_of}
use Rattle.marks.proofs.Enumerated.{follows}
use Rattle.marks.proofs.Gathering.{within_start, within_more, gathered_start, gathered_more, gathered_all, no_more}
use Rattle.marks.proofs.sets.MarkSet.filter.Goals as goal

pub loop-mark-init : goal.loop-mark-init
loop-mark-init g c =
    let all = c.args.self.bits in
    let rest = c.into_iter-mark-iterator.result.rest.bits in
    (within_start all rest (cc), gathered_start (goal.F-post g c.args.test) all rest c.empty-kept.result.bits (cc) c.empty-kept.ensures)

pub test-requires : goal.test-requires
test-requires g c =
    let rest = c.loop-mark.mark-iterator in
    let bit = bit_of c.in-Some.mark.number in
    let next = follows rest.rest.bits bit c.next.new.self.rest.bits rest.fits c.next.new.self.fits c.in-Some.ensures.steps in
    c.requires c.in-Some.mark (c.loop-mark.invariant.0 bit next.lowest.held)

pub loop-mark-preserved : goal.loop-mark-preserved
loop-mark-preserved g c =
    let all = c.args.self.bits in
    let rest = c.loop-mark.mark-iterator in
    let left = c.next.new.self.rest.bits in
    let bit = bit_of c.in-Some.mark.number in
    let inside = c.loop-mark.invariant.0 in
    let next = follows rest.rest.bits bit left rest.fits c.next.new.self.fits c.in-Some.ensures.steps in (
      within_more all rest.rest.bits bit left rest.fits next inside,
      gathered_more (goal.F-post g c.args.test) all rest.rest.bits left c.loop-mark.kept.bits c.with_if-kept.result.bits c.in-Some.mark c.test.result rest.fits next inside c.loop-mark.invariant.1
          c.test.ensures c.with_if-kept.ensures,
    )

pub returns : goal.returns
returns g c =
    let rest = c.loop-mark.mark-iterator in
    gathered_all (goal.F-post g c.args.test) c.args.self.bits rest.rest.bits c.loop-mark.kept.bits (no_more rest.rest.bits rest.fits c.in-None.ensures.steps.0) c.loop-mark.invariant.1
