use Rattle.std.proofs.Common.{◌≡◌, ◌+◌, ◌-◌, ◌*◌, length, Some, replicate, sym, ap, ◌∙◌, arith}
use borrow.Rule.Slice.PartMut.{mid_of, put_mid, put_same}
use Rattle.marks.specs.declared.refusal.Refusal.{Refusal}
use Rattle.found.specs.Records.{record_length}
use Rattle.closed.specs.Closed.{query}
use Rattle.panel.proofs.Filling.{none_left, some_left, filled_none, more_filled, is_more, is_all, full, out}
use Rattle.panel.proofs.listing.write_list.Goals as goal

pub loop-place-init : goal.loop-place-init
loop-place-init g c =
    filled_none _ c.begin-finder.result c.begin-finder.ensures.value c.args.memory.now

pub loop-place-preserved : goal.loop-place-preserved
loop-place-preserved g c =
    let q = query (g.T.Table.meaning c.args.table.now) (g.W.Limit.allowed c.args.limit.now) c.args.support.number in
    let at = record_length * c.loop-place.place in
    let slot = mid_of at (at + record_length - at) c.loop-place.memory in
    let size : at + record_length - at ≡ record_length = omega arith in
    more_filled q c.args.memory.now c.loop-place.memory c.loop-place.finder c.loop-place.place c.loop-place.invariant
    slot c.next.new.slot c.next.new.self c.next.result c.next.ensures (g.met.T.Table.proper c.args.table.now) c.in-Found.ensures (omega (arith, size, c.loop-place.auto.memory, c.loop-place-test.true))
    _ (ap (λ n. put_mid at n c.loop-place.memory c.next.new.slot) size)

pub returns-in-End-clause-answer : goal.returns-in-End-clause-answer
returns-in-End-clause-answer g c =
    let q = query (g.T.Table.meaning c.args.table.now) (g.W.Limit.allowed c.args.limit.now) c.args.support.number in
    let at = record_length * c.loop-place.place in
    let slot = mid_of at (at + record_length - at) c.loop-place.memory in
    let all = is_all q c.args.memory.now c.loop-place.memory c.loop-place.finder c.loop-place.place c.loop-place.invariant
    slot c.next.new.slot c.next.new.self c.next.result c.next.ensures c.in-End.ordinal c.in-End.opened c.in-End.ensures in
    (none_left q (length c.args.memory.now) (omega (arith, all.0, c.loop-place-test.true)), all.0)

pub returns-in-End-clause-memory : goal.returns-in-End-clause-memory
returns-in-End-clause-memory g c =
    let q = query (g.T.Table.meaning c.args.table.now) (g.W.Limit.allowed c.args.limit.now) c.args.support.number in
    let at = record_length * c.loop-place.place in
    let slot = mid_of at (at + record_length - at) c.loop-place.memory in
    let all = is_all q c.args.memory.now c.loop-place.memory c.loop-place.finder c.loop-place.place c.loop-place.invariant
    slot c.next.new.slot c.next.new.self c.next.result c.next.ensures c.in-End.ordinal c.in-End.opened c.in-End.ensures in
    ap (put_mid at (at + record_length - at) c.loop-place.memory) all.1 ∙ put_same at (at + record_length - at) c.loop-place.memory
    ∙ out q c.args.memory.now c.loop-place.memory c.loop-place.finder c.loop-place.place c.loop-place.invariant
    all.0 (omega (arith, c.loop-place-test.true))

pub returns-in-Found-unwrap-clause-answer : goal.returns-in-Found-unwrap-clause-answer
returns-in-Found-unwrap-clause-answer g c =
    let q = query (g.T.Table.meaning c.args.table.now) (g.W.Limit.allowed c.args.limit.now) c.args.support.number in
    let more = is_more q c.args.memory.now c.loop-place.memory c.loop-place.finder c.loop-place.place c.loop-place.invariant
    (replicate record_length 0) c.next-2.new.slot c.next-2.new.self c.next-2.result c.next-2.ensures (g.met.T.Table.proper c.args.table.now) c.in-Found-unwrap.ensures in
    some_left q (length c.args.memory.now) (omega (arith, more, c.loop-place-test.false)) ∙ ap (λ (e : Refusal). Some e) (sym c.unplaced.ensures)

pub returns-in-Found-unwrap-clause-memory : goal.returns-in-Found-unwrap-clause-memory
returns-in-Found-unwrap-clause-memory g c =
    let q = query (g.T.Table.meaning c.args.table.now) (g.W.Limit.allowed c.args.limit.now) c.args.support.number in
    full q c.args.memory.now c.loop-place.memory c.loop-place.finder c.loop-place.place c.loop-place.invariant
    (omega (arith, c.loop-place-test.false, c.loop-place.auto.place-end))

pub returns-in-End-unwrap-clause-answer : goal.returns-in-End-unwrap-clause-answer
returns-in-End-unwrap-clause-answer g c =
    let q = query (g.T.Table.meaning c.args.table.now) (g.W.Limit.allowed c.args.limit.now) c.args.support.number in
    let all = is_all q c.args.memory.now c.loop-place.memory c.loop-place.finder c.loop-place.place c.loop-place.invariant
    (replicate record_length 0) c.next-2.new.slot c.next-2.new.self c.next-2.result c.next-2.ensures c.in-End-unwrap.ordinal c.in-End-unwrap.opened c.in-End-unwrap.ensures in
    (none_left q (length c.args.memory.now) (omega (arith, all.0, c.loop-place-test.false)), omega (arith, all.0, c.loop-place-test.false, c.loop-place.auto.place-end))

pub returns-in-End-unwrap-clause-memory : goal.returns-in-End-unwrap-clause-memory
returns-in-End-unwrap-clause-memory g c =
    let q = query (g.T.Table.meaning c.args.table.now) (g.W.Limit.allowed c.args.limit.now) c.args.support.number in
    full q c.args.memory.now c.loop-place.memory c.loop-place.finder c.loop-place.place c.loop-place.invariant
    (omega (arith, c.loop-place-test.false, c.loop-place.auto.place-end))
