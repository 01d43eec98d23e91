use Rattle.std.proofs.Common.{refl, sym, subst}
use Rattle.closed.specs.Closed.{query}
use Rattle.finder.proofs.Lawfulness.{fresh_stands}
use Rattle.finder.proofs.Standing.{Standing}
use Rattle.finder.proofs.Wholes.{stands_on, fewer_to_come, all_out}
use Rattle.finder.proofs.whole.whole_list.Goals as goal

pub loop-records-init : goal.loop-records-init
loop-records-init g c =
    subst (Standing _ c.begin-finder.result) (sym c.new-records.ensures.items) (fresh_stands _ c.begin-finder.result c.begin-finder.ensures.value)

pub loop-records-smaller : goal.loop-records-smaller
loop-records-smaller g c =
    let q = query (g.T.Table.meaning c.args.table.now) (g.W.Limit.allowed c.args.limit.now) c.args.support.number in
    fewer_to_come q (g.met.T.Table.proper c.args.table.now)
    c.loop-records.finder c.loop-records.records.items c.loop-records.invariant c.loop-records.slot c.next.new.slot c.next.new.self c.next.result c.next.ensures c.unwrap.result c.unwrap.ensures
    c.in-Found.is c.from_bytes.result c.from_bytes.ensures c.push.new.self.items c.in_ok-push-in-Found.ensures.items

pub loop-records-preserved : goal.loop-records-preserved
loop-records-preserved g c =
    let q = query (g.T.Table.meaning c.args.table.now) (g.W.Limit.allowed c.args.limit.now) c.args.support.number in
    stands_on q (g.met.T.Table.proper c.args.table.now)
    c.loop-records.finder c.loop-records.records.items c.loop-records.invariant c.loop-records.slot c.next.new.slot c.next.new.self c.next.result c.next.ensures c.unwrap.result c.unwrap.ensures
    c.in-Found.is c.from_bytes.result c.from_bytes.ensures c.push.new.self.items c.in_ok-push-in-Found.ensures.items

pub returns-in-End : goal.returns-in-End
returns-in-End g c =
    let q = query (g.T.Table.meaning c.args.table.now) (g.W.Limit.allowed c.args.limit.now) c.args.support.number in
    all_out q (g.met.T.Table.proper c.args.table.now)
    c.loop-records.finder c.loop-records.records.items c.loop-records.invariant c.loop-records.slot c.next.new.slot c.next.new.self c.next.result c.next.ensures c.unwrap.result c.unwrap.ensures
    c.in-End.ordinal c.in-End.opened c.in-End.is _ refl refl
