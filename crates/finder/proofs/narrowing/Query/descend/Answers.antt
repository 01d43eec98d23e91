use Rattle.std.proofs.Common.{◌≡◌, ◌<◌, Some, None, Option, IsSome, refl, sym, subst}
use Rattle.marks.specs.Numbers.{bit_of}
use Rattle.marks.specs.Sets.{size_of}
use Rattle.finder.specs.declared.narrowing.Node.{Node}
use Rattle.finder.specs.Asked.{asked}
use Rattle.finder.proofs.Descending.{ready_free, ready_done, child_is, child_there, child_falls, descending_more, descending_done}
use Rattle.finder.proofs.narrowing.Query.descend.Goals as goal
use Rattle.closed.proofs.WalkSteps.{free_marks}

there : {A : Type 0} (o : Option A) → (o ≡ None → ⊥) → IsSome o
there None gone = absurd (gone refl)
there (Some x) gone = refl

pub unwrap-node-requires : goal.unwrap-node-requires
unwrap-node-requires g c =
    let q = asked g.T.Table.meaning g.W.Limit.allowed c.args.self.now in
    let small = (g.met.T.Table.proper c.args.self.now.table).wide.1 in
    let node = c.loop-mark.node in
    let ready = c.loop-mark.invariant.ready in
    let b = bit_of c.in-Some.mark.number in
    let free = ready_free q small node ready _ _ _ c.free.ensures c.up_to-all.ensures c.width.ensures b c.in-Some.ensures in
    there c.open.result (λ none. child_there q small node ready b free c.«with».result.bits c.«with».ensures c.open.result c.open.ensures.node none)

pub loop-mark-smaller : goal.loop-mark-smaller
loop-mark-smaller g c =
    let q = asked g.T.Table.meaning g.W.Limit.allowed c.args.self.now in
    let small = (g.met.T.Table.proper c.args.self.now.table).wide.1 in
    let node = c.loop-mark.node in
    let ready = c.loop-mark.invariant.ready in
    let b = bit_of c.in-Some.mark.number in
    let free = ready_free q small node ready _ _ _ c.free.ensures c.up_to-all.ensures c.width.ensures b c.in-Some.ensures in
    subst (λ (x : Node). size_of (free_marks q.table.width x.ins.bits x.outs.bits) < size_of (free_marks q.table.width node.ins.bits node.outs.bits))
    (sym (child_is q small node ready b free c.«with».result.bits c.«with».ensures c.open.result c.open.ensures.node c.unwrap-node.result c.unwrap-node.ensures))
    (child_falls q small node ready b free)

pub loop-mark-preserved : goal.loop-mark-preserved
loop-mark-preserved g c =
    let q = asked g.T.Table.meaning g.W.Limit.allowed c.args.self.now in
    let small = (g.met.T.Table.proper c.args.self.now.table).wide.1 in
    let node = c.loop-mark.node in
    let ready = c.loop-mark.invariant.ready in
    let b = bit_of c.in-Some.mark.number in
    let free = ready_free q small node ready _ _ _ c.free.ensures c.up_to-all.ensures c.width.ensures b c.in-Some.ensures in
    descending_more q small c.args.start c.args.opened.now node c.loop-mark.turns.bits c.loop-mark.opened c.loop-mark.invariant b free
    c.unwrap-node.result c.with-turns.result.bits c.open.new.opened
    (child_is q small node ready b free c.«with».result.bits c.«with».ensures c.open.result c.open.ensures.node c.unwrap-node.result c.unwrap-node.ensures)
    c.with-turns.ensures c.open.ensures.counted

pub returns : goal.returns
returns g c =
    let q = asked g.T.Table.meaning g.W.Limit.allowed c.args.self.now in
    let small = (g.met.T.Table.proper c.args.self.now.table).wide.1 in
    let node = c.loop-mark.node in
    descending_done q small c.args.start c.args.opened.now node c.loop-mark.turns.bits c.loop-mark.opened c.loop-mark.invariant
    (ready_done q small node c.loop-mark.invariant.ready _ _ _ c.free.ensures c.up_to-all.ensures c.width.ensures c.in_default.ensures)
