use Rattle.finder.specs.Calls.{query_of}
use Rattle.marks.specs.Sets.{no_marks}
use Rattle.finder.proofs.Turns.{start_ready, aside_ready, turn_at_root, turn_from}
use Rattle.finder.proofs.finder.Finder.turn.Goals as goal

pub returns-in-Some : goal.returns-in-Some
returns-in-Some g c =
    let f = c.args.self.now in
    let q = query_of f in
    record {
      ready = aside_ready q c.in-Some.last.found.set.bits c.in-Some.last.turns.bits c.args.opened.now c.turn_aside.result c.turn_aside.new.opened c.turn_aside.ensures;
      turned = λ e. turn_from q f.last f.within f.stands (g.met.T.Table.proper f.query.table) c.in-Some.last c.in-Some.is
          c.args.opened.now c.turn_aside.new.opened e c.turn_aside.result c.turn_aside.ensures;
    }

pub returns-in-None : goal.returns-in-None
returns-in-None g c =
    let f = c.args.self.now in
    let q = query_of f in
    record {
      ready = start_ready q no_marks no_marks no_marks c.start_at_root.result c.start_at_root.ensures.node;
      turned = λ e. turn_at_root q f.last f.within f.stands c.in-None.is c.args.opened.now c.start_at_root.new.opened e
          c.start_at_root.ensures.counted c.start_at_root.result c.start_at_root.ensures.node;
    }
