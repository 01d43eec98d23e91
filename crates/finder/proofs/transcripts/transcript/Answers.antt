use Rattle.std.proofs.Common.{map, take_all, ◌∙◌, subst}
use Rattle.finder.specs.Runs.{Lawful}
use Rattle.finder.specs.declared.transcripts.Move.TheVariants.{Next}
use Rattle.finder.specs.Transcripts.{entry_of}
use Rattle.finder.proofs.Lawfulness.{fresh_lists}
use Rattle.finder.proofs.Recording.{recorded_none, recorded_more}
use Rattle.finder.proofs.transcripts.transcript.Goals as goal

pub loop-asked-init : goal.loop-asked-init
loop-asked-init g c =
    recorded_none c.begin-finder.result c.new-told.result.items c.new-told.ensures.items

pub loop-asked-preserved : goal.loop-asked-preserved
loop-asked-preserved g c =
    recorded_more c.begin-finder.result c.loop-asked.finder c.make.new.self
    c.args.moves.now c.loop-asked.asked-index (Next 0) c.loop-asked.told.items c.push.new.self.items c.in_ok-make.field-0 c.loop-asked-test.true
    c.loop-asked.invariant c.in_ok-make.ensures c.in_ok-push.ensures.items

pub returns : goal.returns
returns g c =
    let told = c.loop-asked.told.items in
    let all = c.loop-asked.invariant in
    record {
      asked = all.asked ∙ take_all c.loop-asked.asked-index c.args.moves.now c.loop-asked-test.false;
      lawful =
          subst (λ q. Lawful q (map entry_of told)) (fresh_lists _ c.begin-finder.result c.begin-finder.ensures.value)
          (c.begin-finder.ensures.lawful (map entry_of told) c.loop-asked.finder all.run);
    }
