use Rattle.std.proofs.Common.{[], set, ap, ◌∙◌}
use Rattle.found.specs.Records.{record_at}
use Rattle.found.proofs.ReadBack.{one_more}
use Rattle.found.proofs.reading.fill.Goals as goal

pub loop-index-preserved : goal.loop-index-preserved
loop-index-preserved c =
    ap (set c.loop-index.memory c.loop-index.index) c.from_bytes.ensures
    ∙ one_more (λ chunk. record_at chunk 0) c.args.chunks.now c.args.memory.now c.loop-index.index [] c.loop-index-test.true c.requires c.loop-index.invariant
