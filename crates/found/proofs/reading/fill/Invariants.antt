use Rattle.std.proofs.Common.{◌≡◌, map, take}
use Rattle.marks.specs.Memory.{put_in_front}
use Rattle.found.specs.Records.{record_at}
use Rattle.found.proofs.reading.fill.Given as goal

abbrev pub invariant-loop-index : goal.invariant-loop-index
invariant-loop-index l = l.memory ≡ put_in_front (map (λ chunk. record_at chunk 0) (take l.index l.chunks)) l.initial.memory
