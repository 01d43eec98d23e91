use Rattle.std.proofs.Common.{take}
use Rattle.finder.proofs.Recording.{Recorded}
use Rattle.finder.proofs.transcripts.transcript.Given as goal

abbrev pub invariant-loop-asked : goal.invariant-loop-asked
invariant-loop-asked g l =
    Recorded l.initial.finder (take l.asked-index l.moves) l.told.items l.finder
