-- Transcripts: which moves were made of a finder, and what was told.
use Rattle.std.specs.Prelude.{◌≡◌, List, map, length, replicate}
use Rattle.closed.specs.Closed.{Query}
use Rattle.finder.specs.declared.transcripts.Move.{Move}
use Rattle.finder.specs.declared.transcripts.Move.TheVariants.{Next as ToNext, Look as ToLook, Rewind as ToRewind}
use Rattle.finder.specs.declared.transcripts.Told.{Told}
use Rattle.finder.specs.declared.transcripts.Told.TheVariants.{Next, Look, Rewind}
use Rattle.finder.specs.Runs.{Entry, next, look, rewind, Lawful}

-- the move that was made: of that kind, with a slot of as many bytes
abbrev pub move_of : Told → Move
move_of (Next answer slot) = ToNext (length slot.items)
move_of (Look answer slot) = ToLook (length slot.items)
move_of Rewind = ToRewind

-- the call and its answer: the slot held zeros before
abbrev pub entry_of : Told → Entry
entry_of (Next answer slot) = next (replicate (length slot.items) 0) answer slot.items
entry_of (Look answer slot) = look (replicate (length slot.items) 0) answer slot.items
entry_of Rewind = rewind

-- one was told for each move, in order, and all of them obey the law of runs
pub record TranscriptOf (q : Query) (moves : List Move) (told : List Told) : Type 0 where
  pub asked : map move_of told ≡ moves
  pub lawful : Lawful q (map entry_of told)
