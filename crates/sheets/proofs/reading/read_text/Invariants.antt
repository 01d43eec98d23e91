use Rattle.std.proofs.Common.{◌≡◌, ◌-◌, length}
use Rattle.sheets.proofs.Steps.{Passed}
use Rattle.sheets.proofs.reading.read_text.Given as goal

abbrev pub invariant-loop-piece : goal.invariant-loop-piece
invariant-loop-piece l = record {
  text : l.reader.text.now ≡ l.fn.text;
  passed : Passed l.fn.width.number l.fn.text l.fn.memory l.memory l.reader.position l.sheet;
}

abbrev pub decreases-loop-piece : goal.decreases-loop-piece
decreases-loop-piece l = length l.reader.text.now - l.reader.position
