use Rattle.std.proofs.Common.{◌≡◌, ℕ, ◌<◌, length, get_or}
use Rattle.marks.specs.Sets.{minus, PartOf}
use Rattle.tables.specs.Columns.{put_word}
use Rattle.tables.proofs.columns.turning.put.Given as goal

abbrev pub invariant-loop-mark : goal.invariant-loop-mark
invariant-loop-mark l =
    let rest = l.mark-iterator.rest.bits in
    record {
      part : PartOf rest l.fn.row.bits;
      so_far : (i : ℕ) → i < length l.initial.words → get_or l.words i 0 ≡ put_word l.per l.place (minus l.fn.row.bits rest) i (get_or l.initial.words i 0);
    }
