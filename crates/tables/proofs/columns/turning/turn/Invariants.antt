use Rattle.std.proofs.Common.{◌≡◌, ℕ, ◌+◌, ◌-◌, ◌*◌, ◌<◌, length, get_or, take}
use Rattle.std.specs.List.{range_with_len}
use Rattle.marks.proofs.Counting.{left}
use Rattle.tables.specs.Columns.{words_per_mark, turned_word}
use Rattle.tables.specs.Meaning.{count_of}
use Rattle.tables.proofs.columns.turning.turn.Given as goal

abbrev pub invariant-loop-charge : goal.invariant-loop-charge
invariant-loop-charge g l =
    let m = g.T.Table.meaning l.table in
    let per = words_per_mark (count_of m) in
    let k = length l.yielded in
    let rest = l.charge-iterator in
    record {
      to_come : left (count_of m) k ≡ range_with_len (rest.passed + 1) (rest.count - rest.passed);
      so_far : (i : ℕ) → i < m.width * per → get_or l.words i 0 ≡ turned_word per (take k m.rows) i;
    }
