use Rattle.std.proofs.Common.{◌≡◌, ℕ, ◌+◌, List, ◌++◌, length, take, drop, refl, ap, ◌∙◌, arith}
use Rattle.marks.proofs.Counting.{comes}
use Rattle.tables.specs.Meaning.{count_of, row_of}
use Rattle.tables.proofs.Passing.{to_come, passing_start, passing_more}
use Rattle.sheets.specs.Rendering.{row_text}
use Rattle.sheets.proofs.Lined.{line_put, lines_in, lines_more, lines_room}
use Rattle.sheets.proofs.writing.write_lines.Goals as goal

pub loop-charge-init : goal.loop-charge-init
loop-charge-init g c =
    let m = g.T.Table.meaning c.args.table.now in
    passing_start (lines_in c.args.text.now) m (g.met.T.Table.proper c.args.table.now) c.count.result c.count.ensures c.into_iter-charge-iterator.result (cc, cc) (c.args.text.now, 0) refl

pub put-end-requires : goal.put-end-requires
put-end-requires g c =
    let m = g.T.Table.meaning c.args.table.now in
    let here = comes (count_of m) (length c.loop-charge.yielded) c.in-Some.charge.number (to_come c.next.new.self) (c.loop-charge.invariant.others ∙ c.in-Some.ensures.steps) in
    omega (
      arith,
      lines_room c.args.text.now m c.requires (length c.loop-charge.yielded) c.in-Some.charge.number here.is_next here.within (c.loop-charge.text, c.loop-charge.end) c.loop-charge.invariant.so_far,
      ap length c.line_of.ensures.value,
      ap (λ row. length (row_text row)) c.row.ensures,
    )

pub loop-charge-preserved : goal.loop-charge-preserved
loop-charge-preserved g c =
    let m = g.T.Table.meaning c.args.table.now in
    let text = c.loop-charge.text in
    let end = c.loop-charge.end in
    let line : c.line_of.result.bytes ≡ row_text (row_of m c.in-Some.charge.number) = c.line_of.ensures.value ∙ ap row_text c.row.ensures in
    let new_text = c.put-end.ensures.text ∙ ap (λ (l : List ℕ). take end text ++ (l ++ drop (end + length l) text)) line in
    let new_end = c.put-end.ensures.end ∙ ap (λ (l : List ℕ). end + length l) line in
    passing_more (lines_in c.args.text.now) m line_put (lines_more c.args.text.now m) c.loop-charge.yielded c.loop-charge.charge-iterator c.next.new.self c.in-Some.charge
    c.in-Some.ensures.steps (text, end) (c.put-end.new.text, c.put-end.result) c.loop-charge.invariant (λ i. (new_text i, new_end i))
