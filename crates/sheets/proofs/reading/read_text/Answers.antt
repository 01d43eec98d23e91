use Rattle.std.proofs.Common.{◌≡◌, [], length, drop, None, Ok, Err, sym, ap, ◌∙◌, subst, rules, arith}
use Rattle.std.proofs.lemmas.Bool.{not-false, not-true}
use Rattle.sheets.specs.Ahead.{ahead_in}
use Rattle.sheets.specs.Cutting.{PieceAt, Cut, StandsAt}
use Rattle.sheets.specs.Lines.{is_nothing}
use Rattle.sheets.proofs.Steps.{Stopped, begin, odd, refused, next, unfinished, finished, part_sound, part_some}
use Rattle.sheets.proofs.reading.read_text.Goals as goal
use Rattle.sheets.proofs.reading.read_text.Goals.{In-Some, After-ahead, In_err-take, In_err-piece, In_default}

-- the piece that was read, in the text
piece_at : (c : In-Some) → PieceAt c.args.text.now c.loop-piece.reader.position c.next.new.self.position c.in-Some.piece
piece_at c =
    let p : PieceAt c.loop-piece.reader.text.now c.loop-piece.reader.position c.next.new.self.position c.in-Some.piece = search rules in
    subst (λ t. PieceAt t c.loop-piece.reader.position c.next.new.self.position c.in-Some.piece) c.loop-piece.invariant.text p

pub loop-piece-init : goal.loop-piece-init
loop-piece-init c = record {
  text = c.new-reader.ensures.text;
  passed =
      rw c.new-reader.ensures.start
      (begin c.args.width.number c.args.text.now c.args.memory.now c.new-sheet.result (ap (λ w. w.number) c.new-sheet.ensures.width) c.new-sheet.ensures.row c.new-sheet.ensures.left c.new-sheet.ensures.count);
}

pub take-requires : goal.take-requires
take-requires c = part_sound (piece_at (goal.at.take-requires c).In-Some).0

pub loop-piece-smaller : goal.loop-piece-smaller
loop-piece-smaller c =
    let p = piece_at (goal.at.loop-piece-smaller c).In-Some in
    let texts = c.loop-piece.invariant.text in
    omega (arith, part_some p.0, p.0.inside, ap length c.next.ensures.text, ap length texts)

-- what is known after the piece, however it was taken
module _ (c : After-ahead) where
  same_text : c.next.new.self.text.now ≡ c.args.text.now
  same_text = c.next.ensures.text ∙ c.loop-piece.invariant.text

  comes : c.ahead.result ≡ ahead_in (drop c.next.new.self.position c.args.text.now)
  comes = c.ahead.ensures ∙ ap (λ t. ahead_in (drop c.next.new.self.position t)) same_text

pub loop-piece-preserved : goal.loop-piece-preserved
loop-piece-preserved c =
    let place = goal.at.loop-piece-preserved c in
    let p = piece_at place.In-Some in
    record {
      text = same_text place.After-ahead;
      passed = next c.loop-piece.invariant.passed c.next.new.self.position c.in-Some.piece c.ahead.result c.take.new.self c.take.new.memory p
          (comes place.After-ahead) c.loop-piece.auto.memory c.in_ok-take.field-0 c.in_ok-take.ensures.taken c.in_ok-take.ensures.width;
    }

stop : (c : In_err-take) → PieceAt c.args.text.now c.loop-piece.reader.position c.next.new.self.position c.in-Some.piece
    → c.ahead.result ≡ ahead_in (drop c.next.new.self.position c.args.text.now) → Stopped c.args.width.number c.args.text.now c.args.memory.now c.take.new.memory c.in_err-take.field-0.0
stop c p e =
    refused c.loop-piece.invariant.passed c.next.new.self.position c.in-Some.piece c.ahead.result c.take.new.self c.take.new.memory p e c.loop-piece.auto.memory
    c.in_err-take.field-0.0 c.in_err-take.ensures.taken c.in_err-take.ensures.kept

pub returns-in_err-take-clause-answer : goal.returns-in_err-take-clause-answer
returns-in_err-take-clause-answer c =
    let place = goal.at.returns-in_err-take-clause-answer c in
    let due = (stop place.In_err-take (piece_at place.In-Some) (comes place.After-ahead)).due in
    search rules

pub returns-in_err-take-clause-memory : goal.returns-in_err-take-clause-memory
returns-in_err-take-clause-memory c =
    let place = goal.at.returns-in_err-take-clause-memory c in
    (stop place.In_err-take (piece_at place.In-Some) (comes place.After-ahead)).memory

-- a byte that no sheet has
bad_byte : (c : In_err-piece) → Stopped c.args.width.number c.args.text.now c.args.memory.now c.loop-piece.memory c.in_err-piece.field-0.0
bad_byte c =
    let cut : Cut c.args.text.now c.loop-piece.reader.position c.next.new.self.position (Err c.in_err-piece.field-0.0) =
    subst (λ t. Cut t c.loop-piece.reader.position c.next.new.self.position (Err c.in_err-piece.field-0.0)) c.loop-piece.invariant.text c.in_err-piece.ensures.cut
    in
    odd c.loop-piece.invariant.passed cut.0.0 c.in_err-piece.field-0.0 cut.0.1 cut.2

pub returns-in_err-piece-clause-answer : goal.returns-in_err-piece-clause-answer
returns-in_err-piece-clause-answer c =
    let due = (bad_byte (goal.at.returns-in_err-piece-clause-answer c).In_err-piece).due in
    search rules

pub returns-in_err-piece-clause-memory : goal.returns-in_err-piece-clause-memory
returns-in_err-piece-clause-memory c = (bad_byte (goal.at.returns-in_err-piece-clause-memory c).In_err-piece).memory

-- the end of the text
at_end : (c : In_default) → (drop c.loop-piece.reader.position c.args.text.now ≡ []) × (c.next.new.self.position ≡ c.loop-piece.reader.position)
at_end c =
    let cut : Cut c.loop-piece.reader.text.now c.loop-piece.reader.position c.next.new.self.position (Ok None) = rw c.in_default.is at (c.in_ok-piece.ensures.cut) in
    subst (λ t. Cut t c.loop-piece.reader.position c.next.new.self.position (Ok None)) c.loop-piece.invariant.text cut

unended : (c : goal.After-refusal) → (drop c.loop-piece.reader.position c.args.text.now ≡ []) × (c.next.new.self.position ≡ c.loop-piece.reader.position)
    → Stopped c.args.width.number c.args.text.now c.args.memory.now c.loop-piece.memory c.refusal.result
unended c e =
    let here : StandsAt c.args.text.now c.next.new.self.position c.place.result =
    subst (λ t. StandsAt t c.next.new.self.position c.place.result) (c.next.ensures.text ∙ c.loop-piece.invariant.text) c.place.ensures
    in
    subst (Stopped c.args.width.number c.args.text.now c.args.memory.now c.loop-piece.memory) (sym c.refusal.ensures)
    (unfinished c.loop-piece.invariant.passed c.place.result e.0 (subst (λ k. StandsAt c.args.text.now k c.place.result) e.1 here)
    (not-true (is_nothing c.loop-piece.sheet.line.left) (sym c.if-is_begun.ensures)))

pub returns-then-is_begun-clause-answer : goal.returns-then-is_begun-clause-answer
returns-then-is_begun-clause-answer c = (unended c (at_end (goal.at.returns-then-is_begun-clause-answer c).In_default)).due

pub returns-then-is_begun-clause-memory : goal.returns-then-is_begun-clause-memory
returns-then-is_begun-clause-memory c = (unended c (at_end (goal.at.returns-then-is_begun-clause-memory c).In_default)).memory

pub returns-clause-answer : goal.returns-clause-answer
returns-clause-answer c =
    let e = at_end (goal.at.returns-clause-answer c).In_default in
    let d = finished c.loop-piece.invariant.passed e.0 (not-false (is_nothing c.loop-piece.sheet.line.left) (sym c.if-is_begun.ensures)) in
    (d.due, d.counted)

pub returns-clause-memory : goal.returns-clause-memory
returns-clause-memory c =
    let e = at_end (goal.at.returns-clause-memory c).In_default in
    (finished c.loop-piece.invariant.passed e.0 (not-false (is_nothing c.loop-piece.sheet.line.left) (sym c.if-is_begun.ensures))).memory
