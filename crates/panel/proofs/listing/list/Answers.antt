use Rattle.std.proofs.Common.{rules, ◌≡◌, length, None, Err, ◌∙◌, ap, sym, subst}
use Rattle.marks.specs.Refusals.{Answers}
use Rattle.tables.specs.Packed.{packed_meaning, packed_refusal}
use Rattle.limits.specs.Limits.{small}
use Rattle.closed.specs.Closed.{Query, query}
use Rattle.finder.specs.Found.{how_many}
use Rattle.panel.specs.Listing.{packed_query, judged, left_over, listed_into}
use Rattle.panel.proofs.Told.{width_off, support_off, bytes_off, none_off, is_asked, list_refused, list_kept, list_told, list_written}
use Rattle.panel.proofs.listing.list.Goals as goal
use Rattle.panel.proofs.listing.list.Goals.{After-write_list}

pub returns-in_err-width-clause-answer : goal.returns-in_err-width-clause-answer
returns-in_err-width-clause-answer c =
    let is : c.from_residual.result ≡ Err c.in_err-width.field-0.0 = search rules in
    let off = width_off c.args.bytes.now c.args.width c.args.support c.args.most c.in_err-width.field-0.0 c.in_err-width.ensures in
    is ∙ list_refused c.args.bytes.now c.args.width c.args.support c.args.most c.in_err-width.field-0.0 off (length c.args.memory.now)

pub returns-in_err-width-clause-memory : goal.returns-in_err-width-clause-memory
returns-in_err-width-clause-memory c =
    let off = width_off c.args.bytes.now c.args.width c.args.support c.args.most c.in_err-width.field-0.0 c.in_err-width.ensures in
    list_kept c.args.bytes.now c.args.width c.args.support c.args.most c.in_err-width.field-0.0 off c.args.memory.now

pub returns-in_err-support-clause-answer : goal.returns-in_err-support-clause-answer
returns-in_err-support-clause-answer c =
    let is : c.from_residual-in_err-support.result ≡ Err c.in_err-support.field-0.0 = search rules in
    let off = support_off c.args.bytes.now c.args.width c.args.support c.args.most c.in_ok-width.ensures.0 c.in_err-support.field-0.0 c.in_err-support.ensures in
    is ∙ list_refused c.args.bytes.now c.args.width c.args.support c.args.most c.in_err-support.field-0.0 off (length c.args.memory.now)

pub returns-in_err-support-clause-memory : goal.returns-in_err-support-clause-memory
returns-in_err-support-clause-memory c =
    let off = support_off c.args.bytes.now c.args.width c.args.support c.args.most c.in_ok-width.ensures.0 c.in_err-support.field-0.0 c.in_err-support.ensures in
    list_kept c.args.bytes.now c.args.width c.args.support c.args.most c.in_err-support.field-0.0 off c.args.memory.now

pub returns-in_err-table-clause-answer : goal.returns-in_err-table-clause-answer
returns-in_err-table-clause-answer c =
    let is : c.from_residual-in_err-table.result ≡ Err c.in_err-table.field-0.0 = search rules in
    let due = ap (packed_refusal c.args.bytes.now) (sym c.in_ok-width.ensures.1) ∙ c.in_err-table.ensures in
    let off = bytes_off c.args.bytes.now c.args.width c.args.support c.args.most c.in_ok-width.ensures.0 c.in_ok-support.ensures.0 c.in_err-table.field-0.0 due in
    is ∙ list_refused c.args.bytes.now c.args.width c.args.support c.args.most c.in_err-table.field-0.0 off (length c.args.memory.now)

pub returns-in_err-table-clause-memory : goal.returns-in_err-table-clause-memory
returns-in_err-table-clause-memory c =
    let due = ap (packed_refusal c.args.bytes.now) (sym c.in_ok-width.ensures.1) ∙ c.in_err-table.ensures in
    let off = bytes_off c.args.bytes.now c.args.width c.args.support c.args.most c.in_ok-width.ensures.0 c.in_ok-support.ensures.0 c.in_err-table.field-0.0 due in
    list_kept c.args.bytes.now c.args.width c.args.support c.args.most c.in_err-table.field-0.0 off c.args.memory.now

module _ (c : After-write_list) where
  on : judged c.args.bytes.now c.args.width c.args.support ≡ None
  on =
      none_off c.args.bytes.now c.args.width c.args.support c.args.most c.in_ok-width.ensures.0 c.in_ok-support.ensures.0
      (ap (packed_refusal c.args.bytes.now) (sym c.in_ok-width.ensures.1) ∙ c.in_ok-table.ensures.0)

  -- what was listed
  abbrev q : Query
  q = query (packed_meaning c.in_ok-table.table.width.number c.in_ok-table.table.rows.now) (small c.new-4.result.most) c.in_ok-support.support.number

  q_is : q ≡ packed_query c.args.bytes.now c.args.width c.args.support c.args.most
  q_is =
      is_asked c.args.bytes.now c.args.width c.args.support c.args.most (packed_meaning c.in_ok-table.table.width.number c.in_ok-table.table.rows.now) c.in_ok-width.width.number c.new-4.result.most
      c.in_ok-support.support.number c.in_ok-table.ensures.1 c.in_ok-width.ensures.1 c.new-4.ensures c.in_ok-support.ensures.1

pub returns-clause-answer : goal.returns-clause-answer
returns-clause-answer c =
    list_told c.args.bytes.now c.args.width c.args.support c.args.most (on (goal.at.returns-clause-answer c).After-write_list) (length c.args.memory.now) c.write_list.result
    (subst (λ p. Answers (left_over p (length c.args.memory.now)) (λ count. count ≡ how_many p) c.write_list.result) (q_is (goal.at.returns-clause-answer c).After-write_list) c.write_list.ensures.answer)

pub returns-clause-memory : goal.returns-clause-memory
returns-clause-memory c =
    c.write_list.ensures.memory ∙ ap (λ p. listed_into p c.args.memory.now) (q_is (goal.at.returns-clause-memory c).After-write_list) ∙ list_written c.args.bytes.now c.args.width c.args.support c.args.most (on (goal.at.returns-clause-memory c).After-write_list) c.args.memory.now
