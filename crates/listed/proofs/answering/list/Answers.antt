use Rattle.std.proofs.Common.{◌≡◌, ◌++◌, length, ap, ◌∙◌, arith}
use Rattle.found.specs.Lines.{end_text}
use Rattle.listed.proofs.Listing.{lines_of, whole_text}
use Rattle.listed.proofs.answering.list.Goals as goal

pub returns : goal.returns
returns c =
    let o = c.args.order in
    let rs = c.in_ok-list.list.records.items in
    let w = rw (c.new-window.ensures.value, c.new.ensures) at c.in_ok-list.ensures in
    let lines : c.loop-found.text.items ≡ lines_of rs c.loop-found.found-index = c.loop-found.invariant ∙ ap (λ l. lines_of l c.loop-found.found-index) c.deref-found-items.ensures.value in
    let sets = c.len.ensures ∙ c.in_ok-list.list.records.ok.0 in
    let all = whole_text _ c.in_ok-list.list c.loop-found.found-index w (omega (arith, c.loop-found-test.false, ap length c.deref-found-items.ensures.value)) in
    c.in_ok-add_end.ensures ∙ (λ i. lines i ++ end_text (sets i) c.in_ok-list.list.opened) ∙ all
