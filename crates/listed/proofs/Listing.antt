-- The lines of a list.
use Rattle.std.proofs.Common.{◌≡◌, ℕ, ◌≤◌, List, ◌++◌, length, take, ap, ◌∙◌}
use Rattle.std.specs.List.{flat_map, range_with_len}
use Rattle.std.proofs.lemmas.List.{take_all, length-map}
use Rattle.std.proofs.lemmas.List.FromFn.{length-range_with_len}
use Rattle.found.specs.declared.record.Record.{Record}
use Rattle.found.specs.Lines.{end_text}
use Rattle.closed.specs.Closed.{Query}
use Rattle.finder.specs.declared.whole.WholeList.{WholeList}
use Rattle.finder.specs.Found.{how_many, records}
use Rattle.finder.specs.Whole.{WholeOf}
use Rattle.listed.specs.Answering.{record_text, list_text}

-- the lines of the first k records
abbrev pub lines_of : List Record → ℕ → List ℕ
lines_of rs k = flat_map record_text (take k rs)

counted : (q : Query) → length (records q) ≡ how_many q
unfolding records
counted q = length-map (range_with_len 0 (how_many q)) _ ∙ length-range_with_len 0 (how_many q)

pub whole_text : (q : Query) (whole : WholeList) (k : ℕ) → WholeOf q whole → length whole.records.items ≤ k
    → lines_of whole.records.items k ++ end_text (length whole.records.items) whole.opened ≡ list_text q
unfolding list_text
whole_text q whole k w h =
    let lines : lines_of whole.records.items k ≡ flat_map record_text (records q) = ap (flat_map record_text) (take_all k whole.records.items h ∙ w.all_records) in
    let sets : length whole.records.items ≡ how_many q = ap length w.all_records ∙ counted q in
    λ i. lines i ++ end_text (sets i) (w.all_nodes i)
