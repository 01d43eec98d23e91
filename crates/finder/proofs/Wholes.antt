-- A finder that is worked to its end: where it stands after each set, that fewer are to come then, and what is out at the end.
use Rattle.std.proofs.Common.{◌≡◌, ℕ, ◌-◌, ◌<◌, List, [], ◌∷◌, ◌++◌, length, Ok, Result, sym, ap, ◌∙◌, subst, arith, take_all}
use Rattle.std.proofs.lemmas.List.{length-append}
use Rattle.marks.specs.declared.refusal.Refusal.{Refusal}
use Rattle.tables.specs.Meaning.{Proper}
use Rattle.tables.specs.declared.table.Table.{Ghosts as Tables}
use Rattle.limits.specs.declared.limit.Limit.{Ghosts as Limits}
use Rattle.found.specs.declared.record.Record.{Record}
use Rattle.found.specs.Records.{record_at}
use Rattle.closed.specs.Closed.{Query}
use Rattle.finder.specs.declared.finder.Finder.{Finder}
use Rattle.finder.specs.declared.step.Step.{Step}
use Rattle.finder.specs.declared.whole.WholeList.{WholeList}
use Rattle.finder.specs.declared.step.Step.TheVariants.{Found, End}
use Rattle.finder.specs.Calls.{NextDone}
use Rattle.finder.specs.Found.{how_many, records, ordinal_of, opened_at_end}
use Rattle.finder.specs.Runs.{next}
use Rattle.finder.specs.Whole.{WholeOf}
use Rattle.finder.proofs.Handing.{handed_length}
use Rattle.finder.proofs.Listing.{length_records, opened_all}
use Rattle.finder.proofs.Standing.{Standing, next_found, standing_on}

module _ {T W : Type 0} {tables : Tables T} {limits : Limits W} (q : Query) (proper : Proper q.table) (f : Finder T W tables limits) (out : List Record)
    (stands : Standing q f out) (before after : List ℕ) (h : Finder T W tables limits) (answer : Result Step Refusal) (done : NextDone f before answer after h) (step : Step)
    (accepted : answer ≡ Ok step) where
  module _ (found : step ≡ Found) (r : Record) (shown : r ≡ record_at after 0) (out' : List Record) (more : out' ≡ out ++ r ∷ []) where
    a_set : NextDone f before (Ok Found) after h
    a_set = subst (λ a. NextDone f before a after h) (accepted ∙ ap (λ s. Ok s) found) done

    pub stands_on : Standing q h out'
    stands_on =
        subst (Standing q h) (sym (more ∙ ap (λ x. out ++ x ∷ []) shown))
        (standing_on q proper f h out (next before (Ok Found) after) stands a_set)

    pub fewer_to_come : how_many q - length out' < how_many q - length out
    fewer_to_come =
        let n = next_found q proper f h out before after stands a_set in
        omega (arith, n.0, handed_length q out (ordinal_of f.last) stands.handed, ap length more, length-append out (r ∷ []))

  pub all_out : (ordinal opened : ℕ) → step ≡ End ordinal opened → (whole : WholeList) → whole.records.items ≡ out → whole.opened ≡ opened → WholeOf q whole
  all_out ordinal opened end whole records_are opened_is =
      let on = subst (λ a. NextDone f before a after h) (accepted ∙ ap (λ s. Ok s) end) done in
      let k = ordinal_of f.last in
      let all : k ≡ how_many q = subst (λ p. k ≡ how_many p) stands.lists on.1 in
      let at_end : opened ≡ opened_at_end q (how_many q) = subst (λ p. opened ≡ opened_at_end p k) stands.lists on.3 ∙ ap (opened_at_end q) all in
      record {
        all_records = records_are ∙ stands.handed.are ∙ take_all k (records q) (omega (arith, all, length_records q));
        at_end = opened_is ∙ at_end;
        all_nodes = opened_is ∙ at_end ∙ opened_all q;
      }
