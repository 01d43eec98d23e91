-- What runs tell of the list: the records handed out are its first, what each call tells is right, and each record shows the set of its ordinal.
use Rattle.std.proofs.Common.{◌≡◌, ℕ, ◌<◌, ◌≤◌, List, [], ◌∷◌, length, Some, None, Option, Ok, Err, Result, sym, refl, ap, ◌∙◌, subst, arith}
use Rattle.std.proofs.lemmas.Bool.Decides.{nat_tests}
use Rattle.marks.specs.declared.refusal.Reason.TheVariants.{ShortSlot, NothingYet}
use Rattle.marks.specs.declared.refusal.Refusal.{Refusal}
use Rattle.marks.specs.Refusals.{unplaced}
use Rattle.tables.specs.Meaning.{Proper}
use Rattle.tables.specs.declared.table.Table.{Ghosts as Tables}
use Rattle.limits.specs.declared.limit.Limit.{Ghosts as Limits}
use Rattle.found.specs.declared.record.Record.{Record}
use Rattle.found.specs.Records.{record_length, written, slot_refusal}
use Rattle.closed.specs.Closed.{Query}
use Rattle.finder.specs.declared.finder.Finder.{Finder}
use Rattle.finder.specs.declared.finder.Last.{Last}
use Rattle.finder.specs.declared.step.Step.{Step}
use Rattle.finder.specs.declared.step.Step.TheVariants.{Found, End}
use Rattle.finder.specs.Found.{how_many, last_of, ordinal_of, last_at_place, look_refusal}
use Rattle.finder.specs.Runs.{Entry, next, look, rewind, handed_out, ShowsItsPlace, NextTells, LookTells, Tells, ListPart}
use Rattle.finder.specs.Running.{Does, Run}
use Rattle.finder.proofs.Handing.{handed_length, handed_nil, handed_last, handed_first}
use Rattle.finder.proofs.Listing.{found_at, shows_its_place, last_at_none, last_at_more}
use Rattle.finder.proofs.Standing.{Standing, last_stands, look_shows, next_found, amid, shows_list}

-- a slot is refused exactly where it is too short, for that reason
slot_long : (size : ℕ) → slot_refusal size ≡ None → record_length ≤ size
slot_long size e = grind (arith, nat_tests)

slot_short : (size : ℕ) (refusal : Refusal) → slot_refusal size ≡ Some refusal → (size < record_length) × (refusal ≡ unplaced ShortSlot)
slot_short size refusal e = grind (arith, nat_tests)

-- looking is refused for a short slot, then because there is nothing yet, and else not
look_long : (size : ℕ) (last : Option Last) → look_refusal size last ≡ None → record_length ≤ size
look_long size None e = grind (arith, nat_tests)
look_long size (Some last) e = grind (arith, nat_tests)

look_short : (size : ℕ) (last : Option Last) (refusal : Refusal) → size < record_length → look_refusal size last ≡ Some refusal → refusal ≡ unplaced ShortSlot
look_short size last refusal l e = grind (arith, nat_tests)

look_nothing : (size : ℕ) (last : Option Last) (refusal : Refusal) → record_length ≤ size → last ≡ None → look_refusal size last ≡ Some refusal → refusal ≡ unplaced NothingYet
look_nothing size last refusal l z e = grind (arith, nat_tests)

look_accepted : (size : ℕ) (last : Option Last) (x : Last) (refusal : Refusal) → record_length ≤ size → last ≡ Some x → look_refusal size last ≡ Some refusal → ⊥
look_accepted size last x refusal l z e = grind (arith, nat_tests)

module _ {T W : Type 0} {tables : Tables T} {limits : Limits W} (q : Query) (proper : Proper q.table) where
  next_tells : (f h : Finder T W tables limits) (out : List Record) (before : List ℕ) (answer : Result Step Refusal) (after : List ℕ) → Standing q f out
      → Does f (next before answer after) h → NextTells q out before answer after
  next_tells f h out before (Ok Found) after s d =
      let n = next_found q proper f h out before after s d in
      let long = slot_long (length before) d.0 in
      record {
        short = λ l. absurd (omega (arith, l, long));
        more = λ _ _. (refl, n.3 ∙ ap (λ r. written r before) (sym n.4));
        ended = λ _ e. absurd (omega (arith, e, n.0, handed_length q out (ordinal_of f.last) s.handed));
      }
  next_tells f h out before (Ok (End ordinal opened)) after s d =
      let all : ordinal_of f.last ≡ how_many q = subst (λ p. ordinal_of f.last ≡ how_many p) s.lists d.1 in
      let long = slot_long (length before) d.0 in
      record {
        short = λ l. absurd (omega (arith, l, long));
        more = λ _ l. absurd (omega (arith, l, all, handed_length q out (ordinal_of f.last) s.handed));
        ended = λ _ _. ((ordinal, opened, refl), d.4);
      }
  next_tells f h out before (Err refusal) after s d =
      let due = slot_short (length before) refusal d.0 in
      record {
        short = λ _. (ap (λ r. Err r) due.1, d.1);
        more = λ l _. absurd (omega (arith, l, due.0));
        ended = λ l _. absurd (omega (arith, l, due.0));
      }

  look_tells : (f h : Finder T W tables limits) (out : List Record) (before : List ℕ) (answer : Result (Unit {0}) Refusal) (after : List ℕ) → Standing q f out
      → Does f (look before answer after) h → LookTells out before answer after
  look_tells f h out before (Ok done) after s d =
      let long = look_long (length before) f.last d.0.0 in
      let shows = look_shows q f s.lists before after d.0 in
      record {
        short = λ l. absurd (omega (arith, l, long));
        nothing = λ _ e. absurd (omega (arith, shows.1, handed_nil q out (ordinal_of f.last) s.handed e));
        again = λ _ earlier last e.
            let was = handed_last q out (ordinal_of f.last) s.handed earlier last e in
            let same : shows.0 ≡ was.0 = omega (arith, shows.1, was.1) in
            (refl, shows.3 ∙ ap (λ j. written (found_at q j) before) same ∙ ap (λ r. written r before) (sym was.3));
      }
  look_tells f h out before (Err refusal) after s d =
      record {
        short = λ l. (ap (λ r. Err r) (look_short (length before) f.last refusal l d.0.0), d.0.1);
        nothing = λ l e.
            let none : f.last ≡ None =
            last_stands q f s.lists ∙ ap (last_at_place q) (handed_nil q out (ordinal_of f.last) s.handed e) ∙ last_at_none q in
            (ap (λ r. Err r) (look_nothing (length before) f.last refusal l none d.0.0), d.0.1);
        again = λ l earlier last e.
            let was = handed_last q out (ordinal_of f.last) s.handed earlier last e in
            let some = last_stands q f s.lists ∙ ap (last_at_place q) was.1 ∙ last_at_more q was.0 was.2 in
            absurd (look_accepted (length before) f.last (last_of q (found_at q was.0)) refusal l some d.0.0);
      }

  tells : (f h : Finder T W tables limits) (out : List Record) (e : Entry) → Standing q f out → Does f e h → Tells q out e
  tells f h out (next before answer after) s d = next_tells f h out before answer after s d
  tells f h out (look before answer after) s d = look_tells f h out before answer after s d
  tells f h out rewind s d = tt

  pub list_part : (entries : List Entry) (f h : Finder T W tables limits) → Standing q f [] → Run f entries h → ListPart q entries
  list_part entries f h s run =
      record {
        first = λ past future z.
            let a = amid q proper entries f h [] s run past future z in
            handed_first q (handed_out past) (ordinal_of a.then.last) a.standing.handed;
        told = λ past e future z.
            let a = amid q proper entries f h [] s run past (e ∷ future) z in
            tells a.then a.run.0 (handed_out past) e a.standing a.run.1;
        by_ordinal = λ r m.
            let o = shows_list q proper entries f h [] s run r m in
            subst (ShowsItsPlace q) (sym o.is) (shows_its_place q o.place o.within);
      }
