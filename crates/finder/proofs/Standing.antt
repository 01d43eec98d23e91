-- Where a finder stands as calls are made of it, and what was handed out then.
use Rattle.std.proofs.Common.{◌≡◌, ℕ, ◌+◌, ◌-◌, ◌<◌, ◌≤◌, List, [], ◌∷◌, ◌++◌, length, Some, None, Option, Ok, Err, sym, refl, ap, ◌∙◌, subst, ◌⊎◌, inl, inr, fold, arith}
use Rattle.std.specs.List.{ContainsAt as Has}
use Rattle.std.proofs.lemmas.Bool.Decides.{nat_tests}
use Rattle.std.proofs.ByRecursion.{has_append_cases, has_push_cases}
use Rattle.tables.specs.Meaning.{Proper}
use Rattle.tables.specs.declared.table.Table.{Ghosts as Tables}
use Rattle.limits.specs.declared.limit.Limit.{Ghosts as Limits}
use Rattle.found.specs.declared.record.Record.{Record}
use Rattle.found.specs.Records.{record_at, written}
use Rattle.closed.specs.Closed.{Query}
use Rattle.finder.specs.declared.finder.Finder.{Finder}
use Rattle.finder.specs.declared.finder.Last.{Last}
use Rattle.finder.specs.declared.step.Step.TheVariants.{Found, End}
use Rattle.finder.specs.Asked.{asked}
use Rattle.finder.specs.Calls.{query_of, LookDone}
use Rattle.finder.specs.Found.{how_many, kth_record, ordinal_of, last_at_place, look_refusal}
use Rattle.finder.specs.Runs.{Entry, next, look, rewind, handed, shown_by, shown}
use Rattle.finder.specs.Running.{Does, Run}
use Rattle.finder.proofs.Handing.{Handed, handed_none, handed_more}
use Rattle.finder.proofs.Listing.{found_at, kth_more, last_at_some, written_back}

-- the record of some set of the list
pub record OfList (q : Query) (r : Record) : Type 0 where
  pub place : ℕ
  pub within : place < how_many q
  pub is : r ≡ found_at q place

none_has : (r : Record) → Has [] r → ⊥
none_has r h = omega (arith, h.1)

one_has : (x r : Record) → Has (x ∷ []) r → x ≡ r
one_has x r h = elim (has_push_cases [] x r h) as (λ _. x ≡ r) [ inl e ↦ absurd (none_has r e) | inr e ↦ e ]

head_is : (e p : Entry) (es ps : List Entry) → e ∷ es ≡ p ∷ ps → e ≡ p
head_is e p es ps z = cc

tail_is : (e p : Entry) (es ps : List Entry) → e ∷ es ≡ p ∷ ps → es ≡ ps
tail_is e p es ps z = cc

-- where looking is not refused, a set is remembered
look_some : (size : ℕ) (last : Option Last) → look_refusal size last ≡ None → (x : Last) × (last ≡ Some x)
look_some size (Some x) e = (x, refl)
look_some size None e = absurd (grind (arith, nat_tests))

module _ {T W : Type 0} {tables : Tables T} {limits : Limits W} (q : Query) where
  -- The finder lists what q lists, and stands after as many sets as were handed out.
  pub record Standing (f : Finder T W tables limits) (out : List Record) : Type 0 where
    pub lists : query_of f ≡ q
    pub handed : Handed q out (ordinal_of f.last)

  module _ (f : Finder T W tables limits) (lists : query_of f ≡ q) where
    pub last_stands : f.last ≡ last_at_place q (ordinal_of f.last)
    last_stands = subst (λ p. f.last ≡ last_at_place p (ordinal_of f.last)) lists f.stands

    within_list : ordinal_of f.last ≤ how_many q
    within_list = subst (λ p. ordinal_of f.last ≤ how_many p) lists f.within

    -- what look shows is the last set that was handed out
    pub look_shows : (before after : List ℕ) → LookDone f before (Ok tt) after
        → (j : ℕ) × (ordinal_of f.last ≡ j + 1) × (j < how_many q) × (after ≡ written (found_at q j) before)
    look_shows before after d =
        let some = look_some (length before) f.last d.0 in
        let j = ordinal_of f.last - 1 in
        let k_is : ordinal_of f.last ≡ j + 1 = omega (arith, (last_at_some q (ordinal_of f.last) some.0 (sym last_stands ∙ some.1)).0) in
        let here : j < how_many q = omega (arith, k_is, within_list) in
        let is : kth_record (query_of f) (ordinal_of f.last) ≡ found_at q j = ap (λ p. kth_record p (ordinal_of f.last)) lists ∙ ap (kth_record q) k_is ∙ kth_more q j here in
        (j, k_is, here, d.1 ∙ ap (λ r. written r before) is)

  module _ (proper : Proper q.table) where
    -- after a set more
    pub next_found : (f h : Finder T W tables limits) (out : List Record) (before after : List ℕ) → Standing f out → Does f (next before (Ok Found) after) h
        → (ordinal_of f.last < how_many q) × (query_of h ≡ q) × (ordinal_of h.last ≡ ordinal_of f.last + 1)
        × (after ≡ written (found_at q (ordinal_of f.last)) before) × (record_at after 0 ≡ found_at q (ordinal_of f.last))
    next_found f h out before after s d =
        let k = ordinal_of f.last in
        let here = subst (λ p. k < how_many p) s.lists d.1 in
        let record_is : kth_record (query_of f) (k + 1) ≡ found_at q k = ap (λ p. kth_record p (k + 1)) s.lists ∙ kth_more q k here in
        let is : after ≡ written (found_at q k) before = d.2 ∙ ap (λ r. written r before) record_is in (
          here,
          ap (asked tables.meaning limits.allowed) d.3 ∙ s.lists,
          d.4,
          is,
          ap (λ bytes. record_at bytes 0) is ∙ written_back q proper k here before,
        )

    stays : (f h : Finder T W tables limits) (out : List Record) → Standing f out → h ≡ f → Standing h out
    stays f h out s e = subst (λ u. Standing u out) (sym e) s

    pub standing_on : (f h : Finder T W tables limits) (out : List Record) (e : Entry) → Standing f out → Does f e h → Standing h (handed out e)
    standing_on f h out (next before (Ok Found) after) s d =
        let n = next_found f h out before after s d in
        record {
          lists = n.1;
          handed =
              subst (λ r. Handed q (out ++ r ∷ []) (ordinal_of h.last)) (sym n.4)
              (subst (Handed q (out ++ found_at q (ordinal_of f.last) ∷ [])) (sym n.2) (handed_more q out (ordinal_of f.last) s.handed n.0));
        }
    standing_on f h out (next before (Ok (End ordinal opened)) after) s d = stays f h out s d.5
    standing_on f h out (next before (Err refusal) after) s d = stays f h out s d.2
    standing_on f h out (look before answer after) s d = stays f h out s d.1
    standing_on f h out rewind s d =
        record {
          lists = ap (asked tables.meaning limits.allowed) d.0 ∙ s.lists;
          handed = subst (Handed q []) (sym (ap ordinal_of d.1)) (handed_none q);
        }

    -- ---- along a run

    -- where the finder stands in the midst of it, and what is still to come
    pub record Amid (h : Finder T W tables limits) (out : List Record) (future : List Entry) : Type 0 where
      pub then : Finder T W tables limits
      pub standing : Standing then out
      pub run : Run then future h

    pub amid : (entries : List Entry) (f h : Finder T W tables limits) (out : List Record) → Standing f out → Run f entries h
        → (past future : List Entry) → entries ≡ past ++ future → Amid h (fold handed out past) future
    amid entries f h out s r [] future z = record { then = f; standing = s; run = subst (λ es. Run f es h) z r }
    amid [] f h out s r (p ∷ past) future z = absurd (omega (arith, ap length z))
    amid (e ∷ entries) f h out s r (p ∷ past) future z =
        amid entries r.0 h (handed out p)
        (subst (λ x. Standing r.0 (handed out x)) (head_is e p entries (past ++ future) z) (standing_on f r.0 out e s r.1))
        r.2 past future (tail_is e p entries (past ++ future) z)

    -- each record that a call shows is one of the list's
    shows_one : (f h : Finder T W tables limits) (out : List Record) (e : Entry) → Standing f out → Does f e h → (r : Record) → Has (shown_by e) r → OfList q r
    shows_one f h out (next before (Ok Found) after) s d r m =
        let n = next_found f h out before after s d in
        record { place = ordinal_of f.last; within = n.0; is = sym (one_has (record_at after 0) r m) ∙ n.4 }
    shows_one f h out (next before (Ok (End ordinal opened)) after) s d r m = absurd (none_has r m)
    shows_one f h out (next before (Err refusal) after) s d r m = absurd (none_has r m)
    shows_one f h out (look before (Ok done) after) s d r m =
        let shows = look_shows f s.lists before after d.0 in
        record {
          place = shows.0;
          within = shows.2;
          is = sym (one_has (record_at after 0) r m) ∙ ap (λ bytes. record_at bytes 0) shows.3 ∙ written_back q proper shows.0 shows.2 before;
        }
    shows_one f h out (look before (Err refusal) after) s d r m = absurd (none_has r m)
    shows_one f h out rewind s d r m = absurd (none_has r m)

    pub shows_list : (entries : List Entry) (f h : Finder T W tables limits) (out : List Record) → Standing f out → Run f entries h
        → (r : Record) → Has (shown entries) r → OfList q r
    shows_list [] f h out s run r m = absurd (none_has r m)
    shows_list (e ∷ entries) f h out s run r m =
        by (has_append_cases (shown_by e) (shown entries) r m) (shows_list entries run.0 h (handed out e) (standing_on f run.0 out e s run.1) run.2 r)
      where
        by : Has (shown_by e) r ⊎ Has (shown entries) r → (Has (shown entries) r → OfList q r) → OfList q r
        by (inl here) later = shows_one f run.0 out e s run.1 r here
        by (inr there) later = later there
