-- Runs of a finder: one call after another, each known by its contract alone.
use Rattle.std.specs.Prelude.{◌≡◌, List, [], ◌∷◌}
use Rattle.tables.specs.declared.table.Table.{Ghosts as Tables}
use Rattle.limits.specs.declared.limit.Limit.{Ghosts as Limits}
use Rattle.finder.specs.declared.finder.Finder.{Finder}
use Rattle.finder.specs.Calls.{query_of, Fresh, NextDone, LookDone}
use Rattle.finder.specs.Runs.{Entry, next, look, rewind, Lawful}

module _ {T W : Type 0} {tables : Tables T} {limits : Limits W} where
  -- what the contract of the call says of the finder before and after it
  abbrev pub Does : Finder T W tables limits → Entry → Finder T W tables limits → Type 0
  Does f (next before answer after) h = NextDone f before answer after h
  Does f (look before answer after) h = LookDone f before answer after × (h ≡ f)
  Does f rewind h = Fresh f.query h

  -- a run of calls, from one finder to another
  abbrev pub Run : Finder T W tables limits → List Entry → Finder T W tables limits → Type 0
  Run f [] h = f ≡ h
  Run f (e ∷ entries) h = (u : Finder T W tables limits) × Does f e u × Run u entries h

  -- The law of all runs: whatever calls are made of the finder one after another, and whichever are refused, what they tell obeys the law of its list.
  abbrev pub EveryRunLawful : Finder T W tables limits → Type 0
  EveryRunLawful f = (entries : List Entry) (h : Finder T W tables limits) → Run f entries h → Lawful (query_of f) entries
