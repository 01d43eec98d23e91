-- The law of all runs.
use Rattle.std.proofs.Common.{◌≡◌, [], sym, ap, subst}
use Rattle.tables.specs.Meaning.{Proper}
use Rattle.tables.specs.declared.table.Table.{Ghosts as Tables}
use Rattle.limits.specs.declared.limit.Limit.{Ghosts as Limits}
use Rattle.finder.specs.declared.finder.Finder.{Finder}
use Rattle.finder.specs.declared.narrowing.Query.{Query as Asked}
use Rattle.finder.specs.Asked.{asked}
use Rattle.finder.specs.Calls.{query_of, Fresh}
use Rattle.finder.specs.Found.{ordinal_of}
use Rattle.finder.specs.Runs.{Lawful}
use Rattle.finder.specs.Running.{EveryRunLawful}
use Rattle.finder.proofs.Handing.{Handed, handed_none}
use Rattle.finder.proofs.Standing.{Standing}
use Rattle.finder.proofs.ListPart.{list_part}
use Rattle.finder.proofs.CountPart.{count_part}
use Rattle.finder.proofs.BoundPart.{bound_part}

module _ {T W : Type 0} {tables : Tables T} {limits : Limits W} (a : Asked T W) (f : Finder T W tables limits) (fresh : Fresh a f) where
  -- a finder that is fresh from begin lists what is asked for
  pub fresh_lists : query_of f ≡ asked tables.meaning limits.allowed a
  fresh_lists = ap (asked tables.meaning limits.allowed) fresh.0

  -- and stands before the first set
  pub fresh_stands : Standing (asked tables.meaning limits.allowed a) f []
  fresh_stands =
      let q = asked tables.meaning limits.allowed a in
      record { lists = fresh_lists; handed = subst (Handed q []) (sym (ap ordinal_of fresh.1)) (handed_none q) }

  pub fresh_lawful : Proper (tables.meaning a.table) → EveryRunLawful f
  fresh_lawful proper entries h run =
      let q = asked tables.meaning limits.allowed a in
      subst (λ p. Lawful p entries) (sym fresh_lists)
      (record {
        list = list_part q proper entries f h fresh_stands run;
        count = count_part q proper entries f h fresh_stands run;
        bound = bound_part q proper entries f h fresh_stands run;
      })
