-- What a finder is asked for.
use Rattle.std.specs.Prelude.{ℕ, Bool}
use Rattle.tables.specs.Meaning.{Meaning}
use Rattle.closed.specs.Closed.{Query, query}
use Rattle.finder.specs.declared.narrowing.Query.{Query as Asked}

-- what is listed of this table, with this limit and this least support
abbrev pub asked : {T W : Type 0} → (T → Meaning) → (W → ℕ → Bool) → Asked T W → Query
asked meaning allowed a = query (meaning a.table) (allowed a.limit) a.support.number
