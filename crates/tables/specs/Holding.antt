-- The charges that hold a set of marks: how many there are, and what they share.
use Rattle.std.specs.Prelude.{ℕ, ◌+◌, ◌-◌, ◌^◌, min, Bool, List, length, fold, filter, bit_and}
use Rattle.marks.specs.Sets.{part_of, all_below, both}
use Rattle.tables.specs.declared.holding.Holding.{Holding}
use Rattle.tables.specs.Meaning.{Meaning}

-- a row holds s if it has every mark of s
abbrev pub held_by : ℕ → ℕ → Bool
held_by s row = part_of s row

-- the rows that hold s
abbrev pub holders : Meaning → ℕ → List ℕ
holders m s = filter (held_by s) m.rows

-- the support of s: how many charges hold it
unfoldable pub support_of : Meaning → ℕ → ℕ
support_of m s = length (holders m s)

-- the closure of s: the marks up to the width that all charges that hold it share; all of them where no charge does
unfoldable pub closure_of : Meaning → ℕ → ℕ
closure_of m s = fold bit_and (all_below m.width) (holders m s)

-- both together
abbrev pub holding_of : Meaning → ℕ → Holding
holding_of m s = record { support = support_of m s; closure = record { bits = closure_of m s } }

-- where no charge holds the set, and with one charge more that does; the support stops at the greatest number of 32 bits, which no table reaches
abbrev pub unheld : ℕ → Holding
unheld n = record { support = 0; closure = record { bits = all_below n } }

abbrev pub joined : ℕ → Holding → Holding
joined row h = record { support = min (h.support + 1) (2 ^ 32 - 1); closure = record { bits = both h.closure.bits row } }
