-- The tally of a set.
use Rattle.std.specs.Prelude.{◌≡◌, ℕ, ◌<◌, ◌≤◌, true, cond, List, map, slice_index_or}
use Rattle.std.specs.List.{range_with_len}
use Rattle.marks.specs.Numbers.{most_marks}
use Rattle.marks.specs.Sets.{has, no_marks, with_bit, minus}
use Rattle.tables.specs.declared.holding.Holding.{Holding}
use Rattle.tables.specs.Meaning.{Meaning}
use Rattle.tables.specs.Holding.{held_by, holding_of, unheld, joined}
use Rattle.closed.specs.Closed.{above}
use Rattle.finder.specs.declared.tally.Tally.{Tally}

-- what stands past the end of a list of holdings
abbrev pub no_holding : Holding
no_holding = record { support = 0; closure = record { bits = no_marks } }

-- one for each of the 32 marks
abbrev pub for_each_mark : (ℕ → Holding) → List Holding
for_each_mark f = map f (range_with_len 0 most_marks)

-- The support and closure of s and, for each of the 32 marks, those of s with that mark added; no charge has a mark above the width.
unfoldable pub tally_of : Meaning → ℕ → Tally
tally_of m s = record { own = holding_of m s; marks = for_each_mark (λ b. holding_of m (with_bit s b)) }

-- the same but for the marks of `skipped`, each of which has the record of a set that no charge holds
unfoldable pub tally_besides : Meaning → ℕ → ℕ → Tally
tally_besides m s skipped = record { own = holding_of m s; marks = for_each_mark (λ b. cond (has skipped b) (unheld m.width) (holding_of m (with_bit s b))) }

-- a charge joins the records of some marks
unfoldable pub joined_each : ℕ → ℕ → List Holding → List Holding
joined_each some row marks = for_each_mark (λ b. cond (has some b) (joined row (slice_index_or marks b no_holding)) (slice_index_or marks b no_holding))

-- a charge that holds the set joins its record and those of its marks that are not skipped
abbrev pub noted : ℕ → ℕ → ℕ → Tally → Tally
noted s skipped row t = cond (held_by s row) (record { own = joined row t.own; marks = joined_each (minus row skipped) row t.marks }) t

-- What the tally of s says of marks above the width n, which no charge has: where s has one, or the added mark is one, the support is 0 and the closure all marks up to the width.
pub record AboveWidth (n s : ℕ) (t : Tally) : Type 0 where
  pub own : above n s ≡ true → t.own ≡ unheld n
  pub with_any : above n s ≡ true → (b : ℕ) → b < most_marks → slice_index_or t.marks b no_holding ≡ unheld n
  pub with_above : (b : ℕ) → n ≤ b → b < most_marks → slice_index_or t.marks b no_holding ≡ unheld n
