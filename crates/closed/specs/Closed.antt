-- Closed sets of a table, and the list of those that are wanted.
use Rattle.std.specs.Prelude.{◌≡◌, ℕ, ◌^◌, ◌<◌, ◌≤◌, Bool, true, not, ◌&&◌, ◌||◌, ◌⊎◌, ◌↔◌, List, [], ◌∷◌, Decides, Option, Err, Result, IsOk, ◌==◌, nat_le}
use Rattle.std.specs.List.{ContainsAt as Has, AllPairs}
use Rattle.marks.specs.declared.refusal.Reason.TheVariants.{Clash, DeadEnd}
use Rattle.marks.specs.declared.refusal.Refusal.{Refusal}
use Rattle.marks.specs.Orders.{Before}
use Rattle.marks.specs.Refusals.{unplaced, due_if, first_due}
use Rattle.marks.specs.Sets.{has, no_marks, all_below, both, part_of, PartOf}
use Rattle.tables.specs.Meaning.{Meaning}
use Rattle.tables.specs.Holding.{support_of, closure_of}
use Rattle.closed.specs.Families.{list_of, Fits, Turns, turns, dead, fitting, in_every, in_none}

-- What a list is made of: the meaning of a table, which sets a limit allows, and the least support.
pub record Query : Type 0 where
  pub table : Meaning
  pub allowed : ℕ → Bool
  pub least : ℕ

abbrev pub query : Meaning → (ℕ → Bool) → ℕ → Query
query m allowed least = record { table = m; allowed = allowed; least = least }

-- a set is closed if it is its own closure: no mark can join it without losing a charge
abbrev pub closed : Meaning → ℕ → Bool
closed m x = closure_of m x == x

-- enough charges hold x, and the limit allows it
abbrev pub wanted : Query → ℕ → Bool
wanted q x = nat_le q.least (support_of q.table x) && q.allowed x

-- x is listed: closed, with enough support, and allowed
abbrev pub listed : Query → ℕ → Bool
listed q x = closed q.table x && wanted q x

-- the list: every listed set, each once, in list order
abbrev pub the_list : Query → List ℕ
the_list q = list_of (listed q) q.table.width

-- a set with this support and closure: the closure is wanted, and has no mark of o
abbrev pub closure_passes : (ℕ → Bool) → ℕ → ℕ → ℕ → ℕ → Bool
closure_passes allowed least o support closure = (nat_le least support && allowed closure) && both closure o == no_marks

-- a set that has a mark above the width
abbrev pub above : ℕ → ℕ → Bool
above n x = not (part_of x (all_below n))

-- ---- laws

-- Closure and support in a table, for sets of marks up to its width where one is asked for: which marks a closure has; it holds the set; it grows with the set and is closed;
-- support falls as a set grows, and a set and its closure have the same.
pub record ClosureLaws (m : Meaning) : Type 0 where
  pub members : (x b : ℕ) → Decides (has (closure_of m x) b) ((b < m.width) × ((row : ℕ) → Has m.rows row → PartOf x row → has row b ≡ true))
  pub within : (x : ℕ) → closure_of m x < 2 ^ m.width
  pub extensive : (x : ℕ) → x < 2 ^ m.width → PartOf x (closure_of m x)
  pub monotone : (x y : ℕ) → PartOf x y → PartOf (closure_of m x) (closure_of m y)
  pub idempotent : (x : ℕ) → x < 2 ^ m.width → closure_of m (closure_of m x) ≡ closure_of m x
  pub support_falls : (x y : ℕ) → PartOf x y → support_of m y ≤ support_of m x
  pub support_same : (x : ℕ) → x < 2 ^ m.width → support_of m (closure_of m x) ≡ support_of m x
  pub unheld : (x : ℕ) → support_of m x ≡ 0 → closure_of m x ≡ all_below m.width

-- The list is strictly ordered, and holds exactly the listed sets; and which marks the turns of a set are.
pub record ListLaws (q : Query) : Type 0 where
  pub ordered : AllPairs Before (the_list q)
  pub only_listed : (x : ℕ) → Has (the_list q) x → listed q x ≡ true
  pub all_listed : (x : ℕ) → listed q x ≡ true → Has (the_list q) x
  pub turned : (x : ℕ) → x < 2 ^ q.table.width → Turns (listed q) q.table.width x (turns (listed q) q.table.width x)

-- ---- narrowing a node

-- marks that cannot be put in and put out: the two sets share one, or either has one above the width
abbrev pub clash : ℕ → ℕ → ℕ → Bool
clash n i o = (not (both i o == no_marks) || above n i) || above n o

-- narrowing the node with i put in and o put out
unfoldable pub narrow_refusal : Query → ℕ → ℕ → Option Refusal
narrow_refusal q i o =
    first_due
    (due_if (clash q.table.width i o) (unplaced Clash)
    ∷ due_if (dead (listed q) q.table.width i o) (unplaced DeadEnd)
    ∷ [])

-- the new In: the marks that are in every set that fits; the new Out: the marks up to the width that are in none
unfoldable pub narrow_in : Query → ℕ → ℕ → ℕ
narrow_in q i o = in_every q.table.width (fitting (listed q) q.table.width i o)

unfoldable pub narrow_out : Query → ℕ → ℕ → ℕ
narrow_out q i o = in_none q.table.width (fitting (listed q) q.table.width i o)

-- ---- the refusals of narrowing, said of marks and of sets that fit

-- a mark is both put in and put out, or it is one of these and above the width
abbrev pub Clashing : ℕ → ℕ → ℕ → Type 0
Clashing n i o = (b : ℕ) × (((has i b ≡ true) × (has o b ≡ true)) ⊎ ((n ≤ b) × ((has i b || has o b) ≡ true)))

-- What narrowing answers: CLASH exactly if the marks clash; DEAD END exactly if they do not and no listed set fits; a node exactly if they do not and some listed set fits.
pub record Refuses {A : Type 0} (q : Query) (i o : ℕ) (r : Result A Refusal) : Type 0 where
  pub clash : (r ≡ Err (unplaced Clash)) ↔ Clashing q.table.width i o
  pub dead_end : (r ≡ Err (unplaced DeadEnd)) ↔ ((Clashing q.table.width i o → ⊥) × ((x : ℕ) → Fits (listed q) q.table.width i o x → ⊥))
  pub narrowed : IsOk r ↔ ((Clashing q.table.width i o → ⊥) × ((x : ℕ) × Fits (listed q) q.table.width i o x))
