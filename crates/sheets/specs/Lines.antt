-- A line while it is read.
use Rattle.std.specs.Prelude.{◌≡◌, ℕ, Bool, true, false, List}
use Rattle.marks.specs.declared.refusal.Reason.{Reason}
use Rattle.marks.specs.declared.refusal.Refusal.{Refusal}
use Rattle.marks.specs.Refusals.{placed_at_two}
use Rattle.sheets.specs.Reading.{worth, is_single_zero, with_number}
use Rattle.sheets.specs.declared.line.Left.{Left}
use Rattle.sheets.specs.declared.line.Left.TheVariants.{Nothing, Zero, Mark, Blank}
use Rattle.sheets.specs.declared.line.Line.{Line}
use Rattle.sheets.specs.declared.piece.Place.{Place}

-- the number at the left, or 0
abbrev pub left_of : Left → ℕ
left_of Nothing = 0
left_of Zero = 0
left_of (Mark mark) = mark.number
left_of (Blank mark) = mark.number

abbrev pub is_nothing : Left → Bool
is_nothing Nothing = true
is_nothing Zero = false
is_nothing (Mark mark) = false
is_nothing (Blank mark) = false

abbrev pub is_zero : Left → Bool
is_zero Nothing = false
is_zero Zero = true
is_zero (Mark mark) = false
is_zero (Blank mark) = false

abbrev pub is_mark : Left → Bool
is_mark Nothing = false
is_mark Zero = false
is_mark (Mark mark) = true
is_mark (Blank mark) = false

abbrev pub is_blank : Left → Bool
is_blank Nothing = false
is_blank Zero = false
is_blank (Mark mark) = false
is_blank (Blank mark) = true

-- a refusal at a place of the text
abbrev pub fault_at : Place → Reason → Refusal
fault_at place reason = placed_at_two reason place.line place.column

-- a line with a number more
pub record HasAdded (old new : Line) (digits : List ℕ) : Type 0 where
  pub row : new.row.bits ≡ with_number old.row.bits (worth digits)
  pub left : left_of new.left ≡ worth digits
  pub begun : is_nothing new.left ≡ false
  pub zero : is_zero new.left ≡ is_single_zero digits
  pub no_blank : is_blank new.left ≡ false

-- a line with a blank more
pub record HasParted (old new : Line) : Type 0 where
  pub row : new.row ≡ old.row
  pub left : left_of new.left ≡ left_of old.left
  pub begun : is_nothing new.left ≡ false
  pub no_zero : is_zero new.left ≡ false
  pub blank : is_blank new.left ≡ true
