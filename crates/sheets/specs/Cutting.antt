-- How a text is cut into parts, and where they stand.
use Rattle.std.specs.Prelude.{◌≡◌, ℕ, ◌+◌, ◌≤◌, cond, List, [], ◌∷◌, ◌++◌, length, take, drop, fold, Some, None, Ok, Err, Option, Result, ◌==◌}
use Rattle.std.specs.Char.{is_ascii_digit}
use Rattle.marks.specs.declared.refusal.Reason.TheVariants.{BadByte}
use Rattle.marks.specs.declared.refusal.Refusal.{Refusal}
use Rattle.marks.specs.Refusals.{placed_at_two}
use Rattle.sheets.specs.declared.piece.Piece.{Piece}
use Rattle.sheets.specs.declared.piece.Piece.TheVariants.{Number, Blank, LineEnd}
use Rattle.sheets.specs.declared.piece.Place.{Place}

-- the bytes of a blank and of a line end
abbrev pub blank : ℕ
blank = 32

abbrev pub line_end : ℕ
line_end = 10

-- A part of a text: the digits of a number, a gap between numbers, the end of a line, or a byte that no sheet has.
pub data Part : Type 0 where
  Digits : List ℕ → Part
  Gap : Part
  Break : Part
  Odd : ℕ → Part

-- the part that a byte is which is no digit
abbrev pub part_of_byte : ℕ → Part
part_of_byte b = cond (b == blank) Gap (cond (b == line_end) Break (Odd b))

-- a digit before parts: it leads the number that they begin with, or is a number of its own
abbrev pub led_by : ℕ → List Part → List Part
led_by b [] = Digits (b ∷ []) ∷ []
led_by b (Digits ds ∷ parts) = Digits (b ∷ ds) ∷ parts
led_by b (Gap ∷ parts) = Digits (b ∷ []) ∷ Gap ∷ parts
led_by b (Break ∷ parts) = Digits (b ∷ []) ∷ Break ∷ parts
led_by b (Odd c ∷ parts) = Digits (b ∷ []) ∷ Odd c ∷ parts

-- the parts of a text: digits that follow one another are one number
abbrev pub parts_of : List ℕ → List Part
parts_of [] = []
parts_of (b ∷ text) = cond (is_ascii_digit b) (led_by b (parts_of text)) (part_of_byte b ∷ parts_of text)

-- the bytes of a part
abbrev pub part_bytes : Part → List ℕ
part_bytes (Digits ds) = ds
part_bytes Gap = blank ∷ []
part_bytes Break = line_end ∷ []
part_bytes (Odd b) = b ∷ []

-- the line and the column that follow the bytes, both counted from 1
abbrev pub line_after : List ℕ → ℕ
line_after bytes = fold (λ line b. cond (b == line_end) (line + 1) line) 1 bytes

abbrev pub column_after : List ℕ → ℕ
column_after bytes = fold (λ column b. cond (b == line_end) 1 (column + 1)) 1 bytes

-- The part of the text between two places, which count from 0, is the first of what its rest is cut into.
pub record PartAt (text : List ℕ) (from to : ℕ) (part : Part) : Type 0 where
  pub first : parts_of (drop from text) ≡ part ∷ parts_of (drop to text)
  pub bytes : drop from text ≡ part_bytes part ++ drop to text
  pub ends : to ≡ from + length (part_bytes part)
  pub inside : to ≤ length text

-- the place of the byte that follows the first bytes of a text
pub record StandsAt (text : List ℕ) (at : ℕ) (place : Place) : Type 0 where
  pub line : place.line ≡ line_after (take at text)
  pub column : place.column ≡ column_after (take at text)

-- which part of a text a piece is: a number is its digits
abbrev pub part_of_piece : Piece → Part
part_of_piece (Number digits place) = Digits digits.now
part_of_piece (Blank place) = Gap
part_of_piece (LineEnd place) = Break

-- and where: each piece has the place of its first byte
abbrev pub place_of : Piece → Place
place_of (Number digits place) = place
place_of (Blank place) = place
place_of (LineEnd place) = place

-- The piece is the part of the text between two places.
abbrev pub PieceAt : List ℕ → ℕ → ℕ → Piece → Type 0
PieceAt text from to piece = PartAt text from to (part_of_piece piece) × StandsAt text from (place_of piece)

-- What a reader that stands at one place answers, and at which place it then stands: the next piece; none at the end of the text;
-- or the refusal of a byte that no sheet has, which it does not pass.
abbrev pub Cut : List ℕ → ℕ → ℕ → Result (Option Piece) Refusal → Type 0
Cut text from to (Ok None) = (drop from text ≡ []) × (to ≡ from)
Cut text from to (Ok (Some piece)) = PieceAt text from to piece
Cut text from to (Err refusal) =
    ((b : ℕ) × PartAt text from (from + 1) (Odd b)) × (to ≡ from) × (refusal ≡ placed_at_two BadByte (line_after (take from text)) (column_after (take from text)))
