-- What comes next in a text.
use Rattle.std.specs.Prelude.{ℕ, Bool, true, false, cond, List, [], ◌∷◌, ◌==◌}
use Rattle.sheets.specs.Cutting.{line_end}
use Rattle.sheets.specs.declared.piece.Ahead.{Ahead}
use Rattle.sheets.specs.declared.piece.Ahead.TheVariants.{More, LineEnd, End}

-- more of a line, a line end, or the end of the text
abbrev pub ahead_in : List ℕ → Ahead
ahead_in [] = End
ahead_in (b ∷ text) = cond (b == line_end) LineEnd More

abbrev pub is_line_end : Ahead → Bool
is_line_end More = false
is_line_end LineEnd = true
is_line_end End = false

-- the line ends here, by a line end or by the end of the text
abbrev pub is_end_of_line : Ahead → Bool
is_end_of_line More = false
is_end_of_line LineEnd = true
is_end_of_line End = true
