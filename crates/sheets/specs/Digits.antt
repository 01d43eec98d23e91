-- Numbers in decimal digits, at the front of a text.
use Rattle.std.specs.Prelude.{ℕ, cond, List, take, ◌==◌, slice_index}
use Rattle.std.specs.Char.{is_ascii_digit}
use Rattle.std.specs.List.{take_while}

-- a number of an order line has no more digits than this, and so is below ten to the power of this
abbrev pub most_digits : ℕ
most_digits = 5

-- The digits of the number at the front of a text: no more than a number can have, and after a leading 0 none. With no digit there is no number.
unfoldable pub leading_digits : List ℕ → List ℕ
leading_digits text = take_while is_ascii_digit (take (cond (slice_index text 0 == 48) 1 most_digits) text)
