-- Numbers in bytes, low byte first.
use Rattle.std.specs.Prelude.{ℕ, ◌+◌, ◌*◌, ◌/◌, ◌%◌, List, [], ◌∷◌, slice_index}

-- a number in four and in eight bytes
abbrev pub four_bytes : ℕ → List ℕ
four_bytes n = (n % 256) ∷ (n / 256 % 256) ∷ (n / 65536 % 256) ∷ (n / 16777216 % 256) ∷ []

abbrev pub eight_bytes : ℕ → List ℕ
eight_bytes n =
    (n % 256) ∷ (n / 256 % 256) ∷ (n / 65536 % 256) ∷ (n / 16777216 % 256)
    ∷ (n / 4294967296 % 256) ∷ (n / 1099511627776 % 256) ∷ (n / 281474976710656 % 256) ∷ (n / 72057594037927936 % 256) ∷ []

-- the number in the four and in the eight bytes from a place on, which counts from 0
abbrev pub four_at : List ℕ → ℕ → ℕ
four_at bytes at = slice_index bytes at + slice_index bytes (at + 1) * 256 + slice_index bytes (at + 2) * 65536 + slice_index bytes (at + 3) * 16777216

abbrev pub eight_at : List ℕ → ℕ → ℕ
eight_at bytes at =
    slice_index bytes at + slice_index bytes (at + 1) * 256 + slice_index bytes (at + 2) * 65536 + slice_index bytes (at + 3) * 16777216
    + slice_index bytes (at + 4) * 4294967296 + slice_index bytes (at + 5) * 1099511627776 + slice_index bytes (at + 6) * 281474976710656 + slice_index bytes (at + 7) * 72057594037927936
