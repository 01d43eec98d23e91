-- The rows of chunks: those that their bytes hold, and that what a packed table means is proper.
use Rattle.std.specs.Prelude.{◌≡◌, ℕ, zero, suc, ◌/◌, ◌^◌, ◌<◌, ◌≤◌, List, [], ◌∷◌, length, slice_index, refl}
use Rattle.std.proofs.Common.{ap, arith}
use Rattle.std.specs.Simd.{first_chunks}
use Rattle.std.proofs.lemmas.List.{length-map}
use Rattle.marks.specs.Numbers.{most_marks, most_charges, InRange}
use Rattle.tables.specs.Meaning.{Proper}
use Rattle.tables.specs.Packed.{row_bytes, packed_rows, chunk_row, chunk_rows, packed_meaning}

pub chunk_count : (chunks : List (List ℕ)) → length (chunk_rows chunks) ≡ length chunks
chunk_count chunks = length-map chunks chunk_row

-- bytes hold the rows that their chunks hold
pub rows_of_chunks : (k : ℕ) (bytes : List ℕ) → length bytes / row_bytes ≡ k → chunk_rows (first_chunks row_bytes k bytes) ≡ packed_rows bytes
rows_of_chunks zero [] e = refl
rows_of_chunks zero (a ∷ []) e = refl
rows_of_chunks zero (a ∷ b ∷ []) e = refl
rows_of_chunks zero (a ∷ b ∷ c ∷ []) e = refl
rows_of_chunks zero (a ∷ b ∷ c ∷ d ∷ bytes) e = absurd (omega arith)
rows_of_chunks (suc k) [] e = absurd (omega arith)
rows_of_chunks (suc k) (a ∷ []) e = absurd (omega arith)
rows_of_chunks (suc k) (a ∷ b ∷ []) e = absurd (omega arith)
rows_of_chunks (suc k) (a ∷ b ∷ c ∷ []) e = absurd (omega arith)
rows_of_chunks (suc k) (a ∷ b ∷ c ∷ d ∷ bytes) e =
    ap (λ (rows : List ℕ). chunk_row (a ∷ b ∷ c ∷ d ∷ []) ∷ rows) (rows_of_chunks k bytes (omega arith))

module _ (n : ℕ) (chunks : List (List ℕ)) where
  pub packed_proper : InRange most_marks n → length chunks ≤ most_charges → ((k : ℕ) → slice_index (chunk_rows chunks) k < 2 ^ n)
      → Proper (packed_meaning n chunks)
  packed_proper wide few within = record { wide = wide; few = omega (arith, chunk_count chunks); within = within }
