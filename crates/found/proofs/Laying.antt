-- Bytes and numbers, both ways.
use Rattle.std.proofs.Common.{◌≡◌, ℕ, zero, suc, ◌+◌, ◌*◌, ◌^◌, ◌<◌, List, [], length, get_or, drop, refl, ap, ◌∙◌, arith, lit<, zero-add}
use Rattle.std.proofs.lemmas.List.{get_or-take, get_or-drop}
use Rattle.std.proofs.lemmas.Nat.{from_le_bytes-to_le_bytes_4, from_le_bytes-to_le_bytes_8}
use Rattle.std.specs.Simd.{first_chunks}
use Rattle.marks.specs.Bytes.{four_at, eight_at}
use Rattle.found.specs.declared.record.Record.{Record}
use Rattle.found.specs.Records.{record_length, record_bytes, record_at}

pub record_back : (r : Record) → r.set.bits < 2 ^ 32 → r.support < 2 ^ 32 → r.ordinal < 2 ^ 64 → r.opened < 2 ^ 64 → record_at (record_bytes r) 0 ≡ r
unfolding record_bytes record_at
record_back r s u o p =
    let set = from_le_bytes-to_le_bytes_4 r.set.bits s in
    let support = from_le_bytes-to_le_bytes_4 r.support u in
    let ordinal = from_le_bytes-to_le_bytes_8 r.ordinal o in
    let opened = from_le_bytes-to_le_bytes_8 r.opened p in
    λ i. record { set = record { bits = set i }; support = support i; ordinal = ordinal i; opened = opened i }

pub record_size : (r : Record) → length (record_bytes r) ≡ record_length
unfolding record_bytes
record_size r = refl

-- ---- bytes that stand in other bytes

module _ (xs ys : List ℕ) (o p : ℕ) where
  four_same : ((i : ℕ) → i < 4 → get_or xs (o + i) 0 ≡ get_or ys (p + i) 0) → four_at xs o ≡ four_at ys p
  four_same h =
      let a : o + 0 ≡ o = omega arith in
      let b : p + 0 ≡ p = omega arith in
      let first : get_or xs o 0 ≡ get_or ys p 0 = cc (h 0 (lit< tt)) in
      λ i. first i + h 1 (lit< tt) i * 256 + h 2 (lit< tt) i * 65536 + h 3 (lit< tt) i * 16777216

  eight_same : ((i : ℕ) → i < 8 → get_or xs (o + i) 0 ≡ get_or ys (p + i) 0) → eight_at xs o ≡ eight_at ys p
  eight_same h =
      let low = four_same (λ i l. h i (omega arith)) in
      λ i. low i + h 4 (lit< tt) i * 4294967296 + h 5 (lit< tt) i * 1099511627776 + h 6 (lit< tt) i * 281474976710656 + h 7 (lit< tt) i * 72057594037927936

-- an element of the chunk at k, in the whole
in_chunk : (n m : ℕ) (xs : List ℕ) (k i : ℕ) → k < m → i < n → get_or (get_or (first_chunks n m xs) k []) i 0 ≡ get_or xs (k * n + i) 0
in_chunk n zero xs k i h l = absurd (omega arith)
in_chunk n (suc m) xs zero i h l = let e : 0 * n + i ≡ i = omega arith in rw e (get_or-take n xs i 0 l)
in_chunk n (suc m) xs (suc k) i h l =
    let e : n + (k * n + i) ≡ suc k * n + i = omega arith in
    in_chunk n m (drop n xs) k i (omega arith) l ∙ get_or-drop n xs (k * n + i) 0 ∙ ap (λ j. get_or xs j 0) e

module _ (m : ℕ) (bytes : List ℕ) (chunks : List (List ℕ)) (k : ℕ) (h : k < m) where
  pub four_in : chunks ≡ first_chunks 4 m bytes → four_at (get_or chunks k []) 0 ≡ four_at bytes (k * 4)
  four_in e = rw e (four_same (get_or (first_chunks 4 m bytes) k []) bytes 0 (k * 4) (λ i l. rw zero-add (in_chunk 4 m bytes k i h l)))

  pub eight_in : chunks ≡ first_chunks 8 m bytes → eight_at (get_or chunks k []) 0 ≡ eight_at bytes (k * 8)
  eight_in e = rw e (eight_same (get_or (first_chunks 8 m bytes) k []) bytes 0 (k * 8) (λ i l. rw zero-add (in_chunk 8 m bytes k i h l)))

  at_in : chunks ≡ first_chunks record_length m bytes → (o i : ℕ) → o + i < record_length → get_or (get_or chunks k []) (o + i) 0 ≡ get_or bytes (k * record_length + o + i) 0
  at_in e o i l = let j : k * record_length + (o + i) ≡ k * record_length + o + i = omega arith in rw e (in_chunk record_length m bytes k (o + i) h l ∙ ap (λ n. get_or bytes n 0) j)

  pub record_in : chunks ≡ first_chunks record_length m bytes → record_at (get_or chunks k []) 0 ≡ record_at bytes (k * record_length)
  unfolding record_at
  record_in e =
      let chunk = get_or chunks k [] in
      let start : k * record_length + 0 ≡ k * record_length = omega arith in
      let set : four_at chunk 0 ≡ four_at bytes (k * record_length) = four_same chunk bytes 0 (k * record_length + 0) (λ i l. at_in e 0 i (omega arith)) ∙ ap (four_at bytes) start in
      let support = four_same chunk bytes 4 (k * record_length + 4) (λ i l. at_in e 4 i (omega arith)) in
      let ordinal = eight_same chunk bytes 8 (k * record_length + 8) (λ i l. at_in e 8 i (omega arith)) in
      let opened = eight_same chunk bytes 16 (k * record_length + 16) (λ i l. at_in e 16 i (omega arith)) in
      λ i. record { set = record { bits = set i }; support = support i; ordinal = ordinal i; opened = opened i }
