-- Records that are read back: their order, and what memory holds.
use Rattle.std.proofs.Common.{◌≡◌, ℕ, suc, ◌+◌, ◌-◌, ◌*◌, ◌/◌, ◌%◌, ◌^◌, ◌<◌, ◌≤◌, true, false, ◌⊎◌, List, [], ◌∷◌, ◌++◌, map, length, get_or, take, drop, set, eqb, add-one, append_assoc, Some, None, Decides, Option, sym, ap, ◌∙◌, subst, inl, inr, ⊎_elim, arith}
use lib.Bits.{bit_xor, xor_lt}
use lib.Count.{count_trailing_zeros, trailing_of_zero}
use Rattle.std.specs.List.{range_with_len}
use Rattle.std.specs.Simd.{first_chunks}
use Rattle.std.proofs.lemmas.List.FromFn.{length-map-range_with_len, get_or-map-range_with_len}
use Rattle.std.proofs.Math.Seq.{drop-cons}
use Rattle.std.proofs.lemmas.List.{get_or_past, get_or_default, get_or-map, length-map, length-take-le, map-append, set-append_right, take_at, take_more, ext_get_or}
use Rattle.std.proofs.lemmas.Bool.{cases_eq, cases_lt, cases_Bool, both_ways, eqb-true, eq-eqb, ne_eqb, lt-ltb, le-ltb, le-leb, lt-leb}
use Rattle.marks.specs.declared.refusal.Reason.TheVariants.{Ragged, NoPlace, OutOfOrder}
use Rattle.marks.specs.Memory.{put_in_front}
use Rattle.marks.specs.Orders.{Before, After, FirstUnordered}
use Rattle.marks.specs.Places.{first_place}
use Rattle.marks.specs.Refusals.{unplaced, placed_at}
use Rattle.marks.specs.Sets.{has}
use Rattle.marks.specs.Members.{has_past}
use Rattle.marks.proofs.Places.{first_number_some, first_number_none}
use Rattle.marks.specs.SetOrder.{before_decided, same_undecided}
use Rattle.marks.specs.Sizes.{trailing_lowest}
use Rattle.found.specs.declared.record.Record.{Record}
use Rattle.found.specs.Records.{record_length, record_at, found_records, comes_before, TellsListOrder, no_record, unordered, read_back_refusal, read_back_memory}
use Rattle.found.proofs.Laying.{record_in}

-- ---- the order

abbrev pub RecordBefore : Record → Record → Type 0
RecordBefore p q = Before p.set.bits q.set.bits

pub comes_before_decides : TellsListOrder
comes_before_decides x y p q = ⊎_elim same (λ n. before_decided x y (count_trailing_zeros 32 (bit_xor x y)) (trailing_lowest 32 (bit_xor x y) (omega arith) (xor_lt 32 x y p q))) (cases_eq (bit_xor x y) 0)
  where
    same : bit_xor x y ≡ 0 → Decides (comes_before x y) (Before x y)
    same e =
        let out : comes_before x y ≡ false = ap (λ d. has x (count_trailing_zeros 32 d)) e ∙ ap (has x) (trailing_of_zero 32) ∙ has_past 32 x 32 p (omega arith) in
        let d = same_undecided x y e in
        (λ t. absurd (both_ways (comes_before x y) out t), λ b. out ∙ d.1 b)

module _ (records : List Record) (small : (k : ℕ) → (get_or records k no_record).set.bits < 2 ^ 32) where
  pub ordered_at : (k : ℕ) → (0 < k → After RecordBefore records k) → unordered records k ≡ false
  ordered_at k after = ⊎_elim in_order first (cases_lt 0 k)
    where
      in_order : 0 < k → unordered records k ≡ false
      in_order some =
          let t : comes_before (get_or records (k - 1) no_record).set.bits (get_or records k no_record).set.bits ≡ true =
          (comes_before_decides (get_or records (k - 1) no_record).set.bits (get_or records k no_record).set.bits (small (k - 1)) (small k)).1 (after some no_record) in
          rw t (grind arith)

      first : k ≤ 0 → unordered records k ≡ false
      first none = rw (le-ltb 0 k none)

  pub unordered_at : (k : ℕ) → 0 < k → k < length records → (After RecordBefore records k → ⊥) → unordered records k ≡ true
  unordered_at k some inside not_after = by (cases_Bool (comes_before (get_or records (k - 1) no_record).set.bits (get_or records k no_record).set.bits))
    where
      by : (comes_before (get_or records (k - 1) no_record).set.bits (get_or records k no_record).set.bits ≡ true)
          ⊎ (comes_before (get_or records (k - 1) no_record).set.bits (get_or records k no_record).set.bits ≡ false) → unordered records k ≡ true
      by (inl t) =
          absurd (not_after (λ d.
          subst (λ r. RecordBefore r (get_or records k d)) (get_or_default records (k - 1) no_record d (omega arith))
          (subst (RecordBefore (get_or records (k - 1) no_record)) (get_or_default records k no_record d inside)
          ((comes_before_decides (get_or records (k - 1) no_record).set.bits (get_or records k no_record).set.bits (small (k - 1)) (small k)).0 t))))
      by (inr f) = rw (lt-ltb 0 k some, f)

  pub place_of : (o : Option ℕ) → FirstUnordered RecordBefore records o → first_place (unordered records) (range_with_len 0 (length records)) ≡ o
  place_of None up = first_number_none (unordered records) (length records) (λ k h. ordered_at k (λ some. up k some h))
  place_of (Some place) (more, within, up, stop) =
      let e : place - 1 + 1 ≡ place = omega arith in
      first_number_some (unordered records) (length records) (place - 1) (omega arith) (unordered_at (place - 1) (omega arith) (omega arith) stop)
      (λ k h. ordered_at k (λ some. up k some h)) ∙ ap (λ (p : ℕ). Some p) e

-- ---- the records that bytes hold

module _ (bytes : List ℕ) where
  pub found_length : length (found_records bytes) ≡ length bytes / record_length
  unfolding found_records
  found_length = length-map-range_with_len (λ k. record_at bytes (k * record_length)) 0 (length bytes / record_length)

  pub found_at : (k : ℕ) → k < length bytes / record_length → get_or (found_records bytes) k no_record ≡ record_at bytes (k * record_length)
  unfolding found_records
  found_at k h = get_or-map-range_with_len (λ k. record_at bytes (k * record_length)) 0 (length bytes / record_length) k k no_record h (omega arith)

  small : ((i : ℕ) → get_or bytes i 0 < 256) → (at : ℕ) → (record_at bytes at).set.bits < 2 ^ 32
  unfolding record_at
  small fits at = omega (arith, fits at, fits (at + 1), fits (at + 2), fits (at + 3))

  -- sets of bytes are sets of marks
  pub found_small : ((i : ℕ) → get_or bytes i 0 < 256) → (k : ℕ) → (get_or (found_records bytes) k no_record).set.bits < 2 ^ 32
  found_small fits k =
      elim (cases_lt k (length bytes / record_length)) [
        | inl h ↦ subst (λ r. r.set.bits < 2 ^ 32) (sym (found_at k h)) (small fits (k * record_length))
        | inr h ↦ subst (λ r. r.set.bits < 2 ^ 32) (sym (get_or_past (found_records bytes) k no_record (omega (arith, found_length)))) (omega arith)
      ]

-- ---- what memory holds

-- what the store of one more makes of memory
module _ {X Y : Type 0} (f : X → Y) (xs : List X) (old : List Y) where
  front_size : (i : ℕ) → i ≤ length xs → length (map f (take i xs)) ≡ i
  front_size i h = length-map (take i xs) f ∙ length-take-le i xs h

  in_front : (i : ℕ) → i ≤ length xs → put_in_front (map f (take i xs)) old ≡ map f (take i xs) ++ drop i old
  in_front i h = ap (λ n. map f (take i xs) ++ drop n old) (front_size i h)

  pub one_more : {memory : List Y} (i : ℕ) (d : X) → i < length xs → length xs ≤ length old → memory ≡ put_in_front (map f (take i xs)) old
      → set memory i (f (get_or xs i d)) ≡ put_in_front (map f (take (i + 1) xs)) old
  one_more {memory = memory} i d h room e =
      let x = get_or xs i d in
      let front = map f (take i xs) in
      let size = front_size i (omega arith) in
      let whole = e ∙ in_front i (omega arith) in
      let none : i - i ≡ 0 = omega arith in
      let rest : drop i old ≡ get_or old i (f x) ∷ drop (suc i) old = drop-cons old i (f x) (omega arith) in
      let step : set (front ++ drop i old) i (f x) ≡ front ++ (f x ∷ drop (suc i) old) = set-append_right front (drop i old) i i (f x) size (omega arith) ∙ rw (none, rest) in
      let more : map f (take (i + 1) xs) ≡ front ++ (f x ∷ []) = ap (map f) (take_more xs i d h) ∙ map-append f (take i xs) (x ∷ []) in
      let plain : set memory i (f x) ≡ map f (take (i + 1) xs) ++ drop (i + 1) old = rw (whole, step, more, add-one) (sym (append_assoc front (f x ∷ []) (drop (suc i) old))) in
      plain ∙ sym (in_front (i + 1) (omega arith))

abbrev of_chunk : List ℕ → Record
of_chunk chunk = record_at chunk 0

-- the bytes are whole records, cut into chunks
pub record Cut (bytes : List ℕ) (chunks : List (List ℕ)) : Type 0 where
  pub whole : length bytes % record_length ≡ 0
  pub parts : chunks ≡ first_chunks record_length (length bytes / record_length) bytes
  pub count : length chunks ≡ length bytes / record_length

pub cut : {bytes : List ℕ} {chunks : List (List ℕ)} {stray : ℕ} → stray ≡ length bytes % record_length → true ≡ eqb stray 0
    → chunks ≡ first_chunks record_length (length bytes / record_length) bytes → length chunks ≡ length bytes / record_length → Cut bytes chunks
cut {stray = stray} s none e n = record { whole = sym s ∙ eqb-true stray 0 (sym none); parts = e; count = n }

pub kept_ragged : (bytes : List ℕ) (old : List Record) → (length bytes % record_length ≡ 0 → ⊥) → old ≡ read_back_memory bytes old
unfolding read_back_memory
kept_ragged bytes old ragged = rw (ne_eqb (length bytes % record_length) 0 ragged)

module _ {bytes : List ℕ} {chunks : List (List ℕ)} (c : Cut bytes chunks) where
  pub kept_short : (old : List Record) → length old < length chunks → old ≡ read_back_memory bytes old
  unfolding read_back_memory
  kept_short old short = rw (eq-eqb (length bytes % record_length) 0 c.whole, lt-leb (length bytes / record_length) (length old) (omega (arith, c.count)))

  of_chunks : map (λ chunk. record_at chunk 0) chunks ≡ found_records bytes
  of_chunks =
      ext_get_or no_record (map of_chunk chunks) (found_records bytes) (omega (arith, length-map chunks of_chunk, found_length bytes, c.count))
      (λ k h. let l : k < length bytes / record_length = omega (arith, length-map chunks of_chunk, c.count) in
      get_or-map of_chunk chunks k [] no_record (omega (arith, c.count)) ∙ record_in (length bytes / record_length) bytes chunks k l c.parts ∙ sym (found_at bytes k l))

  module _ (old new : List Record) (is : new ≡ put_in_front (map (λ chunk. record_at chunk 0) chunks) old) where
    pub filled : length chunks ≤ length old → new ≡ read_back_memory bytes old
    unfolding read_back_memory
    filled room = rw (eq-eqb (length bytes % record_length) 0 c.whole, le-leb (length bytes / record_length) (length old) (omega (arith, c.count))) (is ∙ ap (λ records. put_in_front records old) of_chunks)

    -- what the check of neighbours says of the records in front
    pub judged : ((i : ℕ) → get_or bytes i 0 < 256) → (o : Option ℕ) → FirstUnordered RecordBefore (take (length chunks - 0) new) o
        → first_place (unordered (found_records bytes)) (range_with_len 0 (length bytes / record_length)) ≡ o
    judged fits o h =
        let size : length (found_records bytes) ≡ length chunks - 0 = omega (arith, found_length bytes, c.count) in
        let front : take (length chunks - 0) new ≡ found_records bytes =
        rw (is, of_chunks) (take_at (found_records bytes) (drop (length (found_records bytes)) old) (length chunks - 0) size)
        in
        ap (λ n. first_place (unordered (found_records bytes)) (range_with_len 0 n)) (sym (found_length bytes))
        ∙ place_of (found_records bytes) (found_small bytes fits) o (subst (λ l. FirstUnordered RecordBefore l o) front h)

-- ---- refused

pub refused_ragged : (bytes : List ℕ) (room : ℕ) → (length bytes % record_length ≡ 0 → ⊥) → read_back_refusal bytes room ≡ Some (unplaced Ragged)
unfolding read_back_refusal
refused_ragged bytes room ragged = rw (ne_eqb (length bytes % record_length) 0 ragged)

module _ {bytes : List ℕ} {chunks : List (List ℕ)} (c : Cut bytes chunks) (room : ℕ) where
  pub refused_place : room < length chunks → read_back_refusal bytes room ≡ Some (unplaced NoPlace)
  unfolding read_back_refusal
  refused_place short = rw (eq-eqb (length bytes % record_length) 0 c.whole, lt-ltb room (length bytes / record_length) (omega (arith, c.count)))

  pub refused_order : length chunks ≤ room → (place : ℕ) → first_place (unordered (found_records bytes)) (range_with_len 0 (length bytes / record_length)) ≡ Some place
      → read_back_refusal bytes room ≡ Some (placed_at OutOfOrder place)
  unfolding read_back_refusal
  refused_order fits place e = rw (eq-eqb (length bytes % record_length) 0 c.whole, le-ltb room (length bytes / record_length) (omega (arith, c.count)), e)

  pub accepted : length chunks ≤ room → first_place (unordered (found_records bytes)) (range_with_len 0 (length bytes / record_length)) ≡ None → read_back_refusal bytes room ≡ None
  unfolding read_back_refusal
  accepted fits e = rw (eq-eqb (length bytes % record_length) 0 c.whole, le-ltb room (length bytes / record_length) (omega (arith, c.count)), e)
