-- The records in the front of memory are those that were written there.
use Rattle.std.proofs.Common.{◌≡◌, ℕ, ◌*◌, ◌/◌, ◌<◌, List, [], ◌∷◌, ◌++◌, map, length, get_or, take, drop, flat_map, refl, sym, ap, ◌∙◌, subst, append-nil, arith, length-take}
use Rattle.std.specs.Simd.{first_chunks}
use Rattle.std.proofs.lemmas.List.{get_or-take, get_or-map, take_at, drop_at, drop_all, ext_get_or}
use Rattle.tables.specs.Meaning.{Proper}
use Rattle.found.specs.declared.record.Record.{Record}
use Rattle.found.specs.Records.{record_length, record_bytes, record_at, found_records, written, no_record}
use Rattle.found.proofs.Laying.{record_size, record_in}
use Rattle.found.proofs.ReadBack.{found_length, found_at}
use Rattle.closed.specs.Closed.{Query}
use Rattle.finder.specs.Found.{how_many, records}
use Rattle.finder.proofs.Listing.{found_at as record_found, length_records, get_or_records, written_back}
use Rattle.panel.specs.Listing.{front_records, written_into}
use Rattle.panel.proofs.Filling.{records_size}

-- the bytes of each record tell it
abbrev pub TellThem : List Record → Type 0
TellThem rs = (k : ℕ) → k < length rs → record_at (record_bytes (get_or rs k no_record)) 0 ≡ get_or rs k no_record

-- the bytes of records, cut into chunks of a record each
chunks_of : (rs : List Record) → first_chunks record_length (length rs) (flat_map record_bytes rs) ≡ map record_bytes rs
chunks_of [] = refl
chunks_of (r ∷ rs) =
    let more = flat_map record_bytes rs in
    let first = take_at (record_bytes r) more record_length (record_size r) in
    let rest = ap (first_chunks record_length (length rs)) (drop_at (record_bytes r) more record_length (record_size r)) ∙ chunks_of rs in
    λ i. first i ∷ rest i

found_again : (rs : List Record) → TellThem rs → found_records (flat_map record_bytes rs) ≡ rs
found_again rs tell =
    let bytes = flat_map record_bytes rs in
    let count : length bytes / record_length ≡ length rs = omega (arith, records_size rs) in
    ext_get_or no_record (found_records bytes) rs (found_length bytes ∙ count)
    (λ k h.
    let here : k < length rs = omega (arith, found_length bytes, count) in
    found_at bytes k (omega (arith, here, count)) ∙ sym (record_in (length rs) bytes (map record_bytes rs) k here (sym (chunks_of rs)))
    ∙ ap (λ b. record_at b 0) (get_or-map record_bytes rs k no_record [] here) ∙ tell k here)

pub fronted : (rs : List Record) (old : List ℕ) (count : ℕ) → count ≡ length rs → TellThem rs → front_records count (written_into rs old) ≡ rs
fronted rs old count size tell =
    let bytes = flat_map record_bytes rs in
    let long : length bytes ≡ record_length * count = omega (arith, records_size rs, size) in
    ap found_records (take_at bytes (drop (length bytes) old) (record_length * count) long) ∙ found_again rs tell

-- ---- those of a list

module _ (q : Query) (proper : Proper q.table) where
  told_back : (k : ℕ) → k < how_many q → record_at (record_bytes (record_found q k)) 0 ≡ record_found q k
  told_back k h =
      let r = record_found q k in
      let none : drop (length (record_bytes r)) [] ≡ [] = drop_all (length (record_bytes r)) [] (omega arith) in
      let whole : written r [] ≡ record_bytes r = ap (λ rest. record_bytes r ++ rest) none ∙ append-nil (record_bytes r) in
      ap (λ b. record_at b 0) (sym whole) ∙ written_back q proper k h []

  tell_records : TellThem (records q)
  tell_records k h =
      let here : k < how_many q = omega (arith, length_records q) in
      subst (λ r. record_at (record_bytes r) 0 ≡ r) (sym (get_or_records q k here)) (told_back k here)

  pub tell_first : (n : ℕ) → TellThem (take n (records q))
  tell_first n k h =
      let first : k < n = omega (arith, length-take n (records q)) in
      let within : k < length (records q) = omega (arith, length-take n (records q)) in
      subst (λ r. record_at (record_bytes r) 0 ≡ r) (sym (get_or-take n (records q) k no_record first)) (tell_records k within)
