use Rattle.std.proofs.Common.{◌≡◌, ◌/◌, length, ◌∙◌, arith}
use Rattle.marks.specs.Bytes.{four_at, eight_at}
use Rattle.found.specs.Records.{record_at}
use Rattle.found.proofs.Laying.{four_in, eight_in}
use Rattle.found.proofs.record.Record.from_bytes.Goals as goal

pub returns : goal.returns
unfolding record_at
returns c =
    let bytes = c.args.bytes.now in
    let fours = four_in (length bytes / 4) bytes c.as_chunks.result.0.now in
    let eights = eight_in (length bytes / 8) bytes c.as_chunks-2.result.0.now in
    let set : c.from_bits.result.bits ≡ four_at bytes 0 = c.from_bits.ensures ∙ c.from_le_bytes.ensures ∙ fours 0 (omega arith) c.as_chunks.ensures.front in
    let support : c.from_le_bytes-2.result ≡ four_at bytes 4 = c.from_le_bytes-2.ensures ∙ fours 1 (omega arith) c.as_chunks.ensures.front in
    let ordinal : c.from_le_bytes-3.result ≡ eight_at bytes 8 = c.from_le_bytes-3.ensures ∙ eights 1 (omega arith) c.as_chunks-2.ensures.front in
    let opened : c.from_le_bytes-4.result ≡ eight_at bytes 16 = c.from_le_bytes-4.ensures ∙ eights 2 (omega arith) c.as_chunks-2.ensures.front in
    λ i. record { set = record { bits = set i }; support = support i; ordinal = ordinal i; opened = opened i }
