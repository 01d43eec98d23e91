use Rattle.std.proofs.Common.{◌≡◌, ℕ, ◌-◌, List, get_or, vec_items, sym, ap, ◌∙◌, ap₂, inl, inr, arith, rules}
use Rattle.std.proofs.lemmas.Bool.{cases_lt}
use Rattle.std.proofs.lemmas.List.{get_or_past}
use Rattle.std.specs.Int.Bits.{and_zero_l}
use Rattle.marks.specs.Numbers.{InRange, most_charges}
use Rattle.marks.specs.Sets.{both, all_below}
use Rattle.tables.specs.Meaning.{count_of, nearest_width, row_of, trimmed}
use Rattle.tables.specs.Trimmed.{trimmed_count, trimmed_read, trimmed_beyond}
use Rattle.table_samples.proofs.ledger.LedgerTable.row.Goals as goal

-- a row, cut to the width, is what is meant, and there is none past the rows
read : (n : ℕ) (rows : List ℕ) (charge : ℕ) → InRange most_charges charge
    → both (get_or rows (charge - 1) 0) (all_below (nearest_width n)) ≡ row_of (trimmed n rows) charge
read n rows charge within =
    elim (cases_lt (count_of (trimmed n rows)) charge) [
      | inl past ↦
          ap (λ row. both row (all_below (nearest_width n))) (get_or_past rows (charge - 1) 0 (omega (arith, within.1, trimmed_count n rows)))
          ∙ and_zero_l (all_below (nearest_width n)) ∙ sym (trimmed_beyond n rows charge past)
      | inr among ↦ trimmed_read n rows charge within.0 among
    ]

pub returns : goal.returns
returns c =
    let ledger = c.args.self.now in
    let n = ledger.width.number in
    let row : c.unwrap_or.result ≡ get_or (vec_items ledger.rows) c.place.result 0 = search rules in
    let same : c.from_bits.result.bits ≡ get_or (vec_items ledger.rows) (c.args.charge.number - 1) 0 =
    c.from_bits.ensures ∙ row ∙ ap (λ (k : ℕ). get_or (vec_items ledger.rows) k 0) c.place.ensures.value in
    let all : c.up_to.result.bits ≡ all_below (nearest_width n) =
    c.up_to.ensures ∙ ap all_below (let e : n ≡ nearest_width n = omega (arith, ledger.width.range.0, ledger.width.range.1) in e) in
    c.intersection.ensures ∙ ap₂ both same all ∙ read n (vec_items ledger.rows) c.args.charge.number c.args.charge.range
