use Rattle.std.proofs.Common.{ℕ, Bool, List, rules}
use borrow.Author.Tests.{tests}
use Rattle.marks.proofs.Places.{passing_first}
use Rattle.tables.specs.Packed.{chunk_row, strays}
use Rattle.tables.proofs.Packing.{first_place-map}
use Rattle.tables.proofs.packed.first_stray.Goals as goal

pub returns : goal.returns
returns c =
    let rows = c.args.rows.now in
    let stray : List ℕ → Bool = λ bytes. strays c.args.all.bits (chunk_row bytes) in
    rw (first_place-map (strays c.args.all.bits) chunk_row rows) (passing_first _ stray rows c.first_passing.result c.first_passing.ensures (λ bytes answer given. search (rules, tests)))
