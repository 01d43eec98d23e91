use Rattle.std.proofs.Common.{length, ap, arith}
use Rattle.std.proofs.lemmas.Fmt.{length-decimal-le}
use Rattle.sheets.proofs.writing.add_mark.Goals as goal

pub push_str-requires : goal.push_str-requires
push_str-requires c =
    (omega arith, omega (arith, ap length c.format.ensures.text, length-decimal-le 2 c.get.result (omega arith) (omega (arith, c.get.ensures.range)) (omega (arith, c.get.ensures.range))))
