-- The numbers of each kind, for definitions and laws that name one.
use Rattle.marks.specs.declared.numbers.Number.{Number}
use Rattle.marks.specs.declared.numbers.charge.ChargeKind.{ChargeKind}
use Rattle.marks.specs.declared.numbers.mark.MarkKind.{MarkKind}
use Rattle.marks.specs.declared.numbers.support.SupportKind.{SupportKind}
use Rattle.marks.specs.declared.numbers.width.WidthKind.{WidthKind}
use Rattle.marks.specs.Numbers.{most_charges, most_marks}

abbrev pub Mark : Type 0
Mark = Number MarkKind most_marks

abbrev pub Charge : Type 0
Charge = Number ChargeKind most_charges

abbrev pub Support : Type 0
Support = Number SupportKind most_charges

abbrev pub Width : Type 0
Width = Number WidthKind most_marks
