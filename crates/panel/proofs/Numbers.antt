-- The numbers of refusals.
use Rattle.std.proofs.Common.{◌≤◌, arith}
use Rattle.marks.specs.declared.refusal.Reason.{Reason}
use Rattle.marks.specs.declared.refusal.Reason.TheVariants.{Form, Range, BadByte, BadNumber, BadRise, BadBlank, NoLineEnd, TooMany, NoPlace, Long, Ragged, Stray, WordCount, BadChoice, BadPair, OutOfOrder, ShortSlot, NothingYet, Clash, DeadEnd}
use Rattle.marks.specs.Refusals.{number_of}

pub number_few : (reason : Reason) → number_of reason ≤ 20
number_few Form = omega arith
number_few Range = omega arith
number_few BadByte = omega arith
number_few BadNumber = omega arith
number_few BadRise = omega arith
number_few BadBlank = omega arith
number_few NoLineEnd = omega arith
number_few TooMany = omega arith
number_few NoPlace = omega arith
number_few Long = omega arith
number_few Ragged = omega arith
number_few Stray = omega arith
number_few WordCount = omega arith
number_few BadChoice = omega arith
number_few BadPair = omega arith
number_few OutOfOrder = omega arith
number_few ShortSlot = omega arith
number_few NothingYet = omega arith
number_few Clash = omega arith
number_few DeadEnd = omega arith
