use Rattle.mp_text.proofs.Names.{arith, nat_tests, inr, length-map}
use Rattle.mp_text.proofs.stated_question.stated_question.Goals as goal

pub returns-in_default : goal.returns-in_default
returns-in_default c =
    let other = c.in_default in
    inr (grind (arith, nat_tests, length-map, c.is_empty.ensures, c.if-is_empty.false, other.not-Wave, other.not-Report, other.not-Check, other.not-Show, other.not-Why, other.not-Path, other.not-Waits, other.not-Measure, other.not-Edits))
