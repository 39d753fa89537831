use Rattle.mp_active.proofs.lemmas.excerpt.RenumberingLemmas.{numbers_stay, units_show}
use Rattle.mp_active.proofs.excerpt.laws.numbers_stay.Goals as goal

pub returns : goal.returns
returns c = record { stay = numbers_stay; units = units_show }
