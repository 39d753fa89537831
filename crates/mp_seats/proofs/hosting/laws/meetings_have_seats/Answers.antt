use Rattle.mp_seats.proofs.lemmas.hosting.AgreementLemmas as agreement
use Rattle.mp_seats.proofs.hosting.laws.meetings_have_seats.Goals as goal

pub returns-clause-blocks : goal.returns-clause-blocks
returns-clause-blocks c = agreement.blocks_are_seats

pub returns-clause-numbers : goal.returns-clause-numbers
returns-clause-numbers c = agreement.numbers_are_seats
