use Rattle.std.proofs.Common.{Ok, subst}
use Rattle.mp_text.specs.lines.Incoming.{ReadsLine}
use Rattle.mp_seats.proofs.lemmas.hosting.EndingLemmas.{ended_at_end, ended_at_fault}
use Rattle.mp_seats.proofs.hosting.seat_server.ended.Goals as goal

pub returns-in-Ok-false : goal.returns-in-Ok-false
returns-in-Ok-false g c =
    let read = subst (λ has_line. ReadsLine (Ok has_line) c.loop.lines c.read.new.self) c.in-Ok-false.field-0-test c.in-Ok-false.ensures.read in
    ended_at_end c.read.new.self read.becomes.2

pub returns-in-Err : goal.returns-in-Err
returns-in-Err g c = ended_at_fault c.read.new.self c.loop.lines.faults c.in-Err.ensures.faults
