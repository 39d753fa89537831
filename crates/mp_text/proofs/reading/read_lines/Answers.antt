use Rattle.std.specs.Prelude.{◌⊎◌}
use Rattle.mp_text.specs.Names.{Line, OutOfMemory}
use Rattle.mp_text.proofs.Names.{◌≡◌, ◌<◌, length, subst, arith, nat_tests, Err, Fresh, lines_of, after_line, after_lines}
use Rattle.mp_text.proofs.TextLemmas.{lines_end, line_fails, line_reached, gives_same}
use Rattle.mp_text.proofs.reading.read_lines.Goals as goal

pub returns-in-Err-clause-reached : goal.returns-in-Err-clause-reached
returns-in-Err-clause-reached c memory = grind (arith, nat_tests, line_reached, c.loop-rest.invariant.counted, c.loop-rest.invariant.same)

pub returns-in-Err-clause-read : goal.returns-in-Err-clause-read
returns-in-Err-clause-read c =
    let some : 0 < length c.loop-rest.rest.now = grind (arith, nat_tests) in
    let fault = subst (λ front. (c.in-Err.code ≡ Line OutOfMemory) ⊎ (after_line c.loop-rest.state front ≡ Err c.in-Err.code)) c.first_line.ensures.line c.in-Err.ensures in
    line_fails c.loop-rest.number c.loop-rest.state c.loop-rest.rest.now c.in-Err.code (after_lines 0 Fresh (lines_of c.args.text.now)) some c.loop-rest.invariant.same fault

pub returns-clause-read : goal.returns-clause-read
returns-clause-read c = grind (arith, lines_end, gives_same)
