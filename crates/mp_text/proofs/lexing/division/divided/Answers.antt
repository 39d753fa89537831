use Rattle.mp_text.proofs.lemmas.lexing.Names.{rules, arith, take_rest}
use Rattle.mp_text.proofs.lemmas.lexing.DivisionLemmas.{next_line_in, undivided_next, front_here, back_here, front_end, back_end, divided_end}
use Rattle.mp_text.proofs.lexing.division.divided.Goals as goal

pub loop-at-preserved : goal.loop-at-preserved
loop-at-preserved c = grind (arith, take_rest, next_line_in, undivided_next)

pub returns-then-branch-clause-front : goal.returns-then-branch-clause-front
returns-then-branch-clause-front c = grind (arith, front_here, take_rest)

pub returns-then-branch-clause-back : goal.returns-then-branch-clause-back
returns-then-branch-clause-back c = grind (arith, take_rest, back_here)

pub returns-clause-front : goal.returns-clause-front
returns-clause-front c = front_end c.args.input.now c.loop-at.at (search rules) c.loop-at.invariant.undivided

pub returns-clause-back : goal.returns-clause-back
returns-clause-back c = back_end c.args.input.now c.loop-at.at (search rules) c.loop-at.invariant.undivided

pub returns-clause-divided : goal.returns-clause-divided
returns-clause-divided c = divided_end c.args.input.now c.loop-at.at (search rules) c.loop-at.invariant.undivided
