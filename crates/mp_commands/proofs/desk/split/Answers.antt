use Rattle.std.specs.Prelude.{◌≡◌}
use Rattle.mp_commands.proofs.Names.{true, false, [], sym, ap, ◌∙◌, arith, rules, lines_of, are_divided, parts_of, lines_of_each}
use Rattle.std.proofs.lemmas.Bool.{lt-ltb, le-ltb}
use Rattle.mp_commands.proofs.DeskLemmas.{blocks_of-none, blocks_of-some}
use Rattle.mp_commands.proofs.desk.split.Goals as goal

pub returns-then-front-input-clause-blocks : goal.returns-then-front-input-clause-blocks
returns-then-front-input-clause-blocks c =
    let undivided : are_divided (lines_of c.args.input.now) ≡ false = sym c.in_ok-front.ensures.divided ∙ le-ltb _ _ (omega arith) in
    let none : c.new.result.items ≡ [] = search rules in
    ap lines_of_each none ∙ sym (blocks_of-none c.args.input.now undivided)

pub returns-clause-blocks : goal.returns-clause-blocks
returns-clause-blocks c =
    let divided : are_divided (lines_of c.args.input.now) ≡ true = sym c.in_ok-front.ensures.divided ∙ lt-ltb _ _ (omega arith) in
    c.in_ok-parts.ensures.parts ∙ ap parts_of c.in_ok-front.ensures.back ∙ sym (blocks_of-some c.args.input.now divided)
