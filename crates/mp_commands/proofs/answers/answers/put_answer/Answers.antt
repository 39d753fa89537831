use Rattle.std.proofs.Common.{ℕ, List, subst}
use Rattle.mp_streams.specs.WriteErrors.{Writes}
use Rattle.mp_commands.specs.answers.Kept.{Kept}
use Rattle.mp_commands.proofs.answers.answers.put_answer.Goals as goal

pub returns : goal.returns
returns g c = subst (λ (text : Kept → List ℕ). Writes c.put_asked.result c.args.out.now c.put_asked.new.out (text c.args.of.now)) c.of_question.ensures c.put_asked.ensures
