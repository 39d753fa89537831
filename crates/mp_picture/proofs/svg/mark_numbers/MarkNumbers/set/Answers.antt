use Rattle.std.proofs.Common.{Bool, Some, cond, ap, ◌∙◌}
use Rattle.mp_picture.specs.svg.MarkNumbers.{mark_key, number_of}
use Rattle.mp_picture.proofs.lemmas.svg.MarkLemmas.{marks_tell}
use Rattle.mp_picture.proofs.svg.mark_numbers.MarkNumbers.set.Goals as goal

pub returns : goal.returns
returns c = λ other found.
    let updates = rw (c.place_key.ensures, c.number.ensures.value) at c.in_ok-insert.ensures.updates in
    updates.0 (mark_key other found)
    ∙ ap (λ (b : Bool). cond b (Some c.args.number) (number_of c.args.self.now other found)) (marks_tell c.args.place other c.args.code found)
