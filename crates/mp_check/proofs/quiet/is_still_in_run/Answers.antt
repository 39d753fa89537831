use Rattle.std.proofs.Common.{◌≡◌, ℕ, true, ap, sym, ◌∙◌, arith}
use Rattle.std.specs.Prelude.{nat_le}
use Rattle.mp_questions.specs.timing.Events.{since}
use Rattle.mp_questions.specs.timing.Waits.{given}
use Rattle.mp_check.specs.Dead.{last_unit}
use Rattle.mp_check.specs.Quiet.{are_all_still}
use Rattle.mp_modules.proofs.KindLemmas.{few_outputs}
use Rattle.mp_check.proofs.QuietLemmas.{outputs_still, mark_is}
use Rattle.mp_check.proofs.quiet.is_still_in_run.Goals as goal

pub are_all_still-requires : goal.are_all_still-requires
are_all_still-requires c = let of = c.args.of.now in c.horizon-horizon.ensures.form.modules_ok of.id.0 of.part.now of.stands

pub follow-requires-clause-form : goal.follow-requires-clause-form
follow-requires-clause-form c = let of = c.args.of.now in c.horizon-horizon.ensures.form.modules_ok of.id.0 of.part.now of.stands

pub returns-then-are_all_still : goal.returns-then-are_all_still
returns-then-are_all_still c =
    let of = c.args.of.now in
    let n = of.end.at.netlist.now in
    let last : of.end.at.time ≡ last_unit n = of.end.last in
    let upto = c.requires.after in
    let all : are_all_still n c.args.after of.part.now.inputs ≡ true = sym c.are_all_still.ensures ∙ c.if-are_all_still.true in
    c.if-are_all_still.true ∙ sym (outputs_still n c.horizon-horizon.ensures.form of.id.0 of.part.now of.stands c.args.after (omega (arith, last, upto)) all c.args.port)

pub returns-else-are_all_still : goal.returns-else-are_all_still
returns-else-are_all_still c =
    let of = c.args.of.now in
    let n = of.end.at.netlist.now in
    let few = few_outputs of.part.now.kind in
    let low = c.requires.port in
    let mark = c.mark_of.ensures ∙ mark_is n of.id.0 of.part.now of.end.at.time c.follow.result c.follow.ensures c.args.port (omega (arith, few, low)) in
    ap (λ (t : ℕ). nat_le t c.args.after) (mark ∙ ap (since (given n of.id.0 c.args.port)) of.end.last)
