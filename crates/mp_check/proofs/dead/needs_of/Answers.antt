use Rattle.std.proofs.Common.{◌/◌, ◌%◌, ap, ◌∙◌}
use Rattle.mp_check.specs.Dead.{is_kept, is_kept_at, port_numbers}
use Rattle.mp_check.proofs.dead.needs_of.Goals as goal

pub returns-in-Some : goal.returns-in-Some
unfolding is_kept
returns-in-Some c =
    let k = c.args.number in
    λ set. c.port_needs.ensures set ∙ ap (is_kept_at c.args.end.now.at.netlist.now set (k / port_numbers) (k % port_numbers)) c.in-Some.ensures.value

pub returns-in-None : goal.returns-in-None
unfolding is_kept
returns-in-None c =
    let k = c.args.number in
    λ set. ap (is_kept_at c.args.end.now.at.netlist.now set (k / port_numbers) (k % port_numbers)) c.in-None.ensures.value
