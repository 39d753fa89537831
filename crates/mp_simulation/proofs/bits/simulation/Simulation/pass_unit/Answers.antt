use Rattle.std.proofs.Common.{◌∙◌}
use Rattle.mp_simulation.proofs.bits.simulation.Simulation.pass_unit.Goals as goal

pub returns-clause-passed : goal.returns-clause-passed
returns-clause-passed c n scope before t ok now whole sets is =
    c.in_ok-fire.ensures.fired n scope before t ok (c.in_ok-apply.ensures.heard n scope before t ok now whole sets is)

pub returns-clause-waves : goal.returns-clause-waves
returns-clause-waves c = c.in_ok-fire.ensures.waves ∙ c.in_ok-apply.ensures.waves
