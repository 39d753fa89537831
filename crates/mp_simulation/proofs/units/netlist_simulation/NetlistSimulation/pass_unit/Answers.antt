use Rattle.mp_simulation.proofs.units.netlist_simulation.NetlistSimulation.pass_unit.Goals as goal

pub fire-requires : goal.fire-requires
fire-requires c =
    let f = c.requires.fit in
    record { n = f.n; ok = f.ok; t = f.t; is = c.in_ok-apply.ensures.applied f.n f.t f.ok f.now f.is f.stimuli }

pub returns : goal.returns
returns c n t ok now is sets = c.in_ok-fire.ensures.fired n t ok (c.in_ok-apply.ensures.applied n t ok now is sets)
