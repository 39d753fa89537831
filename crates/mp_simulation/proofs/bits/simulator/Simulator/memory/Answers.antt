use Rattle.std.proofs.Common.{◌<◌, length, ap, ◌∙◌, arith}
use Rattle.mp_model.specs.Levels.{built}
use Rattle.mp_model.specs.Waves.{state}
use Rattle.mp_kernel.specs.events.Firing.{UnitState, number_of}
use Rattle.mp_kernel.proofs.lemmas.events.AddingLemmas.{found}
use Rattle.mp_kernel.proofs.lemmas.events.FiringLemmas.{found_levels}
use Rattle.mp_simulation.proofs.bits.simulator.Simulator.memory.Goals as goal

pub returns : goal.returns
returns c n scope t m r before at place =
    let s = c.args.self.now in
    let q = c.args.place in
    let stands = before.stands in
    let seat = stands.layout.seats m q r at place in
    let long = c.requires.sound.levels in
    let within = c.requires.within in
    let seated : q < length s.levels.items = omega arith in
    c.memory.ensures (built n r) (state n m t) (seat.state_bits t)
    (found s.states.items q c.index.result.now c.requires.within c.index.ensures
    ∙ stands.numbered q c.requires.within
    ∙ ap (λ (u : UnitState). number_of u) (stands.active m q r at place))
    (found_levels s.levels.items q c.index-2.result.now seated c.index-2.ensures ∙ stands.levels m q r at place)
