use Rattle.mp_wave.proofs.HeldLemmas.{held_again}
use Rattle.mp_wave.proofs.wave.Wave.copy.Goals as goal

pub invariant_of-result : goal.invariant_of-result
invariant_of-result c =
    let initial = c.self.inside.initial in
    held_again initial c.self.inside.held c.in_ok-copy.field-0 (c.in_ok-copy.ensures.value initial) (c.in_ok-copy.ensures.low initial c.self.invariant.low) c.self.invariant
