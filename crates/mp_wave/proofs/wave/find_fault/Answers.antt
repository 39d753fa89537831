use Rattle.std.proofs.Common.{arith}
use Rattle.mp_wave.proofs.FaultsLemmas.{changes_from_pairs}
use Rattle.mp_wave.proofs.wave.find_fault.Goals as goal

pub returns-clause-none : goal.returns-clause-none
returns-clause-none c =
    changes_from_pairs (0, c.args.initial) c.args.pairs.now (λ place lt. c.loop-place.invariant.changes_so_far place (omega arith))
