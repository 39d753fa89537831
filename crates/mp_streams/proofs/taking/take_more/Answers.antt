use Rattle.std.proofs.Common.{rules}
use Rattle.mp_streams.proofs.StreamLemmas.{on_err, taken_within}
use Rattle.mp_streams.proofs.taking.take_more.Goals as goal

pub returns-in_err-extend_from_slice-clause-err : goal.returns-in_err-extend_from_slice-clause-err
returns-in_err-extend_from_slice-clause-err g c =
    on_err _ (taken_within _ _ _ _ _ _ _ _ _ c.loop-left.invariant.so_far c.in_ok-count.ensures.count (search rules) c.in_ok-count.ensures.bytes)
