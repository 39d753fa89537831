use Rattle.std.proofs.Common.{rules}
use Rattle.std.proofs.KnownBytes.{Appends-trans}
use Rattle.mp_streams.proofs.StreamLemmas.{take-drop-all}
use Rattle.std.proofs.Math.Seq.{take-add}
use Rattle.mp_streams.proofs.putting.put_all.Goals as goal

pub loop-done-preserved : goal.loop-done-preserved
loop-done-preserved g c = record {
  within = search rules;
  bytes =
      rw (take-add c.loop-done.done c.in_ok-done.field-0 c.args.bytes.now) (Appends-trans _ _ _ _ _ c.loop-done.invariant.bytes (rw take-drop-all at c.in_ok-done.ensures.bytes));
  faults = search rules;
}
