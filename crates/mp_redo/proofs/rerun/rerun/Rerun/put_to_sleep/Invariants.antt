use Rattle.std.proofs.Common.{◌≡◌, ℕ, ◌-◌, ◌<◌, ◌≤◌, false, slice_index_or}
use Rattle.mp_records.specs.declared.ids.ModuleId.{ModuleId}
use Rattle.mp_active.specs.excerpt.Numberings.{Numbering}
use Rattle.mp_redo.specs.rerun.Reruns.{IsRerunBy, active_of}
use Rattle.mp_redo.proofs.lemmas.rerun.FallLemmas.{AreFalling}
use Rattle.mp_redo.proofs.rerun.rerun.Rerun.put_to_sleep.Given as goal

-- the modules so far have fallen asleep
abbrev pub invariant-loop-id : goal.invariant-loop-id
invariant-loop-id l = record {
  falling : (numbering : Numbering) (since : ℕ → ℕ) → IsRerunBy l.change.old.now l.change.new.now l.change.run.now numbering since (l.time - 1) l.fn.self →
      AreFalling l.change.old.now l.change.new.now l.change.run.now numbering since l.time l.units l.leaving l.fn.self l.self;
  done : (k : ℕ) (d : ModuleId) → k < l.id-index → active_of l.self (slice_index_or l.leaving k d).0 ≡ false;
  low : l.units ≤ 65535;
}
