-- A run is what it has in its slots.
use Rattle.std.proofs.Common.{◌≡◌, ℕ, ◌-◌, ◌%◌, ◌<◌, ◌==◌, ◌&&◌, nat_lt, Bool, true, false, cond, Option, Some, None, option_map, length, ap, sym, ◌∙◌}
use Rattle.std.proofs.lemmas.Bool.{lt-ltb, eq-eqb}
use Rattle.mp_modules.specs.declared.memory.Memory.{Memory}
use Rattle.mp_modules.specs.Memories.{blank}
use Rattle.mp_records.specs.declared.module_record.ModuleRecord.{ModuleRecord}
use Rattle.mp_netlist.specs.Slots.{slot_at}
use Rattle.mp_netlist.specs.Circuit.{wire_at, module_at}
use Rattle.mp_netlist.specs.Limits.{checkpoint_units}
use Rattle.mp_model.specs.Waves.{state, slot_wave}
use Rattle.mp_partition.specs.runs.Checkpoints.{kept_at, state_before, IsBorder}
use Rattle.mp_partition.specs.runs.Runs.{end_memory}
use Rattle.mp_partition.proofs.lemmas.runs.OutcomeLemmas.{slot_is, no_wave, no_module, checkpoint_is}
use Rattle.mp_redo.specs.apart.RunSlots.{RunsAreBySlots, RunsKeepStates}

pub runs_are_by_slots : RunsAreBySlots
runs_are_by_slots n run has = record {
  horizon = has.horizon;
  waves = slot_is (length n.wires) (λ w. slot_wave n w (wire_at n w)) run.waves (no_wave n) has.waves;
  ends = slot_is (length n.modules) (end_memory n) run.ends (λ m past. no_module n (λ (r : ModuleRecord). state n m (n.horizon - 1)) m past) has.ends;
  checkpoints = λ m c. checkpoint_is n m c run has.horizon has.kept;
}

-- what is told is there
told : (test : Bool) (found : Option Memory) (memory : Memory) → cond test found None ≡ Some memory → found ≡ Some memory
told true found memory e = e
told false found memory e = cc

-- a time of a checkpoint
is_time : (horizon c : ℕ) → IsBorder horizon c → c < horizon → (nat_lt c horizon && c % checkpoint_units horizon == 0) ≡ true
is_time horizon c border low = rw (lt-ltb c horizon low) (eq-eqb (c % checkpoint_units horizon) 0 border)

pub runs_keep_states : RunsKeepStates
runs_keep_states n run is m r at c border low =
    told (nat_lt c run.horizon && c % checkpoint_units run.horizon == 0) (option_map (λ ks. kept_at ks c blank) (slot_at run.kept m)) (state_before n m r c)
    (is.checkpoints m c ∙ ap (λ (test : Bool). cond test (option_map (λ (r : ModuleRecord). state_before n m r c) (module_at n m)) None) (is_time n.horizon c border low) ∙ stands)
    ∙ sym stands
  where
    stands : option_map (λ (r : ModuleRecord). state_before n m r c) (module_at n m) ≡ Some (state_before n m r c)
    stands = ap (option_map (λ (r : ModuleRecord). state_before n m r c)) at
