-- The run of a netlist: its waves, and states of its modules.
use Rattle.std.specs.Prelude.{◌≡◌, ℕ, ◌-◌, ◌%◌, Option, None, option_map, nat_lt, ◌==◌, ◌&&◌, if◌then◌else◌, ◌<◌, List, length}
use Rattle.mp_modules.specs.declared.memory.Memory.{Memory}
use Rattle.mp_records.specs.declared.module_record.ModuleRecord.{ModuleRecord}
use Rattle.mp_netlist.specs.Circuit.{Circuit, wire_at, module_at}
use Rattle.mp_netlist.specs.Limits.{checkpoint_units}
use Rattle.mp_model.specs.Waves.{state, slot_wave}
use Rattle.mp_partition.specs.runs.Checkpoints.{state_before, kept_at, IsBorder}
use Rattle.mp_partition.specs.runs.Outcomes.{Outcome, wave_of, end_of, checkpoint_of}
use Rattle.mp_modules.specs.Memories.{blank}
use Rattle.mp_netlist.specs.Slots.{slot_at}
use Rattle.mp_partition.specs.declared.runs.checkpoint.Checkpoint.{Checkpoint}

-- the state after the last unit of a module that stands
abbrev pub end_memory : Circuit → ℕ → Option Memory
end_memory n m = option_map (λ (r : ModuleRecord). state n m (n.horizon - 1)) (module_at n m)

-- the state before the unit of a checkpoint of a module that stands
abbrev pub checkpoint : Circuit → ℕ → ℕ → Option Memory
checkpoint n m c = if nat_lt c n.horizon && c % checkpoint_units n.horizon == 0 then option_map (λ (r : ModuleRecord). state_before n m r c) (module_at n m) else None

-- the netlist's horizon, the wave of each wire that stands, and of each module its state after the last unit and before each checkpoint
pub record IsRun (n : Circuit) (run : Outcome) : Type 0 where
  pub horizon : run.horizon ≡ n.horizon
  pub waves : (w : ℕ) → wave_of run w ≡ slot_wave n w (wire_at n w)
  pub ends : (m : ℕ) → end_of run m ≡ end_memory n m
  pub checkpoints : (m c : ℕ) → checkpoint_of run m c ≡ checkpoint n m c

-- of each module the states before all checkpoints are kept
pub record AreCheckpoints (n : Circuit) (kept : List (Option (List Checkpoint))) : Type 0 where
  pub places : length kept ≡ length n.modules
  pub each : (m c : ℕ) → IsBorder n.horizon c → c < n.horizon → option_map (λ ks. kept_at ks c blank) (slot_at kept m) ≡ option_map (λ (r : ModuleRecord). state_before n m r c) (module_at n m)
