use Rattle.std.proofs.Common.{◌≡◌, ◌-◌, Some, option_map, ap, sym, ◌∙◌}
use Rattle.mp_modules.specs.declared.memory.Memory.{Memory}
use Rattle.mp_records.specs.declared.module_record.ModuleRecord.{ModuleRecord}
use Rattle.mp_netlist.specs.Circuit.{module_at}
use Rattle.mp_model.specs.Waves.{state}
use Rattle.mp_engine.proofs.region_runs.region_run.end_memory.Goals as goal

pub memory-requires : goal.memory-requires
memory-requires c = record { n = c.args.netlist.now; ok = c.requires.form; t = c.args.netlist.now.horizon - 1; is = c.requires.over; within = c.requires.low }

pub returns-in-Some : goal.returns-in-Some
returns-in-Some c =
    let n = c.args.netlist.now in
    let m = c.args.m in
    let at : module_at n m ≡ Some c.in-Some.field-0.now = sym c.in-Some.ensures.value in
    ap (λ (s : Memory). Some s) (c.memory.ensures n (n.horizon - 1) c.in-Some.field-0.now c.requires.form c.requires.over at) ∙ sym (ap (option_map (λ (r : ModuleRecord). state n m (n.horizon - 1))) at)
