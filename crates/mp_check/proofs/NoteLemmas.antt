-- The note on a wire that a port drives.
use Rattle.std.proofs.Common.{◌≡◌, ℕ, ◌+◌, ◌<◌, ◌≤◌, Bool, true, false, cond, [], Some, sym, ap, ◌∙◌, arith}
use Rattle.std.specs.Prelude.{nat_lt}
use Rattle.std.proofs.lemmas.Bool.{lt-ltb, le-ltb}
use Rattle.mp_records.specs.declared.ids.ModuleId.{ModuleId}
use Rattle.mp_records.specs.declared.wire_record.WireRecord.{WireRecord}
use Rattle.mp_records.specs.declared.module_record.ModuleRecord.{ModuleRecord}
use Rattle.mp_records.specs.Outputs.{delay_of}
use Rattle.mp_netlist.specs.declared.driver.Driver.TheVariants.{Port}
use Rattle.mp_netlist.specs.Circuit.{Circuit, IsCircuit, module_at}
use Rattle.mp_netlist.specs.Drivers.{driver}
use Rattle.mp_model.specs.Waves.{level}
use Rattle.mp_model.proofs.EvaluationLemmas.{port_level_is}
use Rattle.mp_questions.specs.timing.Waits.{given}
use Rattle.mp_check.specs.Notes.{becomes_note, port_note}

-- from the port's delay on the wire has what the port gives at time 0
pub first_given : (n : Circuit) → IsCircuit n → (w : ℕ) (m : ModuleId) (p : ℕ) (r : ModuleRecord) → module_at n m.0 ≡ Some r → driver n w ≡ Port m p → level n w (delay_of r p) ≡ given n m.0 p 0
first_given n ok w m p r stands drives =
    let later : delay_of r p ≡ 0 + delay_of r p = omega arith in
    ap (level n w) later ∙ port_level_is n ok m.0 p w 0 r stands drives

module _ (n : Circuit) (wire : WireRecord) (m p : ℕ) (r : ModuleRecord) (delay : ℕ) (late : delay ≡ delay_of r p) where
  pub port_noted : (v : ℕ) → delay < n.horizon → v ≡ given n m p 0 → becomes_note wire v delay ≡ port_note n wire m p (Some r)
  port_noted v within is =
      let test : nat_lt (delay_of r p) n.horizon ≡ true = lt-ltb (delay_of r p) n.horizon (omega (arith, late, within)) in
      ap (λ (l : ℕ). becomes_note wire l delay) is ∙ ap (becomes_note wire (given n m p 0)) late
      ∙ ap (λ (b : Bool). cond b (becomes_note wire (given n m p 0) (delay_of r p)) []) (sym test)

  pub port_unnoted : n.horizon ≤ delay → [] ≡ port_note n wire m p (Some r)
  port_unnoted over =
      let test : nat_lt (delay_of r p) n.horizon ≡ false = le-ltb (delay_of r p) n.horizon (omega (arith, late, over)) in
      ap (λ (b : Bool). cond b (becomes_note wire (given n m p 0) (delay_of r p)) []) (sym test)
