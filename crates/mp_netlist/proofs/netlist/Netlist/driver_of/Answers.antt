use Rattle.std.proofs.Common.{◌≡◌, ℕ, Option, Some, None, is_some, true, false, refl, sym, subst, ◌∙◌, arith}
use Rattle.mp_modules.proofs.KindLemmas.{few_outputs}
use Rattle.mp_records.specs.declared.module_record.ModuleRecord.{ModuleRecord}
use Rattle.mp_netlist.specs.Circuit.{Circuit, IsCircuit, module_at, stimulus_at}
use Rattle.mp_netlist.specs.Drivers.{driver}
use Rattle.mp_netlist.specs.declared.driver.Driver.TheVariants.{Stimulus}
use Rattle.mp_netlist.specs.DriverSearch.{HasFewPorts}
use Rattle.mp_netlist.specs.Records.{circuit_of}
use Rattle.mp_netlist.proofs.DriverLemmas.{finds_ports, port_drives, stimulus_drives, portless_driver}
use Rattle.mp_netlist.proofs.DrivenLemmas.{none_drive}
use Rattle.mp_netlist.proofs.netlist.Netlist.driver_of.Goals as goal

few_ports : (n : Circuit) → IsCircuit n → (m : ℕ) (slot : Option ModuleRecord) → module_at n m ≡ slot → HasFewPorts slot
few_ports n ok m None at = tt
few_ports n ok m (Some r) at = omega (arith, (ok.modules_ok m r at).outputs, few_outputs r.kind)

pub port_at-requires : goal.port_at-requires
port_at-requires c m = few_ports (circuit_of c.self.inside) c.self.invariant.circuit m (module_at (circuit_of c.self.inside) m) refl

pub returns-then-has_stimulus : goal.returns-then-has_stimulus
returns-then-has_stimulus c =
    sym (subst (λ (n : Circuit). is_some (stimulus_at n c.args.wire.0) ≡ true → driver n c.args.wire.0 ≡ Stimulus) c.self.view_is
    (stimulus_drives (circuit_of c.self.inside) c.self.invariant.circuit c.args.wire.0) (cc))

pub returns-in-Some : goal.returns-in-Some
returns-in-Some c =
    let n = circuit_of c.self.inside in
    let drives = port_drives n c.in-Some.id.0 c.args.wire.0 c.in-Some.port c.in-Some.ensures.some in
    rw (← c.self.view_is) (sym (finds_ports n c.self.invariant.circuit c.in-Some.id.0 c.in-Some.port c.args.wire.0 drives))

pub returns-in-None : goal.returns-in-None
returns-in-None c =
    let n = circuit_of c.self.inside in
    let unset : is_some (stimulus_at n c.args.wire.0) ≡ false =
    subst (λ (n : Circuit). is_some (stimulus_at n c.args.wire.0) ≡ false) (sym c.self.view_is) (sym c.has_stimulus.ensures ∙ c.if-has_stimulus.false) in
    rw (← c.self.view_is) (sym (none_drive 0 n.modules c.args.wire.0 (c.in-None.ensures.none refl)) ∙ portless_driver n c.args.wire.0 unset)
