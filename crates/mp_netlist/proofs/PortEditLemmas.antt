-- A module with another delay or wire at a port is one of the netlist.
use Rattle.std.proofs.Common.{◌≡◌, ℕ, ◌<◌, true, List, length, get_or, Option, Some, None, sym, ap, subst, ◌∙◌, arith, ◌⊎◌, inl, inr}
use Rattle.std.specs.Bool.{IsTrue}
use Rattle.std.specs.List.{All}
use Rattle.std.specs.Option.{IfSome}
use Rattle.std.specs.Prelude.{nat_le, slice_index_or}
use Rattle.std.proofs.Math.ListN.{set, length-set}
use Rattle.std.proofs.lemmas.Bool.{and_parts, leb-true, cases_eq}
use Rattle.std.proofs.lemmas.List.{get_or-set_same, get_or-set_other}
use Rattle.mp_modules.specs.Kinds.{width_from, input_width, output_width, are_params}
use Rattle.mp_records.specs.declared.ids.WireId.{WireId}
use Rattle.mp_records.specs.declared.module_record.ModuleRecord.{ModuleRecord}
use Rattle.mp_records.specs.declared.ports.Input.{Input}
use Rattle.mp_records.specs.declared.ports.Output.{Output}
use Rattle.mp_records.specs.Inputs.{no_input, input_at}
use Rattle.mp_records.specs.Outputs.{output_at}
use Rattle.mp_records.specs.PortChanges.{with_input, with_input_delay, with_output, with_delay}
use Rattle.mp_netlist.specs.Limits.{max_delay}
use Rattle.mp_netlist.specs.Circuit.{Circuit, IsCircuit, IsModule, IsDelay, IsInputDelay, HasWidth, Drives, wire_at, module_at, width_of, module_width, stimulus_at}
use Rattle.mp_netlist.specs.Drivers.{driver, is_free_for}
use Rattle.mp_netlist.specs.Edits.{is_delay, is_input_delay}
use Rattle.mp_netlist.proofs.DriverLemmas.{free_for}
use Rattle.mp_netlist.proofs.CircuitLemmas.{DrivesAlone}

pub delay_at : (delay : ℕ) → is_delay delay ≡ true → IsDelay delay
delay_at delay is =
    let parts = and_parts (nat_le 1 delay) (nat_le delay max_delay) is in
    let low = leb-true 1 delay parts.0 in
    let high = leb-true delay max_delay parts.1 in
    (omega arith, omega arith)

pub input_delay_at : (delay : ℕ) → is_input_delay delay ≡ true → IsInputDelay delay
input_delay_at delay is = let high = leb-true delay max_delay is in omega arith

-- what holds of each element and of another holds of each after the other is written over one
All-set : {X : Type 0} (P : X → Type 0) (xs : List X) (i : ℕ) (y : X) → P y → All P xs → All P (set xs i y)
All-set P xs i y new old k d within = by (cases_eq k i)
  where
    here : k < length xs
    here = omega (arith, length-set xs i y)

    by : (k ≡ i) ⊎ (k ≡ i → ⊥) → P (get_or (set xs i y) k d)
    by (inl same) =
        let at : i < length xs = omega (arith, here) in
        subst P (sym (ap (λ j. get_or (set xs i y) j d) same ∙ get_or-set_same xs i y d at)) new
    by (inr other) = subst P (sym (get_or-set_other xs i k y d other)) (old k d here)

-- another delay leaves the wires of the ports
pub wires-with_delay : (port delay : ℕ) (r : ModuleRecord) → port < length r.outputs → (p : ℕ) → (output_at (with_delay port delay r) p).wire ≡ (output_at r p).wire
wires-with_delay port delay r within p = by (cases_eq p port)
  where
    by : (p ≡ port) ⊎ (p ≡ port → ⊥) → (output_at (with_delay port delay r) p).wire ≡ (output_at r p).wire
    by (inl same) =
        ap (λ k. (output_at (with_delay port delay r) k).wire) same
        ∙ ap (λ (o : Output). o.wire) (get_or-set_same r.outputs port (record (output_at r port) { delay = delay }) (record { wire = None; delay = 1 }) within)
        ∙ sym (ap (λ k. (output_at r k).wire) same)
    by (inr other) = ap (λ (o : Output). o.wire) (get_or-set_other r.outputs port p (record (output_at r port) { delay = delay }) (record { wire = None; delay = 1 }) other)

pub IsModule-with_delay : (n : Circuit) (r : ModuleRecord) (port delay : ℕ) → port < length r.outputs → IsDelay delay → IsModule n r → IsModule n (with_delay port delay r)
IsModule-with_delay n r port delay within is ok = record {
  inputs = ok.inputs;
  outputs = length-set r.outputs port (record (output_at r port) { delay = delay }) ∙ ok.outputs;
  params = ok.params;
  input_delays = ok.input_delays;
  delays = All-set (λ (o : Output). IsDelay o.delay) r.outputs port (record (output_at r port) { delay = delay }) is ok.delays;
  reads = ok.reads;
  drives = λ p. subst (λ wire. IfSome wire (λ (w : WireId). HasWidth n w.0 (output_width r.kind (module_width n r) p))) (sym (wires-with_delay port delay r within p)) (ok.drives p);
}

-- a module with another input at a port, whose wire has the port's width
module _ (n : Circuit) (r : ModuleRecord) (port : ℕ) (input : Input) (within : port < length r.inputs) (wide : HasWidth n input.wire.0 (input_width r.kind (module_width n r) port)) where
  abbrev reading : ModuleRecord
  reading = record r { inputs = set r.inputs port input }

  abbrev first_of : ModuleRecord → ℕ
  first_of s = width_of (wire_at n (input_at s 0).wire.0)

  first_is : IsModule n r → first_of reading ≡ first_of r
  first_is ok = by (cases_eq 0 port)
    where
      by : (0 ≡ port) ⊎ (0 ≡ port → ⊥) → first_of reading ≡ first_of r
      by (inl same) =
          let at : slice_index_or (set r.inputs port input) 0 no_input ≡ input =
          ap (λ k. slice_index_or (set r.inputs port input) k no_input) same ∙ get_or-set_same r.inputs port input no_input within in
          ap (λ (i : Input). width_of (wire_at n i.wire.0)) at ∙ wide.1 ∙ ap (input_width r.kind (module_width n r)) (sym same)
          ∙ sym (ok.reads 0 no_input (omega (arith, within))).1
      by (inr other) = ap (λ (i : Input). width_of (wire_at n i.wire.0)) (get_or-set_other r.inputs port 0 input no_input other)

  width_is : IsModule n r → module_width n reading ≡ module_width n r
  width_is ok = ap (width_from r.kind) (first_is ok)

  reads_at : (p : ℕ) (i : Input) → p < length r.inputs → IsModule n r → HasWidth n (slice_index_or (set r.inputs port input) p i).wire.0 (input_width r.kind (module_width n r) p)
  reads_at p i here ok = by (cases_eq p port)
    where
      by : (p ≡ port) ⊎ (p ≡ port → ⊥) → HasWidth n (slice_index_or (set r.inputs port input) p i).wire.0 (input_width r.kind (module_width n r) p)
      by (inl same) =
          let at : slice_index_or (set r.inputs port input) p i ≡ input = ap (λ k. slice_index_or (set r.inputs port input) k i) same ∙ get_or-set_same r.inputs port input i within in
          subst (λ (j : Input). HasWidth n j.wire.0 (input_width r.kind (module_width n r) p)) (sym at)
          (subst (λ k. HasWidth n input.wire.0 (input_width r.kind (module_width n r) k)) (sym same) wide)
      by (inr other) =
          subst (λ (j : Input). HasWidth n j.wire.0 (input_width r.kind (module_width n r) p)) (sym (get_or-set_other r.inputs port p input i other)) (ok.reads p i here)

  IsModule-reading : IsInputDelay input.delay → IsModule n r → IsModule n reading
  IsModule-reading early ok =
      let width = sym (width_is ok) in
      record {
        inputs = length-set r.inputs port input ∙ ok.inputs;
        outputs = ok.outputs;
        params = subst (λ k. IsTrue (are_params r.kind k r.params)) width ok.params;
        input_delays = All-set (λ (i : Input). IsInputDelay i.delay) r.inputs port input early ok.input_delays;
        delays = ok.delays;
        reads = λ p i here.
            let old : p < length r.inputs = omega (arith, length-set r.inputs port input) in
            subst (λ k. HasWidth n (slice_index_or (set r.inputs port input) p i).wire.0 (input_width r.kind k p)) width (reads_at p i old ok);
        drives = λ p. subst (λ k. IfSome (output_at r p).wire (λ (w : WireId). HasWidth n w.0 (output_width r.kind k p))) width (ok.drives p);
      }

-- another wire of the port's width, with the port's delay
pub IsModule-with_input : (n : Circuit) (r : ModuleRecord) (port : ℕ) (wire : WireId) → port < length r.inputs → HasWidth n wire.0 (input_width r.kind (module_width n r) port)
    → IsModule n r → IsModule n (with_input port wire r)
IsModule-with_input n r port wire within wide ok =
    IsModule-reading n r port (record (input_at r port) { wire = wire }) within wide (ok.input_delays port no_input within) ok

-- another delay, at the port's wire
pub IsModule-with_input_delay : (n : Circuit) (r : ModuleRecord) (port delay : ℕ) → port < length r.inputs → IsInputDelay delay → IsModule n r → IsModule n (with_input_delay port delay r)
IsModule-with_input_delay n r port delay within early ok =
    IsModule-reading n r port (record (input_at r port) { delay = delay }) within (ok.reads port no_input within) early ok

-- a module that drives another wire of the port's width, or none
module _ (n : Circuit) (r : ModuleRecord) (port : ℕ) (wire : Option WireId) (within : port < length r.outputs) where
  abbrev driving : ModuleRecord
  driving = with_output port wire r

  abbrev new_port : Output
  new_port = record (output_at r port) { wire = wire }

  abbrev none : Output
  none = record { wire = None; delay = 1 }

  -- a port has the new wire, or the one that it had
  abbrev DrivesAt : ℕ → Type 0
  DrivesAt p = ((p ≡ port) × ((output_at driving p).wire ≡ wire)) ⊎ ((output_at driving p).wire ≡ (output_at r p).wire)

  drives_at : (p : ℕ) → DrivesAt p
  drives_at p = by (cases_eq p port)
    where
      by : (p ≡ port) ⊎ (p ≡ port → ⊥) → DrivesAt p
      by (inl same) = inl (same, ap (λ k. (output_at driving k).wire) same ∙ ap (λ (o : Output). o.wire) (get_or-set_same r.outputs port new_port none within))
      by (inr other) = inr (ap (λ (o : Output). o.wire) (get_or-set_other r.outputs port p new_port none other))

  pub IsModule-with_output : IfSome wire (λ (w : WireId). HasWidth n w.0 (output_width r.kind (module_width n r) port)) → IsModule n r → IsModule n driving
  IsModule-with_output wide ok = record {
    inputs = ok.inputs;
    outputs = length-set r.outputs port new_port ∙ ok.outputs;
    params = ok.params;
    input_delays = ok.input_delays;
    delays = All-set (λ (o : Output). IsDelay o.delay) r.outputs port new_port (ok.delays port none within) ok.delays;
    reads = ok.reads;
    drives = λ p. by p (drives_at p);
  }
    where
      by : (p : ℕ) → DrivesAt p → IfSome (output_at driving p).wire (λ (w : WireId). HasWidth n w.0 (output_width r.kind (module_width n r) p))
      by p (inl new) =
          subst (λ w. IfSome w (λ (v : WireId). HasWidth n v.0 (output_width r.kind (module_width n r) p))) (sym new.1)
          (subst (λ k. IfSome wire (λ (v : WireId). HasWidth n v.0 (output_width r.kind (module_width n r) k))) (sym new.0) wide)
      by p (inr old) = subst (λ w. IfSome w (λ (v : WireId). HasWidth n v.0 (output_width r.kind (module_width n r) p))) (sym old) (ok.drives p)

  -- the new wire, if any, has no driver but this port
  module _ (ok : IsCircuit n) (id : ℕ) (at : module_at n id ≡ Some r) (free : (w : ℕ) → wire ≡ Some (record { 0 = w }) → is_free_for id port (driver n w) ≡ true) where
    abbrev DrivesNow : ℕ → ℕ → Type 0
    DrivesNow p w = ((p ≡ port) × (is_free_for id port (driver n w) ≡ true)) ⊎ Drives n id p w

    drives_now : (p w : ℕ) → (output_at driving p).wire ≡ Some (record { 0 = w }) → DrivesAt p → DrivesNow p w
    drives_now p w has (inl new) = inl (new.0, free w (sym new.1 ∙ has))
    drives_now p w has (inr old) = inr (record { part = r; stands = at; output = sym old ∙ has })

    one : (p q w : ℕ) → DrivesNow p w → DrivesNow q w → p ≡ q
    one p q w (inl a) (inl b) = a.0 ∙ sym b.0
    one p q w (inl a) (inr b) = a.0 ∙ sym ((free_for n ok w id port a.1).0 id q b).1
    one p q w (inr a) (inl b) = ((free_for n ok w id port b.1).0 id p a).1 ∙ sym b.0
    one p q w (inr a) (inr b) = (ok.one_port id p id q w a b).1

    alone : (p w k q : ℕ) → DrivesNow p w → Drives n k q w → k ≡ id
    alone p w k q (inl a) other = ((free_for n ok w id port a.1).0 k q other).0
    alone p w k q (inr a) other = (ok.one_port k q id p w other a).0

    unset : (p w : ℕ) → DrivesNow p w → stimulus_at n w ≡ None
    unset p w (inl a) = (free_for n ok w id port a.1).1
    unset p w (inr a) = ok.port_or_stimulus id p w a

    pub DrivesAlone-with_output : DrivesAlone n id driving
    DrivesAlone-with_output = record {
      distinct = λ p q w a b. one p q w (drives_now p w a (drives_at p)) (drives_now q w b (drives_at q));
      alone = λ p w k q a other. alone p w k q (drives_now p w a (drives_at p)) other;
      unset = λ p w a. unset p w (drives_now p w a (drives_at p));
    }
