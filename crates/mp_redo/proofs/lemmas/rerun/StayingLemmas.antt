-- What steps between two units keep.
use Rattle.std.proofs.Common.{◌≡◌, ℕ, ◌<◌, Bool, true, false, List, Option, All, length, refl, ap, sym, subst, ◌∙◌, arith}
use Rattle.std.specs.Prelude.{slice_index_or}
use Rattle.mp_netlist.specs.Circuit.{Circuit}
use Rattle.mp_kernel.specs.declared.events.fanout_entry.FanoutEntry.{FanoutEntry}
use Rattle.mp_kernel.specs.declared.events.output_ports.OutputPorts.{OutputPorts}
use Rattle.mp_kernel.specs.events.Firing.{ports_at as output_ports_at}
use Rattle.mp_simulation.specs.declared.units.netlist_simulation.NetlistSimulation.{NetlistSimulation}
use Rattle.mp_simulation.specs.run.Seating.{AreOutputsWithin}
use Rattle.mp_active.specs.excerpt.Numberings.{Numbering}
use Rattle.mp_active.specs.excerpt.Excerpts.{ArePortsOn}
use Rattle.mp_active.specs.declared.compare.comparison.Comparison.{Comparison}
use Rattle.mp_active.specs.declared.compare.numbers.Numbers.{Numbers}
use Rattle.mp_active.specs.compare.Comparing.{wire_of, delay_of as late_by, IsShaped}
use Rattle.mp_active.specs.compare.Listing.{AreLinked}
use Rattle.mp_redo.specs.rerun.Numbered.{AreWired, AreNumbered, AreCounted}

-- a simulation has the rows, the outputs and the units of another
pub record HasSameWiring (s new : NetlistSimulation) : Type 0 where
  pub fanout : new.bits.simulator.fanout ≡ s.bits.simulator.fanout
  pub outputs : new.bits.simulator.outputs ≡ s.bits.simulator.outputs
  pub units : length new.bits.simulator.wheel ≡ length s.bits.simulator.wheel
  pub change_units : length new.wires.wheel ≡ length s.wires.wheel

pub same_wiring : (s : NetlistSimulation) → HasSameWiring s s
same_wiring s = record { fanout = refl; outputs = refl; units = refl; change_units = refl }

pub wiring_more : (a b c : NetlistSimulation) → HasSameWiring a b → HasSameWiring b c → HasSameWiring a c
wiring_more a b c one other = record {
  fanout = other.fanout ∙ one.fanout;
  outputs = other.outputs ∙ one.outputs;
  units = other.units ∙ one.units;
  change_units = other.change_units ∙ one.change_units;
}

wired_kept : (n : Circuit) (numbering : Numbering) (s new : NetlistSimulation) → HasSameWiring s new → AreWired n numbering s → AreWired n numbering new
wired_kept n numbering s new same are = record {
  reads = are.reads;
  gone = are.gone;
  bits = λ m r at narrow. let is = are.bits m r at narrow in record {
    reads = is.reads;
    numbers = is.numbers;
    drives = ap (λ (xs : List OutputPorts). output_ports_at xs m) same.outputs ∙ is.drives;
    room = λ w p drives. let e = same.units in let low = is.room w p drives in omega (arith, e, low);
  };
  low = λ m. subst (λ (k : ℕ). All (λ (x : ℕ). x < k) (numbering.inputs m)) (sym (ap (length {A = List FanoutEntry}) same.fanout)) (are.low m);
  room = subst (AreOutputsWithin n) (sym same.units) are.room;
  data_room = subst (AreOutputsWithin n) (sym same.change_units) are.data_room;
}

-- the numbers of what is compared stay
pub numbered_kept : (n : Circuit) (numbering : Numbering) (inputs : List (List (Option ℕ))) (c d : Comparison) (s new : NetlistSimulation) → d.numbers ≡ c.numbers →
    length d.sources.items ≡ length c.sources.items → HasSameWiring s new → AreNumbered n numbering inputs c s → AreNumbered n numbering inputs d new
numbered_kept n numbering inputs c d s new numbers long same are = record {
  count = ap (λ (ns : Numbers). length ns.wires.items) numbers ∙ are.count ∙ sym (ap (length {A = List FanoutEntry}) same.fanout);
  wires = long ∙ are.wires;
  source = subst (λ (ns : Numbers). (x : ℕ) → x < length ns.wires.items → numbering.source x ≡ (wire_of ns x, late_by ns x)) (sym numbers) are.source;
  linked = subst AreLinked (sym numbers) are.linked;
  with_data = λ w low. ap (λ (ns : Numbers). slice_index_or ns.have_data.items w false) numbers ∙ are.with_data w low;
  modules = are.modules;
  by_port = are.by_port;
  wired = wired_kept n numbering s new same are.wired;
}

-- so do the places of what is told of wires
pub sources_long : (c d : Comparison) → d.numbers ≡ c.numbers → IsShaped c → IsShaped d → length d.sources.items ≡ length c.sources.items
sources_long c d numbers one other = sym other.have_data ∙ ap (λ (ns : Numbers). length ns.have_data.items) numbers ∙ one.have_data

pub counted_kept : (n : Circuit) (active : ℕ → Bool) (numbering : Numbering) (c d : Comparison) → d.numbers ≡ c.numbers → d.asleep ≡ c.asleep → AreCounted n active numbering c → AreCounted n active numbering d
counted_kept n active numbering c d numbers asleep are x low =
    ap (λ xs. slice_index_or xs.items x 0) asleep ∙ are x (subst (λ (ns : Numbers). x < length ns.wires.items) numbers low)

-- more wires are on
pub ports_more : (n : Circuit) (active on more : ℕ → Bool) → ((w : ℕ) → on w ≡ true → more w ≡ true) → ArePortsOn n active on → ArePortsOn n active more
ports_more n active on more each are = record {
  driven = λ m p w awake drives. each w (are.driven m p w awake drives);
  read = λ m w awake reads. each w (are.read m w awake reads);
}
