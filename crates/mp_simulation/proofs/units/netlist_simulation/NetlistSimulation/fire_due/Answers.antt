use Rattle.std.proofs.Common.{ℕ, ◌<◌, ◌≤◌, ◌∙◌, List, Option, All, length, refl, sym, subst}
use Rattle.mp_kernel.specs.declared.events.output_port.OutputPort.{OutputPort}
use Rattle.mp_kernel.specs.events.Adding.{listed}
use Rattle.mp_simulation.proofs.lemmas.bits.FireLemmas.{due_once}
use Rattle.mp_kernel.specs.datapath.DataModules.{CanFire}
use Rattle.mp_kernel.specs.datapath.DataFiring.{ArePlaced}
use Rattle.mp_simulation.proofs.lemmas.units.FireLemmas.{events_as, changes_as, stepped_as, due_in, placed, fit, sound, fired}
use Rattle.mp_simulation.proofs.units.netlist_simulation.NetlistSimulation.fire_due.Goals as goal

pub fire_data_modules-requires-clause-due : goal.fire_data_modules-requires-clause-due
fire_data_modules-requires-clause-due c =
    let f = c.requires in
    let s = c.args.self.now in
    subst (λ (places : List (Option ℕ)). All (λ q. q < length places) c.as_slice-3.result.now) (sym c.as_slice.ensures.value)
    (subst (λ (due : List ℕ). All (λ q. q < length s.modules.places.items) due) (sym c.as_slice-3.ensures.value) (due_in f.n f.ok f.t s f.is))

pub fire_data_modules-requires-clause-once : goal.fire_data_modules-requires-clause-once
fire_data_modules-requires-clause-once c q =
    subst (λ (due : List ℕ). listed q due ≤ 1) (sym c.as_slice-3.ensures.value) (due_once c.args.self.now.bits.simulator c.requires.is.applied.toggled.sound q)

pub fire_data_modules-requires-clause-placed : goal.fire_data_modules-requires-clause-placed
fire_data_modules-requires-clause-placed c =
    let f = c.requires in
    let s = c.args.self.now in
    subst (λ (places : List (Option ℕ)). ArePlaced places (length s.modules.modules.items)) (sym c.as_slice.ensures.value) (placed f.n f.ok f.t s f.is)

pub fire_data_modules-requires-clause-fit : goal.fire_data_modules-requires-clause-fit
fire_data_modules-requires-clause-fit c =
    let f = c.requires in
    let s = c.args.self.now in
    subst (λ (levels : List ℕ). All (CanFire (length levels) (length s.bits.simulator.wheel) (length s.wires.wheel)) s.modules.modules.items) (sym c.as_slice-2.ensures.value)
    (fit f.n f.ok f.t s f.is)

pub fire-requires : goal.fire-requires
fire-requires c =
    let f = c.requires in
    let s = c.args.self.now in
    let made = c.in_ok-fire_data_modules.ensures in
    record {
      sound = sound f.n f.ok f.t s f.is c.fire_data_modules.new.events
          (events_as s c.fire_data_modules.new.events c.as_slice-2.result.now c.as_slice.result.now c.as_slice-3.result.now c.as_slice-2.ensures.value c.as_slice.ensures.value c.as_slice-3.ensures.value made.events)
          made.units;
    }

pub returns-clause-fired : goal.returns-clause-fired
returns-clause-fired c n t ok is =
    let s = c.args.self.now in
    let made = c.in_ok-fire_data_modules.ensures in
    let last = c.in_ok-fire.ensures in
    let levels = c.as_slice-2.result.now in
    let places = c.as_slice.result.now in
    let due = c.as_slice-3.result.now in
    let one = c.as_slice-2.ensures.value in
    let two = c.as_slice.ensures.value in
    let three = c.as_slice-3.ensures.value in
    fired n ok t s is _ c.fire_data_modules.new.events (record {
      entered = events_as s c.fire_data_modules.new.events levels places due one two three made.events;
      entered_units = made.units;
      changes = changes_as s c.fire_data_modules.new.changes levels places due one two three made.changes;
      changes_units = made.slots;
      stepped = stepped_as s c.fire_data_modules.new.modules.items levels places due one two three made.modules;
      places = refl;
      copies = refl;
      levels = refl;
      waves = refl;
      next = refl;
      fired = last.fired;
      sound = last.sound;
      fanout = last.same;
      bit_waves = last.waves;
      units = last.units;
      seats = last.places;
    })

pub returns-clause-numbers : goal.returns-clause-numbers
returns-clause-numbers c =
    let made = c.in_ok-fire_data_modules.ensures in
    let last = c.in_ok-fire.ensures in
    record {
      rows = last.same;
      outputs = last.outputs;
      next = refl {A = List OutputPort};
      data_next = refl {A = List OutputPort};
      units = last.units ∙ made.units;
      copy_units = refl {A = ℕ};
      change_units = made.slots;
      places = refl;
      seats = made.modules.placed;
    }
