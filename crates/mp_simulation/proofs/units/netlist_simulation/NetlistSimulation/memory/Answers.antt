use Rattle.std.proofs.Common.{◌≡◌, ℕ, List, Option, Some, None, length, ap, sym, ◌∙◌, arith}
use Rattle.std.proofs.lemmas.List.{get_or_read}
use Rattle.mp_kernel.specs.declared.datapath.data_module.DataModule.{DataModule}
use Rattle.mp_kernel.specs.datapath.DataModules.{memory_of}
use Rattle.mp_kernel.specs.datapath.DataFiring.{place_at, module_at as data_module_at, no_module}
use Rattle.mp_simulation.specs.declared.units.netlist_simulation.NetlistSimulation.{NetlistSimulation}
use Rattle.mp_simulation.specs.units.NetlistSimulations.{CanTell}
use Rattle.mp_simulation.proofs.lemmas.units.MemoryLemmas.{in_places, in_states, in_modules, can_read, own_place, data_memory}
use Rattle.mp_simulation.proofs.units.netlist_simulation.NetlistSimulation.memory.Goals as goal

-- what stands at a place
found : (number : ℕ) (s : NetlistSimulation) → CanTell number s → (o : Option ℕ) → o ≡ place_at s.modules.places.items number → (p : Option ℕ) → o ≡ p → place_at s.modules.places.items number ≡ p
found number s f o read p is = sym read ∙ is

pub index-requires : goal.index-requires
index-requires c = let low = in_places c.args.number c.args.self.now c.requires in omega (arith, low, c.args.self.now.modules.places.ok)

pub index-requires-in-Some : goal.index-requires-in-Some
index-requires-in-Some c =
    let s = c.args.self.now in
    let read = get_or_read s.modules.places.items c.args.number c.index.result.now (in_places c.args.number s c.requires) c.index.ensures None in
    let low = in_modules c.args.number s c.requires c.in-Some.place (found c.args.number s c.requires c.index.result.now read (Some c.in-Some.place) c.in-Some.is) in
    omega (arith, low, s.modules.modules.ok)

pub memory-requires : goal.memory-requires
memory-requires c =
    let s = c.args.self.now in
    let read = get_or_read s.modules.places.items c.args.number c.index.result.now (in_places c.args.number s c.requires) c.index.ensures None in
    let at = found c.args.number s c.requires c.index.result.now read (Some c.in-Some.place) c.in-Some.is in
    can_read c.args.number s c.requires c.in-Some.place (length c.as_slice.result.now) c.index-in-Some.result.now (ap (length {A = ℕ}) c.as_slice.ensures.value) at
    (get_or_read s.modules.modules.items c.in-Some.place c.index-in-Some.result.now (in_modules c.args.number s c.requires c.in-Some.place at) c.index-in-Some.ensures no_module)

pub memory-requires-in-None : goal.memory-requires-in-None
memory-requires-in-None c = record { sound = c.requires.is.sound.simulator; within = in_states c.args.number c.args.self.now c.requires }

pub returns-in-Some : goal.returns-in-Some
returns-in-Some c n t r ok is at =
    let s = c.args.self.now in
    let read = get_or_read s.modules.places.items c.args.number c.index.result.now (in_places c.args.number s c.requires) c.index.ensures None in
    let place = found c.args.number s c.requires c.index.result.now read (Some c.in-Some.place) c.in-Some.is in
    let own : c.index-in-Some.result.now ≡ data_module_at s.modules.modules.items c.in-Some.place =
    get_or_read s.modules.modules.items c.in-Some.place c.index-in-Some.result.now (in_modules c.args.number s c.requires c.in-Some.place place) c.index-in-Some.ensures no_module in
    c.memory.ensures
    ∙ ap (λ (xs : List ℕ). memory_of xs c.index-in-Some.result.now) c.as_slice.ensures.value
    ∙ ap (λ (m : DataModule). memory_of s.wires.levels.items m) own
    ∙ data_memory n ok t s is c.args.number r at c.in-Some.place place

pub returns-in-None : goal.returns-in-None
returns-in-None c n t r ok is at =
    let s = c.args.self.now in
    let read = get_or_read s.modules.places.items c.args.number c.index.result.now (in_places c.args.number s c.requires) c.index.ensures None in
    c.memory-in-None.ensures n is.scope t c.args.number r is.running.simulator at
    (own_place n ok t s is c.args.number r at (found c.args.number s c.requires c.index.result.now read None c.in-None.is))
