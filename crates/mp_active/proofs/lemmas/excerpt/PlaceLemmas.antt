-- The places of active modules of width 1, and what modules of an excerpt have of the netlist.
use Rattle.std.proofs.Common.{◌≡◌, ℕ, ◌<◌, Bool, true, false, not, cond, nat_lt, Option, Some, None, is_some, length, refl, ap, sym, subst, ◌∙◌, inl, inr}
use Rattle.std.specs.Prelude.{◌&&◌, ◌==◌, IsSome, IfSome}
use Rattle.std.proofs.lemmas.Bool.{cases_Bool, and_parts, eqb-true, eq-eqb, lt-ltb, ltb-true}
use Rattle.std.proofs.lemmas.Option.{none-some, same_Some, cond_some}
use Rattle.mp_modules.specs.declared.memory.Memory.{Memory}
use Rattle.mp_modules.specs.Kinds.{output_width}
use Rattle.mp_modules.specs.declared.storage.any_module.AnyModule.{AnyModule}
use Rattle.mp_modules.proofs.KindLemmas.{narrow_output}
use Rattle.mp_records.specs.declared.ids.WireId.{WireId}
use Rattle.mp_records.specs.declared.ports.Output.{Output}
use Rattle.mp_records.specs.declared.wire_record.WireRecord.{WireRecord}
use Rattle.mp_records.specs.declared.module_record.ModuleRecord.{ModuleRecord}
use Rattle.mp_records.specs.Outputs.{output_at}
use Rattle.mp_netlist.specs.Circuit.{Circuit, IsCircuit, HasWidth, Drives, wire_at, module_at, width_of, module_width}
use Rattle.mp_model.specs.Levels.{built}
use Rattle.mp_model.specs.Waves.{state}
use Rattle.mp_model.proofs.SlotLemmas.{slot_within}
use Rattle.mp_modules.specs.automata.Automata.{automaton_of}
use Rattle.mp_modules.specs.automata.Phases.{phase_of}
use Rattle.mp_modules.specs.automata.Codes.{no_events}
use Rattle.mp_kernel.specs.declared.events.output_port.OutputPort.{OutputPort}
use Rattle.mp_kernel.specs.declared.events.output_ports.OutputPorts.{OutputPorts}
use Rattle.mp_kernel.specs.events.Firing.{UnitState, no_port}
use Rattle.mp_simulation.specs.bits.Schedules.{output_port_of}
use Rattle.mp_simulation.specs.bits.Units.{rest_state_at}
use Rattle.mp_simulation.proofs.lemmas.bits.ScheduleLemmas.{same_part}
use Rattle.mp_simulation.specs.units.DataLevels.{has_data, is_data, is_bit_wire}
use Rattle.mp_simulation.specs.units.DataSeats.{drives_data, bit_port_of, bit_ports_of, level_port_of}
use Rattle.mp_active.specs.excerpt.Excerpts.{excerpt, ArePortsOn}
use Rattle.mp_active.specs.excerpt.Numberings.{place_in, place_of}
use Rattle.mp_active.proofs.lemmas.excerpt.ExcerptLemmas.{built_there}
use Rattle.mp_active.proofs.lemmas.excerpt.LevelLemmas.{excerpt_state}
use Rattle.mp_active.proofs.lemmas.excerpt.ChangeLemmas.{data_there}

-- ---- places

-- an active module of width 1 that has a place has its own number
pub record IsPlaced (n : Circuit) (active : ℕ → Bool) (m q : ℕ) (r : ModuleRecord) : Type 0 where
  pub awake : active m ≡ true
  pub narrow : (module_width n r == 1) ≡ true
  pub same : m ≡ q
  pub place : place_of n active m ≡ Some m

pub seated : (n : Circuit) (active : ℕ → Bool) (m : ℕ) (r : ModuleRecord) → module_at n m ≡ Some r → active m ≡ true → (module_width n r == 1) ≡ true → place_of n active m ≡ Some m
seated n active m r at awake narrow =
    ap (place_in n (active m) m) at
    ∙ ap (λ a. cond (a && (module_width n r == 1)) (Some m) None) awake
    ∙ ap (λ b. cond b (Some m) None) narrow

pub placed : (n : Circuit) (active : ℕ → Bool) (m q : ℕ) (r : ModuleRecord) → module_at n m ≡ Some r → place_of n active m ≡ Some q → IsPlaced n active m q r
placed n active m q r at place =
    let found : cond (active m && (module_width n r == 1)) (Some m) None ≡ Some q = sym (ap (place_in n (active m) m) at) ∙ place in
    let parts = cond_some (active m && (module_width n r == 1)) m q found in
    let tests = and_parts (active m) (module_width n r == 1) parts.0 in
    record { awake = tests.0; narrow = tests.1; same = parts.1; place = seated n active m r at tests.0 tests.1 }

-- a place that is taken has an active module of width 1
pub record IsTaken (n : Circuit) (active : ℕ → Bool) (q : ℕ) : Type 0 where
  pub part : ModuleRecord
  pub stands : module_at n q ≡ Some part
  pub is : IsPlaced n active q q part

some_cond : (b : Bool) (q : ℕ) → is_some (cond b (Some q) None) ≡ true → b ≡ true
some_cond true q is = refl
some_cond false q is = is

taken_by : (n : Circuit) (active : ℕ → Bool) (q : ℕ) (slot : Option ModuleRecord) → module_at n q ≡ slot → is_some (place_in n (active q) q slot) ≡ true → IsTaken n active q
taken_by n active q None at some = let no : ⊥ = cc in absurd no
taken_by n active q (Some r) at some =
    let tests = and_parts (active q) (module_width n r == 1) (some_cond (active q && (module_width n r == 1)) q some) in
    record { part = r; stands = at; is = record { awake = tests.0; narrow = tests.1; same = refl; place = seated n active q r at tests.0 tests.1 } }

pub taken : (n : Circuit) (active : ℕ → Bool) (q : ℕ) → is_some (place_of n active q) ≡ true → IsTaken n active q
taken n active q some = taken_by n active q (module_at n q) refl some

-- an active module that has no place has another width
pub wide_when : (n : Circuit) (active : ℕ → Bool) (m : ℕ) (r : ModuleRecord) → module_at n m ≡ Some r → active m ≡ true → place_of n active m ≡ None → (module_width n r == 1) ≡ false
wide_when n active m r at awake none = elim (cases_Bool (module_width n r == 1)) as (λ _. (module_width n r == 1) ≡ false) [
  | inl narrow ↦ absurd (none-some m (sym none ∙ seated n active m r at awake narrow))
  | inr wide ↦ wide
]

pub placeless : (n : Circuit) (active : ℕ → Bool) (m : ℕ) (r : ModuleRecord) → module_at n m ≡ Some r → (module_width n r == 1) ≡ false → place_of n active m ≡ None
placeless n active m r at wide =
    ap (place_in n (active m) m) at ∙ ap (λ b. cond (active m && b) (Some m) None) wide ∙ ap (λ b. cond b (Some m) None) (no_with (active m))
  where
    no_with : (b : Bool) → (b && false) ≡ false
    no_with true = refl
    no_with false = refl

-- a module of another width has no place of a module of width 1
pub no_seat : (m : ℕ) (b : Bool) → b ≡ false → cond b (Some m) None ≡ None
no_seat m b is = ap (λ x. cond x (Some m) None) is

pub seat_test : (m : ℕ) (b : Bool) → cond b (Some m) None ≡ None → b ≡ false
seat_test m true is = absurd (none-some m (sym is))
seat_test m false is = refl

-- ---- widths

data_by : (slot : Option WireRecord) (k : ℕ) → IsSome slot → width_of slot ≡ k → has_data slot ≡ not (k == 1)
data_by None k some is = cc
data_by (Some r) k some is = ap (λ v. not (v == 1)) is

width_driven : (n : Circuit) (o : Option WireId) (w k : ℕ) → IfSome o (λ v. HasWidth n v.0 k) → o ≡ Some (record { 0 = w }) → HasWidth n w k
width_driven n None w k has is = cc
width_driven n (Some v) w k has is = subst (λ (x : WireId). HasWidth n x.0 k) (same_Some v (record { 0 = w }) is) has

-- a module of width 1 drives wires of width 1
pub bit_driven : (n : Circuit) → IsCircuit n → (m p w : ℕ) (r : ModuleRecord) → module_at n m ≡ Some r → (module_width n r == 1) ≡ true → Drives n m p w → is_bit_wire n w ≡ true
bit_driven n ok m p w r at narrow drives =
    let output : (output_at r p).wire ≡ Some (record { 0 = w }) = subst (λ (s : ModuleRecord). (output_at s p).wire ≡ Some (record { 0 = w })) (same_part n m drives.part r drives.stands at) drives.output in
    let has : HasWidth n w (output_width r.kind (module_width n r) p) =
    width_driven n (output_at r p).wire w (output_width r.kind (module_width n r) p) ((ok.modules_ok m r at).drives p) output in
    let one : output_width r.kind (module_width n r) p ≡ 1 = narrow_output r.kind (module_width n r) p (eqb-true (module_width n r) 1 narrow) in
    let none : is_data n w ≡ false = data_by (wire_at n w) (output_width r.kind (module_width n r) p) has.0 has.1 ∙ ap not (eq-eqb (output_width r.kind (module_width n r) p) 1 one) in
    both (nat_lt w (length n.wires)) (is_data n w) (lt-ltb w (length n.wires) (wire_within (wire_at n w) refl has.0)) none
  where
    both : (a b : Bool) → a ≡ true → b ≡ false → (a && not b) ≡ true
    both a b first second = ap (λ x. x && not b) first ∙ ap not second

    wire_within : (slot : Option WireRecord) → wire_at n w ≡ slot → IsSome slot → w < length n.wires
    wire_within None none some = cc
    wire_within (Some s) stands some = slot_within n.wires w s stands

-- a wire of width 1
pub bit_parts : (n : Circuit) (w : ℕ) → is_bit_wire n w ≡ true → (w < length n.wires) × (is_data n w ≡ false)
bit_parts n w is =
    let parts = and_parts (nat_lt w (length n.wires)) (not (is_data n w)) is in
    (ltb-true w (length n.wires) parts.0, unnot (is_data n w) parts.1)
  where
    unnot : (b : Bool) → not b ≡ true → b ≡ false
    unnot true is = sym is
    unnot false is = refl

-- ---- modules of an excerpt

module _ (n : Circuit) (ok : IsCircuit n) (active on : ℕ → Bool) (ports : ArePortsOn n active on) where
  pub rest_there : (m t : ℕ) (r : ModuleRecord) → active m ≡ true → module_at n m ≡ Some r → t < n.horizon → rest_state_at (excerpt n active on) r m t ≡ rest_state_at n r m t
  rest_there m t r awake at low =
      ap (λ (b : AnyModule). let u : UnitState = record { automaton = automaton_of b; phase = phase_of b (state (excerpt n active on) m t); events = no_events } in u) (built_there n active on r)
      ∙ ap (λ (x : Memory). let u : UnitState = record { automaton = automaton_of (built n r); phase = phase_of (built n r) x; events = no_events } in u)
      (excerpt_state n ok active on ports m t r awake at low)

  drives_data_there : (o : Option WireId) → drives_data (excerpt n active on) o ≡ drives_data n o
  drives_data_there None = refl
  drives_data_there (Some w) = data_there n ok active on ports w.0

  bit_port_there : (o : Output) → bit_port_of (excerpt n active on) o ≡ bit_port_of n o
  bit_port_there o = ap (λ b. cond b no_port (output_port_of o)) (drives_data_there o.wire)

  pub bit_ports_there : (r : ModuleRecord) → bit_ports_of (excerpt n active on) r ≡ bit_ports_of n r
  bit_ports_there r =
      ap (λ (x : OutputPort). let p : OutputPorts = record { first = x; second = bit_port_of (excerpt n active on) (output_at r 1); third = bit_port_of (excerpt n active on) (output_at r 2) } in p)
      (bit_port_there (output_at r 0))
      ∙ ap (λ (x : OutputPort). let p : OutputPorts = record { first = bit_port_of n (output_at r 0); second = x; third = bit_port_of (excerpt n active on) (output_at r 2) } in p) (bit_port_there (output_at r 1))
      ∙ ap (λ (x : OutputPort). let p : OutputPorts = record { first = bit_port_of n (output_at r 0); second = bit_port_of n (output_at r 1); third = x } in p) (bit_port_there (output_at r 2))

  pub level_port_there : (r : ModuleRecord) → level_port_of (excerpt n active on) r ≡ level_port_of n r
  level_port_there r = ap (λ b. cond b (output_port_of (output_at r 0)) no_port) (drives_data_there (output_at r 0).wire)
