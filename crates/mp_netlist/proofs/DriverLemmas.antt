-- The search for a driver finds the port that has a wire as its output.
use Rattle.std.proofs.Common.{◌≡◌, ◌≢◌, ℕ, ◌+◌, ◌==◌, Bool, true, false, cond, List, [], ◌∷◌, Option, Some, None, slice_index_or, is_some, zero, suc, refl, ap, sym, subst, ◌∙◌, arith, inl, inr, ◌⊎◌}
use Rattle.std.proofs.lemmas.Bool.{and_parts, eqb-true, eq-eqb}
use Rattle.mp_records.specs.declared.ids.WireId.{WireId}
use Rattle.mp_records.specs.declared.ids.ModuleId.{ModuleId}
use Rattle.mp_records.specs.declared.module_record.ModuleRecord.{ModuleRecord}
use Rattle.mp_records.specs.declared.ports.Output.{Output}
use Rattle.mp_records.specs.Outputs.{output_at}
use Rattle.mp_records.specs.NamedWires.{is_wire}
use Rattle.mp_netlist.specs.declared.driver.Driver.{Driver}
use Rattle.mp_netlist.specs.declared.driver.Driver.TheVariants.{Nothing, Stimulus, Port}
use Rattle.mp_netlist.specs.Circuit.{Circuit, IsCircuit, Drives, wire_at, module_at, stimulus_in, stimulus_at}
use Rattle.mp_netlist.specs.Drivers.{port_from, port_of, or_later, driver, driver_from, stimulus_driver, is_port, is_nothing, is_free_for, FindsPorts, FindsOnlyPorts, LeavesNoDriver}

abbrev no_output : Output
no_output = record { wire = None; delay = 1 }

abbrev wire : ℕ → Option WireId
wire w = Some (record { 0 = w })

chosen : {X : Type 0} (b : Bool) (x y z : X) → cond b x y ≡ z → ((b ≡ true) × (x ≡ z)) ⊎ ((b ≡ false) × (y ≡ z))
chosen true x y z is = inl (refl, is)
chosen false x y z is = inr (refl, is)

named : (v : Option WireId) (w : ℕ) → is_wire v w ≡ true → v ≡ wire w
named None w is = cc
named (Some v) w is = ap wire (eqb-true v.0 w is)

is_named : (v : Option WireId) (w : ℕ) → v ≡ wire w → is_wire v w ≡ true
is_named v w is = rw is (eq-eqb w w refl)

-- a port that the search finds has the wire
port_found : (k : ℕ) (os : List Output) (w p : ℕ) → port_from k os w ≡ Some p → (i : ℕ) × (p ≡ k + i) × ((slice_index_or os i no_output).wire ≡ wire w)
port_found k [] w p is = cc
port_found k (o ∷ os) w p is =
    elim (chosen (is_wire o.wire w) (Some k) (port_from (k + 1) os w) (Some p) is)
    as (λ _. (i : ℕ) × (p ≡ k + i) × ((slice_index_or (o ∷ os) i no_output).wire ≡ wire w)) [
      | inl here ↦ let e : k ≡ p = cc in (0, omega arith, named o.wire w here.0)
      | inr after ↦ let later = port_found (k + 1) os w p after.1 in (suc later.0, omega (arith, later.1), later.2)
    ]

-- where the search finds none, no port has the wire
port_missing : (k : ℕ) (os : List Output) (w : ℕ) → port_from k os w ≡ None → (i : ℕ) → (slice_index_or os i no_output).wire ≢ wire w
port_missing k [] w is i same = cc
port_missing k (o ∷ os) w is zero same = elim (chosen (is_wire o.wire w) (Some k) (port_from (k + 1) os w) None is) as (λ _. ⊥) [
  | inl here ↦ let e = here.1 in cc
  | inr after ↦ let yes = is_named o.wire w same in let no = after.0 in cc
]
port_missing k (o ∷ os) w is (suc i) same = elim (chosen (is_wire o.wire w) (Some k) (port_from (k + 1) os w) None is) as (λ _. ⊥) [
  | inl here ↦ let e = here.1 in cc
  | inr after ↦ port_missing (k + 1) os w after.1 i same
]

abbrev module_of : Driver → ℕ
module_of Nothing = 0
module_of Stimulus = 0
module_of (Port m p) = m.0

abbrev number_of : Driver → ℕ
number_of Nothing = 0
number_of Stimulus = 0
number_of (Port m p) = p

here_or_later : (found : Option ℕ) (k : ℕ) (later : Driver) (m : ModuleId) (p : ℕ) → or_later found k later ≡ Port m p → ((m.0 ≡ k) × (found ≡ Some p)) ⊎ (later ≡ Port m p)
here_or_later None k later m p is = inr is
here_or_later (Some q) k later m p is = inl (sym (ap module_of is), ap (λ d. Some (number_of d)) is)

no_port : (stimulus : Option (List (ℕ × ℕ))) (m : ModuleId) (p : ℕ) → stimulus_driver stimulus ≢ Port m p
no_port None m p is = cc
no_port (Some changes) m p is = cc

pub record Found (k : ℕ) (slots : List (Option ModuleRecord)) (m p w : ℕ) : Type 0 where
  pub place : ℕ
  pub part : ModuleRecord
  pub number : m ≡ k + place
  pub stands : slice_index_or slots place None ≡ Some part
  pub output : (output_at part p).wire ≡ wire w

abbrev after_one : (k : ℕ) (slot : Option ModuleRecord) (slots : List (Option ModuleRecord)) (m p w : ℕ) → Found (k + 1) slots m p w → Found k (slot ∷ slots) m p w
after_one k slot slots m p w found = record { place = suc found.place; part = found.part; number = omega (arith, found.number); stands = found.stands; output = found.output }

module_found : (k : ℕ) (slots : List (Option ModuleRecord)) (w : ℕ) (other : Driver) (m : ModuleId) (p : ℕ) → other ≢ Port m p → driver_from k slots w other ≡ Port m p → Found k slots m.0 p w
module_found k [] w other m p not is = absurd (not is)
module_found k (None ∷ slots) w other m p not is = after_one k None slots m.0 p w (module_found (k + 1) slots w other m p not is)
module_found k (Some r ∷ slots) w other m p not is =
    elim (here_or_later (port_from 0 r.outputs w) k (driver_from (k + 1) slots w other) m p is) as (λ _. Found k (Some r ∷ slots) m.0 p w) [
      | inl here ↦
          let found = port_found 0 r.outputs w p here.1 in
          let e : found.0 ≡ p = omega (arith, found.1) in
          record { place = 0; part = r; number = omega (arith, here.0); stands = refl; output = subst (λ i. (slice_index_or r.outputs i no_output).wire ≡ wire w) e found.2 }
      | inr after ↦ after_one k (Some r) slots m.0 p w (module_found (k + 1) slots w other m p not after)
    ]

pub finds_only_ports : FindsOnlyPorts
unfolding driver
finds_only_ports n w p m is =
    let found = module_found 0 n.modules w (stimulus_driver (stimulus_at n w)) m p (no_port (stimulus_at n w) m p) is in
    let e : found.place ≡ m.0 = omega (arith, found.number) in
    record { part = found.part; stands = subst (λ i. slice_index_or n.modules i None ≡ Some found.part) e found.stands; output = found.output }

abbrev IsPort : Driver → Type 0
IsPort d = (m : ModuleId) × (p : ℕ) × (d ≡ Port m p)

port_or : (found : Option ℕ) (k : ℕ) (later : Driver) → (found ≡ None → IsPort later) → IsPort (or_later found k later)
port_or None k later none = none refl
port_or (Some p) k later none = (record { 0 = k }, p, refl)

module_finds : (k : ℕ) (slots : List (Option ModuleRecord)) (w : ℕ) (other : Driver) (i p : ℕ) (r : ModuleRecord) → slice_index_or slots i None ≡ Some r → (output_at r p).wire ≡ wire w → IsPort (driver_from k slots w other)
module_finds k [] w other i p r at names = cc
module_finds k (slot ∷ slots) w other zero p r at names =
    port_or (port_of slot w) k (driver_from (k + 1) slots w other)
    (λ none. absurd (port_missing 0 r.outputs w (sym (ap (λ s. port_of s w) at) ∙ none) p names))
module_finds k (slot ∷ slots) w other (suc i) p r at names =
    port_or (port_of slot w) k (driver_from (k + 1) slots w other) (λ none. module_finds (k + 1) slots w other i p r at names)

pub finds_ports : FindsPorts
unfolding driver
finds_ports n ok m p w drives =
    let found = module_finds 0 n.modules w (stimulus_driver (stimulus_at n w)) m p drives.part drives.stands drives.output in
    let only = finds_only_ports n w found.1 found.0 found.2 in
    let same = ok.one_port m p found.0.0 found.1 w drives only in
    found.2 ∙ sym (ap (λ k. Port (record { 0 = k }) p) same.0 ∙ ap (Port found.0) same.1)

-- the driver is a port, or the driver of a wire that no port drives
port_or_other : (k : ℕ) (slots : List (Option ModuleRecord)) (w : ℕ) (other : Driver) → IsPort (driver_from k slots w other) ⊎ (driver_from k slots w other ≡ other)
port_or_other k [] w other = inr refl
port_or_other k (slot ∷ slots) w other = by (port_of slot w) (port_or_other (k + 1) slots w other)
  where
    by : (found : Option ℕ) → IsPort (driver_from (k + 1) slots w other) ⊎ (driver_from (k + 1) slots w other ≡ other)
        → IsPort (or_later found k (driver_from (k + 1) slots w other)) ⊎ (or_later found k (driver_from (k + 1) slots w other) ≡ other)
    by None later = later
    by (Some p) later = inl (record { 0 = k }, p, refl)

-- the driver of a wire is a port that has it as its output, or by its stimulus alone
pub driven_by : (n : Circuit) (w : ℕ) → ((m p : ℕ) × Drives n m p w) ⊎ (driver n w ≡ stimulus_driver (stimulus_at n w))
unfolding driver
driven_by n w = by (port_or_other 0 n.modules w (stimulus_driver (stimulus_at n w)))
  where
    by : IsPort (driver_from 0 n.modules w (stimulus_driver (stimulus_at n w))) ⊎ (driver_from 0 n.modules w (stimulus_driver (stimulus_at n w)) ≡ stimulus_driver (stimulus_at n w))
        → ((m p : ℕ) × Drives n m p w) ⊎ (driver_from 0 n.modules w (stimulus_driver (stimulus_at n w)) ≡ stimulus_driver (stimulus_at n w))
    by (inl found) = inl (found.0.0, found.1, finds_only_ports n w found.1 found.0 found.2)
    by (inr same) = inr same

-- a wire with a stimulus has it as its driver
pub stimulus_drives : (n : Circuit) → IsCircuit n → (w : ℕ) → is_some (stimulus_at n w) ≡ true → driver n w ≡ Stimulus
stimulus_drives n ok w set = by (stimulus_at n w) refl (driven_by n w)
  where
    by : (stimulus : Option (List (ℕ × ℕ))) → stimulus_at n w ≡ stimulus → ((m p : ℕ) × Drives n m p w) ⊎ (driver n w ≡ stimulus_driver (stimulus_at n w)) → driver n w ≡ Stimulus
    by None e found = let no = sym (ap is_some e) ∙ set in cc
    by (Some changes) e (inl found) = let none = ok.port_or_stimulus found.0 found.1 w found.2 in cc
    by (Some changes) e (inr same) = same ∙ ap stimulus_driver e

-- nothing that drives a wire that nothing drives
pub undriven_is_free : (n : Circuit) → IsCircuit n → (w : ℕ) → is_nothing (driver n w) ≡ true → ((m p : ℕ) → Drives n m p w → ⊥) × (stimulus_at n w ≡ None)
undriven_is_free n ok w nothing = (
  λ m p drives. let port = ap is_nothing (finds_ports n ok m p w drives) in cc,
  by (stimulus_at n w) refl (driven_by n w),
)
  where
    by : (stimulus : Option (List (ℕ × ℕ))) → stimulus_at n w ≡ stimulus → ((m p : ℕ) × Drives n m p w) ⊎ (driver n w ≡ stimulus_driver (stimulus_at n w)) → stimulus_at n w ≡ None
    by None e found = e
    by (Some changes) e (inl found) = let none = ok.port_or_stimulus found.0 found.1 w found.2 in cc
    by (Some changes) e (inr same) = let set = sym nothing ∙ ap is_nothing (same ∙ ap stimulus_driver e) in cc

-- no port drives a wire whose driver is no port
pub portless_is_undriven : (n : Circuit) → IsCircuit n → (w : ℕ) → is_port (driver n w) ≡ false → (m p : ℕ) → Drives n m p w → ⊥
portless_is_undriven n ok w none m p drives = let port = ap is_port (finds_ports n ok m p w drives) in cc

-- a wire that a port drives stands
pub driven_stands : (n : Circuit) → IsCircuit n → (m p w : ℕ) → Drives n m p w → is_some (wire_at n w) ≡ true
driven_stands n ok m p w drives =
    let driven = (ok.modules_ok m drives.part drives.stands).drives p in
    let stands = (rw drives.output at driven).0 in
    grind (arith, stands)

pub leaves_no_driver : LeavesNoDriver
leaves_no_driver n ok w none = by (driven_by n w)
  where
    by : ((m p : ℕ) × Drives n m p w) ⊎ (driver n w ≡ stimulus_driver (stimulus_at n w)) → driver n w ≡ Nothing
    by (inl found) = let no = sym (ap is_some none) ∙ driven_stands n ok found.0 found.1 w found.2 in cc
    by (inr same) = same ∙ ap (λ slot. stimulus_driver (stimulus_in slot)) none

-- a port of a module that a look at its outputs finds drives the wire
pub port_drives : (n : Circuit) (m w p : ℕ) → port_of (module_at n m) w ≡ Some p → Drives n m p w
port_drives n m w p is = by (module_at n m) refl is
  where
    by : (slot : Option ModuleRecord) → module_at n m ≡ slot → port_of slot w ≡ Some p → Drives n m p w
    by None at is = cc
    by (Some r) at is =
        let port = port_found 0 r.outputs w p is in
        let same : port.0 ≡ p = omega (arith, port.1) in
        record { part = r; stands = at; output = subst (λ i. (slice_index_or r.outputs i no_output).wire ≡ wire w) same port.2 }

-- the driver of a wire without a stimulus is found among the ports
pub portless_driver : (n : Circuit) (w : ℕ) → is_some (stimulus_at n w) ≡ false → driver_from 0 n.modules w Nothing ≡ driver n w
unfolding driver
portless_driver n w unset = by (stimulus_at n w) refl
  where
    by : (stimulus : Option (List (ℕ × ℕ))) → stimulus_at n w ≡ stimulus → driver_from 0 n.modules w Nothing ≡ driver_from 0 n.modules w (stimulus_driver (stimulus_at n w))
    by None e = ap (λ s. driver_from 0 n.modules w (stimulus_driver s)) (sym e)
    by (Some changes) e = let no = sym (ap is_some e) ∙ unset in cc

-- where nothing but one port drives a wire, no other does, and nothing is set on it
pub free_for : (n : Circuit) → IsCircuit n → (w m p : ℕ) → is_free_for m p (driver n w) ≡ true → ((k q : ℕ) → Drives n k q w → (k ≡ m) × (q ≡ p)) × (stimulus_at n w ≡ None)
free_for n ok w m p free = (
  λ k q drives.
      let parts = and_parts (k == m) (q == p) (sym (ap (is_free_for m p) (finds_ports n ok k q w drives)) ∙ free) in
      (eqb-true k m parts.0, eqb-true q p parts.1),
  by (stimulus_at n w) refl,
)
  where
    by : (stimulus : Option (List (ℕ × ℕ))) → stimulus_at n w ≡ stimulus → stimulus_at n w ≡ None
    by None e = e
    by (Some changes) e = let no = sym (ap (is_free_for m p) (stimulus_drives n ok w (ap is_some e))) ∙ free in cc
