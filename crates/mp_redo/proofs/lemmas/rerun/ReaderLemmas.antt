-- Who reads a number, and which outputs a module has.
use Rattle.std.proofs.Common.{◌≡◌, ℕ, ◌+◌, ◌<◌, ◌≤◌, Bool, true, false, cond, List, [], ◌∷◌, All, Option, Some, None, length, zero, suc, refl, ap, sym, ◌∙◌, arith, inl, inr}
use Rattle.std.specs.Prelude.{◌==◌, ◌||◌, slice_index_or}
use Rattle.std.proofs.lemmas.Bool.{cases_Bool, eqb-true, eqb-false, eq-eqb, ne_eqb, or_cases, or_left, or_right, true≢false}
use Rattle.std.proofs.lemmas.List.Elements.{All-head, All-tail}
use Rattle.std.proofs.lemmas.Option.{none-some, same_Some}
use Rattle.mp_records.specs.declared.ids.WireId.{WireId}
use Rattle.mp_records.specs.declared.ports.Output.{Output}
use Rattle.mp_records.specs.declared.module_record.ModuleRecord.{ModuleRecord}
use Rattle.mp_records.specs.NamedWires.{is_wire}
use Rattle.mp_records.specs.Outputs.{output_in, output_at, delay_of}
use Rattle.mp_netlist.specs.declared.driver.Driver.{Driver}
use Rattle.mp_netlist.specs.declared.driver.Driver.TheVariants.{Nothing, Stimulus, Port}
use Rattle.mp_netlist.specs.Circuit.{Circuit, IsCircuit, Drives, module_at}
use Rattle.mp_netlist.specs.Drivers.{driver}
use Rattle.mp_netlist.proofs.DriverLemmas.{finds_ports, finds_only_ports}
use Rattle.mp_modules.specs.automata.Codes.{bit}
use Rattle.mp_kernel.specs.events.Adding.{listed}
use Rattle.mp_simulation.specs.run.Seating.{AreOutputsWithin}
use Rattle.mp_simulation.specs.run.Wirings.{AreByPort}
use Rattle.mp_active.specs.excerpt.Numberings.{Numbering}
use Rattle.mp_active.specs.excerpt.Leaving.{is_port_of}
use Rattle.mp_active.specs.excerpt.Activating.{with_module}
use Rattle.mp_active.specs.compare.Waking.{number_in, numbers_in}
use Rattle.mp_redo.specs.rerun.Numbered.{reads_asleep, readers_asleep}
use Rattle.mp_redo.specs.rerun.Returning.{is_output}
use Rattle.mp_redo.proofs.lemmas.rerun.TailLemmas.{counted_cons}
use Rattle.mp_active.proofs.lemmas.compare.WakingLemmas.{wire_is}

-- ---- the numbers at ports
pub numbers_by_port : (numbers : List ℕ) (ports : List (Option ℕ)) → AreByPort numbers ports → numbers_in ports ≡ numbers
numbers_by_port [] [] by = refl
numbers_by_port (x ∷ numbers) [] by = absurd (none-some x (by 0))
numbers_by_port [] (port ∷ ports) by =
    ap (λ (o : Option ℕ). number_in o (numbers_in ports)) (by 0) ∙ numbers_by_port [] ports (λ p. by (suc p))
numbers_by_port (x ∷ numbers) (port ∷ ports) by =
    ap (λ (o : Option ℕ). number_in o (numbers_in ports)) (by 0) ∙ ap (λ (xs : List ℕ). x ∷ xs) (numbers_by_port numbers ports (λ p. by (suc p)))

pub none_listed : (bound x : ℕ) (xs : List ℕ) → All (λ y. y < bound) xs → bound ≤ x → listed x xs ≡ 0
none_listed bound x [] all past = refl
none_listed bound x (y ∷ xs) all past =
    let low = All-head (λ y. y < bound) y xs all in
    let more = none_listed bound x xs (All-tail (λ y. y < bound) y xs all) past in
    let none : bit (y == x) ≡ 0 = ap bit (ne_eqb y x (λ e. omega (arith, low, past, e))) in
    let count = counted_cons (λ (d : ℕ). d == x) y xs in
    omega (arith, more, none, count)

-- ---- one module less sleeps
module _ (active : ℕ → Bool) (numbering : Numbering) (x m : ℕ) where
  same_slot : (k : ℕ) (slot : Option ModuleRecord) → (k ≡ m → ⊥) → reads_asleep active numbering x k slot ≡ reads_asleep (with_module active m) numbering x k slot
  same_slot k None other = refl
  same_slot k (Some r) other = ap (λ b. cond b 0 (listed x (numbering.inputs k))) (same (active k)) ∙ ap (λ e. cond (active k || e) 0 (listed x (numbering.inputs k))) (sym (ne_eqb k m other))
    where
      same : (b : Bool) → b ≡ (b || false)
      same true = refl
      same false = refl

  same_slots : (k : ℕ) (slots : List (Option ModuleRecord)) → m < k → readers_asleep active numbering x k slots ≡ readers_asleep (with_module active m) numbering x k slots
  same_slots k [] past = refl
  same_slots k (slot ∷ slots) past =
      let one = same_slot k slot (λ e. omega (arith, past, e)) in
      let more = same_slots (k + 1) slots (omega (arith, past)) in
      omega (arith, one, more)

  own_slot : (k : ℕ) (r : ModuleRecord) → k ≡ m → active m ≡ false → reads_asleep active numbering x k (Some r) ≡ reads_asleep (with_module active m) numbering x k (Some r) + listed x (numbering.inputs m)
  own_slot k r here asleep =
      let was : reads_asleep active numbering x k (Some r) ≡ listed x (numbering.inputs m) = ap (λ b. cond b 0 (listed x (numbering.inputs k))) (ap active here ∙ asleep) ∙ ap (λ j. listed x (numbering.inputs j)) here in
      let now : reads_asleep (with_module active m) numbering x k (Some r) ≡ 0 = ap (λ b. cond b 0 (listed x (numbering.inputs k))) (or_right (active k) (k == m) (eq-eqb k m here)) in
      omega (arith, was, now)

  pub readers_more : (k j : ℕ) (r : ModuleRecord) (slots : List (Option ModuleRecord)) → k + j ≡ m → slice_index_or slots j None ≡ Some r → active m ≡ false →
      readers_asleep active numbering x k slots ≡ readers_asleep (with_module active m) numbering x k slots + listed x (numbering.inputs m)
  readers_more k j r [] here at asleep = absurd (none-some r at)
  readers_more k zero r (slot ∷ slots) here at asleep =
      let e : k ≡ m = omega (arith, here) in
      let one = ap (reads_asleep active numbering x k) at ∙ own_slot k r e asleep in
      let own = ap (reads_asleep (with_module active m) numbering x k) at in
      let more = same_slots (k + 1) slots (omega (arith, e)) in
      omega (arith, one, own, more)
  readers_more k (suc j) r (slot ∷ slots) here at asleep =
      let one = same_slot k slot (λ e. omega (arith, here, e)) in
      let more = readers_more (k + 1) j r slots (omega (arith, here)) at asleep in
      omega (arith, one, more)

-- ---- the outputs of a module
pub wire_tells : (o : Option WireId) (w : ℕ) → o ≡ Some (record { 0 = w }) → is_wire o w ≡ true
wire_tells o w is = ap (λ (o : Option WireId). is_wire o w) is ∙ eq-eqb w w refl

output_found : (outputs : List Output) (w : ℕ) → is_output outputs w ≡ true → (p : ℕ) × ((output_in outputs p).wire ≡ Some (record { 0 = w }))
output_found [] w is = absurd (true≢false (sym is))
output_found (o ∷ outputs) w is = elim (or_cases (is_wire o.wire w) (is_output outputs w) is) as (λ _. (p : ℕ) × ((output_in (o ∷ outputs) p).wire ≡ Some (record { 0 = w }))) [
  | inl here ↦ (0, wire_is o.wire w here)
  | inr else ↦ let more = output_found outputs w else in (suc more.0, more.1)
]

output_there : (outputs : List Output) (p w : ℕ) → (output_in outputs p).wire ≡ Some (record { 0 = w }) → is_output outputs w ≡ true
output_there [] p w is = absurd (none-some (record { 0 = w }) is)
output_there (o ∷ outputs) zero w is = or_left (is_wire o.wire w) (is_output outputs w) (wire_tells o.wire w is)
output_there (o ∷ outputs) (suc p) w is = or_right (is_wire o.wire w) (is_output outputs w) (output_there outputs p w is)

pub is_own_wire : (output : Output) (w v : ℕ) → output.wire ≡ Some (record { 0 = w }) → (v == w) ≡ is_wire output.wire v
is_own_wire output w v wire_is = even v w ∙ sym (ap (λ (o : Option WireId). is_wire o v) wire_is)
  where
    even : (a b : ℕ) → (a == b) ≡ (b == a)
    even a b = elim (cases_Bool (a == b)) as (λ _. (a == b) ≡ (b == a)) [
      | inl same ↦ same ∙ sym (eq-eqb b a (sym (eqb-true a b same)))
      | inr other ↦ other ∙ sym (ne_eqb b a (λ e. eqb-false a b other (sym e)))
    ]

-- an output with a wire is one of a module's, and the wheels have room for it
pub output_within : (outputs : List Output) (p w : ℕ) → (output_in outputs p).wire ≡ Some (record { 0 = w }) → p < length outputs
output_within [] p w is = cc
output_within (o ∷ outputs) zero w is = omega arith
output_within (o ∷ outputs) (suc p) w is = let more = output_within outputs p w is in omega (arith, more)

pub delay_within : (n : Circuit) (units m p w : ℕ) (r : ModuleRecord) → AreOutputsWithin n units → module_at n m ≡ Some r → (output_at r p).wire ≡ Some (record { 0 = w }) → delay_of r p ≤ units
delay_within n units m p w r all at is = all m r at p (record { wire = None; delay = 1 }) (output_within r.outputs p w is)

-- just its own wires has a module as outputs
module _ (n : Circuit) (ok : IsCircuit n) (m : ℕ) (r : ModuleRecord) (at : module_at n m ≡ Some r) where
  pub output_drives : (w : ℕ) → is_output r.outputs w ≡ true → (p : ℕ) × Drives n m p w
  output_drives w is = let found = output_found r.outputs w is in (found.0, record { part = r; stands = at; output = found.1 })

  pub outputs_are : (w : ℕ) → is_output r.outputs w ≡ is_port_of m (driver n w)
  outputs_are w = by (is_output r.outputs w) refl
    where
      port_there : (d : Driver) → driver n w ≡ d → is_port_of m d ≡ true → is_output r.outputs w ≡ true
      port_there Nothing e is = absurd (true≢false (sym is))
      port_there Stimulus e is = absurd (true≢false (sym is))
      port_there (Port k p) e is =
          let found = finds_only_ports n w p k e in
          let same : k.0 ≡ m = eqb-true k.0 m is in
          let part : found.part ≡ r = same_Some found.part r (sym found.stands ∙ ap (module_at n) same ∙ at) in
          output_there r.outputs p w (ap (λ (x : ModuleRecord). (output_at x p).wire) (sym part) ∙ found.output)

      by : (b : Bool) → is_output r.outputs w ≡ b → is_output r.outputs w ≡ is_port_of m (driver n w)
      by true is = let drives = output_drives w is in is ∙ sym (ap (is_port_of m) (finds_ports n ok m drives.0 w drives.1) ∙ eq-eqb m m refl)
      by false is = is ∙ sym (not_port (is_port_of m (driver n w)) refl)
        where
          not_port : (b : Bool) → is_port_of m (driver n w) ≡ b → is_port_of m (driver n w) ≡ false
          not_port true e = absurd (true≢false (sym (port_there (driver n w) refl e) ∙ is))
          not_port false e = e
