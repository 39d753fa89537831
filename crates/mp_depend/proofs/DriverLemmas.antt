-- What drives each wire, found module by module.
use Rattle.std.proofs.Common.{◌≡◌, ◌⊎◌, ℕ, ◌+◌, ◌<◌, ◌≤◌, List, Option, Some, None, length, get_or, ap, sym, subst, ◌∙◌, arith, inl, inr}
use Rattle.std.proofs.lemmas.Bool.{cases_lt, cases_eq}
use Rattle.std.proofs.lemmas.List.{get_or_default, get_or_past}
use Rattle.std.proofs.lemmas.Option.{same_Some, none-some}
use Rattle.mp_records.specs.declared.ids.WireId.{WireId}
use Rattle.mp_records.specs.declared.ids.ModuleId.{ModuleId}
use Rattle.mp_records.specs.declared.ports.Output.{Output}
use Rattle.mp_records.specs.declared.module_record.ModuleRecord.{ModuleRecord}
use Rattle.mp_records.specs.Outputs.{output_in}
use Rattle.mp_netlist.specs.declared.driver.Driver.{Driver}
use Rattle.mp_netlist.specs.declared.driver.Driver.TheVariants.{Nothing, Port}
use Rattle.mp_netlist.specs.Circuit.{Circuit, IsCircuit, module_at}
use Rattle.mp_netlist.specs.Drivers.{driver}
use Rattle.mp_netlist.proofs.DriverLemmas.{finds_ports, driven_by, leaves_no_driver}
use Rattle.mp_model.proofs.SlotLemmas.{slot_within}
use Rattle.mp_depend.specs.Drivers.{driver_in, AreDrivers, IsNoted, IsDriverBelow, AreDriversBelow}

abbrev wire_of : ℕ → WireId
wire_of w = record { 0 = w }

names_wire : (named : Option WireId) (w : ℕ) → (named ≡ Some (wire_of w)) ⊎ (named ≡ Some (wire_of w) → ⊥)
names_wire None w = inr (λ e. none-some (wire_of w) e)
names_wire (Some v) w = elim (cases_eq v.0 w) as (λ _. (Some v ≡ Some (wire_of w)) ⊎ (Some v ≡ Some (wire_of w) → ⊥)) [
  | inl is ↦ inl (ap (λ k. Some (wire_of k)) is)
  | inr other ↦ inr (λ e. other (ap (λ (x : WireId). x.0) (same_Some v (wire_of w) e)))
]

-- one output more
pub noted_more : (m : ModuleId) (outputs : List Output) (i w : ℕ) (before now after : Driver) (output d : Output) → i < length outputs → output ≡ get_or outputs i d
    → IsNoted m outputs i w before now → (output.wire ≡ Some (wire_of w) → after ≡ Port m i) → ((output.wire ≡ Some (wire_of w) → ⊥) → after ≡ now) → IsNoted m outputs (i + 1) w before after
noted_more m outputs i w before now after output d within read is here other = elim (names_wire output.wire w) as (λ _. IsNoted m outputs (i + 1) w before after) [
  | inl names ↦ inl (i, omega arith, sym (ap (λ (o : Output). o.wire) found) ∙ names, here names)
  | inr not ↦ elim is as (λ _. IsNoted m outputs (i + 1) w before after) [
    | inl so ↦ inl (so.0, omega (arith, so.1), so.2, other not ∙ so.3)
    | inr none ↦ inr (
      λ p less e. elim (cases_eq p i) as (λ _. ⊥) [
        | inl same ↦ not (ap (λ (o : Output). o.wire) found ∙ subst (λ k. (output_in outputs k).wire ≡ Some (wire_of w)) same e)
        | inr differ ↦ none.0 p (omega (arith, less, differ)) e
      ],
      other not ∙ none.1,
    )
  ]
]
  where
    found : output ≡ output_in outputs i
    found = read ∙ get_or_default outputs i d (record { wire = None; delay = 1 }) within

-- an output that has a wire is one of the outputs
output_within : (outputs : List Output) (p w : ℕ) → (output_in outputs p).wire ≡ Some (wire_of w) → p < length outputs
output_within outputs p w is = elim (cases_lt p (length outputs)) as (λ _. p < length outputs) [
  | inl less ↦ less
  | inr past ↦ absurd (none-some (wire_of w) (sym (ap (λ (o : Output). o.wire) (get_or_past outputs p (record { wire = None; delay = 1 }) past)) ∙ is))
]

-- one module more
pub below_more : (n : Circuit) (m : ModuleId) (r : ModuleRecord) (old new : List Driver) → module_at n m.0 ≡ Some r → length new ≡ length old → AreDriversBelow n m.0 old
    → ((w : ℕ) → w < length old → IsNoted m r.outputs (length r.outputs) w (driver_in old w) (driver_in new w)) → AreDriversBelow n (m.0 + 1) new
below_more n m r old new at size are noted = record {
  places = size ∙ are.places;
  each = λ w low. elim (noted w (let places = are.places in omega (arith, low, places))) as (λ _. IsDriverBelow n (m.0 + 1) w (driver_in new w)) [
    | inl here ↦ inl (m.0, here.0, record { part = r; stands = at; output = here.2 }, here.3)
    | inr none ↦ elim (are.each w low) as (λ _. IsDriverBelow n (m.0 + 1) w (driver_in new w)) [
      | inl so ↦ inl (so.0, so.1, so.2, none.1 ∙ so.3)
      | inr free ↦ inr (
        λ k p less drives. elim (cases_eq k m.0) as (λ _. ⊥) [
          | inl same ↦
              let part : drives.part ≡ r = same_Some drives.part r (sym drives.stands ∙ ap (module_at n) same ∙ at) in
              let output : (output_in r.outputs p).wire ≡ Some (wire_of w) = subst (λ (x : ModuleRecord). (output_in x.outputs p).wire ≡ Some (wire_of w)) part drives.output in
              none.0 p (output_within r.outputs p w output) output
          | inr differ ↦ free.0 k p (omega (arith, less, differ)) drives
        ],
        none.1 ∙ free.1,
      )
    ]
  ];
}

-- where no module stands there is none more
pub below_none : (n : Circuit) (m : ℕ) (drivers : List Driver) → module_at n m ≡ None → AreDriversBelow n m drivers → AreDriversBelow n (m + 1) drivers
below_none n m drivers at are = record {
  places = are.places;
  each = λ w low. elim (are.each w low) as (λ _. IsDriverBelow n (m + 1) w (driver_in drivers w)) [
    | inl so ↦ inl so
    | inr free ↦ inr (
      λ k p less drives. elim (cases_eq k m) as (λ _. ⊥) [
        | inl same ↦ none-some drives.part (sym at ∙ ap (module_at n) (sym same) ∙ drives.stands)
        | inr differ ↦ free.0 k p (omega (arith, less, differ)) drives
      ],
      free.1,
    )
  ];
}

-- those of all modules
pub drivers_are : (n : Circuit) → IsCircuit n → (m : ℕ) (drivers : List Driver) → length n.modules ≤ m → AreDriversBelow n m drivers → AreDrivers n drivers
drivers_are n ok m drivers le are w = elim (cases_lt w (length n.wires)) as (λ _. driver_in drivers w ≡ driver n w) [
  | inl low ↦ elim (are.each w low) as (λ _. driver_in drivers w ≡ driver n w) [
    | inl so ↦ so.3 ∙ sym (finds_ports n ok so.0 so.1 w so.2)
    | inr free ↦ elim (driven_by n w) as (λ _. driver_in drivers w ≡ driver n w) [
      | inl found ↦ absurd (free.0 found.0 found.1 (let within = slot_within n.modules found.0 found.2.part found.2.stands in omega (arith, within, le)) found.2)
      | inr by ↦ free.1 ∙ sym by
    ]
  ]
  | inr past ↦
      get_or_past drivers w Nothing (let places = are.places in omega (arith, past, places))
      ∙ sym (leaves_no_driver n ok w (get_or_past n.wires w None past))
]
