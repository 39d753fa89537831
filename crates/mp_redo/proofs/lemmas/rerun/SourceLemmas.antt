-- From when on wires have the levels of the old run, when one module more sleeps.
use Rattle.std.proofs.Common.{◌≡◌, ◌≢◌, ◌⊎◌, ℕ, ◌+◌, ◌<◌, Bool, false, cond, List, [], ◌∷◌, Some, suc, zero, refl, ap, sym, ◌∙◌, arith, inl, inr}
use Rattle.std.proofs.lemmas.Bool.{cases_Bool, cases_eq, both_ways, ne_eqb}
use Rattle.std.proofs.lemmas.Option.{none-some}
use Rattle.mp_records.specs.declared.ids.ModuleId.{ModuleId}
use Rattle.mp_records.specs.declared.ids.WireId.{WireId}
use Rattle.mp_records.specs.declared.ports.Output.{Output}
use Rattle.mp_records.specs.declared.module_record.ModuleRecord.{ModuleRecord}
use Rattle.mp_records.specs.NamedWires.{is_wire}
use Rattle.mp_records.specs.Outputs.{output_in, output_at, delay_of}
use Rattle.mp_netlist.specs.declared.driver.Driver.TheVariants.{Port}
use Rattle.mp_netlist.specs.Circuit.{Circuit, IsCircuit, module_at}
use Rattle.mp_netlist.specs.Drivers.{driver, is_port}
use Rattle.mp_netlist.proofs.DriverLemmas.{finds_only_ports, finds_ports}
use Rattle.mp_kernel.specs.timers.TimerWheels.{never}
use Rattle.mp_active.specs.agreement.Sources.{slept_from, IsAsBefore, AreSources}
use Rattle.mp_active.specs.declared.compare.wire_source.WireSource.{WireSource}
use Rattle.mp_active.specs.compare.Waking.{slept}
use Rattle.mp_active.proofs.lemmas.compare.WakingLemmas.{wire_is}
use Rattle.mp_redo.proofs.lemmas.rerun.ReaderLemmas.{wire_tells}

-- the wire of the first output that drives it has the levels of the old run its delay after a time; where none does, nothing is other
abbrev pub IsSlept : List Output → ℕ → ℕ → WireSource → WireSource → Type 0
IsSlept outputs time w source new =
    ((new ≡ source) × ((p : ℕ) → (output_in outputs p).wire ≡ Some (record { 0 = w }) → ⊥))
    ⊎ ((p : ℕ) × ((output_in outputs p).wire ≡ Some (record { 0 = w })) × (new ≡ record source { until = time + (output_in outputs p).delay }))

no_output : (w p : ℕ) → (output_in [] p).wire ≡ Some (record { 0 = w }) → ⊥
no_output w p is = let v : WireId = record { 0 = w } in none-some v is

slept_is : (outputs : List Output) (time w : ℕ) (source : WireSource) → IsSlept outputs time w source (slept outputs time w source)
slept_is [] time w source = inl (refl, no_output w)
slept_is (o ∷ outputs) time w source = elim (cases_Bool (is_wire o.wire w)) as (λ _. IsSlept (o ∷ outputs) time w source (slept (o ∷ outputs) time w source)) [
  | inl its ↦ inr (0, wire_is o.wire w its, ap (λ (b : Bool). cond b (record source { until = time + o.delay }) (slept outputs time w source)) its)
  | inr other ↦
      let same : slept (o ∷ outputs) time w source ≡ slept outputs time w source = ap (λ (b : Bool). cond b (record source { until = time + o.delay }) (slept outputs time w source)) other in
      elim (slept_is outputs time w source) as (λ _. IsSlept (o ∷ outputs) time w source (slept (o ∷ outputs) time w source)) [
        | inl rest ↦ inl (same ∙ rest.0, not_named other rest.1)
        | inr found ↦ inr (suc found.0, found.1, same ∙ found.2)
      ]
]
  where
    not_named : is_wire o.wire w ≡ false → ((p : ℕ) → (output_in outputs p).wire ≡ Some (record { 0 = w }) → ⊥) → (p : ℕ) → (output_in (o ∷ outputs) p).wire ≡ Some (record { 0 = w }) → ⊥
    not_named other none zero is = both_ways (is_wire o.wire w) other (wire_tells o.wire w is)
    not_named other none (suc p) is = none p is

module _ (n : Circuit) (ok : IsCircuit n) (m : ℕ) (r : ModuleRecord) (at : module_at n m ≡ Some r) where
  drives : (p w : ℕ) → (output_at r p).wire ≡ Some (record { 0 = w }) → driver n w ≡ Port (record { 0 = m }) p
  drives p w is = finds_ports n ok m p w (record { part = r; stands = at; output = is })

  driven : (p w : ℕ) (k : ModuleId) → driver n w ≡ Port k p → k.0 ≡ m → (output_at r p).wire ≡ Some (record { 0 = w })
  driven p w k is same =
      let found = finds_only_ports n w p k is in
      let one : Some found.part ≡ Some r = sym found.stands ∙ ap (module_at n) same ∙ at in
      let part : found.part ≡ r = cc in
      ap (λ (x : ModuleRecord). (output_at x p).wire) (sym part) ∙ found.output

  -- a wire that another module drives, or none, is left as it was
  pub slept_else : (time w : ℕ) (source : WireSource) → ((p : ℕ) → driver n w ≡ Port (record { 0 = m }) p → ⊥) → slept r.outputs time w source ≡ source
  slept_else time w source other = elim (slept_is r.outputs time w source) as (λ _. slept r.outputs time w source ≡ source) [
    | inl same ↦ same.0
    | inr found ↦ absurd (other found.0 (drives found.0 w found.1))
  ]

  -- its own wire has the levels of the old run its delay after the time
  pub slept_here : (time w p : ℕ) (k : ModuleId) (source : WireSource) → driver n w ≡ Port k p → k.0 ≡ m → slept r.outputs time w source ≡ record source { until = time + delay_of r p }
  slept_here time w p k source is same = elim (slept_is r.outputs time w source) as (λ _. slept r.outputs time w source ≡ record source { until = time + delay_of r p }) [
    | inl left ↦ absurd (left.1 p (driven p w k is same))
    | inr found ↦
        let other : driver n w ≡ Port (record { 0 = m }) found.0 = drives found.0 w found.1 in
        let one : Port k p ≡ Port (record { 0 = m }) found.0 = sym is ∙ other in
        let port : p ≡ found.0 = cc in
        found.2 ∙ ap (λ (q : ℕ). let x : WireSource = record source { until = time + delay_of r q } in x) (sym port)
  ]

  pub slept_on : (time w : ℕ) (source : WireSource) → (slept r.outputs time w source).is_on ≡ source.is_on
  slept_on time w source = elim (slept_is r.outputs time w source) as (λ _. (slept r.outputs time w source).is_on ≡ source.is_on) [
    | inl same ↦ ap (λ (x : WireSource). x.is_on) same.0
    | inr found ↦ ap (λ (x : WireSource). x.is_on) found.2
  ]

  -- it is one of its wires, or is left as it was
  pub lit_fall : (time w : ℕ) (source : WireSource) → (slept r.outputs time w source ≡ source) ⊎ ((p : ℕ) × (driver n w ≡ Port (record { 0 = m }) p))
  lit_fall time w source = elim (slept_is r.outputs time w source) as (λ _. (slept r.outputs time w source ≡ source) ⊎ ((p : ℕ) × (driver n w ≡ Port (record { 0 = m }) p))) [
    | inl same ↦ inl same.0
    | inr found ↦ inr (found.0, drives found.0 w found.1)
  ]

-- the sources when a module more sleeps
module _ (old new : Circuit) (ok : IsCircuit new) (active after : ℕ → Bool) (since later : ℕ → ℕ) (sources now : ℕ → WireSource) (time m : ℕ) (r : ModuleRecord)
    (some : 0 < time) (at : module_at new m ≡ Some r) (off : after m ≡ false) (others : (q : ℕ) → q ≢ m → after q ≡ active q) (here : later m ≡ time) (there : (q : ℕ) → q ≢ m → later q ≡ since q)
    (falls : (w : ℕ) → now w ≡ slept r.outputs time w (sources w)) (are : AreSources old new active since (λ w. (sources w).until)) where
  same_until : (w : ℕ) → ((p : ℕ) → driver new w ≡ Port (record { 0 = m }) p → ⊥) → (now w).until ≡ (sources w).until
  same_until w other = ap (λ (x : WireSource). x.until) (falls w ∙ slept_else new ok m r at time w (sources w) other)

  not_its : (w p : ℕ) (k : ModuleId) → driver new w ≡ Port k p → k.0 ≢ m → (q : ℕ) → driver new w ≡ Port (record { 0 = m }) q → ⊥
  not_its w p k is other q its =
      let one : Port k p ≡ Port (record { 0 = m }) q = sym is ∙ its in
      let same : k ≡ record { 0 = m } = cc in
      other (ap (λ (x : ModuleId). x.0) same)

  slept_time : (d : ℕ) → slept_from time d ≡ time + d
  slept_time d = ap (λ (b : Bool). cond b 0 (time + d)) (ne_eqb time 0 (λ zero. let no : ⊥ = omega (arith, some, zero) in no))

  pub sources_fall : AreSources old new after later (λ w. (now w).until)
  sources_fall = record {
    awake = λ w p k is on. elim (cases_eq k.0 m) as (λ _. (now w).until ≡ never) [
      | inl same ↦ let no : ⊥ = both_ways (after m) off (sym (ap after same) ∙ on) in absurd no
      | inr other ↦ same_until w (not_its w p k is other) ∙ are.awake w p k is (sym (others k.0 other) ∙ on)
    ];
    asleep = λ w p k s is quiet stands. elim (cases_eq k.0 m) as (λ _. (now w).until ≡ slept_from (later k.0) (delay_of s p)) [
      | inl same ↦
          let one : Some s ≡ Some r = sym stands ∙ ap (module_at new) same ∙ at in
          let part : s ≡ r = cc in
          ap (λ (x : WireSource). x.until) (falls w ∙ slept_here new ok m r at time w p k (sources w) is same)
          ∙ sym (slept_time (delay_of r p))
          ∙ ap (λ (x : ModuleRecord). slept_from time (delay_of x p)) (sym part)
          ∙ ap (λ (u : ℕ). slept_from u (delay_of s p)) (sym (ap later same ∙ here))
      | inr other ↦ same_until w (not_its w p k is other) ∙ are.asleep w p k s is (sym (others k.0 other) ∙ quiet) stands ∙ ap (λ (u : ℕ). slept_from u (delay_of s p)) (sym (there k.0 other))
    ];
    others = λ w not.
        let same = same_until w (λ p its. both_ways (is_port (driver new w)) not (ap is_port its)) in
        elim (are.others w not) as (λ _. ((now w).until ≡ never) ⊎ (((now w).until ≡ 0) × IsAsBefore old new w)) [
          | inl own ↦ inl (same ∙ own)
          | inr alike ↦ inr (same ∙ alike.0, alike.1)
        ];
  }
