-- No delay of a netlist is less than the least, and a port has it where a port drives a wire.
use Rattle.std.proofs.Common.{◌≡◌, ℕ, zero, suc, ◌≤◌, Bool, true, false, cond, List, [], ◌∷◌, Option, Some, None, slice_index_or, is_some, unwrap_or, min, fold, map, filter, refl, sym, ap, subst, ◌∙◌, ◌<◌, ◌⊎◌, inl, inr, arith}
use Rattle.std.specs.List.{All, flat_map}
use Rattle.std.specs.Option.{IfSome}
use Rattle.std.proofs.lemmas.Bool.{cases_lt}
use Rattle.std.proofs.lemmas.List.Sums.{fold-append}
use Rattle.mp_records.specs.declared.ids.WireId.{WireId}
use Rattle.mp_records.specs.declared.module_record.ModuleRecord.{ModuleRecord}
use Rattle.mp_records.specs.declared.ports.Output.{Output}
use Rattle.mp_records.specs.Outputs.{output_in, output_at, delay_of}
use Rattle.mp_netlist.specs.Circuit.{Circuit, IsCircuit, IsDelay, module_at}
use Rattle.mp_modules.specs.Delays.{lesser}
use Rattle.mp_netlist.specs.Delays.{delays_of, delays_in, least_delay, IsPortDelay, NoPortDrives, DelaysAreLeast}

-- a least delay is known, and it is at most this one
record AtMost (least : Option ℕ) (delay : ℕ) : Type 0 where
  known : ℕ
  is : least ≡ Some known
  below : known ≤ delay

lesser_at_most : (least : Option ℕ) (delay other : ℕ) → AtMost least delay → AtMost (lesser least other) delay
lesser_at_most None delay other most = let no = most.is in cc
lesser_at_most (Some k) delay other most =
    let same : k ≡ most.known = (let is = most.is in cc) in
    record { known = min k other; is = refl; below = omega (arith, most.below) }

lesser_of : (least : Option ℕ) (delay : ℕ) → AtMost (lesser least delay) delay
lesser_of None delay = record { known = delay; is = refl; below = omega arith }
lesser_of (Some k) delay = record { known = min k delay; is = refl; below = omega arith }

later : (delays : List ℕ) (least : Option ℕ) (delay : ℕ) → AtMost least delay → AtMost (fold lesser least delays) delay
later [] least delay most = most
later (other ∷ delays) least delay most = later delays (lesser least other) delay (lesser_at_most least delay other most)

abbrev wired : List Output → List Output
wired outputs = filter (λ (o : Output). is_some o.wire) outputs

-- the delays of the outputs that have a wire, the first of which has one or none
abbrev more : Bool → Output → List Output → List ℕ
more has o os = map (λ (o : Output). o.delay) (cond has (o ∷ wired os) (wired os))

port_at_most : (outputs : List Output) (p : ℕ) (w : WireId) (least : Option ℕ) → (output_in outputs p).wire ≡ Some w
    → AtMost (fold lesser least (delays_of outputs)) (output_in outputs p).delay
port_at_most [] p w least at = cc
port_at_most (o ∷ os) zero w least at =
    subst (λ has. AtMost (fold lesser least (more has o os)) o.delay) (sym (ap is_some at))
    (later (delays_of os) (lesser least o.delay) o.delay (lesser_of least o.delay))
port_at_most (o ∷ os) (suc p) w least at = by (is_some o.wire) (λ known. port_at_most os p w known at)
  where
    by : (has : Bool) → ((known : Option ℕ) → AtMost (fold lesser known (delays_of os)) (output_in os p).delay)
        → AtMost (fold lesser least (more has o os)) (output_in os p).delay
    by true rest = rest (lesser least o.delay)
    by false rest = rest least

module_at_most : (slots : List (Option ModuleRecord)) (m p : ℕ) (r : ModuleRecord) (w : WireId) (least : Option ℕ) → slice_index_or slots m None ≡ Some r → (output_at r p).wire ≡ Some w
    → AtMost (fold lesser least (flat_map delays_in slots)) (delay_of r p)
module_at_most [] m p r w least at has = cc
module_at_most (slot ∷ slots) zero p r w least at has =
    let here = subst (λ s. AtMost (fold lesser least (delays_in s)) (delay_of r p)) (sym at) (port_at_most r.outputs p w least has) in
    subst (λ known. AtMost known (delay_of r p)) (sym (fold-append lesser least (delays_in slot) (flat_map delays_in slots)))
    (later (flat_map delays_in slots) (fold lesser least (delays_in slot)) (delay_of r p) here)
module_at_most (slot ∷ slots) (suc m) p r w least at has =
    subst (λ known. AtMost known (delay_of r p)) (sym (fold-append lesser least (delays_in slot) (flat_map delays_in slots)))
    (module_at_most slots m p r w (fold lesser least (delays_in slot)) at has)

abbrev IsPositive : Option ℕ → Type 0
IsPositive least = IfSome least (λ delay. 1 ≤ delay)

lesser_positive : (least : Option ℕ) (delay : ℕ) → 1 ≤ delay → IsPositive least → IsPositive (lesser least delay)
lesser_positive None delay one known = one
lesser_positive (Some k) delay one known = omega arith

ports_positive : (outputs : List Output) (least : Option ℕ) → All (λ (o : Output). IsDelay o.delay) outputs → IsPositive least → IsPositive (fold lesser least (delays_of outputs))
ports_positive [] least all known = known
ports_positive (o ∷ os) least all known = by (is_some o.wire) (λ before one. ports_positive os before rest one)
  where
    rest : All (λ (o : Output). IsDelay o.delay) os
    rest k d within = all (suc k) d (omega arith)

    first : 1 ≤ o.delay
    first = let here = all 0 o (omega arith) in omega (arith, here.0)

    by : (has : Bool) → ((before : Option ℕ) → IsPositive before → IsPositive (fold lesser before (delays_of os))) → IsPositive (fold lesser least (more has o os))
    by true others = others (lesser least o.delay) (lesser_positive least o.delay first known)
    by false others = others least known

-- the outputs of what stands in the slot have delays
abbrev HasDelays : Option ModuleRecord → Type 0
HasDelays slot = IfSome slot (λ (r : ModuleRecord). All (λ (o : Output). IsDelay o.delay) r.outputs)

slot_positive : (slot : Option ModuleRecord) (least : Option ℕ) → HasDelays slot → IsPositive least → IsPositive (fold lesser least (delays_in slot))
slot_positive None least delays known = known
slot_positive (Some r) least delays known = ports_positive r.outputs least delays known

modules_positive : (slots : List (Option ModuleRecord)) (least : Option ℕ) → ((m : ℕ) → HasDelays (slice_index_or slots m None)) → IsPositive least
    → IsPositive (fold lesser least (flat_map delays_in slots))
modules_positive [] least all known = known
modules_positive (slot ∷ slots) least all known =
    subst IsPositive (sym (fold-append lesser least (delays_in slot) (flat_map delays_in slots)))
    (modules_positive slots (fold lesser least (delays_in slot)) (λ m. all (suc m)) (slot_positive slot least (all 0) known))

have_delays : (n : Circuit) → IsCircuit n → (m : ℕ) → HasDelays (module_at n m)
have_delays n ok m = by (module_at n m) refl
  where
    by : (slot : Option ModuleRecord) → module_at n m ≡ slot → HasDelays slot
    by None at = tt
    by (Some r) at = (ok.modules_ok m r at).delays

positive_or : (least : Option ℕ) (other : ℕ) → IsPositive least → 1 ≤ other → 1 ≤ unwrap_or least other
positive_or None other known one = one
positive_or (Some k) other known one = known

-- the least delay is the one before, or that of an output with a wire
record AtPort (outputs : List Output) (least : Option ℕ) : Type 0 where
  port : ℕ
  wire : WireId
  has : (output_in outputs port).wire ≡ Some wire
  is : least ≡ Some (output_in outputs port).delay

abbrev later_port : (o : Output) (os : List Output) (least : Option ℕ) → AtPort os least → AtPort (o ∷ os) least
later_port o os least found = record { port = suc found.port; wire = found.wire; has = found.has; is = found.is }

lesser_is : (least : Option ℕ) (delay : ℕ) → (lesser least delay ≡ least) ⊎ (lesser least delay ≡ Some delay)
lesser_is None delay = inr refl
lesser_is (Some k) delay = by (cases_lt k delay)
  where
    by : (k < delay) ⊎ (delay ≤ k) → (Some (min k delay) ≡ Some k) ⊎ (Some (min k delay) ≡ Some delay)
    by (inl low) = let same : min k delay ≡ k = omega arith in inl (ap Some same)
    by (inr low) = let same : min k delay ≡ delay = omega arith in inr (ap Some same)

abbrev AttainsAt : (o : Output) (os : List Output) (least : Option ℕ) → Bool → Type 0
AttainsAt o os least has = (fold lesser least (more has o os) ≡ least) ⊎ AtPort (o ∷ os) (fold lesser least (more has o os))

port_attains : (outputs : List Output) (least : Option ℕ) → (fold lesser least (delays_of outputs) ≡ least) ⊎ AtPort outputs (fold lesser least (delays_of outputs))
port_attains [] least = inl refl
port_attains (o ∷ os) least = by o.wire refl (port_attains os least) (port_attains os (lesser least o.delay))
  where
    taken : (w : WireId) → o.wire ≡ Some w → (lesser least o.delay ≡ least) ⊎ (lesser least o.delay ≡ Some o.delay)
        → (fold lesser (lesser least o.delay) (delays_of os) ≡ lesser least o.delay) ⊎ AtPort os (fold lesser (lesser least o.delay) (delays_of os)) → AttainsAt o os least true
    taken w at kept (inr found) = inr (later_port o os _ found)
    taken w at (inl kept) (inl same) = inl (same ∙ kept)
    taken w at (inr new) (inl same) = inr (record { port = 0; wire = w; has = at; is = same ∙ new })

    passed : (fold lesser least (delays_of os) ≡ least) ⊎ AtPort os (fold lesser least (delays_of os)) → AttainsAt o os least false
    passed (inl same) = inl same
    passed (inr found) = inr (later_port o os _ found)

    by : (wire : Option WireId) → o.wire ≡ wire → (fold lesser least (delays_of os) ≡ least) ⊎ AtPort os (fold lesser least (delays_of os))
        → (fold lesser (lesser least o.delay) (delays_of os) ≡ lesser least o.delay) ⊎ AtPort os (fold lesser (lesser least o.delay) (delays_of os)) → AttainsAt o os least (is_some o.wire)
    by None at without with_it = subst (AttainsAt o os least) (sym (ap is_some at)) (passed without)
    by (Some w) at without with_it = subst (AttainsAt o os least) (sym (ap is_some at)) (taken w at (lesser_is least o.delay) with_it)

-- the least delay is the one before, or that of an output with a wire of a module that stands
record AtModule (slots : List (Option ModuleRecord)) (least : Option ℕ) : Type 0 where
  place : ℕ
  part : ModuleRecord
  stands : slice_index_or slots place None ≡ Some part
  output : AtPort part.outputs least

abbrev Attains : List (Option ModuleRecord) → Option ℕ → Option ℕ → Type 0
Attains slots least known = (known ≡ least) ⊎ AtModule slots known

first_attains : (r : ModuleRecord) (slots : List (Option ModuleRecord)) (least known : Option ℕ) → known ≡ fold lesser least (delays_of r.outputs)
    → (fold lesser least (delays_of r.outputs) ≡ least) ⊎ AtPort r.outputs (fold lesser least (delays_of r.outputs)) → Attains (Some r ∷ slots) least known
first_attains r slots least known same (inl kept) = inl (same ∙ kept)
first_attains r slots least known same (inr found) = inr (record { place = 0; part = r; stands = refl; output = subst (AtPort r.outputs) (sym same) found })

slot_attains : (slot : Option ModuleRecord) (slots : List (Option ModuleRecord)) (least known : Option ℕ) → (known ≡ fold lesser least (delays_in slot)) ⊎ AtModule slots known
    → Attains (slot ∷ slots) least known
slot_attains None slots least known (inl same) = inl same
slot_attains (Some r) slots least known (inl same) = first_attains r slots least known same (port_attains r.outputs least)
slot_attains slot slots least known (inr found) = inr (record { place = suc found.place; part = found.part; stands = found.stands; output = found.output })

module_attains : (slots : List (Option ModuleRecord)) (least : Option ℕ) → Attains slots least (fold lesser least (flat_map delays_in slots))
module_attains [] least = inl refl
module_attains (slot ∷ slots) least =
    subst (Attains (slot ∷ slots) least) (sym (fold-append lesser least (delays_in slot) (flat_map delays_in slots)))
    (slot_attains slot slots least _ (module_attains slots (fold lesser least (delays_in slot))))

least_attained : (n : Circuit) (least : Option ℕ) → fold lesser None (flat_map delays_in n.modules) ≡ least → (least ≡ None) ⊎ AtModule n.modules least
    → IsPortDelay n (unwrap_or least n.horizon) ⊎ ((unwrap_or least n.horizon ≡ n.horizon) × NoPortDrives n)
least_attained n least is (inl none) = inr (
  ap (λ known. unwrap_or known n.horizon) none,
  λ m p w drives.
      let most = module_at_most n.modules m p drives.part (record { 0 = w }) None drives.stands drives.output in
      let no = sym none ∙ sym is ∙ most.is in
      cc,
)
least_attained n least is (inr found) =
    let at = found.output in
    inl (record {
      part = found.place;
      port = at.port;
      wire = at.wire.0;
      drives = record { part = found.part; stands = found.stands; output = at.has };
      same = sym (ap (λ known. unwrap_or known n.horizon) at.is);
    })

pub delays_are_least : DelaysAreLeast
unfolding least_delay
delays_are_least n ok = record {
  positive = positive_or _ n.horizon (modules_positive n.modules None (have_delays n ok) tt) ok.horizon_low;
  least = λ m p w drives.
      let most = module_at_most n.modules m p drives.part (record { 0 = w }) None drives.stands drives.output in
      let same : unwrap_or (fold lesser None (flat_map delays_in n.modules)) n.horizon ≡ most.known = ap (λ known. unwrap_or known n.horizon) most.is in
      omega (arith, same, most.below);
  attained = least_attained n _ refl (module_attains n.modules None);
}
