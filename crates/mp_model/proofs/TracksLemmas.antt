-- The tracks of all wires, while modules answer one after the other.
use Rattle.std.proofs.Common.{◌≡◌, ℕ, ◌+◌, ◌<◌, ◌≤◌, ◌⊎◌, List, Option, Some, None, IfSome, option_map, map, length, slice_set, refl, ap, sym, subst, ◌∙◌, arith, inl, inr}
use Rattle.std.proofs.lemmas.Bool.{cases_lt, cases_eq}
use Rattle.std.proofs.lemmas.List.{get_or_past, get_or-set_same, get_or-set_other, length-map}
use Rattle.std.proofs.Math.ListN.{length-set}
use Rattle.mp_modules.specs.Memories.{output_of}
use Rattle.mp_modules.specs.Kinds.{output_width}
use Rattle.mp_records.specs.declared.ids.WireId.{WireId}
use Rattle.mp_records.specs.declared.ids.ModuleId.{ModuleId}
use Rattle.mp_records.specs.declared.ports.Output.{Output}
use Rattle.mp_records.specs.declared.module_record.ModuleRecord.{ModuleRecord}
use Rattle.mp_records.specs.declared.wire_record.WireRecord.{WireRecord}
use Rattle.mp_netlist.specs.declared.driver.Driver.{Driver}
use Rattle.mp_netlist.specs.declared.driver.Driver.TheVariants.{Nothing, Stimulus, Port}
use Rattle.mp_netlist.specs.Slots.{slot_at}
use Rattle.mp_netlist.specs.Circuit.{Circuit, IsCircuit, Drives, HasWidth, module_width, wire_at, module_at}
use Rattle.mp_records.specs.Outputs.{output_at, delay_of}
use Rattle.mp_netlist.specs.Drivers.{driver}
use Rattle.mp_netlist.proofs.DriverLemmas.{finds_ports, finds_only_ports}
use Rattle.mp_model.specs.Tracks.{Progress, advanced}
use Rattle.mp_model.specs.Evaluations.{IsReached, IsOnTrack, IsTrackOf, AreTracks, IsOpenAt, delay_in, delivered, with_expected}
use Rattle.mp_model.specs.Waves.{state}
use Rattle.mp_model.proofs.SlotLemmas.{slot_at-map, slot_within, some_within}
use Rattle.mp_model.proofs.EvaluationLemmas as units

-- what holds of each track holds of what stands in each slot
pub IsTrackOf-map : (n : Circuit) (known new : ℕ → ℕ → ℕ) (s t w : ℕ) (f : Progress → Progress) (wire : Option WireRecord) (slot : Option Progress)
    → ((track : Progress) → IsOnTrack n known s w track → IsOnTrack n new t w (f track)) → IsTrackOf n known s w wire slot → IsTrackOf n new t w wire (option_map f slot)
IsTrackOf-map n known new s t w f None None keeps on = tt
IsTrackOf-map n known new s t w f None (Some track) keeps on = absurd on
IsTrackOf-map n known new s t w f (Some r) None keeps on = absurd on
IsTrackOf-map n known new s t w f (Some r) (Some track) keeps on = keeps track on

pub IsTrackOf-keep : (n : Circuit) (known new : ℕ → ℕ → ℕ) (t w : ℕ) (wire : Option WireRecord) (slot : Option Progress)
    → ((track : Progress) → IsOnTrack n known t w track → IsOnTrack n new t w track) → IsTrackOf n known t w wire slot → IsTrackOf n new t w wire slot
IsTrackOf-keep n known new t w None None keeps on = tt
IsTrackOf-keep n known new t w None (Some track) keeps on = absurd on
IsTrackOf-keep n known new t w (Some r) None keeps on = absurd on
IsTrackOf-keep n known new t w (Some r) (Some track) keeps on = keeps track on

IsTrackOf-same : (n : Circuit) (known new : ℕ → ℕ → ℕ) (t w : ℕ) (wire : Option WireRecord) (slot : Option Progress)
    → ((m : ModuleId) (p : ℕ) → driver n w ≡ Port m p → known m.0 p ≡ new m.0 p) → IsTrackOf n known t w wire slot → IsTrackOf n new t w wire slot
IsTrackOf-same n known new t w wire slot same on = IsTrackOf-keep n known new t w wire slot (λ track. units.known_same n known new t w track same) on

-- the tracks stand as they did where no driver has delivered more
pub tracks_same : (n : Circuit) (known new : ℕ → ℕ → ℕ) (t : ℕ) (tracks : List (Option Progress))
    → ((w : ℕ) (m : ModuleId) (p : ℕ) → Drives n m.0 p w → known m.0 p ≡ new m.0 p) → AreTracks n known t tracks → AreTracks n new t tracks
tracks_same n known new t tracks same are = record {
  places = are.places;
  each = λ w. IsTrackOf-same n known new t w (wire_at n w) (slot_at tracks w) (λ m p e. same w m p (finds_only_ports n w p m e)) (are.each w);
}

-- a module that drives a wire stands
stands_within : (n : Circuit) (m p w : ℕ) → Drives n m p w → m < length n.modules
stands_within n m p w drives = slot_within n.modules m drives.part drives.stands

-- all modules have delivered
pub tracks_all : (n : Circuit) (t : ℕ) (tracks : List (Option Progress)) → AreTracks n (delivered t (length n.modules) 0) t tracks → AreTracks n (λ m p. t + 1) t tracks
tracks_all n t tracks are =
    tracks_same n (delivered t (length n.modules) 0) (λ m p. t + 1) t tracks (λ w m p drives. units.delivered_done t (length n.modules) 0 m.0 p (stands_within n m.0 p w drives)) are

-- a unit later
pub tracks_advanced : (n : Circuit) → IsCircuit n → (t : ℕ) (tracks : List (Option Progress)) → t + 1 < n.horizon → AreTracks n (delivered t (length n.modules) 0) t tracks
    → AreTracks n (delivered (t + 1) 0 0) (t + 1) (map (option_map (advanced (t + 1))) tracks)
tracks_advanced n ok t tracks low are =
    let all : ℕ → ℕ → ℕ = λ m p. t + 1 in
    let now = tracks_all n t tracks are in
    let later : AreTracks n all (t + 1) (map (option_map (advanced (t + 1))) tracks) = record {
      places = length-map tracks (option_map (advanced (t + 1))) ∙ are.places;
      each = λ w. subst (IsTrackOf n all (t + 1) w (wire_at n w)) (sym (slot_at-map (advanced (t + 1)) tracks w))
          (IsTrackOf-map n all all t (t + 1) w (advanced (t + 1)) (wire_at n w) (slot_at tracks w) (λ track. units.on_track_advanced n ok t w track low) (now.each w));
    } in
    tracks_same n all (delivered (t + 1) 0 0) (t + 1) (map (option_map (advanced (t + 1))) tracks) (λ w m p drives. sym (units.delivered_none (t + 1) m.0 p)) later

-- the wire of an output stands
driven_within : (n : Circuit) → IsCircuit n → (m p : ℕ) (r : ModuleRecord) (wire : WireId) → module_at n m ≡ Some r → (output_at r p).wire ≡ Some wire → wire.0 < length n.wires
driven_within n ok m p r wire at is =
    let P : Option WireId → Type 0 = λ named. IfSome named (λ v. HasWidth n v.0 (output_width r.kind (module_width n r) p)) in
    let width : P (Some wire) = subst P is ((ok.modules_ok m r at).drives p) in
    some_within n.wires wire.0 width.0

-- a port that drives another wire is another port
other_port : (n : Circuit) (m p w v : ℕ) (r : ModuleRecord) (wire : Option WireId) (k : ModuleId) (q : ℕ) → module_at n m ≡ Some r → (output_at r p).wire ≡ wire → Drives n k.0 q v
    → (wire ≡ Some (record { 0 = v }) → ⊥) → k.0 ≡ m → q ≡ p → ⊥
other_port n m p w v r wire k q at is drives other same_module same_port =
    let stands : module_at n m ≡ Some drives.part = ap (module_at n) (sym same_module) ∙ drives.stands in
    let part : drives.part ≡ r = cc in
    let output : (output_at r p).wire ≡ Some (record { 0 = v }) = subst (λ x. (output_at x p).wire ≡ Some (record { 0 = v })) part (subst (λ x. (output_at drives.part x).wire ≡ Some (record { 0 = v })) same_port drives.output) in
    other (sym is ∙ output)

abbrev number_of : Option WireId → ℕ
number_of None = 0
number_of (Some wire) = wire.0

-- a port that drives a wire is one of its module's
port_within : (n : Circuit) (m : ℕ) (r : ModuleRecord) (k : ModuleId) (q w : ℕ) → module_at n m ≡ Some r → Drives n k.0 q w → k.0 ≡ m → q < length r.outputs
port_within n m r k q w at drives same =
    let stands : module_at n m ≡ Some drives.part = ap (module_at n) (sym same) ∙ drives.stands in
    let part : drives.part ≡ r = cc in
    let output : (output_at r q).wire ≡ Some (record { 0 = w }) = subst (λ x. (output_at x q).wire ≡ Some (record { 0 = w })) part drives.output in
    elim (cases_lt q (length r.outputs)) as (λ _. q < length r.outputs) [
      | inl within ↦ within
      | inr past ↦ let none = ap (λ (o : Output). o.wire) (get_or_past r.outputs q (record { wire = None; delay = 1 }) past) in cc
    ]

-- a port without a wire has nothing to deliver
pub tracks_without_wire : (n : Circuit) (t m p : ℕ) (r : ModuleRecord) (tracks : List (Option Progress)) → module_at n m ≡ Some r → (output_at r p).wire ≡ None
    → AreTracks n (delivered t m p) t tracks → AreTracks n (delivered t m (p + 1)) t tracks
tracks_without_wire n t m p r tracks at none are =
    tracks_same n (delivered t m p) (delivered t m (p + 1)) t tracks
    (λ w k q drives. units.delivered_step t m p k.0 q (other_port n m p w w r None k q at none drives (λ e. cc))) are

-- a port with a wire gives it one more level
pub tracks_with_wire : (n : Circuit) → IsCircuit n → (t m p : ℕ) (r : ModuleRecord) (wire : WireId) (tracks : List (Option Progress)) → module_at n m ≡ Some r → (output_at r p).wire ≡ Some wire
    → t + delay_of r p < n.horizon → AreTracks n (delivered t m p) t tracks → AreTracks n (delivered t m (p + 1)) t (with_expected tracks wire.0 (t + delay_of r p) (output_of (state n m t) p))
tracks_with_wire n ok t m p r wire tracks at is low are = record { places = length-set tracks wire.0 slot ∙ are.places; each = each }
  where
    f : Progress → Progress
    f = units.delivering n m p t r

    slot : Option Progress
    slot = option_map f (slot_at tracks wire.0)

    drives : Drives n m p wire.0
    drives = record { part = r; stands = at; output = is }

    here : IsTrackOf n (delivered t m (p + 1)) t wire.0 (wire_at n wire.0) slot
    here = IsTrackOf-map n (delivered t m p) (delivered t m (p + 1)) t t wire.0 f (wire_at n wire.0) (slot_at tracks wire.0)
        (λ track on. units.on_track_delivered n ok (delivered t m p) (delivered t m (p + 1)) t m p wire.0 r track at (finds_ports n ok m p wire.0 drives)
        (units.delivered_not_yet t m p m p refl (omega arith)) (units.delivered_port t m (p + 1) m p refl (omega arith)) low on)
        (are.each wire.0)

    within : wire.0 < length tracks
    within = let long = driven_within n ok m p r wire at is in omega (arith, long, are.places)

    each : (w : ℕ) → IsTrackOf n (delivered t m (p + 1)) t w (wire_at n w) (slot_at (slice_set tracks wire.0 slot) w)
    each w = elim (cases_eq w wire.0) as (λ _. IsTrackOf n (delivered t m (p + 1)) t w (wire_at n w) (slot_at (slice_set tracks wire.0 slot) w)) [
      | inl same ↦
          subst (λ v. IsTrackOf n (delivered t m (p + 1)) t v (wire_at n v) (slot_at (slice_set tracks wire.0 slot) v)) (sym same)
          (subst (IsTrackOf n (delivered t m (p + 1)) t wire.0 (wire_at n wire.0)) (sym (get_or-set_same tracks wire.0 slot None within)) here)
      | inr other ↦
          subst (IsTrackOf n (delivered t m (p + 1)) t w (wire_at n w)) (sym (get_or-set_other tracks wire.0 w slot None other))
          (IsTrackOf-same n (delivered t m p) (delivered t m (p + 1)) t w (wire_at n w) (slot_at tracks w)
          (λ k q e. units.delivered_step t m p k.0 q (other_port n m p w w r (Some wire) k q at is (finds_only_ports n w q k e) (λ h. other (ap (λ (o : Option WireId). number_of o) (sym h)))))
          (are.each w))
    ]

-- where a module's port leads, all levels from its delay on may still be given
pub tracks_open : (n : Circuit) → IsCircuit n → (t m p : ℕ) (r : ModuleRecord) (wire : WireId) (tracks : List (Option Progress)) → module_at n m ≡ Some r → (output_at r p).wire ≡ Some wire
    → AreTracks n (delivered t m p) t tracks → IsOpenAt (t + delay_of r p) (slot_at tracks wire.0)
tracks_open n ok t m p r wire tracks at is are = by (wire_at n wire.0) (slot_at tracks wire.0) (are.each wire.0)
  where
    drives : driver n wire.0 ≡ Port (record { 0 = m }) p
    drives = finds_ports n ok m p wire.0 (record { part = r; stands = at; output = is })

    by : (named : Option WireRecord) (slot : Option Progress) → IsTrackOf n (delivered t m p) t wire.0 named slot → IsOpenAt (t + delay_of r p) slot
    by named None on = tt
    by None (Some track) on = absurd on
    by (Some record_of) (Some track) on = (units.open_at n (delivered t m p) m p t wire.0 r track at drives (units.delivered_not_yet t m p m p refl (omega arith)) on).0

-- a port whose level comes at the horizon or later has nothing to deliver
pub tracks_past_horizon : (n : Circuit) (t m p : ℕ) (r : ModuleRecord) (tracks : List (Option Progress)) → module_at n m ≡ Some r → n.horizon ≤ t + delay_of r p
    → AreTracks n (delivered t m p) t tracks → AreTracks n (delivered t m (p + 1)) t tracks
tracks_past_horizon n t m p r tracks at past are = record {
  places = are.places;
  each = λ w. IsTrackOf-keep n old new t w (wire_at n w) (slot_at tracks w) (λ track. units.known_more n old new t w track (λ k q e. units.delivered_more t m p k.0 q) (λ u. below u (driver n w))) (are.each w);
}
  where
    old : ℕ → ℕ → ℕ
    old = delivered t m p

    new : ℕ → ℕ → ℕ
    new = delivered t m (p + 1)

    below : (u : ℕ) (d : Driver) → u < n.horizon → IsReached n new d u → IsReached n old d u
    below u Nothing low reached = tt
    below u Stimulus low reached = tt
    below u (Port k q) low reached = by (cases_eq k.0 m) (cases_eq q p)
      where
        by : (k.0 ≡ m) ⊎ (k.0 ≡ m → ⊥) → (q ≡ p) ⊎ (q ≡ p → ⊥) → IsReached n old (Port k q) u
        by (inl same_module) (inl same_port) =
            let was : old k.0 q ≡ t = units.delivered_not_yet t m p k.0 q same_module (omega (arith, same_port)) in
            let stands : module_at n k.0 ≡ Some r = ap (module_at n) same_module ∙ at in
            let late : u < t + delay_of r q = subst (λ x. u < t + delay_of r x) (sym same_port) (omega (arith, low, past)) in
            subst (λ slot. u < old k.0 q + delay_in slot q) (sym stands) (omega (arith, late, was))
        by (inr other) port = let is = units.delivered_step t m p k.0 q (λ e f. other e) in omega (arith, is, reached)
        by (inl same_module) (inr other) = let is = units.delivered_step t m p k.0 q (λ e f. other f) in omega (arith, is, reached)

-- when all ports have delivered
pub tracks_after_ports : (n : Circuit) (t m : ℕ) (r : ModuleRecord) (tracks : List (Option Progress)) → module_at n m ≡ Some r
    → AreTracks n (delivered t m (length r.outputs)) t tracks → AreTracks n (delivered t (m + 1) 0) t tracks
tracks_after_ports n t m r tracks at are =
    tracks_same n (delivered t m (length r.outputs)) (delivered t (m + 1) 0) t tracks (λ w k q drives. units.delivered_next t m (length r.outputs) k.0 q (λ same. port_within n m r k q w at drives same)) are

-- where no module stands there is nothing to deliver
pub tracks_without_module : (n : Circuit) (t m : ℕ) (tracks : List (Option Progress)) → module_at n m ≡ None → AreTracks n (delivered t m 0) t tracks → AreTracks n (delivered t (m + 1) 0) t tracks
tracks_without_module n t m tracks none are =
    tracks_same n (delivered t m 0) (delivered t (m + 1) 0) t tracks
    (λ w k q drives. units.delivered_next t m 0 k.0 q (λ same. let stands = ap (module_at n) (sym same) ∙ drives.stands in cc)) are
