-- The wires and modules of a part have the levels and states of the netlist, where it hears of those that it reads from elsewhere.
use Rattle.std.proofs.Common.{◌≡◌, ℕ, ◌+◌, ◌-◌, ◌<◌, ◌≤◌, ◌⊎◌, Bool, true, false, cond, nat_lt, List, [], ◌∷◌, ◌++◌, Option, Some, None, is_some, map, zero, suc, refl, ap, sym, subst, ◌∙◌, arith, inl, inr}
use Rattle.std.specs.List.{Contains}
use Rattle.std.proofs.lemmas.Bool.{cases_eq, cases_lt, cases_Bool, lt-ltb, le-ltb}
use Rattle.mp_wave.specs.Waveform.{Waveform, level_from, changes_after, change_after, wave_upto}
use Rattle.mp_wave.proofs.ChangesLemmas.{level_from-changes_after}
use Rattle.mp_modules.specs.declared.memory.Memory.{Memory}
use Rattle.mp_modules.specs.Memories.{output_of}
use Rattle.mp_records.specs.declared.ports.Input.{Input}
use Rattle.mp_records.specs.declared.wire_record.WireRecord.{WireRecord}
use Rattle.mp_records.specs.declared.module_record.ModuleRecord.{ModuleRecord}
use Rattle.mp_records.specs.Outputs.{delay_of}
use Rattle.mp_netlist.specs.declared.driver.Driver.{Driver}
use Rattle.mp_netlist.specs.declared.driver.Driver.TheVariants.{Nothing, Stimulus, Port}
use Rattle.mp_netlist.specs.Circuit.{Circuit, IsCircuit, Drives, wire_at, module_at, stimulus_at, stimulus_in}
use Rattle.mp_netlist.specs.Drivers.{driver, stimulus_driver}
use Rattle.mp_netlist.proofs.DriverLemmas.{finds_ports, finds_only_ports, driven_by, stimulus_drives, leaves_no_driver}
use Rattle.mp_modules.specs.storage.AnyModules.{any_part_of, settle, step, start as part_start}
use Rattle.mp_model.specs.Evaluations.{delay_in}
use Rattle.mp_model.specs.Levels.{built, initial_of, input_by, inputs_by, port_level, driven_level, stimulus_level}
use Rattle.mp_model.specs.Waves.{level, state, slot_wave}
use Rattle.mp_model.proofs.BehaviourLemmas.{satisfies}
use Rattle.mp_model.proofs.EndsLemmas.{first_level}
use Rattle.mp_model.proofs.EvaluationLemmas.{delay_positive}
use Rattle.mp_partition.specs.runs.Checkpoints.{state_before}
use Rattle.mp_partition.specs.runs.Marks.{is_marked}
use Rattle.mp_partition.specs.regions.Readers.{Reads}
use Rattle.mp_partition.specs.regions.Regions.{partition_of, set_on_slot, region, HearsOthers}
use Rattle.mp_partition.proofs.lemmas.regions.RegionLemmas.{module_here, is_here, drives_there, drives_here, wire_heard, wire_unheard, has_stimuli, initial_there, stands_there, module_width_there, region_is}

same_changes : (f g : ℕ → ℕ) (time n last : ℕ) → time + n ≤ last → ((t : ℕ) → t ≤ last → f t ≡ g t) → changes_after f time n ≡ changes_after g time n
same_changes f g time zero last low same = refl
same_changes f g time (suc n) last low same =
    ap (λ xs. xs ++ change_after f (time + n)) (same_changes f g time n last (omega (arith, low)) same) ∙ ap (λ xs. changes_after g time n ++ xs) (same_change (time + n) (omega (arith, low)))
  where
    same_change : (t : ℕ) → suc t ≤ last → change_after f t ≡ change_after g t
    same_change t low = let now = same t (omega (arith, low)) in let next = same (suc t) low in rw (now, next) refl

-- what is kept of a wire's changes up to a time rests on the levels up to it
pub same_wave : (f g : ℕ → ℕ) (last : ℕ) → ((t : ℕ) → t ≤ last → f t ≡ g t) → wave_upto f last ≡ wave_upto g last
same_wave f g last same =
    ap (λ v. let w : Waveform = record { initial = v; changes = changes_after f 0 last } in w) (same 0 (omega arith))
    ∙ ap (λ xs. let w : Waveform = record { initial = g 0; changes = xs } in w) (same_changes f g 0 last last (omega arith) same)

-- every port that drives the wire is of the part
abbrev pub IsSeen : Circuit → List ℕ → ℕ → ℕ → Type 0
IsSeen n homes part w = (m p : ℕ) → Drives n m p w → partition_of homes m ≡ part

-- the part hears of the wire, or drives it if any port does
abbrev pub IsKnownTo : Circuit → List ℕ → ℕ → List Bool → ℕ → Type 0
IsKnownTo n homes part heard w = (is_marked heard w ≡ true) ⊎ IsSeen n homes part w

-- the modules of a part read nothing else
abbrev pub IsClosed : Circuit → List ℕ → ℕ → List Bool → Type 0
IsClosed n homes part heard = (m w : ℕ) → partition_of homes m ≡ part → Reads n m w → IsKnownTo n homes part heard w

module _ (n : Circuit) (ok : IsCircuit n) (homes : List ℕ) (part : ℕ) (heard : List Bool) (apart : HearsOthers n homes part heard) where
  form : IsCircuit (region n homes part heard)
  form = region_is n homes part heard ok apart

  -- a wire that is heard has its levels from outside
  pub heard_driver : (w : ℕ) (r : WireRecord) → is_marked heard w ≡ true → wire_at n w ≡ Some r → driver (region n homes part heard) w ≡ Stimulus
  heard_driver w r is stands =
      stimulus_drives (region n homes part heard) form w (ap (λ slot. is_some (stimulus_in slot)) (wire_heard n homes part heard w is ∙ ap (set_on_slot n.horizon (level n w)) stands))

  level_heard : (w t : ℕ) → is_marked heard w ≡ true → t < n.horizon → level (region n homes part heard) w t ≡ level n w t
  level_heard w t is low = by (wire_at n w) refl
    where
      by : (slot : Option WireRecord) → wire_at n w ≡ slot → level (region n homes part heard) w t ≡ level n w t
      by None none =
          let gone : wire_at (region n homes part heard) w ≡ None = wire_heard n homes part heard w is ∙ ap (set_on_slot n.horizon (level n w)) none in
          (satisfies (region n homes part heard) form).levels w t
          ∙ ap (λ d. driven_level d (region n homes part heard) (state (region n homes part heard)) w t) (leaves_no_driver (region n homes part heard) form w gone)
          ∙ ap initial_of gone ∙ sym (ap initial_of none)
          ∙ sym ((satisfies n ok).levels w t ∙ ap (λ d. driven_level d n (state n) w t) (leaves_no_driver n ok w none))
      by (Some r) stands =
          let at : wire_at (region n homes part heard) w ≡ set_on_slot n.horizon (level n w) (Some r) = wire_heard n homes part heard w is ∙ ap (set_on_slot n.horizon (level n w)) stands in
          let first : r.initial ≡ level n w 0 = sym (first_level n ok w ∙ ap initial_of stands) in
          (satisfies (region n homes part heard) form).levels w t
          ∙ ap (λ d. driven_level d (region n homes part heard) (state (region n homes part heard)) w t) (heard_driver w r is stands)
          ∙ ap (λ slot. stimulus_level (stimulus_in slot) (initial_of slot) t) at
          ∙ ap (λ v. level_from v (changes_after (level n w) 0 (n.horizon - 1)) t) first
          ∙ level_from-changes_after (level n w) 0 (n.horizon - 1) t (omega arith) (omega (arith, low))

  -- a wire that isn't heard, and that the part drives if any port does
  pub same_driver : (w : ℕ) → is_marked heard w ≡ false → IsSeen n homes part w → driver (region n homes part heard) w ≡ driver n w
  same_driver w not seen = by (driven_by n w)
    where
      by : ((m p : ℕ) × Drives n m p w) ⊎ (driver n w ≡ stimulus_driver (stimulus_at n w)) → driver (region n homes part heard) w ≡ driver n w
      by (inl found) =
          finds_ports (region n homes part heard) form found.0 found.1 w (drives_here n homes part heard found.0 found.1 w (seen found.0 found.1 found.2) found.2)
          ∙ sym (finds_ports n ok found.0 found.1 w found.2)
      by (inr none) = other (driven_by (region n homes part heard) w)
        where
          other : ((m p : ℕ) × Drives (region n homes part heard) m p w) ⊎ (driver (region n homes part heard) w ≡ stimulus_driver (stimulus_at (region n homes part heard) w)) → driver (region n homes part heard) w ≡ driver n w
          other (inl found) =
              let drives = drives_there n homes part heard found.0 found.1 w found.2 in
              finds_ports (region n homes part heard) form found.0 found.1 w found.2 ∙ sym (finds_ports n ok found.0 found.1 w drives)
          other (inr same) = same ∙ ap stimulus_driver ((has_stimuli n homes part heard).same w not) ∙ sym none

  -- the states of the part's modules before a time are those of the netlist
  abbrev Agree : ℕ → Type 0
  Agree t = (u m : ℕ) (r : ModuleRecord) → u < t → u < n.horizon → module_at (region n homes part heard) m ≡ Some r → state (region n homes part heard) m u ≡ state n m u

  level_seen : (w t : ℕ) → is_marked heard w ≡ false → IsSeen n homes part w → t < n.horizon → Agree t → level (region n homes part heard) w t ≡ level n w t
  level_seen w t not seen low agree =
      (satisfies (region n homes part heard) form).levels w t
      ∙ ap (λ d. driven_level d (region n homes part heard) (state (region n homes part heard)) w t) (same_driver w not seen)
      ∙ by (driver n w) refl
      ∙ sym ((satisfies n ok).levels w t)
    where
      same_wire : wire_at (region n homes part heard) w ≡ wire_at n w
      same_wire = wire_unheard n homes part heard w not

      port : (m p : ℕ) (slot : Option ModuleRecord) (initial : ℕ) → module_at (region n homes part heard) m ≡ slot → 0 < delay_in slot p
          → port_level (state (region n homes part heard)) slot m p initial t ≡ port_level (state n) slot m p initial t
      port m p None initial at some = refl
      port m p (Some r) initial at some = elim (cases_lt t (delay_of r p)) as (λ _. port_level (state (region n homes part heard)) (Some r) m p initial t ≡ port_level (state n) (Some r) m p initial t) [
        | inl early ↦ rw (lt-ltb t (delay_of r p) early) refl
        | inr past ↦ rw (le-ltb t (delay_of r p) past) (ap (λ (s : Memory). output_of s p) (agree (t - delay_of r p) m r (omega (arith, some, past)) (omega (arith, low)) at))
      ]

      by : (d : Driver) → driver n w ≡ d → driven_level (driver n w) (region n homes part heard) (state (region n homes part heard)) w t ≡ driven_level (driver n w) n (state n) w t
      by Nothing e = rw e (ap initial_of same_wire)
      by Stimulus e = rw e (ap (λ slot. stimulus_level (stimulus_in slot) (initial_of slot) t) same_wire)
      by (Port m p) e =
          let drives = finds_only_ports n w p m e in
          let at = module_here n homes part heard m.0 (seen m.0 p drives) in
          let initial = ap initial_of same_wire in
          rw e (port m.0 p (module_at (region n homes part heard) m.0) (initial_of (wire_at (region n homes part heard) w)) refl (delay_positive (region n homes part heard) form m.0 p)
          ∙ ap (λ slot. port_level (state n) slot m.0 p (initial_of (wire_at (region n homes part heard) w)) t) at ∙ ap (λ v. port_level (state n) (module_at n m.0) m.0 p v t) initial)

  level_known : (w t : ℕ) → IsKnownTo n homes part heard w → t < n.horizon → Agree t → level (region n homes part heard) w t ≡ level n w t
  level_known w t (inl is) low agree = level_heard w t is low
  level_known w t (inr seen) low agree = elim (cases_Bool (is_marked heard w)) as (λ _. level (region n homes part heard) w t ≡ level n w t) [
    | inl is ↦ level_heard w t is low
    | inr not ↦ level_seen w t not seen low agree
  ]

  same_built : (r : ModuleRecord) → built (region n homes part heard) r ≡ built n r
  same_built r = ap (any_part_of r.kind r.params) (module_width_there n homes part heard r)

  module _ (closed : IsClosed n homes part heard) where
    same_inputs : (t : ℕ) (inputs : List Input) → t < n.horizon → Agree t → ((i : Input) → Contains inputs i → IsKnownTo n homes part heard i.wire.0)
        → map (λ i. input_by (region n homes part heard) (level (region n homes part heard)) i t) inputs ≡ map (λ i. input_by n (level n) i t) inputs
    same_inputs t [] low agree known = refl
    same_inputs t (i ∷ is) low agree known =
        let there = level_known i.wire.0 (t - i.delay) (known i (0, omega arith, refl)) (omega (arith, low)) (λ u m r before. agree u m r (omega (arith, before))) in
        let others = same_inputs t is low agree (λ v has. known v (suc has.0, omega (arith, has.1), has.2)) in
        let first : input_by (region n homes part heard) (level (region n homes part heard)) i t ≡ input_by n (level n) i t
        = ap (λ v. cond (nat_lt t i.delay) v (level (region n homes part heard) i.wire.0 (t - i.delay))) (initial_there n homes part heard i.wire.0)
        ∙ ap (cond (nat_lt t i.delay) (initial_of (wire_at n i.wire.0))) there in
        ap (λ x. x ∷ map (λ i. input_by (region n homes part heard) (level (region n homes part heard)) i t) is) first ∙ ap (λ xs. input_by n (level n) i t ∷ xs) others

    inputs_known : (m : ℕ) (r : ModuleRecord) → module_at (region n homes part heard) m ≡ Some r → (i : Input) → Contains r.inputs i → IsKnownTo n homes part heard i.wire.0
    inputs_known m r at i has =
        let is = is_here n homes part heard m r at in
        closed m i.wire.0 is.home (record { part = r; stands = is.stands; port = i; input = has; wire = refl })

    state_now : (t m : ℕ) (r : ModuleRecord) → t < n.horizon → Agree t → module_at (region n homes part heard) m ≡ Some r → state (region n homes part heard) m t ≡ state n m t
    state_now zero m r low agree at =
        let is = is_here n homes part heard m r at in
        (satisfies (region n homes part heard) form).settled m r at
        ∙ ap (λ p. settle p (inputs_by (region n homes part heard) (level (region n homes part heard)) r 0)) (same_built r)
        ∙ ap (settle (built n r)) (same_inputs 0 r.inputs low agree (inputs_known m r at))
        ∙ sym ((satisfies n ok).settled m r is.stands)
    state_now (suc v) m r low agree at =
        let is = is_here n homes part heard m r at in
        let e : v + 1 ≡ suc v = omega arith in
        subst (λ k. state (region n homes part heard) m k ≡ state n m k) e
        ((satisfies (region n homes part heard) form).stepped m v r at
        ∙ ap (λ p. step p (state (region n homes part heard) m v) (inputs_by (region n homes part heard) (level (region n homes part heard)) r (v + 1))) (same_built r)
        ∙ ap (λ s. step (built n r) s (inputs_by (region n homes part heard) (level (region n homes part heard)) r (v + 1))) (agree v m r (omega arith) (omega (arith, low)) at)
        ∙ ap (step (built n r) (state n m v)) (same_inputs (v + 1) r.inputs (omega (arith, low)) (λ u k q before. agree u k q (omega (arith, before))) (inputs_known m r at))
        ∙ sym ((satisfies n ok).stepped m v r is.stands))

    agree_before : (t : ℕ) → Agree t
    agree_before zero u m r before low at = absurd (let no : ⊥ = omega (arith, before) in no)
    agree_before (suc t) u m r before low at = elim (cases_eq u t) as (λ _. state (region n homes part heard) m u ≡ state n m u) [
      | inl same ↦ subst (λ k. state (region n homes part heard) m k ≡ state n m k) (sym same) (state_now t m r (omega (arith, same, low)) (agree_before t) at)
      | inr other ↦ agree_before t u m r (omega (arith, before, other)) low at
    ]

    pub region_state : (m t : ℕ) (r : ModuleRecord) → t < n.horizon → module_at (region n homes part heard) m ≡ Some r → state (region n homes part heard) m t ≡ state n m t
    region_state m t r low at = agree_before (t + 1) t m r (omega arith) low at

    pub region_level : (w t : ℕ) → IsKnownTo n homes part heard w → t < n.horizon → level (region n homes part heard) w t ≡ level n w t
    region_level w t known low = level_known w t known low (agree_before t)

    pub region_before : (m t : ℕ) (r : ModuleRecord) → t < n.horizon → module_at (region n homes part heard) m ≡ Some r → state_before (region n homes part heard) m r t ≡ state_before n m r t
    region_before m zero r low at = ap part_start (same_built r)
    region_before m (suc u) r low at = region_state m u r (omega (arith, low)) at

    -- the wave of a wire that no other part drives
    pub region_wave : (w : ℕ) → IsSeen n homes part w → slot_wave (region n homes part heard) w (wire_at (region n homes part heard) w) ≡ slot_wave n w (wire_at n w)
    region_wave w seen = by (wire_at (region n homes part heard) w) (wire_at n w) (stands_there n homes part heard w)
      where
        by : (a b : Option WireRecord) → is_some a ≡ is_some b → slot_wave (region n homes part heard) w a ≡ slot_wave n w b
        by None None same = refl
        by None (Some s) same = cc
        by (Some r) None same = cc
        by (Some r) (Some s) same = ap Some (same_wave (level (region n homes part heard) w) (level n w) (n.horizon - 1) (λ t low.
            region_level w t (inr seen) (let some = ok.horizon_low in omega (arith, low, some))))
