-- Wires that are on and active modules have the levels and states of the netlist.
use Rattle.std.proofs.Common.{◌≡◌, ℕ, ◌+◌, ◌-◌, ◌<◌, ◌⊎◌, Bool, true, false, not, cond, nat_lt, List, [], ◌∷◌, Option, Some, None, is_some, map, zero, suc, refl, ap, sym, subst, ◌∙◌, arith, inl, inr}
use Rattle.std.specs.List.{Contains}
use Rattle.std.proofs.lemmas.Bool.{cases_eq, cases_lt, cases_Bool, lt-ltb, le-ltb}
use Rattle.mp_wave.specs.Waveform.{level_from, changes_after}
use Rattle.mp_wave.proofs.ChangesLemmas.{level_from-changes_after}
use Rattle.mp_modules.specs.declared.memory.Memory.{Memory}
use Rattle.mp_modules.specs.Memories.{output_of}
use Rattle.mp_records.specs.declared.ids.ModuleId.{ModuleId}
use Rattle.mp_records.specs.declared.ports.Input.{Input}
use Rattle.mp_records.specs.declared.wire_record.WireRecord.{WireRecord}
use Rattle.mp_records.specs.declared.module_record.ModuleRecord.{ModuleRecord}
use Rattle.mp_records.specs.Outputs.{delay_of}
use Rattle.mp_netlist.specs.declared.driver.Driver.{Driver}
use Rattle.mp_netlist.specs.declared.driver.Driver.TheVariants.{Nothing, Stimulus, Port}
use Rattle.mp_netlist.specs.Circuit.{Circuit, IsCircuit, Drives, wire_at, module_at, stimulus_at, stimulus_in}
use Rattle.mp_netlist.specs.Drivers.{driver, is_port, stimulus_driver}
use Rattle.mp_netlist.proofs.DriverLemmas.{finds_ports, finds_only_ports, driven_by, driven_stands, stimulus_drives}
use Rattle.mp_modules.specs.storage.AnyModules.{settle, step}
use Rattle.mp_model.specs.Evaluations.{delay_in}
use Rattle.mp_model.specs.Levels.{built, initial_of, input_by, inputs_by, port_level, driven_level, stimulus_level}
use Rattle.mp_model.specs.Waves.{level, state}
use Rattle.mp_model.proofs.BehaviourLemmas.{satisfies}
use Rattle.mp_model.proofs.EndsLemmas.{first_level}
use Rattle.mp_model.proofs.EvaluationLemmas.{delay_positive}
use Rattle.mp_partition.specs.regions.Regions.{set_on_slot}
use Rattle.mp_active.specs.excerpt.Excerpts.{is_followed, unset_slot, excerpt, ArePortsOn, driver_on, ExcerptsHaveLevels, ExcerptsHaveStates, ExcerptsHaveDecided, OffWiresRest, ExcerptsHaveDrivers}
use Rattle.mp_active.proofs.lemmas.excerpt.ExcerptLemmas.{excerpt_ok, module_active, drives_there, drives_active, drives_here, wire_off, wire_followed, wire_own, initial_there, built_there}

module _ (n : Circuit) (ok : IsCircuit n) (active on : ℕ → Bool) (ports : ArePortsOn n active on) where
  seen_ok : IsCircuit (excerpt n active on)
  seen_ok = excerpt_ok n active on ok ports

  -- ---- drivers
  is_wire : (slot : Option WireRecord) → is_some slot ≡ true → (levels : ℕ → ℕ) → is_some (stimulus_in (set_on_slot n.horizon levels slot)) ≡ true
  is_wire None some levels = let no : ⊥ = cc in absurd no
  is_wire (Some r) some levels = refl

  followed_driver : (m p w : ℕ) → on w ≡ true → active m ≡ false → Drives n m p w → driver (excerpt n active on) w ≡ Stimulus
  followed_driver m p w is asleep drives =
      let followed : is_followed active (driver n w) ≡ true = ap (is_followed active) (finds_ports n ok m p w drives) ∙ ap not asleep in
      stimulus_drives (excerpt n active on) seen_ok w
      (ap (λ slot. is_some (stimulus_in slot)) (wire_followed n active on w is followed) ∙ is_wire (wire_at n w) (driven_stands n ok m p w drives) (level n w))

  unported : (w : ℕ) → on w ≡ true → is_port (driver n w) ≡ false → is_followed active (driver n w) ≡ false → driver (excerpt n active on) w ≡ driver n w
  unported w is no_port own = there (driven_by (excerpt n active on) w)
    where
      here : ((m p : ℕ) × Drives n m p w) ⊎ (driver n w ≡ stimulus_driver (stimulus_at n w)) → stimulus_driver (stimulus_at n w) ≡ driver n w
      here (inl found) = let port = ap is_port (finds_ports n ok found.0 found.1 w found.2) in let no : ⊥ = cc in absurd no
      here (inr same) = sym same

      there : ((m p : ℕ) × Drives (excerpt n active on) m p w) ⊎ (driver (excerpt n active on) w ≡ stimulus_driver (stimulus_at (excerpt n active on) w)) → driver (excerpt n active on) w ≡ driver n w
      there (inl found) =
          let port = ap is_port (finds_ports n ok found.0 found.1 w (drives_there n active on found.0 found.1 w found.2)) in
          let no : ⊥ = cc in absurd no
      there (inr same) = same ∙ ap (λ slot. stimulus_driver (stimulus_in slot)) (wire_own n active on w is own) ∙ here (driven_by n w)

  on_driver : (w : ℕ) (d : Driver) → driver n w ≡ d → on w ≡ true → driver (excerpt n active on) w ≡ driver_on active d
  on_driver w Nothing e is = unported w is (ap is_port e) (ap (is_followed active) e) ∙ e
  on_driver w Stimulus e is = unported w is (ap is_port e) (ap (is_followed active) e) ∙ e
  on_driver w (Port m p) e is =
      let drives = finds_only_ports n w p m e in
      elim (cases_Bool (active m.0)) as (λ _. driver (excerpt n active on) w ≡ cond (active m.0) (Port m p) Stimulus) [
        | inl awake ↦ finds_ports (excerpt n active on) seen_ok m.0 p w (drives_here n active on m.0 p w awake drives) ∙ rw awake refl
        | inr asleep ↦ followed_driver m.0 p w is asleep drives ∙ rw asleep refl
      ]

  off_driver : (w : ℕ) → on w ≡ false → driver (excerpt n active on) w ≡ Nothing
  off_driver w off = by (driven_by (excerpt n active on) w)
    where
      none : (slot : Option WireRecord) → stimulus_driver (stimulus_in (unset_slot slot)) ≡ Nothing
      none None = refl
      none (Some r) = refl

      by : ((m p : ℕ) × Drives (excerpt n active on) m p w) ⊎ (driver (excerpt n active on) w ≡ stimulus_driver (stimulus_at (excerpt n active on) w)) → driver (excerpt n active on) w ≡ Nothing
      by (inl found) =
          let is = ports.driven found.0 found.1 w (drives_active n active on found.0 found.1 w found.2) (drives_there n active on found.0 found.1 w found.2) in
          let no : ⊥ = cc in absurd no
      by (inr same) = same ∙ ap (λ slot. stimulus_driver (stimulus_in slot)) (wire_off n active on w off) ∙ none (wire_at n w)

  driver_is : (w : ℕ) → driver (excerpt n active on) w ≡ cond (on w) (driver_on active (driver n w)) Nothing
  driver_is w = elim (cases_Bool (on w)) as (λ _. driver (excerpt n active on) w ≡ cond (on w) (driver_on active (driver n w)) Nothing) [
    | inl is ↦ on_driver w (driver n w) refl is ∙ rw is refl
    | inr off ↦ off_driver w off ∙ rw off refl
  ]

  -- ---- levels
  level_off : (w t : ℕ) → on w ≡ false → level (excerpt n active on) w t ≡ initial_of (wire_at n w)
  level_off w t off =
      (satisfies (excerpt n active on) seen_ok).levels w t
      ∙ ap (λ d. driven_level d (excerpt n active on) (state (excerpt n active on)) w t) (off_driver w off)
      ∙ initial_there n active on w

  level_followed : (m p w t : ℕ) → on w ≡ true → active m ≡ false → Drives n m p w → t < n.horizon → level (excerpt n active on) w t ≡ level n w t
  level_followed m p w t is asleep drives low = by (wire_at n w) refl (driven_stands n ok m p w drives)
    where
      by : (slot : Option WireRecord) → wire_at n w ≡ slot → is_some slot ≡ true → level (excerpt n active on) w t ≡ level n w t
      by None none some = let no : ⊥ = cc in absurd no
      by (Some r) stands some =
          let followed : is_followed active (driver n w) ≡ true = ap (is_followed active) (finds_ports n ok m p w drives) ∙ ap not asleep in
          let at : wire_at (excerpt n active on) w ≡ set_on_slot n.horizon (level n w) (Some r) = wire_followed n active on w is followed ∙ ap (set_on_slot n.horizon (level n w)) stands in
          let first : r.initial ≡ level n w 0 = sym (first_level n ok w ∙ ap initial_of stands) in
          (satisfies (excerpt n active on) seen_ok).levels w t
          ∙ ap (λ d. driven_level d (excerpt n active on) (state (excerpt n active on)) w t) (followed_driver m p w is asleep drives)
          ∙ ap (λ slot. stimulus_level (stimulus_in slot) (initial_of slot) t) at
          ∙ ap (λ v. level_from v (changes_after (level n w) 0 (n.horizon - 1)) t) first
          ∙ level_from-changes_after (level n w) 0 (n.horizon - 1) t (omega arith) (omega (arith, low))

  -- a wire that no port drives
  level_unported : (w t : ℕ) (d : Driver) → driver n w ≡ d → is_port d ≡ false → on w ≡ true → level (excerpt n active on) w t ≡ level n w t
  level_unported w t Nothing e none is =
      (satisfies (excerpt n active on) seen_ok).levels w t
      ∙ ap (λ d. driven_level d (excerpt n active on) (state (excerpt n active on)) w t) (on_driver w Nothing e is)
      ∙ initial_there n active on w
      ∙ sym ((satisfies n ok).levels w t ∙ ap (λ d. driven_level d n (state n) w t) e)
  level_unported w t Stimulus e none is =
      (satisfies (excerpt n active on) seen_ok).levels w t
      ∙ ap (λ d. driven_level d (excerpt n active on) (state (excerpt n active on)) w t) (on_driver w Stimulus e is)
      ∙ ap (λ slot. stimulus_level (stimulus_in slot) (initial_of slot) t) (wire_own n active on w is (ap (is_followed active) e))
      ∙ sym ((satisfies n ok).levels w t ∙ ap (λ d. driven_level d n (state n) w t) e)
  level_unported w t (Port m p) e none is = let no : ⊥ = cc in absurd no

  -- a wire that an active port drives, where the state agrees that its level comes from
  level_driven : (w p t : ℕ) (m : ModuleId) (r : ModuleRecord) → driver n w ≡ Port m p → active m.0 ≡ true → module_at n m.0 ≡ Some r
      → ((u : ℕ) → u + delay_of r p ≡ t → state (excerpt n active on) m.0 u ≡ state n m.0 u) → level (excerpt n active on) w t ≡ level n w t
  level_driven w p t m r e awake at same =
      let drives = finds_only_ports n w p m e in
      let is = ports.driven m.0 p w awake drives in
      (satisfies (excerpt n active on) seen_ok).levels w t
      ∙ ap (λ d. driven_level d (excerpt n active on) (state (excerpt n active on)) w t) (on_driver w (Port m p) e is ∙ ap (λ b. cond b (Port m p) Stimulus) awake)
      ∙ ap (λ slot. port_level (state (excerpt n active on)) slot m.0 p (initial_of (wire_at (excerpt n active on) w)) t) (module_active n active on m.0 awake ∙ at)
      ∙ ap (λ v. port_level (state (excerpt n active on)) (Some r) m.0 p v t) (initial_there n active on w)
      ∙ elim (cases_lt t (delay_of r p)) as (λ _. port_level (state (excerpt n active on)) (Some r) m.0 p (initial_of (wire_at n w)) t ≡ port_level (state n) (Some r) m.0 p (initial_of (wire_at n w)) t) [
        | inl early ↦ rw (lt-ltb t (delay_of r p) early) refl
        | inr past ↦ rw (le-ltb t (delay_of r p) past) (ap (λ (s : Memory). output_of s p) (same (t - delay_of r p) (omega (arith, past))))
      ]
      ∙ sym ((satisfies n ok).levels w t ∙ ap (λ d. driven_level d n (state n) w t) e ∙ ap (λ slot. port_level (state n) slot m.0 p (initial_of (wire_at n w)) t) at)

  -- the states of active modules before a time are those of the netlist
  abbrev Agree : ℕ → Type 0
  Agree t = (u m : ℕ) (r : ModuleRecord) → u < t → u < n.horizon → active m ≡ true → module_at n m ≡ Some r → state (excerpt n active on) m u ≡ state n m u

  level_by : (w t : ℕ) (d : Driver) → driver n w ≡ d → on w ≡ true → t < n.horizon → Agree t → level (excerpt n active on) w t ≡ level n w t
  level_by w t Nothing e is low agree = level_unported w t Nothing e refl is
  level_by w t Stimulus e is low agree = level_unported w t Stimulus e refl is
  level_by w t (Port m p) e is low agree =
      let drives = finds_only_ports n w p m e in
      let positive : 0 < delay_of drives.part p = subst (λ slot. 0 < delay_in slot p) drives.stands (delay_positive n ok m.0 p) in
      elim (cases_Bool (active m.0)) as (λ _. level (excerpt n active on) w t ≡ level n w t) [
        | inl awake ↦ level_driven w p t m drives.part e awake drives.stands (λ u time. agree u m.0 drives.part (omega (arith, positive, time)) (omega (arith, time, low)) awake drives.stands)
        | inr asleep ↦ level_followed m.0 p w t is asleep drives low
      ]

  same_inputs : (t : ℕ) (inputs : List Input) → t < n.horizon → Agree t → ((i : Input) → Contains inputs i → on i.wire.0 ≡ true)
      → map (λ i. input_by (excerpt n active on) (level (excerpt n active on)) i t) inputs ≡ map (λ i. input_by n (level n) i t) inputs
  same_inputs t [] low agree all = refl
  same_inputs t (i ∷ is) low agree all =
      let there = level_by i.wire.0 (t - i.delay) (driver n i.wire.0) refl (all i (0, omega arith, refl)) (omega (arith, low)) (λ u m r before. agree u m r (omega (arith, before))) in
      let others = same_inputs t is low agree (λ v has. all v (suc has.0, omega (arith, has.1), has.2)) in
      let first : input_by (excerpt n active on) (level (excerpt n active on)) i t ≡ input_by n (level n) i t
      = ap (λ v. cond (nat_lt t i.delay) v (level (excerpt n active on) i.wire.0 (t - i.delay))) (initial_there n active on i.wire.0)
      ∙ ap (cond (nat_lt t i.delay) (initial_of (wire_at n i.wire.0))) there in
      ap (λ x. x ∷ map (λ i. input_by (excerpt n active on) (level (excerpt n active on)) i t) is) first ∙ ap (λ xs. input_by n (level n) i t ∷ xs) others

  inputs_on : (m : ℕ) (r : ModuleRecord) → active m ≡ true → module_at n m ≡ Some r → (i : Input) → Contains r.inputs i → on i.wire.0 ≡ true
  inputs_on m r awake at i has = ports.read m i.wire.0 awake (record { part = r; stands = at; port = i; input = has; wire = refl })

  state_now : (t m : ℕ) (r : ModuleRecord) → t < n.horizon → Agree t → active m ≡ true → module_at n m ≡ Some r → state (excerpt n active on) m t ≡ state n m t
  state_now zero m r low agree awake at =
      (satisfies (excerpt n active on) seen_ok).settled m r (module_active n active on m awake ∙ at)
      ∙ ap (λ p. settle p (inputs_by (excerpt n active on) (level (excerpt n active on)) r 0)) (built_there n active on r)
      ∙ ap (settle (built n r)) (same_inputs 0 r.inputs low agree (inputs_on m r awake at))
      ∙ sym ((satisfies n ok).settled m r at)
  state_now (suc v) m r low agree awake at =
      let e : v + 1 ≡ suc v = omega arith in
      subst (λ k. state (excerpt n active on) m k ≡ state n m k) e
      ((satisfies (excerpt n active on) seen_ok).stepped m v r (module_active n active on m awake ∙ at)
      ∙ ap (λ p. step p (state (excerpt n active on) m v) (inputs_by (excerpt n active on) (level (excerpt n active on)) r (v + 1))) (built_there n active on r)
      ∙ ap (λ s. step (built n r) s (inputs_by (excerpt n active on) (level (excerpt n active on)) r (v + 1))) (agree v m r (omega arith) (omega (arith, low)) awake at)
      ∙ ap (step (built n r) (state n m v)) (same_inputs (v + 1) r.inputs (omega (arith, low)) (λ u k q before. agree u k q (omega (arith, before))) (inputs_on m r awake at))
      ∙ sym ((satisfies n ok).stepped m v r at))

  agree_before : (t : ℕ) → Agree t
  agree_before zero u m r before low awake at = absurd (let no : ⊥ = omega (arith, before) in no)
  agree_before (suc t) u m r before low awake at = elim (cases_eq u t) as (λ _. state (excerpt n active on) m u ≡ state n m u) [
    | inl same ↦ subst (λ k. state (excerpt n active on) m k ≡ state n m k) (sym same) (state_now t m r (omega (arith, same, low)) (agree_before t) awake at)
    | inr other ↦ agree_before t u m r (omega (arith, before, other)) low awake at
  ]

  state_seen : (m t : ℕ) (r : ModuleRecord) → active m ≡ true → module_at n m ≡ Some r → t < n.horizon → state (excerpt n active on) m t ≡ state n m t
  state_seen m t r awake at low = agree_before (t + 1) t m r (omega arith) low awake at

  level_seen : (w t : ℕ) → on w ≡ true → t < n.horizon → level (excerpt n active on) w t ≡ level n w t
  level_seen w t is low = level_by w t (driver n w) refl is low (agree_before t)

  level_decided : (w p u t : ℕ) (m : ModuleId) (r : ModuleRecord) → driver n w ≡ Port m p → active m.0 ≡ true → module_at n m.0 ≡ Some r → t < n.horizon → u < t + 1 + delay_of r p
      → level (excerpt n active on) w u ≡ level n w u
  level_decided w p u t m r e awake at low known = level_driven w p u m r e awake at (λ v time. state_seen m.0 v r awake at (omega (arith, low, known, time)))

pub excerpt_driver : ExcerptsHaveDrivers
excerpt_driver = driver_is

pub excerpt_off : OffWiresRest
excerpt_off = level_off

pub excerpt_level : ExcerptsHaveLevels
excerpt_level = level_seen

pub excerpt_state : ExcerptsHaveStates
excerpt_state = state_seen

pub excerpt_decided : ExcerptsHaveDecided
excerpt_decided = level_decided
