-- What two netlists have alike: the level of a wire that the same drives, and the inputs of a module with the same record.
use Rattle.std.proofs.Common.{◌≡◌, ℕ, ◌-◌, ◌≤◌, false, cond, nat_lt, List, [], ◌∷◌, Option, Some, None, is_some, map, suc, refl, ap, sym, subst, ◌∙◌, arith}
use Rattle.std.specs.Prelude.{Contains, IsSome}
use Rattle.mp_modules.specs.declared.memory.Memory.{Memory}
use Rattle.mp_records.specs.declared.ports.Input.{Input}
use Rattle.mp_records.specs.declared.module_record.ModuleRecord.{ModuleRecord}
use Rattle.mp_netlist.specs.declared.driver.Driver.{Driver}
use Rattle.mp_netlist.specs.declared.driver.Driver.TheVariants.{Nothing, Stimulus, Port}
use Rattle.mp_netlist.specs.Circuit.{Circuit, IsCircuit, Drives, wire_at, module_at, stimulus_at}
use Rattle.mp_netlist.specs.Drivers.{driver}
use Rattle.mp_netlist.proofs.DriverLemmas.{finds_only_ports, leaves_no_driver}
use Rattle.mp_model.specs.Levels.{initial_of, input_by, inputs_by, level_by, driven_level, port_level, stimulus_level}
use Rattle.mp_model.specs.Waves.{level, state}
use Rattle.mp_model.proofs.BehaviourLemmas.{satisfies}
use Rattle.mp_partition.specs.regions.Readers.{Reads}
use Rattle.mp_depend.specs.work.Revisions.{IsRevision, IsKept, IsDrivenAlike}
use Rattle.mp_depend.proofs.lemmas.work.LevelLemmas.{initials_same}
use Rattle.mp_near.proofs.lemmas.laws.DrivenLemmas.{port_by}

-- a wire that doesn't stand is at 0
pub empty_level : (n : Circuit) → IsCircuit n → (w : ℕ) (f : ℕ → ℕ → Memory) (t : ℕ) → wire_at n w ≡ None → level_by n f w t ≡ 0
empty_level n ok w f t none = ap (λ d. driven_level d n f w t) (leaves_no_driver n ok w none) ∙ ap initial_of none

pub none_is : {A : Type 0} (slot : Option A) → is_some slot ≡ false → slot ≡ None
none_is None e = refl
none_is (Some x) e = let no : ⊥ = cc in absurd no

module _ (old new : Circuit) (old_ok : IsCircuit old) (new_ok : IsCircuit new) (revised : IsRevision old new) where
  -- a wire that the same drives has the same level, where the module that drives it has the same states
  pub alike_level : (w t : ℕ) (f : ℕ → ℕ → Memory) → IsDrivenAlike old new w → ((m p u : ℕ) → Drives new m p w → f m u ≡ state old m u) → level old w t ≡ level_by new f w t
  alike_level w t f alike same = (satisfies old old_ok).levels w t ∙ ap (λ d. driven_level d old (state old) w t) alike.one ∙ by (driver new w) refl
    where
      first : initial_of (wire_at old w) ≡ initial_of (wire_at new w)
      first = initials_same old new revised w (wire_at old w) (wire_at new w) refl refl alike.before alike.after

      by : (d : Driver) → driver new w ≡ d → driven_level (driver new w) old (state old) w t ≡ level_by new f w t
      by Nothing e = ap (λ d. driven_level d old (state old) w t) e ∙ first ∙ sym (ap (λ d. driven_level d new f w t) e)
      by Stimulus e =
          ap (λ d. driven_level d old (state old) w t) e
          ∙ ap (λ stimulus. stimulus_level stimulus (initial_of (wire_at old w)) t) alike.stimulus
          ∙ ap (λ initial. stimulus_level (stimulus_at new w) initial t) first
          ∙ sym (ap (λ d. driven_level d new f w t) e)
      by (Port m p) e =
          ap (λ d. driven_level d old (state old) w t) e
          ∙ ap (λ slot. port_level (state old) slot m.0 p (initial_of (wire_at old w)) t) (alike.part m p e)
          ∙ ap (λ initial. port_level (state old) (module_at new m.0) m.0 p initial t) first
          ∙ port_by (state old) f (module_at new m.0) m.0 p (initial_of (wire_at new w)) t (λ u. sym (same m.0 p u (finds_only_ports new w p m e)))
          ∙ sym (ap (λ d. driven_level d new f w t) e)

  -- the inputs of a module with the same record, where the wires that it reads have the same levels
  pub kept_inputs : (m : ℕ) (r : ModuleRecord) (t : ℕ) (f : ℕ → ℕ → ℕ) → IsKept old new m r → ((w u : ℕ) → u ≤ t → Reads new m w → level old w u ≡ f w u)
      → inputs_by old (level old) r t ≡ inputs_by new f r t
  kept_inputs m r t f kept same = listed r.inputs (λ i contains. contains)
    where
      each : (i : Input) → Contains r.inputs i → input_by old (level old) i t ≡ input_by new f i t
      each i contains =
          let was = (old_ok.modules_ok m r kept.before).reads contains.0 i contains.1 in
          let now = (new_ok.modules_ok m r kept.after).reads contains.0 i contains.1 in
          let was_stands : IsSome (wire_at old i.wire.0) = subst (λ (x : Input). IsSome (wire_at old x.wire.0)) contains.2 was.0 in
          let now_stands : IsSome (wire_at new i.wire.0) = subst (λ (x : Input). IsSome (wire_at new x.wire.0)) contains.2 now.0 in
          ap (λ v. cond (nat_lt t i.delay) v (level old i.wire.0 (t - i.delay)))
          (initials_same old new revised i.wire.0 (wire_at old i.wire.0) (wire_at new i.wire.0) refl refl was_stands now_stands)
          ∙ ap (cond (nat_lt t i.delay) (initial_of (wire_at new i.wire.0)))
          (same i.wire.0 (t - i.delay) (omega arith) (record { part = r; stands = kept.after; port = i; input = contains; wire = refl }))

      listed : (inputs : List Input) → ((i : Input) → Contains inputs i → Contains r.inputs i) → map (λ i. input_by old (level old) i t) inputs ≡ map (λ i. input_by new f i t) inputs
      listed [] all = refl
      listed (i ∷ rest) all =
          let first = each i (all i (0, omega arith, refl)) in
          let others = listed rest (λ v contains. all v (suc contains.0, omega (arith, contains.1), contains.2)) in
          ap (λ x. x ∷ map (λ i. input_by old (level old) i t) rest) first ∙ ap (λ xs. input_by new f i t ∷ xs) others
