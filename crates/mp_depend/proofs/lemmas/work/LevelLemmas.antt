-- The level of a wire that the same drives.
use Rattle.std.proofs.Common.{◌≡◌, ℕ, ◌+◌, ◌-◌, cond, Option, Some, None, IsSome, nat_lt, refl, ap, sym, ◌∙◌, arith, inl, inr}
use Rattle.std.proofs.lemmas.Bool.{cases_lt, lt-ltb}
use Rattle.mp_modules.specs.declared.memory.Memory.{Memory}
use Rattle.mp_modules.specs.Memories.{output_of}
use Rattle.mp_records.specs.declared.wire_record.WireRecord.{WireRecord}
use Rattle.mp_records.specs.declared.module_record.ModuleRecord.{ModuleRecord}
use Rattle.mp_records.specs.Outputs.{delay_of}
use Rattle.mp_netlist.specs.declared.driver.Driver.{Driver}
use Rattle.mp_netlist.specs.declared.driver.Driver.TheVariants.{Nothing, Stimulus, Port}
use Rattle.mp_netlist.specs.Circuit.{Circuit, wire_at, module_at, stimulus_at}
use Rattle.mp_netlist.specs.Drivers.{driver}
use Rattle.mp_model.specs.Levels.{initial_of, stimulus_level, port_level, driven_level}
use Rattle.mp_model.specs.Waves.{state}
use Rattle.mp_model.proofs.BehaviourLemmas.{satisfies}
use Rattle.mp_model.proofs.HistoryLemmas.{late}
use Rattle.mp_depend.specs.work.Revisions.{IsRevision, IsDrivenAlike}
use Rattle.mp_depend.specs.work.Stays.{SourceAgrees, LevelsStay, UnreachedLevels}
use Rattle.mp_depend.proofs.lemmas.work.StayLemmas.{unreached_states}

pub initials_same : (old new : Circuit) → IsRevision old new → (w : ℕ) (one other : Option WireRecord) → wire_at old w ≡ one → wire_at new w ≡ other → IsSome one → IsSome other → initial_of one ≡ initial_of other
initials_same old new revised w None other a b some too = cc
initials_same old new revised w (Some r) None a b some too = cc
initials_same old new revised w (Some r) (Some s) a b some too = revised.initials w r s a b

-- at a port whose module has the same record
port_same : (old new : Circuit) (m p initial t : ℕ) (slot : Option ModuleRecord) → ((r : ModuleRecord) (u : ℕ) → slot ≡ Some r → u + delay_of r p ≡ t → state old m u ≡ state new m u)
    → port_level (state old) slot m p initial t ≡ port_level (state new) slot m p initial t
port_same old new m p initial t None source = refl
port_same old new m p initial t (Some r) source = elim (cases_lt t (delay_of r p)) as (λ _. port_level (state old) (Some r) m p initial t ≡ port_level (state new) (Some r) m p initial t) [
  | inl early ↦ rw (lt-ltb t (delay_of r p) early) refl
  | inr past ↦ ap (λ (s : Memory). cond (nat_lt t (delay_of r p)) initial (output_of s p)) (source r (t - delay_of r p) refl (omega arith))
]

driven_same : (old new : Circuit) → IsRevision old new → (w : ℕ) → IsDrivenAlike old new w → (t : ℕ) → SourceAgrees old new w t → (d : Driver) → driver new w ≡ d
    → driven_level d old (state old) w t ≡ driven_level d new (state new) w t
driven_same old new revised w alike t source Nothing drives = initials_same old new revised w (wire_at old w) (wire_at new w) refl refl alike.before alike.after
driven_same old new revised w alike t source Stimulus drives =
    ap (λ stimulus. stimulus_level stimulus (initial_of (wire_at old w)) t) alike.stimulus
    ∙ ap (λ initial. stimulus_level (stimulus_at new w) initial t) (initials_same old new revised w (wire_at old w) (wire_at new w) refl refl alike.before alike.after)
driven_same old new revised w alike t source (Port m p) drives =
    ap (λ slot. port_level (state old) slot m.0 p (initial_of (wire_at old w)) t) (alike.part m p drives)
    ∙ ap (λ initial. port_level (state old) (module_at new m.0) m.0 p initial t) (initials_same old new revised w (wire_at old w) (wire_at new w) refl refl alike.before alike.after)
    ∙ port_same old new m.0 p (initial_of (wire_at new w)) t (module_at new m.0) (λ r u at e. source m p u r drives at e)

pub levels_stay : LevelsStay
levels_stay old new old_ok new_ok revised w alike t source =
    (satisfies old old_ok).levels w t
    ∙ ap (λ d. driven_level d old (state old) w t) alike.one
    ∙ driven_same old new revised w alike t source (driver new w) refl
    ∙ sym ((satisfies new new_ok).levels w t)

pub unreached_levels : UnreachedLevels
unreached_levels old new old_ok new_ok revised w alike b not t within =
    levels_stay old new old_ok new_ok revised w alike t (λ m p u r drives at e.
    let positive = late new r p (new_ok.modules_ok m.0 r at) in
    unreached_states old new old_ok new_ok revised m.0 r (record { before = alike.part m p drives ∙ at; after = at }) b (not m p drives) u (omega (arith, positive, e, within)))
