-- Modules that become active.
use Rattle.std.specs.Prelude.{◌≡◌, ◌⊎◌, ◌↔◌, ◌==◌, ◌&&◌, ℕ, ◌<◌, Bool, false, not, List, Some, IsSome, nat_lt}
use Rattle.std.specs.List.{AllPairs, Contains}
use Rattle.mp_records.specs.declared.ids.ModuleId.{ModuleId}
use Rattle.mp_records.specs.declared.module_record.ModuleRecord.{ModuleRecord}
use Rattle.mp_netlist.specs.Circuit.{Circuit, module_at}
use Rattle.mp_modules.specs.automata.Codes.{bit}
use Rattle.mp_kernel.specs.events.Adding.{listed}
use Rattle.mp_model.specs.Reach.{IsApart}
use Rattle.mp_active.specs.compare.Comparing.{wire_of, delay_of, asleep_at}
use Rattle.mp_active.specs.agreement.Reading.{late}
use Rattle.mp_redo.specs.declared.rerun.rerun.Rerun.{Rerun}

-- each of these modules is listed once, by number
abbrev pub AreByNumber : List ModuleId → Type 0
AreByNumber ids = AllPairs (λ (a b : ModuleId). a.0 < b.0) ids

-- they are just the modules that stand, aren't active, and are apart at a time, each listed once
pub record AreJoining (old new : Circuit) (active : ℕ → Bool) (time : ℕ) (joining : List ModuleId) : Type 0 where
  pub stand : (m : ℕ) → Contains joining (record { 0 = m }) → IsSome (module_at new m)
  pub asleep : (m : ℕ) → Contains joining (record { 0 = m }) → active m ≡ false
  pub apart : (m : ℕ) → Contains joining (record { 0 = m }) → IsApart old new m time
  pub all : (m : ℕ) (r : ModuleRecord) → module_at new m ≡ Some r → active m ≡ false → IsApart old new m time → Contains joining (record { 0 = m })
  pub once : AreByNumber joining

-- no module that sleeps is apart at a time
abbrev pub NoneIsApart : Circuit → Circuit → (ℕ → Bool) → ℕ → Type 0
NoneIsApart old new active time = (m : ℕ) (r : ModuleRecord) → module_at new m ≡ Some r → active m ≡ false → IsApart old new m time → ⊥

-- just those of the modules are listed that were, or that join
abbrev pub HaveJoined : List ModuleId → List ModuleId → List ModuleId → Type 0
HaveJoined joining was joined = (m : ℕ) → Contains joined (record { 0 = m }) ↔ (Contains was (record { 0 = m }) ⊎ Contains joining (record { 0 = m }))

-- the level of a number isn't the same in both runs at a time
abbrev pub departs : Circuit → Circuit → Rerun → ℕ → ℕ → Bool
departs old new s x time =
    let source : ℕ × ℕ = (wire_of s.comparison.numbers x, delay_of s.comparison.numbers x) in
    not (late old source time == late new source time)

-- just the numbers are gathered that modules read that sleep, and that depart at a time, each once
abbrev pub AreDeparting : Circuit → Circuit → ℕ → Rerun → Type 0
AreDeparting old new time s = (x : ℕ) → listed x s.comparison.departing.items ≡ bit (nat_lt 0 (asleep_at s.comparison x) && departs old new s x time)

-- all is as it was but for what was seen of numbers, which of them depart, which modules join, and what was listed to find that
abbrev pub HasLooked : Rerun → Rerun → Type 0
HasLooked s new = new ≡ record s {
  comparison = record (s.comparison) { seen = new.comparison.seen; departing = new.comparison.departing };
  activity = record (s.activity) { joining = new.activity.joining };
  set = new.set;
}

-- all is as it was but for the numbers that are listed for old changes, the changes to come that no active module makes, and what is set
abbrev pub HasSet : Rerun → Rerun → Type 0
HasSet s new = new ≡ record s {
  comparison = record (s.comparison) { timers = new.comparison.timers; places = new.comparison.places; present = new.comparison.present };
  stimuli = new.stimuli;
  pending_outputs = new.pending_outputs;
  set = new.set;
}
