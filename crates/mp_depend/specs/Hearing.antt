-- Modules that hear of numbers.
use Rattle.std.specs.Prelude.{◌≡◌, ◌↔◌, ℕ, ◌<◌, Bool, false, List}
use Rattle.std.specs.List.{Contains}
use Rattle.mp_records.specs.declared.ids.ModuleId.{ModuleId}
use Rattle.mp_kernel.specs.declared.events.fanout_entry.FanoutEntry.{FanoutEntry}
use Rattle.mp_kernel.specs.events.Adding.{events_for}

-- just the modules are listed that aren't active and that one of these entries is for
abbrev pub AreHearing : (ℕ → Bool) → List FanoutEntry → List ModuleId → Type 0
AreHearing active entries joining = (m : ℕ) → Contains joining (record { 0 = m }) ↔ ((active m ≡ false) × (0 < events_for m entries))
