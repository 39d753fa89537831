-- A wire's level before a time, and its changes from that time on.
use Rattle.std.specs.Prelude.{◌≡◌, ◌+◌, ◌-◌, ◌<◌, ◌≤◌}
use Rattle.mp_report.specs.Names.{AreChanges, level_from, last_time, changes_in, Circuit, BundleRecord, level, ℕ, Ahead, Watch}

-- the level of f one unit before a time from 1 on, and its changes from then to below an end
pub record IsAhead (f : ℕ → ℕ) (end time : ℕ) (ahead : Ahead) : Type 0 where
  pub some : 0 < time
  pub form : AreChanges (time - 1) ahead.level (changes_in ahead.changes)
  pub within : last_time (time - 1) (changes_in ahead.changes) < end
  pub levels : (t : ℕ) → time ≤ t + 1 → t < end → level_from ahead.level (changes_in ahead.changes) t ≡ f t

-- the same of each wire of a bundle
pub record AreAhead (n : Circuit) (b : BundleRecord) (time : ℕ) (watch : Watch) : Type 0 where
  pub request : IsAhead (level n b.request.0) n.horizon time watch.request
  pub acknowledge : IsAhead (level n b.acknowledge.0) n.horizon time watch.acknowledge
  pub payload : IsAhead (level n b.payload.0) n.horizon time watch.payload
