-- Steps by which a module becomes active between two units.
use Rattle.std.specs.Prelude.{◌≡◌, ◌==◌, ◌||◌, ℕ, true}
use Rattle.mp_redo.specs.declared.rerun.rerun.Rerun.{Rerun}
use Rattle.mp_redo.specs.rerun.Reruns.{active_of, on_of, until_of}

-- all is as it was but for the simulation and what is compared; and of that, which modules have levels of their own, and what was seen, stays
pub record HasTurnedOn (s new : Rerun) : Type 0 where
  pub kept : new ≡ record s { simulation = new.simulation; comparison = new.comparison }
  pub seen : new.comparison.seen ≡ s.comparison.seen
  pub until : (w : ℕ) → until_of new w ≡ until_of s w
  pub lit : (w : ℕ) → on_of s w ≡ true → on_of new w ≡ true

-- a module has become active; what was seen, the recorder and the window stay
pub record HasWoken (m : ℕ) (s new : Rerun) : Type 0 where
  pub kept : new ≡ record s {
    simulation = new.simulation;
    comparison = new.comparison;
    pending_outputs = new.pending_outputs;
    activity = record (s.activity) { active = new.activity.active; seats = new.activity.seats; joined = new.activity.joined };
  }
  pub seen : new.comparison.seen ≡ s.comparison.seen
  pub active : (k : ℕ) → active_of new k ≡ (active_of s k || (k == m))

-- modules have; only they are active more, and those that join stay listed
pub record HaveWoken (s new : Rerun) : Type 0 where
  pub kept : new ≡ record s {
    simulation = new.simulation;
    comparison = new.comparison;
    pending_outputs = new.pending_outputs;
    activity = record (s.activity) { active = new.activity.active; seats = new.activity.seats; joined = new.activity.joined };
  }
  pub seen : new.comparison.seen ≡ s.comparison.seen
