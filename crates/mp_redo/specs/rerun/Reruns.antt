-- A re-evaluation between two units.
use Rattle.std.specs.Prelude.{◌≡◌, ℕ, ◌+◌, ◌<◌, Bool, true, [], length}
use Rattle.mp_netlist.specs.Circuit.{Circuit, IsCircuit}
use Rattle.mp_netlist.specs.Delays.{least_delay}
use Rattle.mp_partition.specs.runs.Marks.{is_marked}
use Rattle.mp_partition.specs.runs.Outcomes.{Outcome}
use Rattle.mp_partition.specs.runs.Runs.{IsRun}
use Rattle.mp_simulation.specs.run.Stimuli.{left_of}
use Rattle.mp_depend.specs.work.Revisions.{IsRevision}
use Rattle.mp_active.specs.agreement.Sleeping.{AreSleeping}
use Rattle.mp_active.specs.agreement.Sources.{AreSources}
use Rattle.mp_active.specs.excerpt.Excerpts.{ArePortsOn}
use Rattle.mp_active.specs.excerpt.Numberings.{Numbering}
use Rattle.mp_active.specs.excerpt.Showing.{Shows}
use Rattle.mp_active.specs.compare.Comparing.{source_at, HasCursors, IsComplete}
use Rattle.mp_active.specs.declared.compare.change.Change.{Change}
use Rattle.mp_redo.specs.declared.rerun.rerun.Rerun.{Rerun}
use Rattle.mp_redo.specs.rerun.Numbered.{AreNumbered, AreCounted}
use Rattle.mp_redo.specs.rerun.Following.{AreTails, AreSetAnew}
use Rattle.mp_redo.specs.rerun.Seats.{AreSeats}

-- both netlists are well formed, the new one comes of the old one by edits, and the run is the old one's
pub record IsChange (change : Change) : Type 0 where
  pub old_form : IsCircuit change.old.now
  pub form : IsCircuit change.new.now
  pub revision : IsRevision change.old.now change.new.now
  pub run : IsRun change.old.now change.run.now
  pub least : change.least ≡ least_delay change.new.now

abbrev pub active_of : Rerun → ℕ → Bool
active_of s m = is_marked s.activity.active.items m

abbrev pub on_of : Rerun → ℕ → Bool
on_of s w = (source_at s.comparison w).is_on

-- from when on a wire has the levels of the old run
abbrev pub until_of : Rerun → ℕ → ℕ
until_of s w = (source_at s.comparison w).until

-- after the unit t, all but the simulation: modules that aren't active sleep since some time; a wire that may have other levels than in the old run is on;
-- numbers are listed for their old changes; and the changes to come are known that no active module makes
pub record IsFollowed (old new : Circuit) (run : Outcome) (numbering : Numbering) (since : ℕ → ℕ) (t : ℕ) (s : Rerun) : Type 0 where
  pub numbered : AreNumbered new numbering s.inputs.items s.comparison s.simulation
  pub modules : length s.activity.active.items ≡ length new.modules
  pub seats : AreSeats (length new.modules) s.activity.seats.items s.simulation.modules
  pub ports : ArePortsOn new (active_of s) (on_of s)
  pub lit : (w : ℕ) → 0 < until_of s w → on_of s w ≡ true
  pub sleeping : AreSleeping old new (active_of s) since t
  pub sources : AreSources old new (active_of s) since (until_of s)
  pub cursors : HasCursors run t [] s.comparison
  pub complete : IsComplete run t s.comparison
  pub counted : AreCounted new (active_of s) numbering s.comparison
  pub pending_outputs : AreTails new (active_of s) (until_of s) t (left_of s.pending_outputs)
  pub stimuli : AreSetAnew new (until_of s) t (left_of s.stimuli)

-- and the simulation has the active modules, and the wires that are on
pub record IsRerunBy (old new : Circuit) (run : Outcome) (numbering : Numbering) (since : ℕ → ℕ) (t : ℕ) (s : Rerun) : Type 0 where
  pub shows : Shows new (active_of s) (on_of s) numbering t s.simulation
  pub followed : IsFollowed old new run numbering since t s

-- in some numbering, where modules sleep since some times that aren't after a time
pub record IsRerunAt (old new : Circuit) (run : Outcome) (latest t : ℕ) (s : Rerun) : Type 0 where
  pub numbering : Numbering
  pub since : ℕ → ℕ
  pub is : IsRerunBy old new run numbering since t s
  pub early : (m : ℕ) → since m < latest + 1
