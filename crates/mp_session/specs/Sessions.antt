-- Where a session stands.
use Rattle.std.specs.Prelude.{List, []}
use Rattle.mp_netlist.specs.Circuit.{Circuit}
use Rattle.mp_version.specs.Stories.{Story, opening}
use Rattle.mp_depend.specs.declared.work.work_entry.WorkEntry.{WorkEntry}

-- the story of a session's version, and what was evaluated for its last edit
pub record Standing : Type 0 where
  pub story : Story
  pub last_work : List WorkEntry

-- a session before its first edit
abbrev pub opened : Circuit → Standing
opened n = record { story = opening n; last_work = [] }
