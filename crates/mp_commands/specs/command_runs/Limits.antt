-- The limits of a run.
use Rattle.mp_commands.specs.command_runs.Names.{ℕ, max_text}

-- how many bytes an input may have: as many as a text of any form
abbrev pub max_input : ℕ
max_input = max_text

-- how many workers there may be
abbrev pub max_workers : ℕ
max_workers = 16

-- of how many tasks at least the workers may be called on
abbrev pub max_least : ℕ
max_least = 4096
