-- The limits of a run's numbers.
use Rattle.std.specs.Prelude.{◌&&◌}
use Rattle.mp_commands.specs.command_runs.Names.{Bool, nat_le, Options}
use Rattle.mp_commands.specs.command_runs.Limits.{max_workers, max_least}

-- 1 to 16 workers, for 1 to 4,096 tasks at least
abbrev pub has_valid_crew : Options → Bool
has_valid_crew options =
    nat_le 1 options.workers && (nat_le options.workers max_workers && (nat_le 1 options.least && nat_le options.least max_least))
