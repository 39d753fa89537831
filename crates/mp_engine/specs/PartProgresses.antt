-- When the run of a part writes how far it is.
use Rattle.std.specs.Prelude.{ℕ, ◌+◌, ◌&&◌, Bool, is_some, min, nat_le}
use Rattle.mp_engine.specs.declared.part_progress.PartProgress.{PartProgress}

-- lines are written, and a window that ends at this time is the last of a stretch or of the run
abbrev pub is_line_due : PartProgress → ℕ → Bool
is_line_due part time = is_some part.of.progress && nat_le (min (part.passed + part.stretch) part.of.netlist.now.horizon) time
