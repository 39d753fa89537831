-- Waves of the old run.
use Rattle.std.specs.Prelude.{ℕ, ◌==◌, max, if◌then◌else◌}

-- from when on a wave is that of the old run, where units from an end on aren't gone through: always, where the wire has always had its levels
abbrev pub old_from : ℕ → ℕ → ℕ
old_from until end = if until == 0 then 0 else max until end
