-- How work is written.
use Rattle.std.specs.Prelude.{◌∷◌, ◌++◌}
use Rattle.mp_commands.specs.answers.Names.{flat_map, decimal, Circuit, module_at, WorkEntry, ℕ, List, [], Option, Some, None, ModuleRecord}

-- a space and a time
abbrev pub spaced : ℕ → List ℕ
spaced t = 32 ∷ decimal t

-- the time from which and the time before which, and a line feed
abbrev pub times_end : ℕ → ℕ → List ℕ
times_end from to = spaced from ++ (spaced to ++ (10 ∷ []))

-- the line of what stands in a module's slot, and none where nothing does
abbrev pub part_line : Option ModuleRecord → ℕ → ℕ → List ℕ
part_line None from to = []
part_line (Some r) from to = r.name ++ times_end from to

-- the line of an entry of work
abbrev pub entry_line : Circuit → WorkEntry → List ℕ
entry_line n e = part_line (module_at n e.«module».0) e.from e.to

-- a line for each entry
abbrev pub work_text : Circuit → List WorkEntry → List ℕ
work_text n work = flat_map (entry_line n) work
