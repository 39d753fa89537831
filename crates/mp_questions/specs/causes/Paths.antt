-- The modules that a chain went through, and how long it was in each.
use Rattle.std.specs.Prelude.{ℕ, ◌-◌, List, [], ◌∷◌, ◌++◌, codes, filter, nat_lt, Option, Some, None, if◌then◌else◌}
use Rattle.std.specs.List.{flat_map}
use Rattle.std.specs.Fmt.{decimal}
use Rattle.mp_records.specs.declared.module_record.ModuleRecord.{ModuleRecord}
use Rattle.mp_netlist.specs.Circuit.{Circuit, module_at}
use Rattle.mp_questions.specs.declared.causes.module_share.ModuleShare.{ModuleShare}
use Rattle.mp_questions.specs.declared.causes.moment.Moment.{Moment}
use Rattle.mp_questions.specs.declared.causes.wire_change.WireChange.{WireChange}
use Rattle.mp_questions.specs.timing.Ranges.{read_time}
use Rattle.mp_questions.specs.causes.Chains.{chain, begin_of}
use Rattle.mp_questions.specs.causes.Shares.{shares, shares_above, has_steps, by_units}

-- the line of a share, as `c3 96 8`
abbrev pub share_text : Option ModuleRecord → ModuleShare → List ℕ
share_text None s = []
share_text (Some r) s = r.name ++ (32 ∷ (decimal s.units ++ (32 ∷ (decimal s.steps ++ (10 ∷ [])))))

abbrev pub share_line : Circuit → ModuleShare → List ℕ
share_line n s = share_text (module_at n s.id.0) s

-- the shares of the modules in the chain of a wire's last change at or before a time, the greatest first
unfoldable pub path : Circuit → Moment → List ModuleShare
path n moment = by_units (filter has_steps (shares n (chain n moment.wire (read_time n.horizon moment.time))))

unfoldable pub path_text : Circuit → Moment → List ℕ
path_text n moment = flat_map (share_line n) (path n moment)

-- ---- above a time

-- how long a chain had been on its way at a time, as `- 40 12`, and nothing where it begins then or later
abbrev pub before_line : ℕ → ℕ → List ℕ
before_line from begin = if nat_lt begin from then codes "- " ++ (decimal from ++ (32 ∷ (decimal (from - begin) ++ (10 ∷ [])))) else []

-- the shares of a chain above a time, the greatest first, and what lies before that time
abbrev pub chain_above : Circuit → ℕ → List WireChange → List ℕ
chain_above n from [] = []
chain_above n from (c ∷ cs) = flat_map (share_line n) (by_units (filter has_steps (shares_above n from (c ∷ cs)))) ++ before_line from (begin_of n (c ∷ cs))

-- of the chain of a wire's last change at or before a time
unfoldable pub path_since : Circuit → Moment → ℕ → List ℕ
path_since n moment from = chain_above n (read_time n.horizon from) (chain n moment.wire (read_time n.horizon moment.time))
