-- What an XOR and a C of a netlist do with events. Events are counted up to a time; ports from 0.
use Rattle.std.specs.Prelude.{◌≡◌, ◌≢◌, ◌↔◌, ℕ, ◌+◌, ◌<◌, ◌≤◌, Bool, Some, IsTrue, slice_index, ◌==◌, if◌then◌else◌}
use Rattle.std.specs.List.{Contains}
use Rattle.mp_modules.specs.declared.kind.Kind.{Kind}
use Rattle.mp_modules.specs.declared.kind.Kind.TheVariants as kinds
use Rattle.mp_modules.specs.declared.function.Function.TheVariants.{Xor}
use Rattle.mp_modules.specs.CElement.{bubbled}
use Rattle.mp_modules.specs.Histories.{has_event, events}
use Rattle.mp_modules.specs.Memories.{output_of}
use Rattle.mp_modules.specs.Tables.{rendezvous}
use Rattle.mp_records.specs.declared.module_record.ModuleRecord.{ModuleRecord}
use Rattle.mp_netlist.specs.Circuit.{Circuit, IsCircuit, module_at}
use Rattle.mp_model.specs.Levels.{inputs_by}
use Rattle.mp_model.specs.Waves.{level, state}
use Rattle.mp_model.specs.Findings.{findings, module_place}
use Rattle.mp_model.specs.declared.finding.Finding.{Finding}

-- the level of a module's input, after the input's delay, and that of its output, before the output's delay, at each time
abbrev pub input : Circuit → ModuleRecord → ℕ → ℕ → ℕ
input n r port t = slice_index (inputs_by n (level n) r t) port

abbrev pub output : Circuit → ℕ → ℕ → ℕ → ℕ
output n m port t = output_of (state n m t) port

-- a module of this kind stands under the number
pub record IsOfKind (n : Circuit) (m : ℕ) (kind : Kind) : Type 0 where
  pub part : ModuleRecord
  pub stands : module_at n m ≡ Some part
  pub made : part.kind ≡ kind

-- XOR: its output has an event exactly where one input has an event and the other has none
abbrev pub MergesEvents : Type 0
MergesEvents = (n : Circuit) → IsCircuit n → (m t : ℕ) (x : IsOfKind n m (kinds.Function Xor)) →
    IsTrue (has_event (output n m 0) t) ↔ (has_event (input n x.part 0) t ≢ has_event (input n x.part 1) t)

-- nothing is found at a module up to a time
abbrev pub FindsNothingAt : Circuit → ℕ → ℕ → Type 0
FindsNothingAt n m t = (f : Finding) → Contains (findings n) f → f.place ≡ module_place m → f.time ≤ t → ⊥

-- 1 while an input of a C waits for the other: while its level, behind its bubble, isn't the output's
abbrev pub waiting : Circuit → ℕ → ModuleRecord → Bool → ℕ → ℕ → ℕ
waiting n m r bubble port t = if bubbled bubble (input n r port t) == output n m 0 t then 0 else 1

-- the output has had as many events as the input, but for one that waits; where the input waits at time 0 this counts as one of its events
abbrev pub CountsEvents : Circuit → ℕ → ModuleRecord → Bool → ℕ → ℕ → Type 0
CountsEvents n m r bubble port t =
    events (output n m 0) t + waiting n m r bubble port t ≡ events (input n r port) t + waiting n m r bubble port 0

-- C: where nothing is found, this holds of both inputs
abbrev pub JoinsEvents : Type 0
JoinsEvents = (n : Circuit) → IsCircuit n → (m t : ℕ) (c : IsOfKind n m kinds.C) → t < n.horizon → FindsNothingAt n m t →
    CountsEvents n m c.part (rendezvous c.part.params).bubble_a 0 t × CountsEvents n m c.part (rendezvous c.part.params).bubble_b 1 t

-- the output has had as many events as the input, or one fewer
abbrev pub IsOneBehind : Circuit → ℕ → ModuleRecord → ℕ → ℕ → Type 0
IsOneBehind n m r port t = (events (output n m 0) t ≤ events (input n r port) t) × (events (input n r port) t ≤ events (output n m 0) t + 1)

-- the inputs of a C, behind their bubbles, agree at time 0
abbrev pub AgreeFirst : Circuit → ModuleRecord → Type 0
AgreeFirst n r =
    bubbled (rendezvous r.params).bubble_a (input n r 0 0) ≡ bubbled (rendezvous r.params).bubble_b (input n r 1 0)

-- C: where nothing is found, and its inputs agree at time 0, the output has had as many events as each input, or one fewer
abbrev pub KeepsPace : Type 0
KeepsPace = (n : Circuit) → IsCircuit n → (m t : ℕ) (c : IsOfKind n m kinds.C) → t < n.horizon → FindsNothingAt n m t → AgreeFirst n c.part →
    IsOneBehind n m c.part 0 t × IsOneBehind n m c.part 1 t
