-- Small netlists, and the waves that the definitions compute for them.
use Rattle.std.specs.Prelude.{◌≡◌, ℕ, List, [], ◌∷◌, Option, Some, None, codes}
use Rattle.mp_wave.specs.Waveform.{Waveform}
use Rattle.mp_modules.specs.declared.kind.Kind.{Kind}
use Rattle.mp_modules.specs.declared.kind.Kind.TheVariants as kinds
use Rattle.mp_modules.specs.declared.function.Function.TheVariants as functions
use Rattle.mp_records.specs.declared.wire_record.WireRecord.{WireRecord}
use Rattle.mp_records.specs.declared.module_record.ModuleRecord.{ModuleRecord}
use Rattle.mp_records.specs.declared.ids.WireId.{WireId}
use Rattle.mp_records.specs.declared.ports.Input.{Input}
use Rattle.mp_records.specs.declared.ports.Output.{Output}
use Rattle.mp_netlist.specs.declared.format.Format.TheVariants.{Standard}
use Rattle.mp_netlist.specs.Circuit.{Circuit}
use Rattle.mp_model.specs.Waves.{waves}

-- a wire of width 1 that begins at 0
abbrev pub wire : List ℕ → Option (List (ℕ × ℕ)) → Option WireRecord
wire name stimulus = Some (record { name = name; width = 1; initial = 0; stimulus = stimulus })

abbrev pub number : ℕ → WireId
number w = record { 0 = w }

-- an input at a wire, without a delay
abbrev pub reading : ℕ → Input
reading w = record { wire = number w; delay = 0 }

-- an output at a wire, with a delay
abbrev pub output : ℕ → ℕ → List Output
output w delay = (let port : Output = record { wire = Some (number w); delay = delay } in port) ∷ []

abbrev pub part : List ℕ → Kind → List ℕ → List Input → List Output → Option ModuleRecord
part name kind params inputs outputs = Some (record { name = name; kind = kind; params = params; inputs = inputs; outputs = outputs })

abbrev pub shown : List (ℕ × ℕ) → Option Waveform
shown changes = Some (record { initial = 0; changes = changes })

-- an inverter that reads its own output, and a buffer behind it
abbrev pub self_loop : Circuit
self_loop = record {
  format = Standard;
  horizon = 5;
  wires = wire (codes "y") None ∷ wire (codes "z") None ∷ [];
  modules = part (codes "n") (kinds.Function functions.Not) [] (reading 0 ∷ []) (output 0 1) ∷ part (codes "b") (kinds.Function functions.Buf) [] (reading 0 ∷ []) (output 1 3) ∷ [];
  bundles = [];
}

-- a C-element waits for both its inputs
abbrev pub c_element : Circuit
c_element = record {
  format = Standard;
  horizon = 20;
  wires = wire (codes "a") (Some ((3, 1) ∷ [])) ∷ wire (codes "b") (Some ((7, 1) ∷ [])) ∷ wire (codes "y") None ∷ [];
  modules = part (codes "c") kinds.C (0 ∷ 0 ∷ 0 ∷ []) (reading 0 ∷ reading 1 ∷ []) (output 2 2) ∷ [];
  bundles = [];
}

-- the control of a micropipeline of two stages
abbrev pub two_stage_control : Circuit
two_stage_control = record {
  format = Standard;
  horizon = 20;
  wires = wire (codes "r") (Some ((1, 1) ∷ (4, 0) ∷ [])) ∷ wire (codes "ack") (Some ((10, 1) ∷ [])) ∷ wire (codes "q1") None ∷ wire (codes "q2") None ∷ [];
  modules =
      part (codes "c1") kinds.C (0 ∷ 0 ∷ 1 ∷ []) (reading 0 ∷ reading 3 ∷ []) (output 2 2)
      ∷ part (codes "c2") kinds.C (0 ∷ 0 ∷ 1 ∷ []) (reading 2 ∷ reading 1 ∷ []) (output 3 2) ∷ [];
  bundles = [];
}

-- a buffer that hears of its wire 4 units late
abbrev pub late_buffer : Circuit
late_buffer = record {
  format = Standard;
  horizon = 20;
  wires = wire (codes "a") (Some ((2, 1) ∷ (5, 0) ∷ [])) ∷ wire (codes "y") None ∷ [];
  modules = part (codes "b") (kinds.Function functions.Buf) [] ((let port : Input = record { wire = number 0; delay = 4 } in port) ∷ []) (output 1 3) ∷ [];
  bundles = [];
}

abbrev pub SelfLoop : Type 0
SelfLoop = waves self_loop ≡ shown ((1, 1) ∷ (2, 0) ∷ (3, 1) ∷ (4, 0) ∷ []) ∷ shown ((4, 1) ∷ []) ∷ []

abbrev pub CElement : Type 0
CElement = waves c_element ≡ shown ((3, 1) ∷ []) ∷ shown ((7, 1) ∷ []) ∷ shown ((9, 1) ∷ []) ∷ []

abbrev pub TwoStageControl : Type 0
TwoStageControl =
    waves two_stage_control
    ≡ shown ((1, 1) ∷ (4, 0) ∷ []) ∷ shown ((10, 1) ∷ []) ∷ shown ((3, 1) ∷ (7, 0) ∷ []) ∷ shown ((5, 1) ∷ (12, 0) ∷ []) ∷ []

abbrev pub LateBuffer : Type 0
LateBuffer = waves late_buffer ≡ shown ((2, 1) ∷ (5, 0) ∷ []) ∷ shown ((9, 1) ∷ (12, 0) ∷ []) ∷ []
