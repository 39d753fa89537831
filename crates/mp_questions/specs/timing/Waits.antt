-- Which modules and bundles of a netlist wait at a time, for what and since when, as text.
use Rattle.std.specs.Prelude.{ℕ, ◌-◌, ◌==◌, List, [], ◌++◌, length, codes, Option, Some, None, slice_index, if◌then◌else◌}
use Rattle.std.specs.List.{flat_map, range_with_len}
use Rattle.std.specs.Fmt.{decimal}
use Rattle.mp_modules.specs.declared.kind.Kind.{Kind}
use Rattle.mp_modules.specs.declared.kind.Kind.TheVariants as kinds
use Rattle.mp_modules.specs.declared.memory.Client.{Client}
use Rattle.mp_modules.specs.declared.memory.Client.TheVariants.{Nobody, First, Second}
use Rattle.mp_modules.specs.CElement.{bubbled}
use Rattle.mp_modules.specs.Clients.{is_free, waits as is_waiting}
use Rattle.mp_modules.specs.Memories.{output_of}
use Rattle.mp_modules.specs.Tables.{rendezvous}
use Rattle.mp_records.specs.declared.module_record.ModuleRecord.{ModuleRecord}
use Rattle.mp_records.specs.declared.bundle_record.BundleRecord.{BundleRecord}
use Rattle.mp_records.specs.Inputs.{input_at}
use Rattle.mp_netlist.specs.Circuit.{Circuit, module_at, bundle_at}
use Rattle.mp_model.specs.Levels.{inputs_by}
use Rattle.mp_model.specs.Waves.{level, state}
use Rattle.mp_model.specs.Findings.{is_busy}
use Rattle.mp_text.specs.Written.{wire_name}
use Rattle.mp_questions.specs.timing.Ranges.{read_time}
use Rattle.mp_questions.specs.timing.Events.{since}

-- ---- levels of a module over time

-- the level at an input, as the module hears it
abbrev pub heard : Circuit → ModuleRecord → ℕ → ℕ → ℕ
heard n r p t = slice_index (inputs_by n (level n) r t) p

-- the level at an output, before its delay
abbrev pub given : Circuit → ℕ → ℕ → ℕ → ℕ
given n m p t = output_of (state n m t) p

-- 1 while a client of an ARBITER waits
abbrev pub waiting : Circuit → ℕ → Client → ℕ → ℕ
waiting n m client t = if is_waiting client (state n m t).waiting then 1 else 0

-- 1 while two levels differ
abbrev pub apart : (ℕ → ℕ) → (ℕ → ℕ) → ℕ → ℕ
apart f g t = if f t == g t then 0 else 1

-- 1 while a REG is held: its capture and its pass differ
abbrev pub held : Circuit → ModuleRecord → ℕ → ℕ
held n r t = apart (heard n r 1) (heard n r 2) t

-- ---- lines

-- a name, what goes on there, with what, and since when
abbrev pub since_line : List ℕ → List ℕ → List ℕ → ℕ → List ℕ
since_line name does what t = name ++ (does ++ (what ++ (codes " since " ++ (decimal t ++ codes "\n"))))

-- the same with the wire at an input of a module
abbrev pub input_line : Circuit → ModuleRecord → List ℕ → ℕ → ℕ → List ℕ
input_line n r does p t = since_line r.name does (wire_name n (input_at r p).wire) t

-- ---- C: the input that has come differs from the output, and waits for the other one, which agrees with it

-- the input that hasn't come, where the other one has
abbrev pub missing_input : Circuit → ℕ → ModuleRecord → ℕ → Option ℕ
missing_input n m r t =
    let c = rendezvous r.params in
    let a = bubbled c.bubble_a (heard n r 0 t) in
    let b = bubbled c.bubble_b (heard n r 1 t) in
    if a == b then None else (if a == given n m 0 t then Some 0 else Some 1)

abbrev pub missing_line : Circuit → ModuleRecord → ℕ → Option ℕ → List ℕ
missing_line n r t None = []
missing_line n r t (Some p) = input_line n r (codes " C waits for ") p (since (heard n r (1 - p)) t)

abbrev pub rendezvous_wait : Circuit → ℕ → ModuleRecord → ℕ → List ℕ
rendezvous_wait n m r t = missing_line n r t (missing_input n m r t)

-- ---- CALL: while a client is served it waits for done, since the request went on

abbrev pub call_wait : Circuit → ℕ → ModuleRecord → ℕ → List ℕ
call_wait n m r t =
    if is_free (state n m t).served then [] else input_line n r (codes " CALL waits for ") 2 (since (given n m 0) t)

-- ---- ARBITER: it waits for the owner's done since the grant, and keeps the request of a client that waits

abbrev pub kept_request : Circuit → ℕ → ModuleRecord → ℕ → Client → ℕ → List ℕ
kept_request n m r t client p =
    if is_waiting client (state n m t).waiting then input_line n r (codes " ARBITER keeps ") p (since (waiting n m client) t) else []

abbrev pub owner_wait : Circuit → ℕ → ModuleRecord → ℕ → Client → List ℕ
owner_wait n m r t Nobody = []
owner_wait n m r t First = input_line n r (codes " ARBITER waits for ") 2 (since (given n m 0) t) ++ kept_request n m r t Second 1
owner_wait n m r t Second = input_line n r (codes " ARBITER waits for ") 3 (since (given n m 1) t) ++ kept_request n m r t First 0

-- ---- REG: what it holds, and since when

abbrev pub register_wait : Circuit → ℕ → ModuleRecord → ℕ → List ℕ
register_wait n m r t =
    if heard n r 1 t == heard n r 2 t then [] else since_line r.name (codes " REG holds ") (decimal (given n m 0 t)) (since (held n r) t)

-- ---- a bundle that is busy waits for its acknowledge, since its last request

abbrev pub busy_wait : Circuit → BundleRecord → ℕ → List ℕ
busy_wait n b t =
    if is_busy n b t then since_line b.name (codes " bundle waits for ") (wire_name n b.acknowledge) (since (level n b.request.0) t) else []

-- ---- of a netlist

-- other kinds never wait
abbrev pub kind_wait : Circuit → ℕ → ModuleRecord → ℕ → Kind → List ℕ
kind_wait n m r t kinds.C = rendezvous_wait n m r t
kind_wait n m r t kinds.Call = call_wait n m r t
kind_wait n m r t kinds.Arbiter = owner_wait n m r t (state n m t).served
kind_wait n m r t kinds.Reg = register_wait n m r t
kind_wait n m r t _ = []

abbrev pub slot_wait : Circuit → ℕ → ℕ → Option ModuleRecord → List ℕ
slot_wait n t m None = []
slot_wait n t m (Some r) = kind_wait n m r t r.kind

abbrev pub bundle_slot_wait : Circuit → ℕ → Option BundleRecord → List ℕ
bundle_slot_wait n t None = []
bundle_slot_wait n t (Some b) = busy_wait n b t

abbrev pub module_wait : Circuit → ℕ → ℕ → List ℕ
module_wait n t m = slot_wait n t m (module_at n m)

abbrev pub bundle_wait : Circuit → ℕ → ℕ → List ℕ
bundle_wait n t b = bundle_slot_wait n t (bundle_at n b)

-- the modules by number, and then the bundles
abbrev pub waits_at : Circuit → ℕ → List ℕ
waits_at n t =
    flat_map (module_wait n t) (range_with_len 0 (length n.modules)) ++ flat_map (bundle_wait n t) (range_with_len 0 (length n.bundles))

-- at the time that is asked for
unfoldable pub waits : Circuit → ℕ → List ℕ
waits n time = waits_at n (read_time n.horizon time)
