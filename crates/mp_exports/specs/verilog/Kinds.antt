-- The modules of the kinds that a netlist has.
use Rattle.std.specs.Prelude.{ℕ, Bool, false, List, [], ◌∷◌, Option, Some, None, codes, if◌then◌else◌}
use Rattle.std.specs.List.{flat_map, list_any}
use Rattle.std.specs.Str.{bytes_eq}
use Rattle.mp_modules.specs.declared.kind.Kind.{Kind}
use Rattle.mp_modules.specs.declared.kind.Kind.TheVariants as kinds
use Rattle.mp_modules.specs.Kinds.{all_kinds, word_of}
use Rattle.mp_records.specs.declared.module_record.ModuleRecord.{ModuleRecord}
use Rattle.mp_netlist.specs.Circuit.{Circuit}
use Rattle.mp_exports.specs.verilog.EventModules.{c_text, toggle_text, select_text, call_text, arbiter_text}
use Rattle.mp_exports.specs.verilog.DataModules.{reg_text}
use Rattle.mp_exports.specs.verilog.FunctionModules.{function_module, function_text}

-- what the module of a kind is called
abbrev pub module_word : Kind → List ℕ
module_word kinds.C = codes "mp_c"
module_word kinds.Toggle = codes "mp_toggle"
module_word kinds.Select = codes "mp_select"
module_word kinds.Call = codes "mp_call"
module_word kinds.Arbiter = codes "mp_arbiter"
module_word kinds.Reg = codes "mp_reg"
module_word (kinds.Function function) = function_module function

abbrev pub kind_text : Kind → List ℕ
kind_text kinds.C = c_text
kind_text kinds.Toggle = toggle_text
kind_text kinds.Select = select_text
kind_text kinds.Call = call_text
kind_text kinds.Arbiter = arbiter_text
kind_text kinds.Reg = reg_text
kind_text (kinds.Function function) = function_text function

-- a module of this kind stands in the slot
abbrev pub is_of_kind : Kind → Option ModuleRecord → Bool
is_of_kind kind None = false
is_of_kind kind (Some r) = bytes_eq (word_of r.kind) (word_of kind)

-- the text of a kind of which a module stands
abbrev pub kind_section : Circuit → Kind → List ℕ
kind_section n kind = if list_any (is_of_kind kind) n.modules then kind_text kind else []

unfoldable pub kinds_text : Circuit → List ℕ
kinds_text n = flat_map (kind_section n) all_kinds
