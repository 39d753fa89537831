-- How a module of width 1 answers events: kinds that answer alike are one automaton.
use Rattle.mp_modules.specs.declared.core_module.CoreModule.{CoreModule}
use Rattle.mp_modules.specs.declared.core_module.CoreModule.TheVariants as core
use Rattle.mp_modules.specs.declared.function.Function.{Function}
use Rattle.mp_modules.specs.declared.function.Function.TheVariants as functions
use Rattle.mp_modules.specs.declared.storage.any_module.AnyModule.{AnyModule}
use Rattle.mp_modules.specs.declared.storage.any_module.AnyModule.TheVariants as parts
use Rattle.mp_modules.specs.declared.automata.automaton.Automaton.{Automaton}
use Rattle.mp_modules.specs.declared.automata.automaton.Automaton.TheVariants.{Follow, Merge, Join, Alternate, Choose, Serve, Grant, Hold, Meet, Pick}

abbrev pub core_automaton : CoreModule → Automaton
core_automaton (core.C c) = Join
core_automaton core.Toggle = Alternate
core_automaton core.Select = Choose
core_automaton core.Call = Serve
core_automaton core.Arbiter = Grant

abbrev pub function_automaton : Function → Automaton
function_automaton functions.Xor = Merge
function_automaton functions.Sum = Merge
function_automaton functions.Sub = Merge
function_automaton functions.And = Meet
function_automaton functions.Or = Meet
function_automaton functions.Less = Meet
function_automaton functions.Mux = Pick
function_automaton _ = Follow

-- how a module of width 1 answers
abbrev pub automaton_of : AnyModule → Automaton
automaton_of (parts.Core part) = core_automaton part
automaton_of (parts.Reg part) = Hold
automaton_of (parts.Function part) = function_automaton part.function
