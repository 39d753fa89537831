use Rattle.std.proofs.Common.{◌≡◌, false, take}
use Rattle.std.specs.List.{list_any}
use Rattle.mp_text.specs.Written.{stands_fourth}
use Rattle.mp_text.proofs.writing.has_fourth.Given as goal

-- none of the modules so far needs the format
abbrev pub invariant-loop-number : goal.invariant-loop-number
invariant-loop-number l = list_any stands_fourth (take l.number l.netlist.modules) ≡ false
