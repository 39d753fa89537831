-- The checks that commands write and questions ask for.
use Rattle.std.specs.Prelude.{ℕ, List}
use Rattle.mp_netlist.specs.Circuit.{Circuit}
use Rattle.mp_check.specs.CheckTexts.{check_text}
use Rattle.mp_check.specs.Selections.{selected}
use Rattle.mp_check.specs.declared.check_asked.CheckAsked.{CheckAsked}

-- what is asked for of the check of a netlist
abbrev pub check_of : CheckAsked → Circuit → List ℕ
check_of asked n = check_text n (selected asked.selection) asked.is_brief
