use Rattle.std.proofs.Common.{length}
use Rattle.mp_netlist.proofs.NameLemmas.{wire_name}
use Rattle.mp_near.specs.reach.Marks.{AreGrown}
use Rattle.mp_near.specs.reach.Named.{wire_changed_by}
use Rattle.mp_near.proofs.lemmas.reach.NameMarkLemmas.{AreNoted}
use Rattle.mp_near.proofs.reach.named.named_wires.Given as goal

-- what the edits so far name is marked
abbrev pub invariant-loop-place : goal.invariant-loop-place
invariant-loop-place l = record {
  grown : AreGrown l.initial.marks.items l.marks.items;
  noted : AreNoted wire_name l.old.wires wire_changed_by l.edits l.place (length l.new.wires) l.marks.items;
}
