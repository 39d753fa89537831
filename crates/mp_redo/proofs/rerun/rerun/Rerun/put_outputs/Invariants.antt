use Rattle.std.proofs.Common.{ℕ, take}
use Rattle.mp_active.specs.excerpt.Numberings.{Numbering}
use Rattle.mp_redo.specs.rerun.Returning.{CanReturn, AreBack, is_output}
use Rattle.mp_redo.proofs.rerun.rerun.Rerun.put_outputs.Given as goal

-- the wires of the first outputs are back
abbrev pub invariant-loop-port : goal.invariant-loop-port
invariant-loop-port l = (numbering : Numbering) (since : ℕ → ℕ) → CanReturn l.change.old.now l.change.new.now l.change.run.now numbering since l.now l.fn.id.0 l.fn.self →
    AreBack l.change.new.now numbering l.now (is_output (take l.port l.output-items)) l.fn.self l.self
