use Rattle.std.proofs.Common.{◌&&◌, cond, take}
use Rattle.mp_active.specs.compare.Reading.{reads, reads_wire, HasRead}
use Rattle.mp_active.proofs.compare.comparison.Comparison.note_inputs.Given as goal

abbrev pub invariant-loop-input : goal.invariant-loop-input
invariant-loop-input l = HasRead (λ x. cond l.is_active 0 (reads (take l.input-index l.inputs) x)) (λ w. l.is_active && reads_wire l.fn.self.numbers (take l.input-index l.inputs) w) l.fn.self l.self
