use Rattle.std.proofs.Common.{ap, length, arith}
use Rattle.std.specs.Arc.{arc_value}
use Rattle.mp_version.proofs.ChunkLemmas.{length_chunks}
use Rattle.mp_version.proofs.history.History.len.Goals as goal

pub overflow_mul-result : goal.overflow_mul-result
overflow_mul-result c = omega (arith, length_chunks arc_value c.self.inside.chunks.items c.self.inside.last c.self.invariant, c.self.invariant.few)

pub overflow_add-result : goal.overflow_add-result
overflow_add-result c = omega (arith, length_chunks arc_value c.self.inside.chunks.items c.self.inside.last c.self.invariant, c.self.invariant.few)

pub overflow_cast-result : goal.overflow_cast-result
overflow_cast-result c = omega (arith, length_chunks arc_value c.self.inside.chunks.items c.self.inside.last c.self.invariant, c.self.invariant.few)

pub returns-clause-value : goal.returns-clause-value
returns-clause-value c = omega (arith, length_chunks arc_value c.self.inside.chunks.items c.self.inside.last c.self.invariant, ap length c.self.view_is)

pub returns-clause-few : goal.returns-clause-few
returns-clause-few c = omega (arith, length_chunks arc_value c.self.inside.chunks.items c.self.inside.last c.self.invariant, c.self.invariant.few)
