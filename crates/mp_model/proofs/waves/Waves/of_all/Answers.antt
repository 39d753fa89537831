use Rattle.std.proofs.Common.{option_map}
use Rattle.std.specs.Arc.{arc_value}
use Rattle.mp_model.proofs.MappingLemmas.{mapped_more}
use Rattle.mp_model.proofs.waves.Waves.of_all.Goals as goal

pub loop-wave-preserved : goal.loop-wave-preserved
loop-wave-preserved c =
    mapped_more (option_map arc_value) c.loop-wave.list.items c.in_ok-given.field-0 c.push.new.self.items c.loop-wave.yielded c.in-Some.wave c.in_ok-push.ensures.items c.loop-wave.invariant c.in_ok-given.ensures
