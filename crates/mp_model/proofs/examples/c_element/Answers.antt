use Rattle.std.proofs.Common.{refl}
use Rattle.mp_modules.specs.storage.AnyModules.{any_part_of, settle, step}
use Rattle.mp_netlist.specs.Drivers.{driver}
use Rattle.mp_model.specs.Histories.{history}
use Rattle.mp_model.specs.Waves.{level}
use Rattle.mp_model.proofs.examples.c_element.Goals as goal

pub returns : goal.returns
unfolding driver history level any_part_of settle step
returns c = refl
