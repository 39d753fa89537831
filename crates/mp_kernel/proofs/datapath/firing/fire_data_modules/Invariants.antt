use Rattle.std.proofs.Common.{◌≡◌, length, take}
use Rattle.mp_kernel.specs.events.Firing.{scheduled}
use Rattle.mp_kernel.specs.datapath.LevelWheels.{scheduled as levels_scheduled}
use Rattle.mp_kernel.specs.datapath.DataFiring.{HaveStepped, fired_by, changed_by}
use Rattle.mp_kernel.proofs.datapath.firing.fire_data_modules.Given as goal

-- the modules at the places before have fired
abbrev pub invariant-loop-place : goal.invariant-loop-place
invariant-loop-place l = record {
  modules : HaveStepped l.levels l.places (take l.place-index l.due) l.initial.modules.items l.modules.items;
  events : l.events ≡ scheduled l.initial.events (fired_by l.levels l.places l.initial.modules.items (take l.place-index l.due));
  changes : l.changes ≡ levels_scheduled l.initial.changes (changed_by l.levels l.places l.initial.modules.items (take l.place-index l.due));
  units : length l.events ≡ length l.initial.events;
  slots : length l.changes ≡ length l.initial.changes;
}
