use Rattle.std.proofs.Common.{◌≡◌, length, take}
use Rattle.mp_simulation.specs.run.Wirings.{HasRead}
use Rattle.mp_simulation.proofs.run.wiring.Wiring.add_module.Given as goal

-- the inputs so far are added
abbrev pub invariant-loop-port : goal.invariant-loop-port
invariant-loop-port l = record {
  done : HasRead l.fn.self l.self l.place (take l.port l.inputs) l.numbers;
  long : length l.numbers ≡ 4;
}
