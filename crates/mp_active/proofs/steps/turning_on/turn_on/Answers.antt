use Rattle.std.proofs.Common.{◌+◌, arith}
use Rattle.mp_wave.specs.Waveform.{level_of, kept_before}
use Rattle.mp_active.proofs.lemmas.steps.RoomLemmas.{places_same, can_turn_copies, room_set}
use Rattle.mp_active.proofs.lemmas.steps.TurnedOnLemmas.{turns_on}
use Rattle.mp_active.proofs.steps.turning_on.turn_on.Goals as goal

pub set_wave-requires-clause-place : goal.set_wave-requires-clause-place
set_wave-requires-clause-place c =
    let s = c.args.simulation.now in
    let w = c.args.wire.number in
    let same = places_same c.args.wire.has_data w (level_of c.args.wire.wave.now c.args.now) s c.set_level.new.simulation c.set_level.ensures.level in
    let place = c.requires.place in
    omega (arith, same, place)

pub turn_copies_on-requires : goal.turn_copies_on-requires
turn_copies_on-requires c =
    let s = c.args.simulation.now in
    let wide = c.args.wire.has_data in
    let w = c.args.wire.number in
    let wave = c.args.wire.wave.now in
    let now = c.args.now in
    can_turn_copies wide w now s c.set_wave.new.simulation
    (room_set w (level_of wave now) (now + 1) (kept_before (now + 1) wave) s c.set_level.new.simulation c.set_wave.new.simulation c.set_level.ensures.level wide c.in_ok-set_wave.ensures)
    c.requires.copies

pub returns : goal.returns
returns c =
    turns_on c.args.wire.has_data c.args.wire.wave.now c.args.wire.number c.args.now c.args.simulation.now c.set_level.new.simulation c.set_wave.new.simulation c.turn_copies_on.new.simulation
    c.set_level.ensures.form c.requires.place c.set_level.ensures.level c.in_ok-set_wave.ensures c.in_ok-turn_copies_on.ensures
