use Rattle.std.proofs.Common.{ℕ, ◌<◌, ◌&&◌, cond, Option, None, List, length, sym, subst}
use Rattle.std.proofs.lemmas.List.{take_all}
use Rattle.mp_active.specs.declared.compare.numbers.Numbers.{Numbers}
use Rattle.mp_active.specs.compare.Reading.{reads, reads_wire, HasRead}
use Rattle.mp_active.proofs.lemmas.compare.ReadingLemmas.{same_numbers, input_more, input_room, read_places, read_wires, no_inputs}
use Rattle.mp_active.proofs.compare.comparison.Comparison.note_inputs.Goals as goal

pub loop-input-init : goal.loop-input-init
loop-input-init c = no_inputs c.args.is_active c.args.self.now

pub note_input-requires-clause-below : goal.note_input-requires-clause-below
note_input-requires-clause-below c x at =
    subst (λ (numbers : Numbers). x < length numbers.wires.items) (sym (same_numbers _ _ c.args.self.now c.loop-input.self c.loop-input.invariant)) (c.requires.below c.loop-input.input-index x at)

pub note_input-requires-clause-places : goal.note_input-requires-clause-places
note_input-requires-clause-places c = read_places _ _ c.args.self.now c.loop-input.self c.loop-input.invariant c.requires.places

pub note_input-requires-clause-wires : goal.note_input-requires-clause-wires
note_input-requires-clause-wires c = read_wires _ _ c.args.self.now c.loop-input.self c.loop-input.invariant c.requires.wires

pub note_input-requires-clause-room : goal.note_input-requires-clause-room
note_input-requires-clause-room c x =
    input_room c.args.is_active c.args.inputs.now c.loop-input.input-index _ c.args.self.now c.loop-input.self x c.loop-input-test.true c.loop-input.invariant (c.requires.room x)

pub loop-input-preserved : goal.loop-input-preserved
loop-input-preserved c =
    input_more c.args.is_active c.args.inputs.now c.loop-input.input-index None c.args.self.now c.loop-input.self c.note_input.new.self c.loop-input-test.true c.loop-input.invariant c.note_input.ensures

pub returns : goal.returns
returns c =
    subst (λ (xs : List (Option ℕ)). HasRead (λ x. cond c.args.is_active 0 (reads xs x)) (λ w. c.args.is_active && reads_wire c.args.self.now.numbers xs w) c.args.self.now c.loop-input.self)
    (take_all c.loop-input.input-index c.args.inputs.now c.loop-input-test.false) c.loop-input.invariant
