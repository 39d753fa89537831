use Rattle.mp_text.proofs.stated_edit.stated_edit.Goals as goal

pub returns-in-Wire : goal.returns-in-Wire
returns-in-Wire c = rw c.in-Wire.is c.wire_edit.ensures

pub returns-in-Stimulus : goal.returns-in-Stimulus
returns-in-Stimulus c = rw c.in-Stimulus.is c.stimulus_edit.ensures

pub returns-in-Bundle : goal.returns-in-Bundle
returns-in-Bundle c = rw c.in-Bundle.is c.bundle_edit.ensures
