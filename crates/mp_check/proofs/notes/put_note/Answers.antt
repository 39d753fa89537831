use Rattle.std.proofs.Common.{Bool, subst}
use Rattle.mp_streams.specs.Outgoing.{Writes}
use Rattle.mp_netlist.specs.declared.driver.Driver.{Driver}
use Rattle.mp_check.specs.Notes.{driver_note, nothing_note, stimulus_note}
use Rattle.mp_check.proofs.notes.put_note.Goals as goal

pub returns-in-Port : goal.returns-in-Port
returns-in-Port g c =
    let n = c.args.end.now.at.netlist.now in
    subst (λ (d : Driver). Writes c.put_port.result c.args.out.now c.put_port.new.out (driver_note n c.args.wire.0 c.args.found.now d)) c.in-Port.ensures c.put_port.ensures

pub returns-in-Nothing : goal.returns-in-Nothing
returns-in-Nothing g c =
    let n = c.args.end.now.at.netlist.now in
    subst (λ (d : Driver). Writes c.put_undriven.result c.args.out.now c.put_undriven.new.out (driver_note n c.args.wire.0 c.args.found.now d)) c.in-Nothing.ensures
    (subst (λ (b : Bool). Writes c.put_undriven.result c.args.out.now c.put_undriven.new.out (nothing_note c.args.found.now b)) c.requires.read c.put_undriven.ensures)

pub returns-in-Stimulus : goal.returns-in-Stimulus
returns-in-Stimulus g c =
    let n = c.args.end.now.at.netlist.now in
    subst (λ (d : Driver). Writes c.put_unread.result c.args.out.now c.put_unread.new.out (driver_note n c.args.wire.0 c.args.found.now d)) c.in-Stimulus.ensures
    (subst (λ (b : Bool). Writes c.put_unread.result c.args.out.now c.put_unread.new.out (stimulus_note c.args.found.now b)) c.requires.read c.put_unread.ensures)
