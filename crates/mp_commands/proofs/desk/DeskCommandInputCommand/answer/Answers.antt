use Rattle.std.specs.Prelude.{◌≡◌}
use Rattle.mp_commands.proofs.Names.{true, length, Err, refl, rules, vec_len, puts_as, puts_ok, OutOfMemory, refused, refused_unseated, wrote, wrote_part, blocks_of, run_fault_of}
use Rattle.mp_streams.specs.declared.write_error.WriteError.TheVariants as writes
use Rattle.mp_commands.proofs.DeskLemmas.{blocks_count, is_text, refused_meeting}
use Rattle.mp_commands.proofs.desk.DeskCommandInputCommand.answer.Goals as goal

pub returns-in_err-front : goal.returns-in_err-front
returns-in_err-front g c = refused _ _ _ _ c.from_residual.result OutOfMemory c.from_residual.ensures.1 tt

pub returns-in_err-netlist : goal.returns-in_err-netlist
returns-in_err-netlist g c =
    let r = c.from_residual-in_err-netlist in
    let count = blocks_count c.args.input.items c.in_ok-front.blocks.items (vec_len c.in_ok-front.blocks) (search rules) (rw c.as_slice-text.ensures.value at c.in_ok-front.ensures.blocks) in
    let unseated = rw (c.desk_crew-size.ensures.valid, c.len.ensures, count, c.in_ok-front.ensures.front, c.as_slice-text.ensures.value) at c.in_err-netlist.ensures.refused in
    refused true _ _ _ r.result c.in_err-netlist.field-0.0 r.ensures.1 (refused_unseated true _ c.in_err-netlist.field-0.0 unseated)

pub returns-in_err-session : goal.returns-in_err-session
returns-in_err-session g c = refused _ _ _ _ c.from_residual-in_err-session.result OutOfMemory c.from_residual-in_err-session.ensures.1 tt

pub returns : goal.returns
returns g c =
    let count = blocks_count c.args.input.items c.in_ok-front.blocks.items (vec_len c.in_ok-front.blocks) (search rules) (rw c.as_slice-text.ensures.value at c.in_ok-front.ensures.blocks) in
    let is_opened = rw (c.desk_crew-size.ensures.valid, c.len.ensures, count, c.in_ok-front.ensures.front, c.as_slice-text.ensures.value) at c.in_ok-netlist.ensures.netlist in
    refused true _ _ _ (Err c.fault_of_meeting.result) (run_fault_of c.in-Err.fault) c.fault_of_meeting.ensures (refused_meeting _ c.in-Err.fault (rw is_opened refl))

pub returns-in_err-put_outcome-in-Ok : goal.returns-in_err-put_outcome-in-Ok
returns-in_err-put_outcome-in-Ok g c =
    let viewers = c.args.options.now.viewers in
    let m = c.in-Ok.outcome in
    let r = c.from_residual-in_err-put_outcome-in-Ok in
    let count = blocks_count c.args.input.items c.in_ok-front.blocks.items (vec_len c.in_ok-front.blocks) (search rules) (rw c.as_slice-text.ensures.value at c.in_ok-front.ensures.blocks) in
    let is_opened = rw (c.desk_crew-size.ensures.valid, c.len.ensures, count, c.in_ok-front.ensures.front, c.as_slice-text.ensures.value) at c.in_ok-netlist.ensures.netlist in
    let sizes = rw c.in_ok-netlist.ensures.crew at c.desk_crew-size.ensures.size in
    let seen : length m.numbers.items ≡ viewers = search rules in
    let meeting = rw (c.in_ok-session.ensures.story, c.as_slice.ensures.value, c.in_ok-front.ensures.blocks, c.as_slice-text.ensures.value) at c.in-Ok.ensures.met in
    let text = is_text c.in_ok-netlist.netlist (blocks_of c.args.input.items) viewers _ m.tallies.items m.numbers.items meeting seen c.in_err-put_outcome-in-Ok.ensures.replayed in
    wrote_part true _ _ c.in_ok-netlist.netlist is_opened _ text _ _ r.result writes.WriteFailed r.ensures.1
    (puts_as (Err writes.WriteFailed) writes.WriteFailed refl refl c.in_err-put_outcome-in-Ok.ensures.written)

pub returns-in-Ok : goal.returns-in-Ok
returns-in-Ok g c =
    let viewers = c.args.options.now.viewers in
    let m = c.in-Ok.outcome in
    let count = blocks_count c.args.input.items c.in_ok-front.blocks.items (vec_len c.in_ok-front.blocks) (search rules) (rw c.as_slice-text.ensures.value at c.in_ok-front.ensures.blocks) in
    let is_opened = rw (c.desk_crew-size.ensures.valid, c.len.ensures, count, c.in_ok-front.ensures.front, c.as_slice-text.ensures.value) at c.in_ok-netlist.ensures.netlist in
    let sizes = rw c.in_ok-netlist.ensures.crew at c.desk_crew-size.ensures.size in
    let seen : length m.numbers.items ≡ viewers = search rules in
    let meeting = rw (c.in_ok-session.ensures.story, c.as_slice.ensures.value, c.in_ok-front.ensures.blocks, c.as_slice-text.ensures.value) at c.in-Ok.ensures.met in
    let text = is_text c.in_ok-netlist.netlist (blocks_of c.args.input.items) viewers _ m.tallies.items m.numbers.items meeting seen c.in_ok-put_outcome-in-Ok.ensures.replayed in
    wrote true _ _ c.in_ok-netlist.netlist is_opened _ text _ _ (puts_ok c.in_ok-put_outcome-in-Ok.ensures.written)
