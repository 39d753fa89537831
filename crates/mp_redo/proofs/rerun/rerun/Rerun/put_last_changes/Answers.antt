use Rattle.std.proofs.Common.{rules, ◌<◌, None, length, slice_index_or, sym, arith}
use Rattle.std.proofs.lemmas.List.{get_or_default}
use Rattle.std.proofs.lemmas.Result.{on_ok_weaker}
use Rattle.mp_records.specs.declared.ports.Output.{Output}
use Rattle.mp_netlist.proofs.LimitLemmas.{horizon_within}
use Rattle.mp_redo.proofs.lemmas.rerun.LastLemmas.{output_delay, port_within, port_inside, here_wire, here_delay, found_delay, kind_within, put_span}
use Rattle.mp_redo.proofs.rerun.rerun.Rerun.put_last_changes.Goals as goal

pub returns-in_default-wire : goal.returns-in_default-wire
returns-in_default-wire c = λ part wire can.
    let old = c.args.change.now.old.now in
    let new = c.args.change.now.new.now in
    let ok = c.requires.change.form in
    let items = c.as_slice-outputs.result.now in
    let same = c.as_slice-outputs.ensures in
    let at = sym c.in-Some.ensures.value in
    let none : Output = record { wire = None; delay = 0 } in
    let here = slice_index_or items c.args.port none in
    let inside = port_inside old new ok c.args.now c.args.id.0 c.args.port c.args.from c.in-Some.found.now c.args.self.now items same at part wire can in
    let is = get_or_default items c.args.port none here inside in
    absurd (c.in_default-wire.not-Some (record { 0 = wire }) (here_wire old new ok c.args.now c.args.id.0 c.args.port c.args.from c.in-Some.found.now c.args.self.now items same at part wire can here is))

pub index-requires : goal.index-requires
index-requires c =
    let old = c.args.change.now.old.now in
    let new = c.args.change.now.new.now in
    let ok = c.requires.change.form in
    let items = c.as_slice-outputs.result.now in
    let same = c.as_slice-outputs.ensures in
    let at = sym c.in-Some.ensures.value in
    let can = c.requires.can in
    let none : Output = record { wire = None; delay = 0 } in
    let here = slice_index_or items c.args.port none in
    let inside = port_inside old new ok c.args.now c.args.id.0 c.args.port c.args.from c.in-Some.found.now c.args.self.now items same at can.0 can.1 can.2 in
    let is = get_or_default items c.args.port none here inside in
    let low : c.in-Some-wire.wire.0 < length c.args.self.now.comparison.numbers.have_data.items =
    kind_within old new ok c.args.now c.args.id.0 c.args.port c.args.from c.in-Some.found.now c.args.self.now items same at can.0 can.1 can.2 here is c.in-Some-wire.wire c.in-Some-wire.is in
    search rules

pub overflow_add-until-2 : goal.overflow_add-until-2
overflow_add-until-2 c =
    let old = c.args.change.now.old.now in
    let new = c.args.change.now.new.now in
    let ok = c.requires.change.form in
    let items = c.as_slice-outputs.result.now in
    let same = c.as_slice-outputs.ensures in
    let at = sym c.in-Some.ensures.value in
    let can = c.requires.can in
    let none : Output = record { wire = None; delay = 0 } in
    let here = slice_index_or items c.args.port none in
    let inside = port_inside old new ok c.args.now c.args.id.0 c.args.port c.args.from c.in-Some.found.now c.args.self.now items same at can.0 can.1 can.2 in
    let is = get_or_default items c.args.port none here inside in
    let own = port_within old new ok c.args.now c.args.id.0 c.args.port c.args.from c.in-Some.found.now c.args.self.now items same at can.0 can.1 can.2 in
    let short = (output_delay new ok c.args.id.0 c.args.port c.in-Some.found.now at own).1 in
    let late = found_delay old new ok c.args.now c.args.id.0 c.args.port c.args.from c.in-Some.found.now c.args.self.now items same at can.0 can.1 can.2 here is in
    let most = horizon_within new ok in
    let below = c.requires.below in
    omega (arith, short, late, most, below)

pub put_old_changes-put-requires-clause-within : goal.put_old_changes-put-requires-clause-within
put_old_changes-put-requires-clause-within c =
    let old = c.args.change.now.old.now in
    let new = c.args.change.now.new.now in
    let ok = c.requires.change.form in
    let items = c.as_slice-outputs.result.now in
    let same = c.as_slice-outputs.ensures in
    let at = sym c.in-Some.ensures.value in
    let can = c.requires.can in
    let none : Output = record { wire = None; delay = 0 } in
    let here = slice_index_or items c.args.port none in
    let inside = port_inside old new ok c.args.now c.args.id.0 c.args.port c.args.from c.in-Some.found.now c.args.self.now items same at can.0 can.1 can.2 in
    let is = get_or_default items c.args.port none here inside in
    let late = here_delay old new ok c.args.now c.args.id.0 c.args.port c.args.from c.in-Some.found.now c.args.self.now items same at can.0 can.1 can.2 here is in
    let fits = can.2.room c.index.result.now in
    omega (arith, late, fits)

pub returns : goal.returns
returns c = on_ok_weaker c.put_old_changes-put.result (λ put part wire can.
    let old = c.args.change.now.old.now in
    let new = c.args.change.now.new.now in
    let ok = c.requires.change.form in
    let items = c.as_slice-outputs.result.now in
    let same = c.as_slice-outputs.ensures in
    let at = sym c.in-Some.ensures.value in
    let none : Output = record { wire = None; delay = 0 } in
    let here = slice_index_or items c.args.port none in
    let inside = port_inside old new ok c.args.now c.args.id.0 c.args.port c.args.from c.in-Some.found.now c.args.self.now items same at part wire can in
    let is = get_or_default items c.args.port none here inside in
    put_span old new ok c.args.now c.args.id.0 c.args.port c.args.from c.in-Some.found.now c.args.self.now items same at part wire can here is c.in-Some-wire.wire c.in-Some-wire.is c.index.result.now c.index.ensures
    c.in_ok-wave.wave c.in_ok-wave.ensures.form c.in_ok-wave.ensures.levels c.requires.last c.requires.below c.put_old_changes-put.new.simulation put) c.put_old_changes-put.ensures
