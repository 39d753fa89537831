use Rattle.std.proofs.Common.{◌<◌, ◌^◌, List, Option, None, OnOk, length, sym, subst}
use Rattle.std.specs.List.{enumerate_from}
use Rattle.mp_records.specs.declared.ports.Input.{Input}
use Rattle.mp_records.specs.declared.module_record.ModuleRecord.{ModuleRecord}
use Rattle.mp_netlist.specs.Readers.{ports_at, readers_in}
use Rattle.mp_picture.specs.ReaderRows.{HasMore}
use Rattle.mp_picture.proofs.ReaderLemmas.{inputs_few, more_none, slot_more}
use Rattle.mp_picture.proofs.readers.push_module.Goals as goal

pub push_inputs-requires : goal.push_inputs-requires
push_inputs-requires c =
    subst (λ (is : List Input). length is < 2 ^ 32) (sym c.as_slice.ensures) (inputs_few c.args.netlist.now c.in-Some.found.now c.in-Some.ensures.form)

pub returns-in-Some : goal.returns-in-Some
returns-in-Some c =
    let old = c.args.rows.now.items in
    let new = c.push_inputs.new.rows.items in
    let m = c.args.id.0 in
    let ports = subst (λ (is : List Input). OnOk c.push_inputs.result (HasMore old new (λ w. ports_at w m (enumerate_from 0 is)))) c.as_slice.ensures c.push_inputs.ensures in
    subst (λ (slot : Option ModuleRecord). OnOk c.push_inputs.result (HasMore old new (λ w. readers_in w (m, slot)))) c.in-Some.ensures.value ports

pub returns-in-None : goal.returns-in-None
returns-in-None c = slot_more c.args.rows.now.items c.args.rows.now.items c.args.id.0 None _ c.in-None.ensures.value (more_none c.args.rows.now.items)
