use Rattle.std.proofs.Common.{Result, Ok, Err, IfOk, ap, ◌∙◌}
use Rattle.mp_netlist.specs.Slots.{slot_at}
use Rattle.mp_partition.specs.declared.merging.part_run.PartRun.{PartRun}
use Rattle.mp_partition.proofs.lemmas.merging.MergeLemmas.{divided_wave}
use Rattle.mp_partition.proofs.merging.merging.wave_of.Goals as goal

on_ok : {T E : Type 0} (r : Result T E) (P Q : T → Type 0) → ((x : T) → P x → Q x) → IfOk r P → IfOk r Q
on_ok (Ok value) P Q f holds = f value holds
on_ok (Err error) P Q f holds = tt

pub returns : goal.returns
returns c =
    let n = c.args.netlist.now in
    let w = c.args.wire.0 in
    let runs = c.args.runs.now in
    let division = c.args.division.now in
    let run = c.index-runs-part.result in
    on_ok c.shared_wave.result _ _ (λ wave is. is ∙ ap (λ (x : PartRun). slot_at x.waves w) c.index-runs-part.is
    ∙ divided_wave n c.requires.form division.homes.items division.wires.items division.heard.items division.parts w c.part_of_wire-part.result runs run c.requires.division c.requires.runs c.requires.low
    c.part_of_wire-part.ensures.low c.part_of_wire-part.ensures.home) c.shared_wave.ensures
