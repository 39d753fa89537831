use Rattle.std.proofs.Common.{◌≡◌, ◌<◌, ℕ, [], None, length, replicate, ap, sym, subst, ◌∙◌, arith}
use Rattle.mp_netlist.specs.Readers.{readers_in}
use Rattle.mp_picture.specs.ReaderRows.{HasMore}
use Rattle.mp_picture.proofs.ReaderLemmas.{Rows, more_none, more_next, readers_all}
use Rattle.mp_picture.proofs.readers.Readers.of.Goals as goal

pub loop-m-init : goal.loop-m-init
loop-m-init c =
    let empty : Rows = replicate (length c.args.netlist.now.wires) [] in
    let is : c.in_ok-rows.rows.items ≡ empty = c.in_ok-rows.ensures ∙ ap (λ (k : ℕ). replicate k []) c.wire_slots.ensures.value in
    subst (λ (rows : Rows). HasMore empty rows (λ w. [])) (sym is) (more_none empty)

pub loop-m-preserved : goal.loop-m-preserved
loop-m-preserved c =
    let n = c.args.netlist.now in
    let within : c.loop-m.m < length n.modules = omega (arith, c.module_slots-m-end.ensures.value) in
    more_next readers_in n.modules c.loop-m.m (replicate (length n.wires) []) c.loop-m.rows.items None c.push_module.new.rows.items within c.loop-m.invariant c.in_ok-push_module.ensures

pub returns : goal.returns
returns c =
    let n = c.args.netlist.now in
    let over : c.loop-m.m ≡ length n.modules = omega (arith, c.module_slots-m-end.ensures.value) in
    readers_all n c.loop-m.m c.loop-m.rows.items over c.loop-m.invariant
