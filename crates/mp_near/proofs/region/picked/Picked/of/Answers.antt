use Rattle.std.proofs.Common.{ℕ, Bool, List, length, subst}
use Rattle.mp_near.specs.region.Given.{AreGiven}
use Rattle.mp_near.specs.reach.Numbers.{AreNumbered}
use Rattle.mp_near.specs.declared.region.picked.Picked.{Picked}
use Rattle.mp_near.proofs.lemmas.region.PickLemmas.{Known, are_picks}
use Rattle.mp_near.proofs.region.picked.Picked.of.Goals as goal

pub returns : goal.returns
returns c =
    let old = c.args.change.now.old.now in
    let new = c.args.change.now.new.now in
    let modules = c.args.reached.now.modules.items in
    let wires = c.args.reached.now.wires.items in
    let known : Known old new modules wires = record { old_ok = c.requires.change.old; new_ok = c.requires.change.new; revision = c.requires.change.revision; reach = c.requires.reach.reach } in
    let all = c.in_ok-marks.marks.items in
    let picked : Picked = record { wires = c.in_ok-wires.wires; modules = c.in-Ok.modules; given = c.in-Ok-given_wires.given } in
    let numbers = picked.wires.numbers.items in
    are_picks old new modules wires all picked known c.requires.reach c.in_ok-marks.ensures
    (subst (λ (ms : List Bool). AreNumbered ms (length ms) numbers picked.wires.places.items) c.as_slice.ensures.value c.in_ok-wires.ensures)
    (subst (λ (ms : List Bool). AreNumbered ms (length ms) picked.modules.numbers.items picked.modules.places.items) c.as_slice-2.ensures.value c.in-Ok.ensures)
    (subst (λ (ms : List Bool). AreGiven new ms numbers picked.given.items) c.as_slice-3.ensures.value
    (subst (λ (ns : List ℕ). AreGiven new c.as_slice-3.result.now ns picked.given.items) c.as_slice-4.ensures.value c.in-Ok-given_wires.ensures))
