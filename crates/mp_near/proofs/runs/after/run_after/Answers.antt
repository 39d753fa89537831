use Rattle.std.proofs.Common.{List, ℕ, length, sym, subst}
use Rattle.mp_records.specs.lists.Replaced.{AreApart}
use Rattle.mp_partition.specs.runs.Replacing.{HasReplaced}
use Rattle.mp_redo.proofs.lemmas.parts.OkLemmas.{on_ok}
use Rattle.mp_near.proofs.lemmas.reach.NumberLemmas.{numbers_apart}
use Rattle.mp_near.proofs.lemmas.runs.RunLemmas.{run_joined}
use Rattle.mp_near.proofs.runs.after.run_after.Goals as goal

pub with_part-requires-clause-wires : goal.with_part-requires-clause-wires
with_part-requires-clause-wires c =
    let wires = c.requires.region.picks.wires in
    let picked = c.args.small.now.picked.wires in
    subst AreApart (sym c.as_slice-wires.ensures.value) (numbers_apart wires.0 (length c.args.change.now.new.now.wires) picked.numbers.items picked.places.items wires.1)

pub with_part-requires-clause-modules : goal.with_part-requires-clause-modules
with_part-requires-clause-modules c =
    let modules = c.requires.region.picks.modules in
    let picked = c.args.small.now.picked.modules in
    subst AreApart (sym c.as_slice-modules.ensures.value) (numbers_apart modules.0 (length c.args.change.now.new.now.modules) picked.numbers.items picked.places.items modules.1)

pub returns : goal.returns
returns c =
    let is = c.requires in
    let old = c.args.change.now.run.now in
    let part = c.args.found.now in
    on_ok c.with_part.result _ _ (λ run made. run_joined c.args.change.now is.known c.args.small.now is.region part run is.run
    (subst (λ (ms : List ℕ). HasReplaced old c.args.small.now.picked.wires.numbers.items ms part run) c.as_slice-modules.ensures.value
    (subst (λ (ws : List ℕ). HasReplaced old ws c.as_slice-modules.result.now part run) c.as_slice-wires.ensures.value made))) c.with_part.ensures
