use Rattle.std.proofs.Common.{◌≡◌, ◌≤◌, All, List, sym, subst}
use Rattle.mp_records.specs.declared.ports.Output.{Output}
use Rattle.mp_redo.proofs.rerun.sleeping.longest.Goals as goal

pub returns-clause-most : goal.returns-clause-most
returns-clause-most c = λ bound all.
    let same : c.as_slice-output-items.result.now ≡ c.args.found.now.outputs = cc in
    c.loop-output.invariant.most bound (subst (λ (xs : List Output). All (λ (o : Output). o.delay ≤ bound) xs) (sym same) all)
