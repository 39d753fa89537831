use Rattle.std.proofs.Common.{◌≡◌, ◌⊎◌, Err, subst}
use Rattle.mp_records.specs.declared.edit_error.EditError.TheVariants.{OutOfMemory}
use Rattle.mp_netlist.specs.Circuit.{Circuit}
use Rattle.mp_netlist.specs.Edits.{after_each}
use Rattle.mp_netlist.proofs.BatchLemmas.{batch_refused}
use Rattle.mp_netlist.proofs.netlist.Netlist.after_batch.Goals as goal

pub returns-in-Err-clause-refused : goal.returns-in-Err-clause-refused
returns-in-Err-clause-refused c =
    let edits = c.args.batch.now in
    let error = c.in-Err.error in
    batch_refused c.args.self.now edits error c.in_ok-check_batch.ensures
    (subst (λ (m : Circuit). (after_each 1 m edits ≡ Err error) ⊎ (error ≡ OutOfMemory)) c.in_ok-next.ensures c.in-Err.ensures.refused)
