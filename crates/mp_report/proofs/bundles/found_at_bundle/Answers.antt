use Rattle.std.proofs.Common.{◌≡◌, IfOk, sym, subst}
use Rattle.mp_report.proofs.BundleLemmas.{bundle_over}
use Rattle.mp_report.proofs.bundles.found_at_bundle.Goals as goal

pub returns : goal.returns
returns c = subst (λ l. IfOk c.found_by.result (λ found. found ≡ l)) (bundle_over c.args.netlist.now c.args.id.0 c.in-Some.bundle.now (sym c.in-Some.ensures.value)) c.found_by.ensures
