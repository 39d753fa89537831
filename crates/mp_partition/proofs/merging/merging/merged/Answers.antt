use Rattle.std.proofs.Common.{true}
use Rattle.mp_partition.proofs.lemmas.merging.MergeLemmas.{have_waves}
use Rattle.mp_partition.proofs.merging.merging.merged.Goals as goal

pub merged_waves-requires-clause-runs : goal.merged_waves-requires-clause-runs
merged_waves-requires-clause-runs c =
    let division = c.args.division.now in
    have_waves c.args.netlist.now division.homes.items division.heard.items division.parts true c.args.runs.now c.requires.runs

pub returns : goal.returns
returns c = record { waves = c.in_ok-waves.ensures; ends = λ _. c.in_ok-ends.ensures; kept = λ _. c.in_ok-kept.ensures }
