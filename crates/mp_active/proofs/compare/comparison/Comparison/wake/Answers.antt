use Rattle.mp_active.proofs.lemmas.compare.AsleepLemmas.{awake_complete}
use Rattle.mp_active.proofs.compare.comparison.Comparison.wake.Goals as goal

pub returns-clause-complete : goal.returns-clause-complete
returns-clause-complete c = λ all.
    c.in_ok-let_all_differ.ensures.complete
    (awake_complete c.args.run.now c.args.now c.args.inputs.now c.args.self.now c.read_awake.new.self
    (record { kept = c.read_awake.ensures.kept; places = c.read_awake.ensures.places; counts = c.read_awake.ensures.asleep }) all)
