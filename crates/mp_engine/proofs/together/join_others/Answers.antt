use Rattle.std.proofs.Common.{◌++◌, [], ◌∷◌, List, map, sym, ap, ◌∙◌}
use Rattle.std.proofs.lemmas.List.{map_push, length-map}
use Rattle.mp_partition.specs.declared.merging.part_run.PartRun.{PartRun}
use Rattle.mp_engine.proofs.JoinLemmas.{first_joined, one_joined, all_joined}
use Rattle.mp_engine.proofs.together.join_others.Goals as goal

pub loop-other-init : goal.loop-other-init
loop-other-init g c n division keeps count first others =
    first_joined n division keeps (map (λ other. other.promise) c.args.others.items) c.push.new.self.items c.args.first (c.in_ok-push.ensures.items ∙ ap (λ (xs : List PartRun). xs ++ c.args.first ∷ []) c.new-runs.ensures.items) count first others

pub loop-other-preserved : goal.loop-other-preserved
loop-other-preserved g c n division keeps count first others =
    one_joined n division keeps (map (λ other. other.promise) c.loop-other.others.items) (map (λ other. other.promise) c.pop.new.self.items) c.loop-other.runs.items c.push-in-Ok.new.self.items c.in-Some.other.promise c.in-Ok.run'
    (ap (map (λ other. other.promise)) c.in-Some.ensures.items ∙ map_push (λ other. other.promise) c.pop.new.self.items c.in-Some.other) c.in_ok-push-in-Ok.ensures.items c.in-Ok.ensures
    (c.loop-other.invariant n division keeps count first others)

pub returns : goal.returns
returns g c n division keeps count first others =
    all_joined n division keeps (map (λ other. other.promise) c.loop-other.others.items) c.loop-other.runs.items (length-map c.loop-other.others.items (λ other. other.promise) ∙ sym c.loop-other.others.ok.0 ∙ c.in_default.ensures.cases.0) (c.loop-other.invariant n division keeps count first others)
