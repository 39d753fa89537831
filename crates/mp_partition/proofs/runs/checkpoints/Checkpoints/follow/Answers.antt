use Rattle.std.proofs.Common.{◌≡◌, List, ◌++◌, drop, ap, ◌∙◌, sym, subst}
use Rattle.std.proofs.lemmas.Result.{on_ok_weaker}
use Rattle.mp_modules.specs.Memories.{blank}
use Rattle.mp_partition.specs.declared.runs.checkpoint.Checkpoint.{Checkpoint}
use Rattle.mp_partition.specs.runs.Checkpoints.{kept_at, kept_before, KeepsBetween}
use Rattle.mp_partition.specs.runs.StateLists.{states_of}
use Rattle.mp_partition.proofs.lemmas.runs.KeepLemmas.{keeps_between}
use Rattle.mp_partition.proofs.lemmas.runs.SearchLemmas.{AreOver, over-new}
use Rattle.mp_partition.proofs.runs.checkpoints.Checkpoints.follow.Goals as goal

pub add_before-requires-clause-over : goal.add_before-requires-clause-over
add_before-requires-clause-over c =
    let later = drop c.split-later.result.1 (states_of c.other.inside.list) in
    let new : Checkpoint = record { time = c.args.from; memory = c.split-later.result.0 } in
    subst (λ (l : List Checkpoint). AreOver l later) (sym c.in_ok-push.ensures) (over-new c.args.self.now later new c.requires.over c.split-later.ensures.later)

pub returns : goal.returns
returns c =
    let later = drop c.split-later.result.1 (states_of c.other.inside.list) in
    let memory = c.split-later.result.0 in
    let ks : List Checkpoint = c.args.self.now in
    on_ok_weaker c.add_before.result
    (λ e. subst (KeepsBetween ks c.args.other.now c.args.from c.args.to) (sym (e ∙ ap (λ (xs : List Checkpoint). xs ++ kept_before c.args.to later) c.in_ok-push.ensures))
    (keeps_between ks c.args.other.now later c.args.from c.args.to memory c.requires.over c.requires.some
    (λ time le. subst (λ (ks : List Checkpoint). kept_at ks time blank ≡ kept_at later time memory) c.other.view_is (c.split-later.ensures.from time le))))
    c.add_before.ensures
