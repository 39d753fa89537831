use Rattle.std.proofs.Common.{◌≡◌, ℕ, ◌<◌, List, ◌∷◌, ◌++◌, length, ◌+◌, drop, slice_index_or, arith, ap, sym, ◌∙◌, subst}
use Rattle.std.proofs.lemmas.List.{drop_more}
use Rattle.std.proofs.lemmas.List.Sorted.{IsNonDecreasingBy-drop}
use Rattle.mp_partition.specs.declared.runs.checkpoint.Checkpoint.{Checkpoint}
use Rattle.mp_partition.specs.runs.Checkpoints.{kept_before}
use Rattle.mp_partition.specs.runs.StateLists.{states_of}
use Rattle.mp_partition.proofs.lemmas.runs.SearchLemmas.{AreOver, added-next, over-first, over-next}
use Rattle.mp_partition.proofs.runs.checkpoints.Checkpoints.add_before.Goals as goal

-- what is left to be added begins with the state at the place
begins : (all : List Checkpoint) (place count : ℕ) (x : Checkpoint) → place < count → count ≡ length all → x ≡ slice_index_or all place x → drop place all ≡ x ∷ drop (place + 1) all
begins all place count x low many is = drop_more all place x (omega (arith, low, many)) ∙ ap (λ (k : Checkpoint). k ∷ drop (place + 1) all) (sym is)

pub push-requires : goal.push-requires
push-requires c =
    let place = c.loop-place.place in
    let all = states_of c.args.list.now in
    let first = begins all place c.len-place-end.result c.at-checkpoint.result c.loop-place-test.true c.len-place-end.ensures c.at-checkpoint.ensures in
    over-first c.loop-place.self (drop place all) (drop (place + 1) all) c.at-checkpoint.result first c.loop-place.invariant.1

pub loop-place-preserved : goal.loop-place-preserved
loop-place-preserved c =
    let ks : List Checkpoint = c.loop-place.self in
    let place = c.loop-place.place in
    let all = states_of c.args.list.now in
    let rest = drop (place + 1) all in
    let whole = c.args.self.now ++ kept_before c.args.end (drop c.args.from all) in
    let first = begins all place c.len-place-end.result c.at-checkpoint.result c.loop-place-test.true c.len-place-end.ensures c.at-checkpoint.ensures in
    let left = added-next ks c.push.new.self (drop place all) rest whole c.at-checkpoint.result c.args.end c.in_ok-push.ensures first c.if-checkpoint-end.false c.loop-place.invariant.0 in
    let over = over-next ks (drop place all) rest c.at-checkpoint.result first (IsNonDecreasingBy-drop (λ (k : Checkpoint). k.time) place all c.requires.rising) c.loop-place.invariant.1 in
    (left, subst (λ (l : List Checkpoint). AreOver l rest) (sym c.in_ok-push.ensures) over)
