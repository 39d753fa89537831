use Rattle.std.proofs.Common.{◌+◌, ◌<◌, ◌^◌, ℕ, List, IfSome, get_or, length-take, nat_eq, take, ap, subst, sym, ◌∙◌, arith}
use Rattle.std.specs.Map.{lookup}
use Rattle.std.proofs.lemmas.List.{take_more}
use Rattle.indexmap.specs.IndexMap.{insert_entry}
use Rattle.mp_modules.specs.declared.finding_code.FindingCode.TheVariants.{MergeCollision}
use Rattle.mp_model.specs.Findings.{module_place}
use Rattle.mp_check.specs.Grouping.{joined_to, keyed_groups}
use Rattle.mp_check.specs.Keys.{key_of}
use Rattle.mp_check.specs.declared.group.Group.{Group}
use Rattle.mp_check.specs.declared.problem.Problem.{Problem}
use Rattle.mp_check.specs.declared.problem.Problem.TheVariants.{Found}
use Rattle.mp_check.proofs.GroupLemmas.{keyed_more, room_left}
use Rattle.mp_check.proofs.grouping.keyed_groups.Goals as goal

abbrev none : Problem
none = Found (record { time = 0; place = module_place 0; code = MergeCollision })

pub join-requires : goal.join-requires
join-requires c =
    let all = c.args.problems.now in
    let i = c.loop-problem.problem-index in
    let q : Problem = get_or all i none in
    record {
      room =
          subst (λ (es : List (ℕ × Group)). IfSome (lookup (nat_eq (key_of q)) es) (λ (group : Group). group.count + 1 < 2 ^ 64)) (sym c.loop-problem.invariant)
          (room_left (take i all) q (omega (arith, length-take i all)));
    }

pub loop-problem-preserved : goal.loop-problem-preserved
loop-problem-preserved c =
    let all = c.args.problems.now in
    let i = c.loop-problem.problem-index in
    let q : Problem = get_or all i none in
    c.in_ok-join.ensures
    ∙ ap (λ (es : List (ℕ × Group)). insert_entry nat_eq es (key_of q) (joined_to (lookup (nat_eq (key_of q)) es) q)) c.loop-problem.invariant
    ∙ keyed_more q (take i all)
    ∙ ap keyed_groups (sym (take_more all i none c.loop-problem-test.true))
