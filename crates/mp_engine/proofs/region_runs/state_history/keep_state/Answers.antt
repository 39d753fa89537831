use Rattle.std.proofs.Common.{◌≡◌, ◌<◌, ◌+◌, ◌-◌, ◌≤◌, [], true, List, length, ap, sym, subst, ◌∙◌, arith}
use Rattle.std.specs.Prelude.{All}
use Rattle.std.proofs.lemmas.List.{get_or_read}
use Rattle.mp_partition.specs.declared.runs.checkpoint.Checkpoint.{Checkpoint}
use Rattle.mp_partition.specs.runs.Checkpoints.{KeepsFrom}
use Rattle.mp_partition.specs.runs.Marks.{is_marked}
use Rattle.mp_partition.proofs.lemmas.runs.MarkLemmas.{marked_within}
use Rattle.mp_engine.specs.region_runs.StateHistories.{kept_of}
use Rattle.mp_engine.proofs.lemmas.region_runs.StateHistoryLemmas.{kept_more}
use Rattle.mp_engine.proofs.region_runs.state_history.keep_state.Goals as goal

pub memory-requires : goal.memory-requires
memory-requires c =
    let marks = c.args.marks.now.items in
    let marked : is_marked marks c.args.id.0 ≡ true = ap (λ xs. is_marked xs c.args.id.0) (sym c.as_slice.ensures.value) ∙ sym c.is_marked.ensures ∙ c.if-not-is_marked.false in
    let within : c.args.id.0 < length c.args.netlist.now.modules = (let low = marked_within marks c.args.id.0 marked in let places = c.requires.before.mark_places in omega (arith, low, places)) in
    record { n = c.args.netlist.now; ok = c.requires.form; t = c.args.time - 1; is = c.requires.simulated; within = within }

pub keep_change-requires : goal.keep_change-requires
keep_change-requires c =
    let m = c.args.id.0 in
    let marks = c.args.marks.now.items in
    let kept = c.args.kept.now.items in
    let marked : is_marked marks m ≡ true = ap (λ xs. is_marked xs m) (sym c.as_slice.ensures.value) ∙ sym c.is_marked.ensures ∙ c.if-not-is_marked.false in
    let low : m < length kept = (let within = marked_within marks m marked in let mark_places = c.requires.before.mark_places in let places = c.requires.before.places in omega (arith, within, mark_places, places)) in
    let row : c.index_mut-2.result.now ≡ kept_of kept m = get_or_read kept m c.index_mut-2.result.now low c.index_mut-2.ensures.value [] in
    subst (λ (xs : List Checkpoint). All (λ k. k.time ≤ c.args.time) xs) (sym row) (c.requires.before.times m)

pub returns-clause-kept : goal.returns-clause-kept
returns-clause-kept c =
    let n = c.args.netlist.now in
    let m = c.args.id.0 in
    let marks = c.args.marks.now.items in
    let kept = c.args.kept.now.items in
    let next : c.args.time - 1 + 1 ≡ c.args.time = (let later = c.requires.later in omega (arith, later)) in
    let marked : is_marked marks m ≡ true = ap (λ xs. is_marked xs m) (sym c.as_slice.ensures.value) ∙ sym c.is_marked.ensures ∙ c.if-not-is_marked.false in
    let within : m < length n.modules = (let low = marked_within marks m marked in let places = c.requires.before.mark_places in omega (arith, low, places)) in
    let row : c.index_mut-2.result.now ≡ kept_of kept m = get_or_read kept m c.index_mut-2.result.now (let places = c.requires.before.places in omega (arith, within, places)) c.index_mut-2.ensures.value [] in
    kept_more n c.args.time (c.args.time - 1) m marks kept c.memory.result c.keep_change.new.self next within
    (subst (λ (xs : List Checkpoint). KeepsFrom xs c.args.time c.memory.result c.keep_change.new.self) row c.in_ok-keep_change.ensures)
    (λ r at. c.memory.ensures n (c.args.time - 1) r c.requires.form c.requires.simulated at) c.requires.before
