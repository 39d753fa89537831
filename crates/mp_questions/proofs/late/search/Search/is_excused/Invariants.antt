use Rattle.std.proofs.Common.{◌≡◌, ◌<◌, All}
use Rattle.mp_questions.specs.causes.Changes.{change_at}
use Rattle.mp_questions.specs.late.Lateness.{is_excused}
use Rattle.mp_questions.specs.late.Searching.{key, any_excused}
use Rattle.mp_questions.proofs.lemmas.late.SearchLemmas.{above}
use Rattle.mp_questions.proofs.late.search.Search.is_excused.Given as goal

-- what is to be looked at has an excuse where the change has one
abbrev pub invariant-loop-key : goal.invariant-loop-key
invariant-loop-key l =
    let n = l.fn.self.of.netlist.now in
    (l.self.of ≡ l.fn.self.of)
    × All (λ k. k < key n.horizon 0) l.self.pending.keys
    × (any_excused n l.request.wire.0 l.request.time l.self.pending.keys ≡ is_excused n l.request.wire.0 l.request.time (change_at n l.fn.change.wire l.fn.change.time))

-- they get earlier and earlier
abbrev pub decreases-loop-key : goal.decreases-loop-key
decreases-loop-key l = above l.self.pending.keys
