use Rattle.std.proofs.Common.{◌≡◌, ℕ, ◌-◌, ◌<◌, ◌≤◌, ◌||◌, All, take}
use Rattle.std.specs.List.{list_any, filter_map}
use Rattle.mp_questions.specs.late.Lateness.{is_excused}
use Rattle.mp_questions.specs.late.Searching.{key, any_excused, source_at}
use Rattle.mp_questions.proofs.late.search.Search.push_sources.Given as goal

-- what the inputs so far heard is still to be looked at
abbrev pub invariant-loop-input : goal.invariant-loop-input
invariant-loop-input l =
    let n = l.fn.self.of.netlist.now in
    (l.self.of ≡ l.fn.self.of)
    × (any_excused n l.request.wire.0 l.request.time l.self.pending.keys
    ≡ (any_excused n l.request.wire.0 l.request.time l.fn.self.pending.keys
    || list_any (is_excused n l.request.wire.0 l.request.time) (filter_map (source_at n l.part.kind (l.time - l.delay)) (take l.input-index l.input-items))))
    × ((end : ℕ) → key l.time 0 ≤ end → All (λ k. k < end) l.fn.self.pending.keys → All (λ k. k < end) l.self.pending.keys)
