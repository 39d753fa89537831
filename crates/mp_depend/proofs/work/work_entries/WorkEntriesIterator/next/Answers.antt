use Rattle.std.proofs.Common.{◌≡◌, ◌∷◌, [], length, All, sym, ap, subst, ◌∙◌, arith}
use Rattle.std.proofs.lemmas.List.Elements.{All-append}
use Rattle.mp_depend.specs.work.Merges.{IsWorkSpan, first_entry, rest_of, entries_left}
use Rattle.mp_depend.proofs.lemmas.work.MergeLemmas.{rest_is, taken_first, taken_are, none_left}
use Rattle.mp_depend.proofs.work.work_entries.WorkEntriesIterator.next.Goals as goal

pub returns-in_default-clause-steps : goal.returns-in_default-clause-steps
returns-in_default-clause-steps c =
    let inside = c.self.inside in
    let none = none_left inside.least inside.horizon in
    let empty = c.in_default.ensures.none in (
      sym c.self.view_is ∙ ap (λ q. entries_left inside.least inside.horizon q inside.waiting.items) empty.2 ∙ ap (entries_left inside.least inside.horizon []) empty.3 ∙ none,
      ap (λ q. entries_left inside.least inside.horizon q c.sooner.new.waiting.items) empty.0 ∙ ap (entries_left inside.least inside.horizon []) empty.1 ∙ none,
    )

taken : (c : goal.After-result-1) → c.args.self.now ≡ first_entry c.in-Some.work_span ∷ entries_left c.self.inside.least c.self.inside.horizon c.go_on.new.begun.items c.sooner.new.waiting.items
taken c =
    let inside = c.self.inside in
    let held = c.self.invariant in
    let takes = c.in-Some.ensures.some in
    sym c.self.view_is
    ∙ taken_first inside.least inside.horizon held.0 inside.begun.items inside.waiting.items c.in-Some.work_span c.sooner.new.begun.items c.sooner.new.waiting.items held.1 held.2 takes
    ∙ ap (λ q. first_entry c.in-Some.work_span ∷ entries_left inside.least inside.horizon q c.sooner.new.waiting.items) (sym c.go_on.ensures.items)

pub invariant_of-self-2 : goal.invariant_of-self-2
invariant_of-self-2 c =
    let inside = c.self.inside in
    let held = c.self.invariant in
    let are = taken_are inside.horizon inside.begun.items inside.waiting.items c.in-Some.work_span c.sooner.new.begun.items c.sooner.new.waiting.items held.1 held.2 c.in-Some.ensures.some in
    let begun = All-append (IsWorkSpan inside.horizon) c.sooner.new.begun.items (rest_of inside.least inside.horizon c.in-Some.work_span) are.1 (rest_is inside.least inside.horizon c.in-Some.work_span held.0 are.0) in
    let room = c.in-Some.ensures.room in
    let same = c.in-Some.ensures.capacity in
    let len = c.go_on.ensures.len in
    let capacity = c.go_on.ensures.capacity in (
      held.0,
      subst (All (IsWorkSpan inside.horizon)) (sym c.go_on.ensures.items) begun,
      are.2,
      omega (arith, room, same, len, capacity, held.3),
    )

pub returns-clause-steps : goal.returns-clause-steps
returns-clause-steps c = taken c

pub returns-clause-goes : goal.returns-clause-goes
returns-clause-goes c =
    let less = ap length (taken c) in
    record { on = λ _. (tt, tt, omega (arith, less)); keeps = tt; rests = λ finite. tt }
