use Rattle.std.proofs.Common.{◌≡◌, ℕ, ◌%◌, ap, arith, sym, ◌∙◌, subst, List, []}
use Rattle.std.specs.Prelude.{slice_set}
use Rattle.std.proofs.lemmas.Bool.{eqb-true}
use Rattle.mp_kernel.specs.events.Adding.{IsAdding, state_at}
use Rattle.mp_kernel.proofs.lemmas.events.AddingLemmas.{placed_head, found, adds, fits, added_first}
use Rattle.mp_kernel.proofs.events.adding.add_event.Goals as goal

pub add_event-requires : goal.add_event-requires
add_event-requires c =
    let low = fits c.args.states.now.items c.args.due.now.items c.args.entry c.index_mut.result.now c.requires c.index_mut.ensures.value in
    omega arith

pub returns-in_ok-push-clause-adding : goal.returns-in_ok-push-clause-adding
returns-in_ok-push-clause-adding c =
    let states = c.args.states.now.items in
    let l = c.args.entry in
    let s = c.index_mut.result.now in
    let first : s.0 % 16 ≡ 0 = eqb-true (s.0 % 16) 0 (sym c.add_event.ensures.first ∙ c.if-add_event.true) in
    let none : state_at states l.module % 16 ≡ 0 =
    ap (λ k. k % 16) (sym (found states l.module s (placed_head c.requires) c.index_mut.ensures.value)) ∙ first in
    subst (λ (due : List ℕ). IsAdding (slice_set states l.module c.add_event.new.self) due []) (sym c.in_ok-push.ensures.items)
    (added_first states (slice_set states l.module c.add_event.new.self) c.args.due.now.items l c.requires (adds states l s c.add_event.new.self (placed_head c.requires) c.index_mut.ensures.value c.add_event.ensures.added) none)
