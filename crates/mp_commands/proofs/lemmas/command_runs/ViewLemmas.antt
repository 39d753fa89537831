-- The opening of a view, and what is written of it.
use Rattle.mp_commands.specs.views.Views.{view_places, view_text, view_wires}
use Rattle.mp_commands.specs.declared.views.view.View.{View}
use Rattle.mp_commands.proofs.lemmas.command_runs.Names.{arith, ◌≡◌, false, Option, Some, Result, Ok, Err, Circuit, RunFault, IsSomeAnd, viewed_opening, with_places, with_wires, Refuses, Ran, Outgoing}

-- a fault of the text or of a number is told before one of a name
viewed_fault : (view : Option View) (fault : RunFault) → viewed_opening view (Err fault) ≡ Err fault
viewed_fault view fault = grind arith

module _ (view : Option View) (read : Result Circuit RunFault) where
  pub viewed_refused : (fault : RunFault) → Refuses false read fault → Refuses false (viewed_opening view read) fault
  viewed_refused fault is = grind (arith, viewed_fault)

  -- a run with that view, on what was read
  pub viewed_ran : {S : Type 0} (v : View) (n : Circuit) (r : Result (Unit {0}) RunFault) (a b : Outgoing S) → view ≡ Some v → read ≡ Ok n
      → Ran false r (with_places (view_places v) (with_wires (view_wires v) (Ok n))) (λ m t. t ≡ view_text v m) a b → Ran false r (viewed_opening view read) (λ m t. IsSomeAnd view (λ w. t ≡ view_text w m)) a b
  viewed_ran v n r a b is_view is_read ran = rw (is_view, is_read) ran
