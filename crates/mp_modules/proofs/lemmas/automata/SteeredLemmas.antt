-- TOGGLE, SELECT and REG.
use Rattle.std.proofs.Common.{◌≡◌, ℕ, ◌-◌, ◌≤◌, Bool, true, false, not, cond, List, [], ◌∷◌, refl, arith}
use Rattle.std.specs.Prelude.{◌==◌}
use Rattle.mp_modules.specs.declared.memory.Memory.{Memory}
use Rattle.mp_modules.specs.Memories.{with_outputs, output_of, flipped, seen}
use Rattle.mp_modules.specs.Quiet.{unchanged}
use Rattle.mp_modules.specs.declared.automata.reaction.Reaction.{Reaction}
use Rattle.mp_modules.specs.automata.Phases.{unserved}
use Rattle.mp_modules.specs.automata.BitModules.{toggles_between}
use Rattle.mp_modules.specs.automata.Reactions.{alternate, choose, pass_unless_held, toggle_second_if, toggle_third_if}
use Rattle.mp_modules.proofs.lemmas.automata.BitLemmas.{turned_differs}

abbrev alternate_step : Memory → List ℕ → ℕ → ℕ → Bool → Memory
alternate_step m x a b event = seen x (cond event (flipped (cond (a == b) 0 1) m) m)

pub alternates : (m : Memory) (x : List ℕ) (a b c : ℕ) (t event : Bool) → a ≤ 1 → b ≤ 1 → m.outputs ≡ a ∷ b ∷ c ∷ [] → (a == b) ≡ t →
    ◌≡◌ {A = Reaction}
    (record {
      phase = unserved (not (output_of (alternate_step m x a b event) 0 == output_of (alternate_step m x a b event) 1)) false;
      toggles = toggles_between m (alternate_step m x a b event);
    })
    (alternate (not t) event)
alternates m x a b c true false ha hb outs is = rw (outs, is, unchanged a, unchanged b, unchanged c) refl
alternates m x a b c false false ha hb outs is = rw (outs, is, unchanged a, unchanged b, unchanged c) refl
alternates m x a b c true true ha hb outs is =
    let other : (1 - a == b) ≡ false = grind arith in
    rw (outs, is, other, turned_differs true a, unchanged b, unchanged c) refl
alternates m x a b c false true ha hb outs is =
    let other : (a == 1 - b) ≡ true = grind arith in
    rw (outs, is, other, turned_differs true b, unchanged a, unchanged c) refl

abbrev choose_step : Memory → List ℕ → Bool → Bool → Memory
choose_step m x diamond event = seen x (cond event (flipped (cond diamond 0 1) m) m)

pub chooses : (m : Memory) (x : List ℕ) (a b c : ℕ) (diamond event : Bool) → m.outputs ≡ a ∷ b ∷ c ∷ [] →
    ◌≡◌ {A = Reaction}
    (record { phase = unserved diamond false; toggles = toggles_between m (choose_step m x diamond event) })
    (choose diamond event)
chooses m x a b c true false outs = rw (outs, unchanged a, unchanged b, unchanged c) refl
chooses m x a b c false false outs = rw (outs, unchanged a, unchanged b, unchanged c) refl
chooses m x a b c true true outs = rw (outs, turned_differs true a, unchanged b, unchanged c) refl
chooses m x a b c false true outs = rw (outs, turned_differs true b, unchanged a, unchanged c) refl

-- a REG whose data are d now, and whose output was q
shown : (first held differs second third : Bool) →
    ◌≡◌ {A = Reaction} (record { phase = unserved held differs; toggles = record { first = first; second = second; third = third } })
    (toggle_third_if third (toggle_second_if second (record { phase = unserved held differs; toggles = record { first = first; second = false; third = false } })))
shown first held differs true true = refl
shown first held differs true false = refl
shown first held differs false true = refl
shown first held differs false false = refl

pub holds : (m : Memory) (x : List ℕ) (d q c p now_c now_p : ℕ) (is_open f second third : Bool) → m.outputs ≡ q ∷ c ∷ p ∷ [] →
    not (d == q) ≡ f → not (c == now_c) ≡ second → not (p == now_p) ≡ third →
    ◌≡◌ {A = Reaction}
    (record {
      phase = unserved (not is_open) (not (d == cond is_open d q));
      toggles = toggles_between m (with_outputs x (cond is_open d q ∷ now_c ∷ now_p ∷ []));
    })
    (toggle_third_if third (toggle_second_if second (pass_unless_held (not is_open) f)))
holds m x d q c p now_c now_p true true second third outs is e g =
    let other : not (q == d) ≡ true = grind arith in rw (outs, unchanged d, other, e, g) (shown true false false second third)
holds m x d q c p now_c now_p true false second third outs is e g =
    let other : not (q == d) ≡ false = grind arith in rw (outs, unchanged d, other, e, g) (shown false false false second third)
holds m x d q c p now_c now_p false true second third outs is e g = rw (outs, unchanged q, is, e, g) (shown false true true second third)
holds m x d q c p now_c now_p false false second third outs is e g = rw (outs, unchanged q, is, e, g) (shown false true false second third)

pub same_hold : {a b c d : Bool} → a ≡ b → c ≡ d → pass_unless_held a c ≡ pass_unless_held b d
same_hold p q = rw (p, q) refl
