-- Modules with one output.
use Rattle.std.proofs.Common.{◌≡◌, ℕ, ◌≤◌, Bool, true, false, not, cond, List, [], ◌∷◌, refl, sym, ◌∙◌, arith}
use Rattle.std.specs.Prelude.{◌==◌, ◌&&◌}
use Rattle.mp_modules.specs.declared.memory.Memory.{Memory}
use Rattle.mp_modules.specs.Memories.{with_one_output}
use Rattle.mp_modules.specs.Quiet.{unchanged}
use Rattle.mp_modules.specs.declared.automata.reaction.Reaction.{Reaction}
use Rattle.mp_modules.specs.declared.automata.phase.Phase.{Phase}
use Rattle.mp_modules.specs.automata.Phases.{unserved}
use Rattle.mp_modules.specs.automata.BitModules.{toggles_between}
use Rattle.mp_modules.specs.automata.Reactions.{differ, quiet, toggle_first_if, join_waiting, meet_next, pick_next}

-- the output follows what is read: it has an event or has none
pub follows : (phase : Phase) (m : Memory) (x : List ℕ) (y z : ℕ) (event : Bool) → m.outputs ≡ y ∷ 0 ∷ 0 ∷ [] → not (y == z) ≡ event →
    ◌≡◌ {A = Reaction} (record { phase = phase; toggles = toggles_between m (with_one_output x z) }) (toggle_first_if event (quiet phase))
follows phase m x y z true outs is = rw (outs, is) refl
follows phase m x y z false outs is = rw (outs, is) refl

-- a function that goes by whether its first input had one level and its second another one, as p and q say, and have it now
same_meeting : (met p2 q2 : Bool) {p q : Bool} → p ≡ p2 → q ≡ q2 → meet_next met p q ≡ meet_next met p2 q2
same_meeting met p2 q2 one other = rw (one, other) refl

pub meets : (m : Memory) (x : List ℕ) (y z : ℕ) (p q e f p2 q2 : Bool) → m.outputs ≡ y ∷ 0 ∷ 0 ∷ [] → differ p e ≡ p2 → differ q f ≡ q2 →
    not (y == z) ≡ differ (p && q) (p2 && q2) →
    ◌≡◌ {A = Reaction} (record { phase = unserved p2 q2; toggles = toggles_between m (with_one_output x z) }) (meet_next (p && q) (differ p e) (differ q f))
meets m x y z p q e f p2 q2 outs one other is = follows (unserved p2 q2) m x y z _ outs is ∙ sym (same_meeting (p && q) p2 q2 one other)

-- a MUX that chose its second input, as c says, and whose inputs differed, as d says, and that does so now
same_choice : (moves e f c2 d2 : Bool) {c d : Bool} → c ≡ c2 → d ≡ d2 → pick_next c d moves e f ≡ pick_next c2 d2 moves e f
same_choice moves e f c2 d2 one other = rw (one, other) refl

pub picks : (m : Memory) (x : List ℕ) (y z : ℕ) (c d e f g c2 d2 : Bool) → m.outputs ≡ y ∷ 0 ∷ 0 ∷ [] → differ c g ≡ c2 → differ d (differ e f) ≡ d2 →
    not (y == z) ≡ differ (g && d) (cond c2 f e) →
    ◌≡◌ {A = Reaction} (record { phase = unserved c2 d2; toggles = toggles_between m (with_one_output x z) }) (pick_next (differ c g) (differ d (differ e f)) (g && d) e f)
picks m x y z c d e f g c2 d2 outs one other is = follows (unserved c2 d2) m x y z _ outs is ∙ sym (same_choice (g && d) e f c2 d2 one other)

-- a C whose inputs, behind their bubbles, have the levels a and b now, and whose output was q
abbrev pub joined_level : ℕ → ℕ → ℕ → ℕ
joined_level a b q = cond (a == b) a q

pub joins : (m : Memory) (x : List ℕ) (a b q : ℕ) (t u v : Bool) → a ≤ 1 → b ≤ 1 → q ≤ 1 → m.outputs ≡ q ∷ 0 ∷ 0 ∷ [] →
    (a == b) ≡ t → not (a == q) ≡ u → not (b == q) ≡ v →
    ◌≡◌ {A = Reaction}
    (record { phase = unserved (not (a == joined_level a b q)) (not (b == joined_level a b q)); toggles = toggles_between m (with_one_output x (joined_level a b q)) })
    (join_waiting u v)
joins m x a b q true true true ha hb hq outs t u v =
    let same : (b == a) ≡ true = grind arith in
    let other : (q == a) ≡ false = grind arith in
    rw (outs, t, unchanged a, same, other) refl
joins m x a b q true true false ha hb hq outs t u v = absurd (grind arith)
joins m x a b q true false true ha hb hq outs t u v = absurd (grind arith)
joins m x a b q true false false ha hb hq outs t u v =
    let same : (b == a) ≡ true = grind arith in
    let other : (q == a) ≡ true = grind arith in
    rw (outs, t, unchanged a, same, other) refl
joins m x a b q false true true ha hb hq outs t u v = absurd (grind arith)
joins m x a b q false true false ha hb hq outs t u v = rw (outs, t, u, v, unchanged q) refl
joins m x a b q false false true ha hb hq outs t u v = rw (outs, t, u, v, unchanged q) refl
joins m x a b q false false false ha hb hq outs t u v = rw (outs, t, u, v, unchanged q) refl
