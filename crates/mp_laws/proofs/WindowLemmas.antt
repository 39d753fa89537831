-- An evaluation by windows, in which modules answer in any order.
use Rattle.std.proofs.Common.{◌≡◌, ℕ, ◌+◌, ◌-◌, ◌<◌, ◌≤◌, Bool, false, List, [], ◌∷◌, map, Option, Some, None, nat_lt, ◌==◌, zero, suc, refl, ap, sym, subst, ◌∙◌, arith, inl, inr}
use Rattle.std.specs.Prelude.{IsSome, if◌then◌else◌}
use Rattle.std.proofs.lemmas.Bool.{cases_lt, cases_eq, lt-ltb, le-ltb, eq-eqb, ne_eqb}
use Rattle.mp_modules.specs.declared.memory.Memory.{Memory}
use Rattle.mp_modules.specs.Memories.{output_of}
use Rattle.mp_modules.specs.storage.AnyModules.{step}
use Rattle.mp_records.specs.declared.ids.ModuleId.{ModuleId}
use Rattle.mp_records.specs.declared.ports.Input.{Input}
use Rattle.mp_records.specs.declared.module_record.ModuleRecord.{ModuleRecord}
use Rattle.mp_records.specs.Outputs.{delay_of}
use Rattle.mp_netlist.specs.declared.driver.Driver.{Driver}
use Rattle.mp_netlist.specs.declared.driver.Driver.TheVariants.{Nothing, Stimulus, Port}
use Rattle.mp_netlist.specs.Circuit.{Circuit, IsCircuit, wire_at, module_at}
use Rattle.mp_netlist.specs.Drivers.{driver}
use Rattle.mp_netlist.specs.Delays.{least_delay}
use Rattle.mp_netlist.proofs.DriverLemmas.{finds_only_ports}
use Rattle.mp_netlist.proofs.DelayLemmas.{delays_are_least}
use Rattle.mp_model.specs.Levels.{built, initial_of, input_by, inputs_by, port_level, driven_level}
use Rattle.mp_model.specs.Evaluations.{IsReached, delay_in}
use Rattle.mp_model.specs.Waves.{level, state}
use Rattle.mp_model.proofs.BehaviourLemmas.{satisfies}
use Rattle.mp_model.proofs.EvaluationLemmas.{port_level_is}
use Rattle.mp_model.specs.response.Span.{state_after, next_state}
use Rattle.mp_partition.specs.runs.Checkpoints.{state_before}
use Rattle.mp_laws.specs.Windows.{Answer, World, IsWindow, Move, state_in_window, answer_of, answered_by, memory_in, output_in, next_level, next_window, after_move, after_moves, IsAllowed, AreAllowed, first_level_of, start_of, first_window, AnyOrder}
use Rattle.mp_laws.specs.Windows.Move.{AnswerOf, NextTo}

-- an answer that is right
pub record IsRightAnswer (n : Circuit) (from to m : ℕ) (r : ModuleRecord) (b : Answer) : Type 0 where
  pub memory : b.memory ≡ state_before n m r to
  pub outputs : (p u : ℕ) → from ≤ u → u < to → b.outputs p u ≡ output_of (state n m u) p

-- what holds after each move: the levels are right as far as the delay of their port after the window's begin
pub record Holds (n : Circuit) (a : World) : Type 0 where
  pub window : IsWindow n a.from a.to
  pub memories : (m : ℕ) (r : ModuleRecord) → module_at n m ≡ Some r → a.memories m ≡ state_before n m r a.from
  pub levels : (w u : ℕ) → IsReached n (λ m p. a.from) (driver n w) u → a.levels w u ≡ level n w u
  pub answers : (m : ℕ) (r : ModuleRecord) (b : Answer) → module_at n m ≡ Some r → a.answers m ≡ Some b → IsRightAnswer n a.from a.to m r b

-- within the least delay all levels are reached
reached_within : (n : Circuit) → IsCircuit n → (from w u : ℕ) → u < from + least_delay n → IsReached n (λ m p. from) (driver n w) u
reached_within n ok from w u low = by (driver n w) refl
  where
    by : (d : Driver) → driver n w ≡ d → IsReached n (λ m p. from) d u
    by Nothing e = tt
    by Stimulus e = tt
    by (Port m p) e =
        let drives = finds_only_ports n w p m e in
        let least = (delays_are_least n ok).least m.0 p w drives in
        let delay : delay_in (module_at n m.0) p ≡ delay_of drives.part p = ap (λ slot. delay_in slot p) drives.stands in
        omega (arith, low, least, delay)

-- the levels at inputs in a window
inputs_right : (n : Circuit) → IsCircuit n → (a : World) → Holds n a → (u : ℕ) → u < a.to → (inputs : List Input)
    → map (λ i. input_by n a.levels i u) inputs ≡ map (λ i. input_by n (level n) i u) inputs
inputs_right n ok a holds u low [] = refl
inputs_right n ok a holds u low (i ∷ is) =
    let short = holds.window.short in
    let before = holds.levels i.wire.0 (u - i.delay) (reached_within n ok a.from i.wire.0 (u - i.delay) (omega (arith, low, short))) in
    let here : input_by n a.levels i u ≡ input_by n (level n) i u = ap (λ v. if nat_lt u i.delay then initial_of (wire_at n i.wire.0) else v) before in
    ap (λ x. x ∷ map (λ j. input_by n a.levels j u) is) here ∙ ap (λ xs. input_by n (level n) i u ∷ xs) (inputs_right n ok a holds u low is)

-- the state after a unit of a window
unit_right : (n : Circuit) → IsCircuit n → (m t : ℕ) (r : ModuleRecord) (s : Memory) → module_at n m ≡ Some r → s ≡ state_before n m r t
    → next_state (built n r) s (inputs_by n (level n) r t) t ≡ state n m t
unit_right n ok m zero r s at same = sym ((satisfies n ok).settled m r at)
unit_right n ok m (suc u) r s at same =
    let e : u + 1 ≡ suc u = omega arith in
    let later : (suc u == 0) ≡ false = ne_eqb (suc u) 0 (omega arith) in
    rw later (ap (λ (x : Memory). step (built n r) x (inputs_by n (level n) r (suc u))) same ∙ rw e at (sym ((satisfies n ok).stepped m u r at)))

states_right : (n : Circuit) → IsCircuit n → (a : World) → Holds n a → (m k : ℕ) (r : ModuleRecord) → module_at n m ≡ Some r → a.from + k ≤ a.to → state_in_window n a m r k ≡ state_before n m r (a.from + k)
unfolding state_after
states_right n ok a holds m zero r at le =
    let e : a.from ≡ a.from + zero = omega arith in
    holds.memories m r at ∙ ap (state_before n m r) e
states_right n ok a holds m (suc k) r at le =
    let e : suc (a.from + k) ≡ a.from + suc k = omega arith in
    let before = states_right n ok a holds m k r at (omega (arith, le)) in
    ap (λ x. next_state (built n r) (state_in_window n a m r k) x (a.from + k)) (inputs_right n ok a holds (a.from + k) (omega (arith, le)) r.inputs)
    ∙ unit_right n ok m (a.from + k) r (state_in_window n a m r k) at before ∙ ap (state_before n m r) e

answer_right : (n : Circuit) → IsCircuit n → (a : World) → Holds n a → (m : ℕ) (r : ModuleRecord) → module_at n m ≡ Some r → IsRightAnswer n a.from a.to m r (answer_of n a m r)
answer_right n ok a holds m r at = record {
  memory =
      let some = holds.window.some in
      let e : a.from + (a.to - a.from) ≡ a.to = omega (arith, some) in
      states_right n ok a holds m (a.to - a.from) r at (omega (arith, e)) ∙ ap (state_before n m r) e;
  outputs = λ p u le low.
      let e : a.from + (u + 1 - a.from) ≡ suc u = omega (arith, le) in
      ap (λ (s : Memory). output_of s p) (states_right n ok a holds m (u + 1 - a.from) r at (omega (arith, e, low)) ∙ ap (state_before n m r) e);
}

-- a module answers
answered_holds : (n : Circuit) → IsCircuit n → (a : World) (m : ℕ) (slot : Option ModuleRecord) → module_at n m ≡ slot → Holds n a → Holds n (answered_by n a m slot)
answered_holds n ok a m None at holds = holds
answered_holds n ok a m (Some r) at holds = record {
  window = holds.window;
  memories = holds.memories;
  levels = holds.levels;
  answers = λ k q b stands is. elim (cases_eq k m) as (λ _. IsRightAnswer n a.from a.to k q b) [
    | inl same ↦
        let found : Some (answer_of n a m r) ≡ Some b = sym (ap (λ (t : Bool). if t then Some (answer_of n a m r) else a.answers k) (eq-eqb k m same)) ∙ is in
        let right : answer_of n a m r ≡ b = cc in
        let record_is : r ≡ q = (let here = sym at ∙ ap (module_at n) (sym same) ∙ stands in cc) in
        subst (λ j. IsRightAnswer n a.from a.to j q b) (sym same)
        (subst (λ x. IsRightAnswer n a.from a.to m x b) record_is (subst (IsRightAnswer n a.from a.to m r) right (answer_right n ok a holds m r at)))
    | inr other ↦ holds.answers k q b stands (sym (ap (λ (t : Bool). if t then Some (answer_of n a m r) else a.answers k) (ne_eqb k m other)) ∙ is)
  ];
}

-- all have answered
next_holds : (n : Circuit) → IsCircuit n → (a : World) (to : ℕ) → Holds n a → IsAllowed n a (NextTo to) → Holds n (next_window n a to)
next_holds n ok a to holds allowed = record {
  window = allowed.1;
  memories = λ m r at. memory_right m r at (a.answers m) refl (allowed.0 m r at);
  levels = λ w u reached. level_right w u (driver n w) refl reached;
  answers = λ m r b at is. let no : ⊥ = cc in absurd no;
}
  where
    memory_right : (m : ℕ) (r : ModuleRecord) → module_at n m ≡ Some r → (answer : Option Answer) → a.answers m ≡ answer → IsSome answer → memory_in answer ≡ state_before n m r a.to
    memory_right m r at None is some = absurd (let bad : ⊥ = cc in bad)
    memory_right m r at (Some b) is some = (holds.answers m r b at is).memory

    output_right : (m : ℕ) (r : ModuleRecord) (p t : ℕ) → module_at n m ≡ Some r → a.from ≤ t → t < a.to → (answer : Option Answer) → a.answers m ≡ answer → IsSome answer → output_in answer p t ≡ output_of (state n m t) p
    output_right m r p t at le low None is some = absurd (let bad : ⊥ = cc in bad)
    output_right m r p t at le low (Some b) is some = (holds.answers m r b at is).outputs p t le low

    level_right : (w u : ℕ) (d : Driver) → driver n w ≡ d → IsReached n (λ m p. a.to) d u → next_level n a d w u ≡ level n w u
    level_right w u Nothing e reached = holds.levels w u (subst (λ x. IsReached n (λ m p. a.from) x u) (sym e) tt)
    level_right w u Stimulus e reached = holds.levels w u (subst (λ x. IsReached n (λ m p. a.from) x u) (sym e) tt)
    level_right w u (Port m p) e reached = elim (cases_lt u (a.from + delay_in (module_at n m.0) p)) as (λ _. next_level n a (Port m p) w u ≡ level n w u) [
      | inl early ↦ rw (lt-ltb u (a.from + delay_in (module_at n m.0) p) early) (holds.levels w u (subst (λ x. IsReached n (λ m p. a.from) x u) (sym e) early))
      | inr late ↦
          let drives = finds_only_ports n w p m e in
          let r = drives.part in
          let at : module_at n m.0 ≡ Some r = drives.stands in
          let d = delay_in (module_at n m.0) p in
          let delay : d ≡ delay_of r p = ap (λ slot. delay_in slot p) at in
          let t = u - d in
          let back : t + delay_of r p ≡ u = omega (arith, late, delay) in
          rw (le-ltb u (a.from + d) late)
          (output_right m.0 r p t at (omega (arith, late)) (omega (arith, late, reached)) (a.answers m.0) refl (allowed.0 m.0 r at)
          ∙ sym (port_level_is n ok m.0 p w t r at e) ∙ ap (level n w) back)
    ]

-- before any answer
first_holds : (n : Circuit) → IsCircuit n → (to : ℕ) → IsWindow n 0 to → Holds n (first_window n to)
first_holds n ok to window = record {
  window = window;
  memories = λ m r at. ap (start_of n) at;
  levels = λ w u reached. by w u (driver n w) refl reached;
  answers = λ m r b at is. let no : ⊥ = cc in absurd no;
}
  where
    early : (w u : ℕ) (m : ModuleId) (p : ℕ) (slot : Option ModuleRecord) → u < 0 + delay_in slot p → port_level (state n) slot m.0 p (initial_of (wire_at n w)) u ≡ initial_of (wire_at n w)
    early w u m p None low = refl
    early w u m p (Some r) low = rw (lt-ltb u (delay_of r p) (omega (arith, low))) refl

    by : (w u : ℕ) (d : Driver) → driver n w ≡ d → IsReached n (λ m p. 0) d u → first_level_of n d w u ≡ level n w u
    by w u Nothing e reached = sym ((satisfies n ok).levels w u ∙ ap (λ d. driven_level d n (state n) w u) e)
    by w u Stimulus e reached = sym ((satisfies n ok).levels w u ∙ ap (λ d. driven_level d n (state n) w u) e)
    by w u (Port m p) e reached = sym ((satisfies n ok).levels w u ∙ ap (λ d. driven_level d n (state n) w u) e ∙ early w u m p (module_at n m.0) reached)

move_holds : (n : Circuit) → IsCircuit n → (a : World) (move : Move) → IsAllowed n a move → Holds n a → Holds n (after_move n a move)
move_holds n ok a (AnswerOf m) allowed holds = answered_holds n ok a m (module_at n m) refl holds
move_holds n ok a (NextTo to) allowed holds = next_holds n ok a to holds allowed

moves_hold : (n : Circuit) → IsCircuit n → (a : World) (moves : List Move) → AreAllowed n a moves → Holds n a → Holds n (after_moves n a moves)
moves_hold n ok a [] allowed holds = holds
moves_hold n ok a (move ∷ moves) allowed holds = moves_hold n ok (after_move n a move) moves allowed.1 (move_holds n ok a move allowed.0 holds)

pub any_order : AnyOrder
any_order n ok to window moves allowed =
    let a = after_moves n (first_window n to) moves in
    let holds : Holds n a = moves_hold n ok (first_window n to) moves allowed (first_holds n ok to window) in
    record {
      memories = holds.memories;
      levels = λ w u low within. holds.levels w u (reached_within n ok a.from w u low);
    }
