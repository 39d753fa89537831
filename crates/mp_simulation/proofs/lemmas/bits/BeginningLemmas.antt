-- Before the unit 1.
use Rattle.std.proofs.Common.{◌≡◌, ◌≢◌, ℕ, ◌+◌, ◌-◌, ◌<◌, ◌≤◌, Bool, true, false, not, cond, List, Option, Some, None, All, length, nat_lt, refl, sym, ap, ◌∙◌, arith}
use Rattle.std.specs.Prelude.{◌==◌, ◌&&◌}
use Rattle.std.proofs.Math.ListN.{get_or-eq_default}
use Rattle.std.proofs.lemmas.Bool.{eqb-true, eqb-false}
use Rattle.std.proofs.lemmas.Bool.Decides.{nat_tests}
use Rattle.mp_modules.specs.Memories.{output_of}
use Rattle.mp_records.specs.declared.ids.ModuleId.{ModuleId}
use Rattle.mp_records.specs.declared.module_record.ModuleRecord.{ModuleRecord}
use Rattle.mp_records.specs.declared.ports.Output.{Output}
use Rattle.mp_records.specs.Outputs.{delay_of}
use Rattle.mp_netlist.specs.declared.driver.Driver.{Driver}
use Rattle.mp_netlist.specs.declared.driver.Driver.TheVariants.{Nothing, Stimulus, Port}
use Rattle.mp_netlist.specs.Circuit.{Circuit, IsCircuit, IsDelay, wire_at, module_at}
use Rattle.mp_netlist.specs.Drivers.{driver}
use Rattle.mp_netlist.proofs.DriverLemmas.{finds_only_ports}
use Rattle.mp_model.specs.Evaluations.{delay_in}
use Rattle.mp_model.specs.Levels.{initial_of}
use Rattle.mp_model.specs.Waves.{state}
use Rattle.mp_modules.specs.automata.Codes.{bit}
use Rattle.mp_kernel.specs.declared.events.output_port.OutputPort.{OutputPort}
use Rattle.mp_kernel.specs.events.Adding.{listed}
use Rattle.mp_simulation.specs.bits.Changes.{change_at, late_change, is_decided}
use Rattle.mp_simulation.specs.bits.Scopes.{Scope, is_expected}
use Rattle.mp_simulation.specs.bits.Copies.{AreChained, later_by}
use Rattle.mp_simulation.specs.bits.Beginnings.{is_first, FirstAreKnown, NoCopiesAtFirst}
use Rattle.mp_simulation.proofs.lemmas.bits.ChangeLemmas.{ports_begin, ports_wait}

never : (c o : Bool) → bit (false && o) ≡ bit (c && false && o)
never true o = refl
never false o = refl

kept : (f o : Bool) → bit ((true && f) && o) ≡ bit (f && true && o)
kept true o = refl
kept false o = refl

not_both : (c l o : Bool) → (c && l) ≡ false → bit ((false && o)) ≡ bit (c && l && o)
not_both true l o none = rw none refl
not_both false l o none = refl

-- of a change and of the first one, where one of them is told by a test
same_first : (c f e l o : Bool) → (e ≡ true → (c ≡ f) × (l ≡ true)) → (e ≡ false → (c && l) ≡ false) → bit ((e && f) && o) ≡ bit (c && l && o)
same_first c f true l o at other = let facts = at refl in rw (facts.0, facts.1) (kept f o)
same_first c f false l o at other = not_both c l o (other refl)

none_with : (c : Bool) → (c && false) ≡ false
none_with true = refl
none_with false = refl

delay_when : (r : ModuleRecord) (p : ℕ) (low : Bool) → nat_lt p (length r.outputs) ≡ low → All (λ (o : Output). IsDelay o.delay) r.outputs → 0 < delay_of r p
delay_when r p true is delays = (delays p (record { wire = None; delay = 1 }) (grind (arith, nat_tests))).0
delay_when r p false is delays =
    let beyond : length r.outputs ≤ p = grind (arith, nat_tests) in
    let one : delay_of r p ≡ 1 = ap (λ (o : Output). o.delay) (get_or-eq_default r.outputs (record { wire = None; delay = 1 }) beyond) in
    omega arith

module _ (n : Circuit) (ok : IsCircuit n) (scope : Scope) where
  by_order : (w p k : ℕ) (m : ModuleId) (r : ModuleRecord) → driver n w ≡ Port m p → module_at n m.0 ≡ Some r → (early : Bool) → nat_lt (k + 1) (delay_of r p) ≡ early →
      (delay_of r p ≡ k + 1 → ⊥) → (change_at n w (k + 1) && nat_lt (k + 1) (1 + delay_of r p)) ≡ false
  by_order w p k m r drives at true is other =
      let before : k + 1 < delay_of r p = grind (arith, nat_tests) in
      rw (ports_wait n ok w p (k + 1) m r drives at before) refl
  by_order w p k m r drives at false is other =
      let after : delay_of r p ≤ k + 1 = grind (arith, nat_tests) in
      let differs : delay_of r p ≢ k + 1 = other in
      let far : 1 + delay_of r p ≤ k + 1 = omega arith in
      let late : nat_lt (k + 1) (1 + delay_of r p) ≡ false = grind (arith, nat_tests) in
      rw late (none_with (change_at n w (k + 1)))

  port_first : (w p k : ℕ) (m : ModuleId) (r : ModuleRecord) → driver n w ≡ Port m p → module_at n m.0 ≡ Some r → 0 < delay_of r p →
      bit ((delay_of r p == k + 1 && not (initial_of (wire_at n w) == output_of (state n m.0 0) p)) && scope.owns w (k + 1)) ≡
      bit (change_at n w (k + 1) && nat_lt (k + 1) (1 + delay_of r p) && scope.owns w (k + 1))
  port_first w p k m r drives at some =
      same_first (change_at n w (k + 1)) (not (initial_of (wire_at n w) == output_of (state n m.0 0) p)) (delay_of r p == k + 1) (nat_lt (k + 1) (1 + delay_of r p)) (scope.owns w (k + 1))
      (λ here.
      let same : delay_of r p ≡ k + 1 = eqb-true (delay_of r p) (k + 1) here in
      let late : nat_lt (k + 1) (1 + delay_of r p) ≡ true = grind (arith, nat_tests) in
      (ap (change_at n w) (sym same) ∙ ports_begin n ok w p m r drives at some, late))
      (λ else_where. let differs = eqb-false (delay_of r p) (k + 1) else_where in by_order w p k m r drives at (nat_lt (k + 1) (delay_of r p)) refl (λ e. differs e))

  by_driver : (w k : ℕ) (d : Driver) → driver n w ≡ d → ((p : ℕ) (m : ModuleId) → driver n w ≡ Port m p → scope.known m.0 ≡ 1) →
      bit (is_first n d w (k + 1) && scope.owns w (k + 1)) ≡ bit (change_at n w (k + 1) && is_decided n scope.known d (k + 1) && scope.owns w (k + 1))
  by_driver w k Nothing drives settled = never (change_at n w (k + 1)) (scope.owns w (k + 1))
  by_driver w k Stimulus drives settled = never (change_at n w (k + 1)) (scope.owns w (k + 1))
  by_driver w k (Port m p) drives settled =
      let drv = finds_only_ports n w p m drives in
      let r = drv.part in
      ap (λ o. bit ((delay_in o p == k + 1 && not (initial_of (wire_at n w) == output_of (state n m.0 0) p)) && scope.owns w (k + 1))) drv.stands
      ∙ port_first w p k m r drives drv.stands (delay_when r p (nat_lt p (length r.outputs)) refl (ok.modules_ok m.0 r drv.stands).delays)
      ∙ ap (λ x. bit (change_at n w (k + 1) && nat_lt (k + 1) (x + delay_of r p) && scope.owns w (k + 1))) (sym (settled p m drives))
      ∙ sym (ap (λ o. bit (change_at n w (k + 1) && nat_lt (k + 1) (scope.known m.0 + delay_in o p) && scope.owns w (k + 1))) drv.stands)

pub first_are_known : FirstAreKnown
first_are_known n ok scope s settled first w k within =
    let time : k + 1 ≡ 0 + 1 + k = omega arith in
    first w k within
    ∙ by_driver n ok scope w k (driver n w) refl (settled w)
    ∙ ap (λ u. bit (is_expected n scope w u)) time

-- a copy is later than a time up to which it is later than what it stands after
early : (n : Circuit) (s : ℕ × ℕ) (k d : ℕ) (known : Bool) → nat_lt k d ≡ known → d ≤ s.1 → bit (late_change n s (0 + 1 + k) && known) ≡ 0
early n s k d true is low =
    let below : k < d = grind (arith, nat_tests) in
    let test : nat_lt s.1 (0 + 1 + k) ≡ false = grind (arith, nat_tests) in
    ap (λ b. bit (cond b (change_at n s.0 (0 + 1 + k - s.1)) false && true)) test
early n s k d false is low = ap bit (none_with (late_change n s (0 + 1 + k)))

early_by : (n : Circuit) (source : ℕ → ℕ × ℕ) (before : ℕ → Option ℕ) (next : List OutputPort) → AreChained source before next → (x k : ℕ) (o : Option ℕ) → before x ≡ o →
    bit (late_change n (source x) (0 + 1 + k) && nat_lt k (later_by next o)) ≡ 0
early_by n source before next chained x k None is = early n (source x) k 0 (nat_lt k 0) refl (omega arith)
early_by n source before next chained x k (Some y) is =
    let later = chained.delay x y is in
    early n (source x) k (later_by next (Some y)) (nat_lt k (later_by next (Some y))) refl (omega arith)

pub no_copies_at_first : NoCopiesAtFirst
no_copies_at_first n source before next slots chained empty x k within =
    ap (λ xs. listed x xs) (empty k) ∙ sym (early_by n source before next chained x k (before x) refl)
