-- What answers enter, counted.
use Rattle.std.proofs.Common.{◌≡◌, ◌≢◌, ℕ, zero, suc, ◌+◌, ◌-◌, ◌*◌, ◌<◌, ◌≤◌, Bool, true, false, not, cond, List, [], ◌∷◌, ◌++◌, Option, Some, None, option_map, All, length, nat_lt, refl, sym, ap, ◌∙◌, arith, eq-eqb, ne_eqb, subst}
use Rattle.std.specs.Prelude.{◌==◌, ◌&&◌, slice_index_or, unwrap_or}
use Rattle.std.specs.List.{sum_by, count_by, flat_map}
use Rattle.std.proofs.Math.ListN.{get_or-eq_default}
use Rattle.std.proofs.lemmas.Bool.{eqb-true, eqb-false}
use Rattle.std.proofs.lemmas.Bool.Decides.{nat_tests}
use Rattle.std.proofs.lemmas.List.Sums.{sum_by-append, sum_by-cons}
use Rattle.mp_records.specs.declared.ids.WireId.{WireId}
use Rattle.mp_records.specs.declared.ids.ModuleId.{ModuleId}
use Rattle.mp_records.specs.declared.module_record.ModuleRecord.{ModuleRecord}
use Rattle.mp_records.specs.Outputs.{output_at, delay_of}
use Rattle.mp_netlist.specs.Circuit.{Circuit, IsCircuit, module_at, Drives}
use Rattle.mp_netlist.specs.declared.driver.Driver.TheVariants.{Port}
use Rattle.mp_netlist.specs.Drivers.{driver}
use Rattle.mp_netlist.proofs.DriverLemmas.{finds_only_ports}
use Rattle.mp_modules.specs.Kinds.{output_count}
use Rattle.mp_modules.proofs.KindLemmas.{few_outputs}
use Rattle.mp_records.specs.declared.ports.Output.{Output}
use Rattle.mp_modules.specs.declared.memory.Memory.{Memory}
use Rattle.mp_modules.specs.Memories.{output_of}
use Rattle.mp_model.specs.Waves.{state}
use Rattle.mp_modules.specs.declared.automata.toggles.Toggles.{Toggles}
use Rattle.mp_modules.specs.automata.BitModules.{toggles_between}
use Rattle.mp_modules.specs.automata.Codes.{bit}
use Rattle.mp_kernel.specs.declared.events.output_ports.OutputPorts.{OutputPorts}
use Rattle.mp_kernel.specs.events.Adding.{listed}
use Rattle.mp_kernel.specs.events.Firing.{UnitState, reaction, entry_at, entry_if, fired_at, ports_at, events_of, fired_by, is_entry, scheduled}
use Rattle.mp_kernel.proofs.lemmas.events.EntryLemmas.{schedules_each}
use Rattle.mp_simulation.specs.bits.Changes.{change_at}
use Rattle.mp_simulation.specs.bits.Schedules.{number_of, output_port_of, output_ports_of, HasPlace, IsFiring, IsUndrivenBy, FiringSchedules, FiringLeavesOthers}
use Rattle.mp_simulation.proofs.lemmas.bits.ChangeLemmas.{ports_change}

pub inside : {A : Type 0} {a b : A} → Some a ≡ Some b → a ≡ b
inside {a = a} e = ap (λ o. unwrap_or o a) e

pub counted_flat : (k w : ℕ) (f : ℕ → List (ℕ × ℕ)) (due : List ℕ) → count_by (is_entry k w) (flat_map f due) ≡ sum_by (λ x. count_by (is_entry k w) (f x)) due
counted_flat k w f [] = refl
counted_flat k w f (x ∷ due) =
    sum_by-append (λ e. cond (is_entry k w e) 1 0) (f x) (flat_map f due)
    ∙ ap (λ s. count_by (is_entry k w) (f x) + s) (counted_flat k w f due)
    ∙ sym (sum_by-cons (λ y. count_by (is_entry k w) (f y)) x due)

-- of terms that are 0 but at one place
one_term : (g : ℕ → ℕ) (q x : ℕ) (t : Bool) → (x == q) ≡ t → (x ≢ q → g x ≡ 0) → g x ≡ bit t * g q
one_term g q x true is none = ap g (eqb-true x q is) ∙ omega arith
one_term g q x false is none = none (eqb-false x q is) ∙ omega arith

some : (x : ℕ) (due : List ℕ) → 0 < length (x ∷ due)
some x due = omega arith

more : (x : ℕ) (due : List ℕ) (k : ℕ) → k < length due → suc k < length (x ∷ due)
more x due k within = omega arith

pub only_one : (g : ℕ → ℕ) (q : ℕ) (due : List ℕ) → All (λ x. x ≢ q → g x ≡ 0) due → sum_by g due ≡ listed q due * g q
only_one g q [] none = omega arith
only_one g q (x ∷ due) none =
    let here = one_term g q x (x == q) refl (none 0 x (some x due)) in
    let rest = only_one g q due (λ k d within. none (suc k) d (more x due k within)) in
    let left = sum_by-cons g x due in
    let right : listed q (x ∷ due) ≡ bit (x == q) + listed q due = sum_by-cons (λ d. cond (d == q) 1 0) x due in
    let product : (bit (x == q) + listed q due) * g q ≡ bit (x == q) * g q + listed q due * g q = grind arith in
    left ∙ (let sum : g x + sum_by g due ≡ bit (x == q) * g q + listed q due * g q = omega arith in sum) ∙ sym product ∙ ap (λ k. k * g q) (sym right)

-- the entries of one output
none_by : (k w j v : ℕ) (t : Bool) → (j == k) ≡ t → (v == w) ≡ false → count_by (is_entry k w) ((j, v) ∷ []) ≡ 0
none_by k w j v true is other = rw (is, other) refl
none_by k w j v false is other = rw is refl

none_in : (k w j v : ℕ) (t : Bool) → (v == w) ≡ false → count_by (is_entry k w) ((j, v) ∷ []) ≡ 0
none_in k w j v t is = none_by k w j v (j == k) refl is

own_in : (k w j : ℕ) (t : Bool) → (j == k) ≡ t → count_by (is_entry k w) ((j, w) ∷ []) ≡ bit t
own_in k w j true is = let own : (w == w) ≡ true = eq-eqb w w refl in rw (is, own) refl
own_in k w j false is = rw is refl

pub none_there : (k w d : ℕ) (wire : Option ℕ) (t : Bool) → (wire ≡ Some w → ⊥) → count_by (is_entry k w) (cond t (entry_at wire d) []) ≡ 0
none_there k w d wire false other = refl
none_there k w d None true other = refl
none_there k w d (Some v) true other =
    let differs : (v == w) ≡ false = ne_eqb v w (λ e. other (ap (λ x. Some x) e)) in
    none_in k w (d - 1) v (d - 1 == k) differs

pub counted_own : (k w d : ℕ) (t : Bool) → count_by (is_entry k w) (cond t (entry_at (Some w) d) []) ≡ bit (t && (d - 1 == k))
counted_own k w d false = refl
counted_own k w d true = own_in k w (d - 1) (d - 1 == k) refl

pub counted_fired : (k w : ℕ) (ports : OutputPorts) (t : Toggles) →
    count_by (is_entry k w) (fired_at ports t) ≡
    count_by (is_entry k w) (entry_if t.first ports.first) + count_by (is_entry k w) (entry_if t.second ports.second) + count_by (is_entry k w) (entry_if t.third ports.third)
counted_fired k w ports t =
    let a = entry_if t.first ports.first in
    let b = entry_if t.second ports.second in
    let c = entry_if t.third ports.third in
    sum_by-append (λ e. cond (is_entry k w e) 1 0) (a ++ b) c
    ∙ ap (λ s. s + count_by (is_entry k w) c) (sum_by-append (λ e. cond (is_entry k w e) 1 0) a b)

pub none_some : (w : ℕ) → None ≡ Some w → ⊥
none_some w e = cc

unmapped : (w : ℕ) (o : Option WireId) → option_map number_of o ≡ Some w → o ≡ Some (record { 0 = w })
unmapped w None e = absurd (none_some w e)
unmapped w (Some v) e = let same : v.0 ≡ w = inside e in ap (λ (k : ℕ). Some (let id : WireId = record { 0 = k } in id)) same

-- one output of a record
no_entry : (r : ModuleRecord) (j k w : ℕ) (t : Bool) → (output_at r j).wire ≢ Some (record { 0 = w }) → count_by (is_entry k w) (entry_if t (output_port_of (output_at r j))) ≡ 0
no_entry r j k w t other = none_there k w (delay_of r j) (option_map number_of (output_at r j).wire) t (λ e. other (unmapped w (output_at r j).wire e))

own_entry : (r : ModuleRecord) (j k w : ℕ) (t : Bool) → (output_at r j).wire ≡ Some (record { 0 = w }) →
    count_by (is_entry k w) (entry_if t (output_port_of (output_at r j))) ≡ bit (t && (delay_of r j - 1 == k))
own_entry r j k w t is =
    ap (λ (o : Option WireId). count_by (is_entry k w) (cond t (entry_at (option_map number_of o) (delay_of r j)) [])) is ∙ counted_own k w (delay_of r j) t

pub not_led : (r : ModuleRecord) (T : Toggles) (k w : ℕ) → ((j : ℕ) → (output_at r j).wire ≢ Some (record { 0 = w })) → count_by (is_entry k w) (fired_at (output_ports_of r) T) ≡ 0
not_led r T k w others =
    let sum = counted_fired k w (output_ports_of r) T in
    let a = no_entry r 0 k w T.first (others 0) in
    let b = no_entry r 1 k w T.second (others 1) in
    let c = no_entry r 2 k w T.third (others 2) in
    omega arith

abbrev pub port_toggle : Toggles → ℕ → Bool
port_toggle T zero = T.first
port_toggle T (suc zero) = T.second
port_toggle T (suc (suc p)) = T.third

pub own_led : (p : ℕ) → p < 3 → (r : ModuleRecord) (T : Toggles) (k w : ℕ) → (output_at r p).wire ≡ Some (record { 0 = w }) →
    ((j : ℕ) → j ≢ p → (output_at r j).wire ≢ Some (record { 0 = w })) →
    count_by (is_entry k w) (fired_at (output_ports_of r) T) ≡ bit (port_toggle T p && (delay_of r p - 1 == k))
own_led zero low r T k w is others =
    let sum = counted_fired k w (output_ports_of r) T in
    let a = own_entry r 0 k w T.first is in
    let b = no_entry r 1 k w T.second (others 1 (λ e. omega arith)) in
    let c = no_entry r 2 k w T.third (others 2 (λ e. omega arith)) in
    omega arith
own_led (suc zero) low r T k w is others =
    let sum = counted_fired k w (output_ports_of r) T in
    let a = no_entry r 0 k w T.first (others 0 (λ e. omega arith)) in
    let b = own_entry r 1 k w T.second is in
    let c = no_entry r 2 k w T.third (others 2 (λ e. omega arith)) in
    omega arith
own_led (suc (suc zero)) low r T k w is others =
    let sum = counted_fired k w (output_ports_of r) T in
    let a = no_entry r 0 k w T.first (others 0 (λ e. omega arith)) in
    let b = no_entry r 1 k w T.second (others 1 (λ e. omega arith)) in
    let c = own_entry r 2 k w T.third is in
    omega arith
own_led (suc (suc (suc p))) low r T k w is others = absurd (omega arith)

pub toggle_between : (p : ℕ) → p < 3 → (s u : Memory) → port_toggle (toggles_between s u) p ≡ not (output_of s p == output_of u p)
toggle_between zero low s u = refl
toggle_between (suc zero) low s u = refl
toggle_between (suc (suc zero)) low s u = refl
toggle_between (suc (suc (suc p))) low s u = absurd (omega arith)

-- a module that isn't due enters nothing
pub once_or_none : (n g : ℕ) (t : Bool) → (n == 0) ≡ t → n ≤ 1 → (n ≡ 0 → g ≡ 0) → n * g ≡ g
once_or_none n g true is low none = let zero_n : n ≡ 0 = eqb-true n 0 is in let zero_g = none zero_n in rw (zero_n, zero_g) (omega arith)
once_or_none n g false is low none = let differs : n ≢ 0 = eqb-false n 0 is in let one : n ≡ 1 = omega arith in rw one (omega arith)

nothing_fired : (k w : ℕ) (ports : OutputPorts) (T : Toggles) → T ≡ record { first = false; second = false; third = false } → count_by (is_entry k w) (fired_at ports T) ≡ 0
nothing_fired k w ports T none = ap (λ (u : Toggles). count_by (is_entry k w) (fired_at ports u)) none

none_is_some : {w : WireId} → None ≡ Some w → ⊥
none_is_some e = cc

pub same_part : (n : Circuit) (m : ℕ) (r s : ModuleRecord) → module_at n m ≡ Some r → module_at n m ≡ Some s → r ≡ s
same_part n m r s one other = inside (sym one ∙ other)

few_when : (r : ModuleRecord) (p w : ℕ) (low : Bool) → nat_lt p 3 ≡ low → output_count r.kind ≤ 3 → length r.outputs ≡ output_count r.kind →
    (output_at r p).wire ≡ Some (record { 0 = w }) → p < 3
few_when r p w true is few long wire = grind (arith, nat_tests)
few_when r p w false is few long wire =
    let beyond : 3 ≤ p = grind (arith, nat_tests) in
    let none : output_at r p ≡ record { wire = None; delay = 1 } = get_or-eq_default r.outputs _ (omega arith) in
    absurd (none_is_some (sym (ap (λ (o : Output). o.wire) none) ∙ wire))

pub sum_of_none : (g : ℕ → ℕ) (due : List ℕ) → All (λ x. g x ≡ 0) due → sum_by g due ≡ 0
sum_of_none g [] none = refl
sum_of_none g (x ∷ due) none =
    let here : g x ≡ 0 = none 0 x (some x due) in
    let rest = sum_of_none g due (λ k d within. none (suc k) d (more x due k within)) in
    sum_by-cons g x due ∙ omega arith

-- only the ports of a kind have wires
pub few_ports : (n : Circuit) → IsCircuit n → (m p w : ℕ) (r : ModuleRecord) → module_at n m ≡ Some r → (output_at r p).wire ≡ Some (record { 0 = w }) → p < 3
few_ports n ok m p w r at is = few_when r p w (nat_lt p 3) refl (few_outputs r.kind) (ok.modules_ok m r at).outputs is

module _ (n : Circuit) (ok : IsCircuit n) (place : ℕ → Option ℕ) (is_active : ℕ → Bool) (t : ℕ) (state_of : ℕ → UnitState) (ports : List OutputPorts) (due : List ℕ)
    (are : IsFiring n place is_active t state_of ports due) where
  abbrev entries_at : ℕ → ℕ → ℕ → ℕ
  entries_at k w x = count_by (is_entry k w) (events_of (state_of x) (ports_at ports x))

  -- an active module without an output at the wire schedules nothing of it
  without_output : (k w x : ℕ) (h : HasPlace n place x) → ((j : ℕ) → (output_at h.part j).wire ≢ Some (record { 0 = w })) → entries_at k w x ≡ 0
  without_output k w x h never =
      ap (λ (y : OutputPorts). count_by (is_entry k w) (fired_at y (reaction (state_of x)).toggles)) (are.drives h.number x h.part h.stands h.is)
      ∙ not_led h.part (reaction (state_of x)).toggles k w never

  sleeping : (k w x : ℕ) → is_active x ≡ false → entries_at k w x ≡ 0
  sleeping k w x asleep = nothing_fired k w (ports_at ports x) (reaction (state_of x)).toggles (are.asleep x asleep)

  at_place : (k w x : ℕ) (active : Bool) → is_active x ≡ active → (is_active x ≡ true → HasPlace n place x) →
      ((h : HasPlace n place x) (j : ℕ) → (output_at h.part j).wire ≢ Some (record { 0 = w })) → entries_at k w x ≡ 0
  at_place k w x true is placed never = let h = placed is in without_output k w x h (never h)
  at_place k w x false is placed never = sleeping k w x is

  -- another module has no output at the wire
  elsewhere_of : (w p q k : ℕ) (m : ModuleId) (x : ℕ) → place m.0 ≡ Some q → Drives n m.0 p w → (is_active x ≡ true → HasPlace n place x) → x ≢ q → entries_at k w x ≡ 0
  elsewhere_of w p q k m x is drv placed other =
      at_place k w x (is_active x) refl placed
      (λ h j e.
      let same = (ok.one_port h.number j m.0 p w (record { part = h.part; stands = h.stands; output = e }) drv).0 in
      other (inside (sym h.is ∙ ap place same ∙ is)))

  counted_all : (k w : ℕ) (slots : List (List ℕ)) → k < length slots →
      listed w (slice_index_or (scheduled slots (fired_by state_of ports due)) k []) ≡ listed w (slice_index_or slots k []) + sum_by (entries_at k w) due
  counted_all k w slots within =
      schedules_each slots (fired_by state_of ports due) k w within
      ∙ ap (λ s. listed w (slice_index_or slots k []) + s) (counted_flat k w (λ x. events_of (state_of x) (ports_at ports x)) due)

  driven_entries : (w p q k : ℕ) (m : ModuleId) (r : ModuleRecord) → driver n w ≡ Port m p → module_at n m.0 ≡ Some r → place m.0 ≡ Some q → 0 < delay_of r p →
      sum_by (entries_at k w) due ≡ bit (change_at n w (t + 1 + delay_of r p) && (delay_of r p - 1 == k))
  driven_entries w p q k m r drives at is some_delay =
      let drv = finds_only_ports n w p m drives in
      let output : (output_at r p).wire ≡ Some (record { 0 = w }) =
      subst (λ (s : ModuleRecord). (output_at s p).wire ≡ Some (record { 0 = w })) (same_part n m.0 drv.part r drv.stands at) drv.output in
      let low = few_ports n ok m.0 p w r at output in
      let others : (j : ℕ) → j ≢ p → (output_at r j).wire ≢ Some (record { 0 = w }) =
      λ j other e. other (ok.one_port m.0 j m.0 p w (record { part = r; stands = at; output = e }) drv).1 in
      let own : entries_at k w q ≡ bit (change_at n w (t + 1 + delay_of r p) && (delay_of r p - 1 == k)) =
      ap (λ (x : OutputPorts). count_by (is_entry k w) (fired_at x (reaction (state_of q)).toggles)) (are.drives m.0 q r at is)
      ∙ own_led p low r (reaction (state_of q)).toggles k w output others
      ∙ ap (λ (T : Toggles). bit (port_toggle T p && (delay_of r p - 1 == k))) (are.toggled m.0 q r at is)
      ∙ ap (λ b. bit (b && (delay_of r p - 1 == k))) (toggle_between p low (state n m.0 t) (state n m.0 (t + 1)) ∙ sym (ports_change n ok w p t m r drives at some_delay)) in
      let elsewhere : All (λ x. x ≢ q → entries_at k w x ≡ 0) due =
      λ j d inside_due other. elsewhere_of w p q k m (slice_index_or due j d) is drv (are.placed j d inside_due) other in
      only_one (entries_at k w) q due elsewhere
      ∙ once_or_none (listed q due) (entries_at k w q) (listed q due == 0) refl (are.once q)
      (λ none. nothing_fired k w (ports_at ports q) (reaction (state_of q)).toggles (are.idle m.0 q r at is none))
      ∙ own

  undriven_entries : (w k : ℕ) → IsUndrivenBy n place w → sum_by (entries_at k w) due ≡ 0
  undriven_entries w k none =
      sum_of_none (entries_at k w) due
      (λ j d inside_due. at_place k w (slice_index_or due j d) (is_active (slice_index_or due j d)) refl (are.placed j d inside_due)
      (λ h i e. none h.number i (slice_index_or due j d) (record { part = h.part; stands = h.stands; output = e }) h.is))

pub firing_schedules : FiringSchedules
firing_schedules n ok place is_active t state_of ports due slots are w p q k m r drives at is some_delay within =
    counted_all n ok place is_active t state_of ports due are k w slots within
    ∙ ap (λ s. listed w (slice_index_or slots k []) + s) (driven_entries n ok place is_active t state_of ports due are w p q k m r drives at is some_delay)

pub firing_leaves_others : FiringLeavesOthers
firing_leaves_others n ok place is_active t state_of ports due slots are w k none within =
    let sum = counted_all n ok place is_active t state_of ports due are k w slots within in
    let zero_sum = undriven_entries n ok place is_active t state_of ports due are w k none in
    omega arith
