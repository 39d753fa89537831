-- Modules with data fire, one after the other.
use Rattle.std.proofs.Common.{◌≡◌, ◌≢◌, ℕ, ◌+◌, ◌<◌, ◌≤◌, Bool, true, false, cond, List, [], ◌∷◌, ◌++◌, Option, Some, None, All, length, take, refl, sym, ap, ◌∙◌, arith, eq-eqb, get_or-set_same, get_or-set_other, append-nil, subst, inl, inr}
use Rattle.std.specs.Prelude.{◌==◌, slice_set, slice_index_or}
use Rattle.std.proofs.lemmas.Bool.{eqb-true, eqb-false, cases_eq}
use Rattle.std.proofs.lemmas.Grind.{flat_map-append}
use Rattle.std.proofs.lemmas.List.{take_more, length-set, get_or_default}
use Rattle.mp_modules.specs.automata.Codes.{bit}
use Rattle.mp_kernel.specs.events.Adding.{listed}
use Rattle.mp_kernel.specs.events.Firing.{HasSlot, HaveSlots, scheduled}
use Rattle.mp_kernel.proofs.lemmas.events.FiringLemmas.{scheduled_append}
use Rattle.mp_kernel.proofs.lemmas.events.TogglingLemmas.{fresh, listed_next}
use Rattle.mp_kernel.specs.declared.datapath.level_change.LevelChange.{LevelChange}
use Rattle.mp_kernel.specs.declared.datapath.data_ports.DataPorts.{DataPorts}
use Rattle.mp_kernel.specs.declared.datapath.data_module.DataModule.{DataModule}
use Rattle.mp_kernel.specs.datapath.DataModules.{CanFire, stepped, events_of, changes_of}
use Rattle.mp_kernel.specs.datapath.DataFiring.{place_at, module_at, no_module, ArePlaced, HasKept, HaveStepped, events_in, changes_in, fired_by, changed_by, stepped_in}
use Rattle.mp_kernel.specs.datapath.LevelWheels.{scheduled as levels_scheduled}
use Rattle.mp_kernel.proofs.lemmas.datapath.WheelLemmas.{levels_append}

no_number : (k : ℕ) → None ≡ Some k → ⊥
no_number k is = cc

same_number : (a b : ℕ) → Some a ≡ Some b → a ≡ b
same_number a b is = ap (λ (o : Option ℕ). elim o as (λ _. ℕ) [ None ↦ a | Some x ↦ x ]) is

-- a module keeps all but its state
pub kept_in : (levels : List ℕ) (modules : List DataModule) (number : Option ℕ) (k : ℕ) → ((j : ℕ) → number ≡ Some j → j < length modules) →
    HasKept (module_at modules k) (module_at (stepped_in levels modules number) k)
kept_in levels modules None k low = record { part = refl; inputs = refl; ports = refl }
kept_in levels modules (Some j) k low = elim (cases_eq k j) as (λ _. HasKept (module_at modules k) (module_at (slice_set modules j (stepped levels (module_at modules j))) k)) [
  | inl same ↦
      let is : module_at (slice_set modules j (stepped levels (module_at modules j))) k ≡ stepped levels (module_at modules k) =
      subst (λ x. module_at (slice_set modules j (stepped levels (module_at modules j))) x ≡ stepped levels (module_at modules x)) (sym same)
      (get_or-set_same modules j (stepped levels (module_at modules j)) no_module (low j refl)) in
      subst (λ (m : DataModule). HasKept (module_at modules k) m) (sym is) (record { part = refl; inputs = refl; ports = refl })
  | inr other ↦
      subst (λ (m : DataModule). HasKept (module_at modules k) m) (sym (get_or-set_other modules j k (stepped levels (module_at modules j)) no_module other))
      (record { part = refl; inputs = refl; ports = refl })
]

pub kept_both : {a b c : DataModule} → HasKept a b → HasKept b c → HasKept a c
kept_both one two = record {
  part = two.part ∙ one.part;
  inputs = two.inputs ∙ one.inputs;
  ports = two.ports ∙ one.ports;
}

stepped_length : (levels : List ℕ) (modules : List DataModule) (number : Option ℕ) → length (stepped_in levels modules number) ≡ length modules
stepped_length levels modules None = refl
stepped_length levels modules (Some k) = length-set modules k (stepped levels (module_at modules k))

stepped_else : (levels : List ℕ) (modules : List DataModule) (number : Option ℕ) (k : ℕ) → (number ≡ Some k → ⊥) → module_at (stepped_in levels modules number) k ≡ module_at modules k
stepped_else levels modules None k other = refl
stepped_else levels modules (Some j) k other =
    let differs : k ≢ j = λ same. other (ap (λ (x : ℕ). Some x) (sym same)) in
    get_or-set_other modules j k (stepped levels (module_at modules j)) no_module differs

stepped_own : (levels : List ℕ) (modules : List DataModule) (number : Option ℕ) (k : ℕ) → number ≡ Some k → k < length modules →
    module_at (stepped_in levels modules number) k ≡ stepped levels (module_at modules k)
stepped_own levels modules number k is low =
    ap (λ (o : Option ℕ). module_at (stepped_in levels modules o) k) is ∙ get_or-set_same modules k (stepped levels (module_at modules k)) no_module low

module _ (levels : List ℕ) (places : List (Option ℕ)) (first now : List DataModule) (due : List ℕ) (i : ℕ) (within : i < length due)
    (once : (q : ℕ) → listed q due ≤ 1) (placed : ArePlaced places (length first)) (are : HaveStepped levels places (take i due) first now) where
  abbrev one : ℕ
  one = slice_index_or due i 0

  -- the module of the next place is as it was
  pub module_is : (k : ℕ) → place_at places (slice_index_or due i 0) ≡ Some k → module_at now k ≡ module_at first k
  module_is k is =
      are.fired (slice_index_or due i 0) k is
      ∙ ap (λ n. cond (n == 0) (module_at first k) (stepped levels (module_at first k))) (fresh due i within once)

  listed_now : listed (slice_index_or due i 0) (take (i + 1) due) ≡ 1
  listed_now =
      let none = fresh due i within once in
      let more = listed_next due i (slice_index_or due i 0) within in
      let own : bit (slice_index_or due i 0 == slice_index_or due i 0) ≡ 1 = ap bit (eq-eqb (slice_index_or due i 0) _ refl) in
      omega arith

  listed_else : (q : ℕ) → (slice_index_or due i 0 == q) ≡ false → listed q (take (i + 1) due) ≡ listed q (take i due)
  listed_else q is =
      let more = listed_next due i q within in
      let none : bit (slice_index_or due i 0 == q) ≡ 0 = ap bit is in
      omega arith

  due_when : (q k : ℕ) (own : Bool) → (slice_index_or due i 0 == q) ≡ own → place_at places q ≡ Some k →
      module_at (stepped_in levels now (place_at places (slice_index_or due i 0))) k ≡
      cond (listed q (take (i + 1) due) == 0) (module_at first k) (stepped levels (module_at first k))
  due_when q k true is at =
      let same : slice_index_or due i 0 ≡ q = eqb-true (slice_index_or due i 0) q is in
      let number : place_at places (slice_index_or due i 0) ≡ Some k = ap (place_at places) same ∙ at in
      let low = placed.below q k at in
      let long = are.placed in
      let once_now : listed q (take (i + 1) due) ≡ 1 = sym (ap (λ x. listed x (take (i + 1) due)) same) ∙ listed_now in
      stepped_own levels now (place_at places (slice_index_or due i 0)) k number (omega arith)
      ∙ ap (stepped levels) (module_is k number)
      ∙ sym (ap (λ n. cond (n == 0) (module_at first k) (stepped levels (module_at first k))) once_now)
  due_when q k false is at =
      let differs = eqb-false (slice_index_or due i 0) q is in
      stepped_else levels now (place_at places (slice_index_or due i 0)) k (λ number. differs (placed.own (slice_index_or due i 0) q k number at))
      ∙ are.fired q k at
      ∙ sym (ap (λ n. cond (n == 0) (module_at first k) (stepped levels (module_at first k))) (listed_else q is))

  pub stepped_next : (new : List DataModule) → new ≡ stepped_in levels now (place_at places (slice_index_or due i 0)) → HaveStepped levels places (take (i + 1) due) first new
  stepped_next new is =
      let number = place_at places (slice_index_or due i 0) in
      let long = are.placed in
      subst (λ (xs : List DataModule). HaveStepped levels places (take (i + 1) due) first xs) (sym is) (record {
        placed = stepped_length levels now number ∙ are.placed;
        fired = λ q k at. due_when q k (slice_index_or due i 0 == q) refl at;
        others = λ k none. stepped_else levels now number k (none (slice_index_or due i 0)) ∙ are.others k none;
        kept = λ k. kept_both (are.kept k) (kept_in levels now number k
            (λ j at. let low = placed.below (slice_index_or due i 0) j at in omega arith));
      })

  events_by : (number : Option ℕ) → place_at places (slice_index_or due i 0) ≡ number → events_in levels now number ≡ events_in levels first number
  events_by None at = refl
  events_by (Some k) at = ap (events_of levels) (module_is k at)

  changes_by : (number : Option ℕ) → place_at places (slice_index_or due i 0) ≡ number → changes_in levels now number ≡ changes_in levels first number
  changes_by None at = refl
  changes_by (Some k) at = ap (changes_of levels) (module_is k at)

  pub wheel_next : (slots before new : List (List ℕ)) → before ≡ scheduled slots (fired_by levels places first (take i due)) →
      new ≡ scheduled before (events_in levels now (place_at places (slice_index_or due i 0))) → new ≡ scheduled slots (fired_by levels places first (take (i + 1) due))
  wheel_next slots before new was is =
      let number = place_at places (slice_index_or due i 0) in
      let last = events_in levels first (place_at places (slice_index_or due i 0)) in
      let all : fired_by levels places first (take (i + 1) due) ≡ fired_by levels places first (take i due) ++ last =
      ap (λ xs. fired_by levels places first xs) (take_more due i 0 within)
      ∙ flat_map-append (λ q. events_in levels first (place_at places q)) (take i due) (slice_index_or due i 0 ∷ [])
      ∙ ap (λ xs. fired_by levels places first (take i due) ++ xs) (append-nil last) in
      is ∙ ap (λ xs. scheduled before xs) (events_by number refl) ∙ ap (λ (s : List (List ℕ)). scheduled s last) was
      ∙ sym (scheduled_append slots (fired_by levels places first (take i due)) last) ∙ ap (λ xs. scheduled slots xs) (sym all)

  pub changes_next : (slots before new : List (List LevelChange)) → before ≡ levels_scheduled slots (changed_by levels places first (take i due)) →
      new ≡ levels_scheduled before (changes_in levels now (place_at places (slice_index_or due i 0))) →
      new ≡ levels_scheduled slots (changed_by levels places first (take (i + 1) due))
  changes_next slots before new was is =
      let number = place_at places (slice_index_or due i 0) in
      let last = changes_in levels first (place_at places (slice_index_or due i 0)) in
      let all : changed_by levels places first (take (i + 1) due) ≡ changed_by levels places first (take i due) ++ last =
      ap (λ xs. changed_by levels places first xs) (take_more due i 0 within)
      ∙ flat_map-append (λ q. changes_in levels first (place_at places q)) (take i due) (slice_index_or due i 0 ∷ [])
      ∙ ap (λ xs. changed_by levels places first (take i due) ++ xs) (append-nil last) in
      is ∙ ap (λ xs. levels_scheduled before xs) (changes_by number refl) ∙ ap (λ (s : List (List LevelChange)). levels_scheduled s last) was
      ∙ sym (levels_append slots (changed_by levels places first (take i due)) last) ∙ ap (λ xs. levels_scheduled slots xs) (sym all)

  -- each can fire as before
  pub can_fire : (numbers events changes : ℕ) → All (CanFire numbers events changes) first → All (CanFire numbers events changes) now
  can_fire numbers events changes can k d low =
      let long = are.placed in
      let inside : k < length first = omega arith in
      let kept = are.kept k in
      let was : CanFire numbers events changes (module_at first k) = can k no_module inside in
      let is : CanFire numbers events changes (module_at now k) = record {
        reads = subst (λ (xs : List (Option ℕ)). (p x : ℕ) → slice_index_or xs p None ≡ Some x → x < numbers) (sym kept.inputs) was.reads;
        bits = subst (λ (ports : DataPorts). HaveSlots events ports.bits) (sym kept.ports) was.bits;
        level = subst (λ (ports : DataPorts). HasSlot changes ports.level) (sym kept.ports) was.level;
      } in
      subst (CanFire numbers events changes) (get_or_default now k no_module d low) is
