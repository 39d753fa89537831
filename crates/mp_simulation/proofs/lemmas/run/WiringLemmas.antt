-- The inputs of all modules are added.
use Rattle.std.proofs.Common.{◌≡◌, ◌≢◌, ℕ, ◌+◌, ◌<◌, ◌≤◌, true, false, cond, List, [], ◌∷◌, ◌++◌, Option, Some, None, All, length, map, nat_lt, refl, sym, ap, ◌∙◌, arith, subst, inl, inr}
use Rattle.std.specs.Prelude.{slice_index_or, slice_set}
use Rattle.std.proofs.lemmas.Bool.{cases_eq, cases_lt, eq-eqb, ne_eqb}
use Rattle.std.proofs.lemmas.Bool.Decides.{nat_tests}
use Rattle.std.proofs.lemmas.List.{get_or_default, get_or_past, get_or_append_left, get_or_push, length_push, length-map}
use Rattle.std.proofs.lemmas.List.Elements.{All-push}
use Rattle.std.proofs.lemmas.Option.{none-some}
use Rattle.mp_records.specs.declared.module_record.ModuleRecord.{ModuleRecord}
use Rattle.mp_records.specs.declared.ports.Input.{Input}
use Rattle.mp_modules.proofs.KindLemmas.{few_inputs}
use Rattle.mp_netlist.specs.Circuit.{Circuit, IsCircuit, module_at}
use Rattle.mp_model.proofs.SlotLemmas.{some_within}
use Rattle.mp_kernel.specs.declared.events.fanout_entry.FanoutEntry.{FanoutEntry}
use Rattle.mp_kernel.specs.declared.events.output_port.OutputPort.{OutputPort}
use Rattle.mp_kernel.specs.events.Adding.{events_for}
use Rattle.mp_kernel.specs.events.Toggling.{row_at}
use Rattle.mp_kernel.specs.events.Firing.{HasSlot, no_port, copy_at}
use Rattle.mp_simulation.specs.bits.PortEvents.{source_of}
use Rattle.mp_simulation.specs.declared.run.wiring.Wiring.{Wiring}
use Rattle.mp_simulation.specs.run.Wirings.{with_inputs, with_numbers, AddsInputs, AreByPort, HasRead, AreUnread, inputs_in, reading_below, AreDelaysWithin, IsWiring, AreWiredInputs}
use Rattle.mp_simulation.proofs.lemmas.run.InputLemmas.{wired_as}

-- ---- all modules

no_copy : (next : List OutputPort) → All (λ port. port ≡ no_port) next → (y x : ℕ) → (copy_at next y).wire ≡ Some x → ⊥
no_copy next last y x is = elim (cases_lt y (length next)) as (λ _. ⊥) [
  | inl within ↦ none-some x (sym (ap (λ (p : OutputPort). p.wire) (last y no_port within)) ∙ is)
  | inr past ↦ none-some x (sym (ap (λ (p : OutputPort). p.wire) (get_or_past next y no_port past)) ∙ is)
]

pub wired_none : (n : Circuit) (wiring : Wiring) → AreUnread (length n.wires) wiring → IsWiring n 0 (λ q. []) wiring
wired_none n wiring are = record {
  few = let a = are.next in omega arith;
  rows = are.rows ∙ sym are.next;
  links = λ longest some low. record {
    below = λ k d within x is. absurd (none-some x (sym (ap (λ (p : OutputPort). p.wire) (are.last k d within)) ∙ is));
    slots = λ k d within. subst (HasSlot longest) (sym (are.last k d within)) (record { some = omega arith; room = omega arith });
  };
  wired = record {
    source = λ x. (x, 0);
    before = λ x. None;
    numbers = record {
      chained = record {
        last = λ y x is. absurd (no_copy wiring.next.items are.last y x is);
        first = λ x y is. absurd (none-some y is);
        wire = λ x y is. absurd (none-some y is);
        delay = λ x y is. absurd (none-some y is);
        some = λ x y is. absurd (none-some y is);
      };
      enough = let a = are.next in omega arith;
      own = λ w low. refl;
      first = λ w low. refl;
      tied = λ x high within. absurd (let a = are.next in omega arith);
    };
    origins = record { long = are.listed ∙ sym are.next; each = λ x low. are.own x (let a = are.next in omega arith) };
    ports = λ q. record { few = omega arith; each = λ w. ap (events_for q) (are.empty w) };
    reads = λ q. ap (map source_of) (nothing_read q);
    low = λ q k d within. absurd (omega arith);
    late = λ longest delays x within. omega arith;
    placed = λ x. subst (All (λ (l : FanoutEntry). l.module < length n.modules)) (sym (are.empty x)) (λ k d within. absurd (omega arith));
    eventful = λ x. subst (All (λ (l : FanoutEntry). 0 < l.event)) (sym (are.empty x)) (λ k d within. absurd (omega arith));
  };
}
  where
    nothing_read : (q : ℕ) → [] ≡ reading_below n 0 q
    nothing_read q = let test : nat_lt q 0 ≡ false = grind (arith, nat_tests) in sym (ap (λ b. cond b (inputs_in (module_at n q)) []) test)

pub inputs_none : (n : Circuit) (wiring : Wiring) (ports : List (List (Option ℕ))) → ports ≡ [] → AreUnread (length n.wires) wiring → AreWiredInputs n 0 wiring ports
inputs_none n wiring ports is are = record {
  inputs = λ q. [];
  wired = wired_none n wiring are;
  long = ap (length {A = List (Option ℕ)}) is;
  by_port = λ q low. absurd (omega arith);
}

-- one wire more that nothing reads
pub unread_next : (k : ℕ) (old mid new : Wiring) → AreUnread k old → mid.next.items ≡ old.next.items ++ no_port ∷ [] → mid.rows.items ≡ old.rows.items ++ [] ∷ [] → mid.wires.items ≡ old.wires.items →
    new.next.items ≡ mid.next.items → new.rows.items ≡ mid.rows.items → new.wires.items ≡ mid.wires.items ++ k ∷ [] → AreUnread (k + 1) new
unread_next k old mid new are next rows wires next_same rows_same pushed = record {
  next = ap (length {A = OutputPort}) next_is ∙ length_push old.next.items no_port ∙ ap (λ j. j + 1) are.next;
  rows = ap (length {A = List FanoutEntry}) rows_is ∙ length_push old.rows.items [] ∙ ap (λ j. j + 1) are.rows;
  listed = ap (length {A = ℕ}) wires_are ∙ length_push old.wires.items k ∙ ap (λ j. j + 1) are.listed;
  own = λ x low. ap (λ (xs : List ℕ). slice_index_or xs x 0) wires_are ∙ own_at x low;
  last = subst (λ (xs : List OutputPort). All (λ port. port ≡ no_port) xs) (sym next_is) (All-push (λ port. port ≡ no_port) old.next.items no_port are.last refl);
  empty = λ x. ap (λ (xs : List (List FanoutEntry)). row_at xs x) rows_is ∙ empty_at x;
}
  where
    next_is : new.next.items ≡ old.next.items ++ no_port ∷ []
    next_is = next_same ∙ next

    rows_is : new.rows.items ≡ old.rows.items ++ [] ∷ []
    rows_is = rows_same ∙ rows

    wires_are : new.wires.items ≡ old.wires.items ++ k ∷ []
    wires_are = pushed ∙ ap (λ (xs : List ℕ). xs ++ k ∷ []) wires

    own_at : (x : ℕ) → x < k + 1 → slice_index_or (old.wires.items ++ k ∷ []) x 0 ≡ x
    own_at x low = elim (cases_eq x k) as (λ _. slice_index_or (old.wires.items ++ k ∷ []) x 0 ≡ x) [
      | inl same ↦ get_or_push old.wires.items k 0 x (are.listed ∙ sym same) ∙ sym same
      | inr other ↦ let size = are.listed in let below : x < k = omega arith in get_or_append_left old.wires.items (k ∷ []) 0 x (omega arith) ∙ are.own x below
    ]

    empty_at : (x : ℕ) → row_at (old.rows.items ++ [] ∷ []) x ≡ []
    empty_at x = elim (cases_lt x (length old.rows.items)) as (λ _. row_at (old.rows.items ++ [] ∷ []) x ≡ []) [
      | inl low ↦ get_or_append_left old.rows.items ([] ∷ []) [] x low ∙ are.empty x
      | inr past ↦ elim (cases_eq x (length old.rows.items)) as (λ _. row_at (old.rows.items ++ [] ∷ []) x ≡ []) [
        | inl here ↦ get_or_push old.rows.items [] [] x (sym here)
        | inr beyond ↦ get_or_past (old.rows.items ++ [] ∷ []) x [] (let long = length_push old.rows.items [] in omega (arith, long, past, beyond))
      ]
    ]

below_self : (n : Circuit) (m : ℕ) → reading_below n m m ≡ []
below_self n m = let test : nat_lt m m ≡ false = grind (arith, nat_tests) in ap (λ b. cond b (inputs_in (module_at n m)) []) test

-- the modules below m + 1 read what those below m do, and m its own inputs
below_next : (n : Circuit) (m q : ℕ) (xs : List Input) → inputs_in (module_at n m) ≡ xs → with_inputs (reading_below n m) m xs q ≡ reading_below n (m + 1) q
below_next n m q xs is = elim (cases_eq q m) as (λ _. with_inputs (reading_below n m) m xs q ≡ reading_below n (m + 1) q) [
  | inl same ↦
      let test : nat_lt q (m + 1) ≡ true = grind (arith, nat_tests) in
      ap (λ b. cond b xs (reading_below n m q)) (eq-eqb q m same)
      ∙ sym is ∙ ap (λ k. inputs_in (module_at n k)) (sym same)
      ∙ sym (ap (λ b. cond b (inputs_in (module_at n q)) []) test)
  | inr other ↦
      let test : nat_lt q (m + 1) ≡ nat_lt q m = same_test q m other in
      ap (λ b. cond b xs (reading_below n m q)) (ne_eqb q m other)
      ∙ sym (ap (λ b. cond b (inputs_in (module_at n q)) []) test)
]
  where
    same_test : (q m : ℕ) → q ≢ m → nat_lt q (m + 1) ≡ nat_lt q m
    same_test q m other = grind (arith, nat_tests)

pub row_pushed : (rows : List (List FanoutEntry)) (number : ℕ) (row new : List FanoutEntry) (entry : FanoutEntry) → number < length rows → row ≡ slice_index_or rows number row → new ≡ row ++ entry ∷ [] →
    slice_set rows number new ≡ slice_set rows number (row_at rows number ++ entry ∷ [])
row_pushed rows number row new entry within is pushed =
    ap (λ (x : List FanoutEntry). slice_set rows number x) (pushed ∙ ap (λ (x : List FanoutEntry). x ++ entry ∷ []) (is ∙ get_or_default rows number row [] within))

pub inputs_short : (n : Circuit) → IsCircuit n → (m : ℕ) (r : ModuleRecord) → module_at n m ≡ Some r → length r.inputs ≤ 4
inputs_short n ok m r at = let same = (ok.modules_ok m r at).inputs in let few = few_inputs r.kind in omega arith

pub inputs_low : (n : Circuit) → IsCircuit n → (m : ℕ) (r : ModuleRecord) → module_at n m ≡ Some r → All (λ (i : Input). i.wire.0 < length n.wires) r.inputs
inputs_low n ok m r at k d within = some_within n.wires (slice_index_or r.inputs k d).wire.0 ((ok.modules_ok m r at).reads k d within).0

inputs_in_short : (n : Circuit) → IsCircuit n → (m : ℕ) (slot : Option ModuleRecord) → module_at n m ≡ slot → length (inputs_in slot) ≤ 4
inputs_in_short n ok m None at = omega arith
inputs_in_short n ok m (Some r) at = inputs_short n ok m r at

inputs_in_low : (n : Circuit) → IsCircuit n → (m : ℕ) (slot : Option ModuleRecord) → module_at n m ≡ slot → All (λ (i : Input). i.wire.0 < length n.wires) (inputs_in slot)
inputs_in_low n ok m None at = λ k d within. absurd (omega arith)
inputs_in_low n ok m (Some r) at = inputs_low n ok m r at

delays_in : (n : Circuit) (longest m : ℕ) (slot : Option ModuleRecord) → module_at n m ≡ slot → AreDelaysWithin n longest → All (λ (i : Input). i.delay ≤ longest) (inputs_in slot)
delays_in n longest m None at delays = λ k d within. absurd (omega arith)
delays_in n longest m (Some r) at delays = delays m r at

nil_when : (xs : List ℕ) → length xs ≡ 0 → xs ≡ []
nil_when [] none = refl
nil_when (x ∷ xs) none = absurd (omega arith)

-- one module more reads its inputs
pub wired_next : (n : Circuit) → IsCircuit n → (m : ℕ) (inputs : ℕ → List ℕ) (numbers : List ℕ) (old new : Wiring) → m < length n.modules → IsWiring n m inputs old →
    AddsInputs old new m 0 (inputs_in (module_at n m)) numbers → IsWiring n (m + 1) (with_numbers inputs m numbers) new
wired_next n ok m inputs numbers old new within are adds = record {
  few = let a = are.few in let b = adds.few in let c = inputs_in_short n ok m (module_at n m) refl in omega arith;
  rows = adds.rows are.rows;
  links = λ longest some delays. adds.links longest (delays_in n longest m (module_at n m) refl delays) (are.links longest some delays);
  wired = wired_as (length n.wires) (length n.modules) (with_inputs (reading_below n m) m (reading_below n m m ++ inputs_in (module_at n m))) (reading_below n (m + 1))
      (with_numbers inputs m (inputs m ++ numbers)) (with_numbers inputs m numbers) new
      (λ q. ap (λ (xs : List Input). with_inputs (reading_below n m) m (xs ++ inputs_in (module_at n m)) q) (below_self n m) ∙ below_next n m q (inputs_in (module_at n m)) refl)
      (λ q. ap (λ (xs : List ℕ). with_numbers inputs m (xs ++ numbers) q) none_yet)
      (adds.wired (length n.wires) (length n.modules) (reading_below n m) inputs (inputs_in_low n ok m (module_at n m) refl) within (ap (length {A = Input}) (below_self n m))
      (let c = inputs_in_short n ok m (module_at n m) refl in omega arith) are.wired);
}
  where
    none_yet : inputs m ≡ []
    none_yet =
        nil_when (inputs m)
        (sym (length-map (inputs m) are.wired.source) ∙ ap (length {A = ℕ × ℕ}) (are.wired.reads m ∙ ap (map source_of) (below_self n m)))

pub inputs_next : (n : Circuit) → IsCircuit n → (m : ℕ) (old new : Wiring) (ports after : List (List (Option ℕ))) (array : List (Option ℕ)) → m < length n.modules → AreWiredInputs n m old ports →
    HasRead old new m (inputs_in (module_at n m)) array → after ≡ ports ++ array ∷ [] → AreWiredInputs n (m + 1) new after
inputs_next n ok m old new ports after array within are has pushed = record {
  inputs = with_numbers are.inputs m has.numbers;
  wired = wired_next n ok m are.inputs has.numbers old new within are.wired has.adds;
  long = ap (length {A = List (Option ℕ)}) pushed ∙ length_push ports array ∙ ap (λ k. k + 1) are.long;
  by_port = λ q low. elim (cases_eq q m) as (λ _. AreByPort (with_numbers are.inputs m has.numbers q) (slice_index_or after q [])) [
    | inl own ↦
        let numbers_are : has.numbers ≡ with_numbers are.inputs m has.numbers q = ap (λ b. cond b has.numbers (are.inputs q)) (sym (eq-eqb q m own)) in
        let array_is : array ≡ slice_index_or after q [] =
        sym (ap (λ (xs : List (List (Option ℕ))). slice_index_or xs q []) pushed ∙ get_or_push ports array [] q (are.long ∙ sym own)) in
        subst (λ (xs : List ℕ). AreByPort xs (slice_index_or after q [])) numbers_are (subst (λ (l : List (Option ℕ)). AreByPort has.numbers l) array_is has.by_port)
    | inr other ↦
        let size = are.long in
        let below : q < m = omega arith in
        let numbers_are : are.inputs q ≡ with_numbers are.inputs m has.numbers q = ap (λ b. cond b has.numbers (are.inputs q)) (sym (ne_eqb q m other)) in
        let array_is : slice_index_or ports q [] ≡ slice_index_or after q [] =
        sym (ap (λ (xs : List (List (Option ℕ))). slice_index_or xs q []) pushed ∙ get_or_append_left ports (array ∷ []) [] q (omega arith)) in
        subst (λ (xs : List ℕ). AreByPort xs (slice_index_or after q [])) numbers_are
        (subst (λ (l : List (Option ℕ)). AreByPort (are.inputs q) l) array_is (are.by_port q below))
  ];
}
