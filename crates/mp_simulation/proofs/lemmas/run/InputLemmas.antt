-- An input is added to the row of the number that it reads.
use Rattle.std.proofs.Common.{◌≡◌, ◌≢◌, ℕ, zero, suc, ◌+◌, ◌*◌, ◌^◌, ◌<◌, ◌≤◌, Bool, true, false, cond, List, [], ◌∷◌, ◌++◌, All, length, map, refl, sym, ap, ◌∙◌, arith, subst, inl, inr}
use Rattle.std.specs.Prelude.{◌==◌, slice_index_or, slice_set}
use Rattle.std.proofs.Math.Nat.{pow-suc}
use Rattle.std.proofs.lemmas.Bool.{cases_eq, cases_lt, eq-eqb, ne_eqb}
use Rattle.std.proofs.lemmas.List.{get_or-set_same, get_or-set_other, get_or_append_left, get_or-append-add, get_or_push, length-append, length-set, length_push, length-map, map_push}
use Rattle.std.proofs.lemmas.List.Elements.{All-head, All-push, All-weaker}
use Rattle.mp_records.specs.declared.ports.Input.{Input}
use Rattle.mp_kernel.specs.declared.events.fanout_entry.FanoutEntry.{FanoutEntry}
use Rattle.mp_kernel.specs.declared.events.output_port.OutputPort.{OutputPort}
use Rattle.mp_kernel.specs.events.Adding.{events_for}
use Rattle.mp_kernel.specs.events.Toggling.{row_at}
use Rattle.mp_kernel.specs.events.Ports.{weight, HasPorts}
use Rattle.mp_kernel.proofs.lemmas.events.AddingLemmas.{added_append, added_one}
use Rattle.mp_simulation.specs.bits.PortEvents.{source_of}
use Rattle.mp_simulation.specs.declared.run.wiring.Wiring.{Wiring}
use Rattle.mp_simulation.specs.run.Numbers.{AreLinks, AreNumbers, AreOrigins, noted, Renumbered, HasNumber}
use Rattle.mp_simulation.specs.run.Wirings.{AreWired, HaveRows, KeepsRows, with_inputs, with_numbers, AddsInputs}

-- ---- one port more

first_unit_is : (unit : ℕ) (b : Bool) → cond b unit 0 + 0 ≡ 0 + cond b (unit * 1) 0
first_unit_is unit true = omega arith
first_unit_is unit false = refl

twice : (unit power : ℕ) → unit * 2 * power ≡ unit * (power * 2)
twice unit power = grind arith

pub weight_push : (unit : ℕ) (ports : List ℕ) (x w : ℕ) → weight unit (ports ++ x ∷ []) w ≡ weight unit ports w + cond (x == w) (unit * 2 ^ length ports) 0
weight_push unit [] x w = first_unit_is unit (x == w)
weight_push unit (p ∷ ports) x w =
    let rest = weight_push (unit * 2) ports x w in
    let power : 2 ^ suc (length ports) ≡ 2 ^ length ports * 2 = pow-suc 2 (length ports) in
    let same : unit * 2 * 2 ^ length ports ≡ unit * 2 ^ suc (length ports) = twice unit (2 ^ length ports) ∙ ap (λ k. unit * k) (sym power) in
    let more = ap (λ k. cond (x == w) k 0) same in
    omega arith

-- ---- what holds of inputs holds of those at the front, and of those at the back

pub all_front : (P : Input → Type 0) (xs ys : List Input) → All P (xs ++ ys) → All P xs
all_front P xs ys all i d within =
    let size = length-append xs ys in
    subst P (get_or_append_left xs ys d i within) (all i d (omega arith))

pub all_back : (P : Input → Type 0) (xs ys : List Input) → All P (xs ++ ys) → All P ys
all_back P xs ys all i d within =
    let size = length-append xs ys in
    subst P (get_or-append-add xs ys i d) (all (length xs + i) d (omega arith))

-- ---- the same numbers

pub map_same : (f g : ℕ → ℕ × ℕ) (xs : List ℕ) → All (λ x. f x ≡ g x) xs → map f xs ≡ map g xs
map_same f g [] same = refl
map_same f g (x ∷ xs) same =
    ap (λ y. y ∷ map f xs) (same 0 x (omega arith)) ∙ ap (λ ys. g x ∷ ys) (map_same f g xs (λ k d within. same (suc k) d (omega arith)))

pub wired_as : (wires places : ℕ) (reading other : ℕ → List Input) (inputs others : ℕ → List ℕ) (wiring : Wiring) → ((q : ℕ) → reading q ≡ other q) → ((q : ℕ) → inputs q ≡ others q) →
    AreWired wires places reading inputs wiring → AreWired wires places other others wiring
wired_as wires places reading other inputs others wiring same alike are = record {
  source = are.source;
  before = are.before;
  numbers = are.numbers;
  origins = are.origins;
  ports = λ q. subst (λ xs. HasPorts wiring.rows.items q xs) (alike q) (are.ports q);
  reads = λ q. ap (map are.source) (sym (alike q)) ∙ are.reads q ∙ ap (map source_of) (same q);
  low = λ q. subst (λ xs. All (λ x. x < length wiring.next.items) xs) (alike q) (are.low q);
  late = λ longest delays. are.late longest (λ q. subst (λ (xs : List Input). All (λ (i : Input). i.delay ≤ longest) xs) (sym (same q)) (delays q));
  placed = are.placed;
  eventful = are.eventful;
}

-- ---- the wires of numbers

origins_noted : (source again : ℕ → ℕ × ℕ) (kept count number wire : ℕ) (wires : List ℕ) → AreOrigins source kept wires → kept ≤ count → count ≤ kept + 1 → number < count →
    (number < kept → count ≡ kept) → ((y : ℕ) → y < kept → again y ≡ source y) → (again number).0 ≡ wire → AreOrigins again count (noted number wire wires)
origins_noted source again kept count number wire wires are longer few within known same is = elim (cases_eq number kept) as (λ _. AreOrigins again count (noted number wire wires)) [
  | inl new ↦
      let size = are.long in
      let test : (number == length wires) ≡ true = eq-eqb number (length wires) (new ∙ sym are.long) in
      let last : count ≡ kept + 1 = omega arith in
      subst (λ b. AreOrigins again count (cond b (wires ++ wire ∷ []) wires)) (sym test) (record {
        long = let long = length_push wires wire in omega arith;
        each = λ x low. elim (cases_eq x kept) as (λ _. slice_index_or (wires ++ wire ∷ []) x 0 ≡ (again x).0) [
          | inl own ↦
              get_or_push wires wire 0 x (are.long ∙ sym own) ∙ sym is
              ∙ ap (λ k. (again k).0) (new ∙ sym own)
          | inr old ↦
              let below : x < kept = omega arith in
              get_or_append_left wires (wire ∷ []) 0 x (omega arith) ∙ are.each x below ∙ ap (λ (v : ℕ × ℕ). v.0) (sym (same x below))
        ];
      })
  | inr old ↦
      let size = are.long in
      let below : number < kept = omega arith in
      let stays : count ≡ kept = known below in
      let test : (number == length wires) ≡ false = ne_eqb number (length wires) (λ e. old (e ∙ are.long)) in
      subst (λ b. AreOrigins again count (cond b (wires ++ wire ∷ []) wires)) (sym test) (record {
        long = are.long ∙ sym stays;
        each = λ x low. let inside : x < kept = omega arith in are.each x inside ∙ ap (λ (v : ℕ × ℕ). v.0) (sym (same x inside));
      })
]

-- ---- an input is added

module _ (old mid new : Wiring) (input : Input) (entry : FanoutEntry) (number port : ℕ) (has : HasNumber (source_of input) old.next.items mid.next.items number)
    (kept : KeepsRows old mid) (rowed : HaveRows old) (next_is : new.next.items ≡ mid.next.items)
    (rows_is : new.rows.items ≡ slice_set mid.rows.items number (row_at mid.rows.items number ++ entry ∷ [])) (wires_is : new.wires.items ≡ noted number input.wire.0 mid.wires.items)
    (event : entry.event ≡ 2 ^ port) where
  new_numbers : length new.next.items ≡ length mid.next.items
  new_numbers = ap (length {A = OutputPort}) next_is

  number_rowed : number < length mid.rows.items
  number_rowed = let a = kept.long rowed in let b = has.within in omega arith

  row_own : row_at new.rows.items number ≡ row_at old.rows.items number ++ entry ∷ []
  row_own =
      ap (λ (rows : List (List FanoutEntry)). row_at rows number) rows_is
      ∙ get_or-set_same mid.rows.items number (row_at mid.rows.items number ++ entry ∷ []) [] number_rowed
      ∙ ap (λ (row : List FanoutEntry). row ++ entry ∷ []) (kept.each number)

  row_other : (x : ℕ) → x ≢ number → row_at new.rows.items x ≡ row_at old.rows.items x
  row_other x other =
      ap (λ (rows : List (List FanoutEntry)). row_at rows x) rows_is
      ∙ get_or-set_other mid.rows.items number x (row_at mid.rows.items number ++ entry ∷ []) [] other
      ∙ kept.each x

  pub new_rows : HaveRows old → HaveRows new
  new_rows rowed_so =
      ap (length {A = List FanoutEntry}) rows_is
      ∙ length-set mid.rows.items number (row_at mid.rows.items number ++ entry ∷ [])
      ∙ kept.long rowed_so ∙ sym new_numbers

  -- the events of one number
  own_events : (q : ℕ) → events_for q (row_at new.rows.items number) ≡ events_for q (row_at old.rows.items number) + cond (entry.module == q) entry.event 0
  own_events q =
      ap (events_for q) row_own ∙ added_append q (row_at old.rows.items number) (entry ∷ []) ∙ ap (λ k. events_for q (row_at old.rows.items number) + k) (added_one q entry)

  module _ (wires places : ℕ) (reading : ℕ → List Input) (inputs : ℕ → List ℕ) (low : input.wire.0 < wires) (placed : entry.module < places) (long : length (reading entry.module) ≡ port)
      (few : port + 1 ≤ 4) (are : AreWired wires places reading inputs old) where
    again : Renumbered wires (source_of input) are.source (length old.next.items) number mid.next.items
    again = has.numbers wires are.source are.before low are.numbers

    abbrev new_inputs : ℕ → List ℕ
    new_inputs q = cond (q == entry.module) (inputs entry.module ++ number ∷ []) (inputs q)

    inputs_own : new_inputs entry.module ≡ inputs entry.module ++ number ∷ []
    inputs_own = ap (λ b. cond b (inputs entry.module ++ number ∷ []) (inputs entry.module)) (eq-eqb entry.module entry.module refl)

    inputs_other : (q : ℕ) → q ≢ entry.module → new_inputs q ≡ inputs q
    inputs_other q other = ap (λ b. cond b (inputs entry.module ++ number ∷ []) (inputs q)) (ne_eqb q entry.module other)

    own_long : length (inputs entry.module) ≡ port
    own_long =
        sym (length-map (inputs entry.module) are.source) ∙ ap (length {A = ℕ × ℕ}) (are.reads entry.module) ∙ length-map (reading entry.module) source_of ∙ long

    -- what a place has of one number
    each_own : (x : ℕ) → events_for entry.module (row_at new.rows.items x) ≡ weight 1 (inputs entry.module ++ number ∷ []) x
    each_own x = elim (cases_eq x number) as (λ _. events_for entry.module (row_at new.rows.items x) ≡ weight 1 (inputs entry.module ++ number ∷ []) x) [
      | inl same ↦
          let own : events_for entry.module (row_at new.rows.items number) ≡ weight 1 (inputs entry.module ++ number ∷ []) number =
          own_events entry.module
          ∙ ap (λ k. k + cond (entry.module == entry.module) entry.event 0) ((are.ports entry.module).each number)
          ∙ ap (λ b. weight 1 (inputs entry.module) number + cond b entry.event 0) (eq-eqb entry.module entry.module refl)
          ∙ ap (λ k. weight 1 (inputs entry.module) number + k)
          (event ∙ ap (λ k. 2 ^ k) (sym own_long) ∙ one_times (2 ^ length (inputs entry.module)) ∙ ap (λ b. cond b (1 * 2 ^ length (inputs entry.module)) 0) (sym (eq-eqb number number refl)))
          ∙ sym (weight_push 1 (inputs entry.module) number number) in
          subst (λ v. events_for entry.module (row_at new.rows.items v) ≡ weight 1 (inputs entry.module ++ number ∷ []) v) (sym same) own
      | inr other ↦
          ap (events_for entry.module) (row_other x other) ∙ (are.ports entry.module).each x
          ∙ add_none (weight 1 (inputs entry.module) x)
          ∙ ap (λ b. weight 1 (inputs entry.module) x + cond b (1 * 2 ^ length (inputs entry.module)) 0) (sym (ne_eqb number x (λ e. other (sym e))))
          ∙ sym (weight_push 1 (inputs entry.module) number x)
    ]
      where
        one_times : (k : ℕ) → k ≡ 1 * k
        one_times k = omega arith

        add_none : (k : ℕ) → k ≡ k + 0
        add_none k = omega arith

    each_other : (q x : ℕ) → q ≢ entry.module → events_for q (row_at new.rows.items x) ≡ weight 1 (inputs q) x
    each_other q x differs = elim (cases_eq x number) as (λ _. events_for q (row_at new.rows.items x) ≡ weight 1 (inputs q) x) [
      | inl same ↦
          ap (λ v. events_for q (row_at new.rows.items v)) same
          ∙ own_events q
          ∙ ap (λ b. events_for q (row_at old.rows.items number) + cond b entry.event 0) (ne_eqb entry.module q (λ e. differs (sym e)))
          ∙ no_more (events_for q (row_at old.rows.items number))
          ∙ (are.ports q).each number ∙ ap (weight 1 (inputs q)) (sym same)
      | inr other ↦ ap (events_for q) (row_other x other) ∙ (are.ports q).each x
    ]
      where
        no_more : (k : ℕ) → k + 0 ≡ k
        no_more k = omega arith

    ports_now : (q : ℕ) → HasPorts new.rows.items q (new_inputs q)
    ports_now q = elim (cases_eq q entry.module) as (λ _. HasPorts new.rows.items q (new_inputs q)) [
      | inl same ↦
          let own : HasPorts new.rows.items entry.module (inputs entry.module ++ number ∷ []) =
          record { few = let a = length_push (inputs entry.module) number in let b = own_long in omega arith; each = each_own } in
          subst (λ v. HasPorts new.rows.items v (new_inputs v)) (sym same) (subst (λ xs. HasPorts new.rows.items entry.module xs) (sym inputs_own) own)
      | inr other ↦
          let is : HasPorts new.rows.items q (inputs q) = record { few = (are.ports q).few; each = λ x. each_other q x other } in
          subst (λ xs. HasPorts new.rows.items q xs) (sym (inputs_other q other)) is
    ]

    sources_same : (q : ℕ) → map again.source (inputs q) ≡ map are.source (inputs q)
    sources_same q = map_same again.source are.source (inputs q) (λ k d within. again.same (slice_index_or (inputs q) k d) (are.low q k d within))

    reads_now : (q : ℕ) → map again.source (new_inputs q) ≡ map source_of (with_inputs reading entry.module (reading entry.module ++ input ∷ []) q)
    reads_now q = elim (cases_eq q entry.module) as (λ _. map again.source (new_inputs q) ≡ map source_of (with_inputs reading entry.module (reading entry.module ++ input ∷ []) q)) [
      | inl same ↦
          ap (map again.source) (ap new_inputs same ∙ inputs_own)
          ∙ map_push again.source (inputs entry.module) number
          ∙ ap (λ (xs : List (ℕ × ℕ)). xs ++ again.source number ∷ []) (sources_same entry.module ∙ are.reads entry.module)
          ∙ ap (λ (s : ℕ × ℕ). map source_of (reading entry.module) ++ s ∷ []) again.is
          ∙ sym (map_push source_of (reading entry.module) input)
          ∙ ap (λ b. map source_of (cond b (reading entry.module ++ input ∷ []) (reading q))) (sym (eq-eqb q entry.module same))
      | inr other ↦
          ap (map again.source) (inputs_other q other) ∙ sources_same q ∙ are.reads q
          ∙ ap (λ b. map source_of (cond b (reading entry.module ++ input ∷ []) (reading q))) (sym (ne_eqb q entry.module other))
    ]

    low_now : (q : ℕ) → All (λ x. x < length new.next.items) (new_inputs q)
    low_now q = elim (cases_eq q entry.module) as (λ _. All (λ x. x < length new.next.items) (new_inputs q)) [
      | inl same ↦ subst (λ xs. All (λ x. x < length new.next.items) xs) (sym (ap new_inputs same ∙ inputs_own))
          (All-push (λ x. x < length new.next.items) (inputs entry.module) number (still entry.module) (let a = has.within in let b = new_numbers in omega arith))
      | inr other ↦ subst (λ xs. All (λ x. x < length new.next.items) xs) (sym (inputs_other q other)) (still q)
    ]
      where
        still : (v : ℕ) → All (λ x. x < length new.next.items) (inputs v)
        still v = All-weaker (λ x. x < length old.next.items) (λ x. x < length new.next.items) (λ x is. let a = has.longer in let b = new_numbers in omega arith) (inputs v) (are.low v)

    -- no number is later than the longest delay that is read
    late_now : (longest : ℕ) → ((q : ℕ) → All (λ (i : Input). i.delay ≤ longest) (with_inputs reading entry.module (reading entry.module ++ input ∷ []) q)) → (x : ℕ) → x < length new.next.items →
        (again.source x).1 ≤ longest
    late_now longest delays x within = elim (cases_lt x (length old.next.items)) as (λ _. (again.source x).1 ≤ longest) [
      | inl before ↦
          let was : (are.source x).1 ≤ longest = are.late longest read_before x before in
          let same = ap {B = ℕ} (λ (v : ℕ × ℕ). v.1) (again.same x before) in
          omega (arith, was, same)
      | inr past ↦
          let long = new_numbers in
          let few = has.few in
          let inside = has.within in
          let own : number ≡ x = elim (cases_lt number (length old.next.items)) as (λ _. number ≡ x) [
            | inl known ↦ let none = has.known known in omega (arith, within, past, long, none)
            | inr new_one ↦ omega (arith, within, past, long, few, inside, new_one)
          ] in
          let is : (again.source x).1 ≡ input.delay = ap (λ k. (again.source k).1) (sym own) ∙ ap (λ (v : ℕ × ℕ). v.1) again.is in
          let low : input.delay ≤ longest = read_now in
          omega (arith, is, low)
    ]
      where
        here : All (λ (i : Input). i.delay ≤ longest) (reading entry.module ++ input ∷ [])
        here =
            subst (λ b. All (λ (i : Input). i.delay ≤ longest) (cond b (reading entry.module ++ input ∷ []) (reading entry.module))) (eq-eqb entry.module entry.module refl) (delays entry.module)

        read_now : input.delay ≤ longest
        read_now = All-head (λ (i : Input). i.delay ≤ longest) input [] (all_back (λ (i : Input). i.delay ≤ longest) (reading entry.module) (input ∷ []) here)

        read_before : (q : ℕ) → All (λ (i : Input). i.delay ≤ longest) (reading q)
        read_before q = elim (cases_eq q entry.module) as (λ _. All (λ (i : Input). i.delay ≤ longest) (reading q)) [
          | inl same ↦ subst (λ k. All (λ (i : Input). i.delay ≤ longest) (reading k)) (sym same) (all_front (λ (i : Input). i.delay ≤ longest) (reading entry.module) (input ∷ []) here)
          | inr other ↦ subst (λ b. All (λ (i : Input). i.delay ≤ longest) (cond b (reading entry.module ++ input ∷ []) (reading q))) (ne_eqb q entry.module other) (delays q)
        ]

    row_all : (P : FanoutEntry → Type 0) → P entry → ((x : ℕ) → All P (row_at old.rows.items x)) → (x : ℕ) → All P (row_at new.rows.items x)
    row_all P holds all x = elim (cases_eq x number) as (λ _. All P (row_at new.rows.items x)) [
      | inl same ↦ subst (All P) (sym (ap (row_at new.rows.items) same ∙ row_own)) (All-push P (row_at old.rows.items number) entry (all number) holds)
      | inr other ↦ subst (All P) (sym (row_other x other)) (all x)
    ]

    some_event : 0 < entry.event
    some_event = let p = pow_some port in omega (arith, event, p)
      where
        pow_some : (k : ℕ) → 0 < 2 ^ k
        pow_some zero = lit_one
          where
            lit_one : 0 < 1
            lit_one = omega arith
        pow_some (suc k) = let p = pow-suc 2 k in let less = pow_some k in omega arith

    origins_now : AreOrigins again.source (length new.next.items) new.wires.items
    origins_now =
        subst (λ k. AreOrigins again.source k new.wires.items) (sym new_numbers)
        (subst (λ (ws : List ℕ). AreOrigins again.source (length mid.next.items) ws) (sym (wires_is ∙ ap (noted number input.wire.0) kept.wires))
        (origins_noted are.source again.source (length old.next.items) (length mid.next.items) number input.wire.0 old.wires.items are.origins has.longer has.few has.within has.known again.same
        (ap (λ (v : ℕ × ℕ). v.0) again.is)))

    wired_now : AreWired wires places (with_inputs reading entry.module (reading entry.module ++ input ∷ [])) (with_numbers inputs entry.module (inputs entry.module ++ number ∷ [])) new
    wired_now = record {
      source = again.source;
      before = again.before;
      numbers = subst (λ (xs : List OutputPort). AreNumbers wires again.source again.before xs) (sym next_is) again.are;
      origins = origins_now;
      ports = ports_now;
      reads = reads_now;
      low = low_now;
      late = late_now;
      placed = row_all (λ (l : FanoutEntry). l.module < places) placed are.placed;
      eventful = row_all (λ (l : FanoutEntry). 0 < l.event) some_event are.eventful;
    }

  pub adds_input : AddsInputs old new entry.module port (input ∷ []) (number ∷ [])
  adds_input = record {
    longer = let a = has.longer in let b = new_numbers in omega arith;
    few = let a = has.few in let b = new_numbers in omega arith;
    count = refl;
    rows = new_rows;
    links = λ longest low are. subst (λ (xs : List OutputPort). AreLinks longest xs) (sym next_is) (has.links longest (All-head (λ (i : Input). i.delay ≤ longest) input [] low) are);
    wired = λ wires places reading reads low placed long few are.
        wired_now wires places reading reads (All-head (λ (i : Input). i.wire.0 < wires) input [] low) placed long few are;
  }
