-- Who reads a number at first, found by port.
use Rattle.std.proofs.Common.{◌≡◌, ℕ, zero, suc, ◌+◌, ◌<◌, Bool, true, false, not, cond, List, [], ◌∷◌, Option, Some, None, is_some, length, slice_index_or, refl, ap, sym, subst, ◌∙◌, arith, inl, inr}
use Rattle.std.specs.Prelude.{◌&&◌}
use Rattle.std.proofs.lemmas.Bool.{cases_eq, cases_lt, eq-eqb, or_left, or_right}
use Rattle.std.proofs.lemmas.List.{get_or-map, get_or_past, length-map}
use Rattle.std.proofs.lemmas.List.Folds.{list_any_at}
use Rattle.std.proofs.lemmas.Option.{none-some}
use Rattle.mp_records.specs.declared.module_record.ModuleRecord.{ModuleRecord}
use Rattle.mp_netlist.specs.Circuit.{Circuit, module_at}
use Rattle.mp_model.proofs.SlotLemmas.{slot_within}
use Rattle.mp_kernel.specs.events.Adding.{listed}
use Rattle.mp_simulation.specs.bits.PortEvents.{source_of}
use Rattle.mp_simulation.specs.units.DataSeats.{number_at}
use Rattle.mp_partition.specs.regions.Readers.{Reads}
use Rattle.mp_simulation.specs.run.Wirings.{AreByPort}
use Rattle.mp_active.specs.excerpt.Numberings.{Numbering, ReadsNumbers}
use Rattle.mp_active.specs.declared.compare.numbers.Numbers.{Numbers}
use Rattle.mp_active.specs.compare.Comparing.{wire_of}
use Rattle.mp_active.specs.compare.Reading.{is_on_wire, ports_of, reads, reads_wire, asleep_below, active_below, ReadsAreListed}
use Rattle.mp_redo.specs.rerun.Numbered.{reads_asleep, readers_asleep}

-- ---- how often a number is read

module _ (listed_by_ports : ReadsAreListed) (n : Circuit) (active : ℕ → Bool) (inputs : List (List (Option ℕ))) (numbering : Numbering) (by_port : (m : ℕ) → m < length n.modules → AreByPort (numbering.inputs m) (ports_of inputs m)) (x : ℕ) where
  abbrev reads_of : ℕ → Option ModuleRecord → ℕ
  reads_of m slot = cond (is_some slot && not (active m)) (reads (ports_of inputs m) x) 0

  here_by : (m : ℕ) (r : ModuleRecord) (b : Bool) → m < length n.modules → cond (true && not b) (reads (ports_of inputs m) x) 0 ≡ cond b 0 (listed x (numbering.inputs m))
  here_by m r true low = refl
  here_by m r false low = listed_by_ports (numbering.inputs m) (ports_of inputs m) (by_port m low) x

  here : (m : ℕ) (slot : Option ModuleRecord) → m < length n.modules → reads_of m slot ≡ reads_asleep active numbering x m slot
  here m None low = refl
  here m (Some r) low = here_by m r (active m) low

  -- those of the modules from m on, and those below m
  counted_from : (m : ℕ) (slots : List (Option ModuleRecord)) → m + length slots ≡ length n.modules → ((k : ℕ) → k < length slots → module_at n (m + k) ≡ slice_index_or slots k None) →
      asleep_below n active inputs (m + length slots) x ≡ readers_asleep active numbering x m slots + asleep_below n active inputs m x
  counted_from m [] long are =
      let same : m + 0 ≡ m = omega arith in
      ap (λ k. asleep_below n active inputs k x) same ∙ none_more (asleep_below n active inputs m x)
    where
      none_more : (k : ℕ) → k ≡ 0 + k
      none_more k = omega arith
  counted_from m (slot ∷ slots) long are =
      let next : m + suc (length slots) ≡ m + 1 + length slots = omega arith in
      let one : m + 1 ≡ suc m = omega arith in
      let place : m + 0 ≡ m = omega arith in
      let low : m < length n.modules = omega (arith, long) in
      let at : module_at n m ≡ slot = sym (ap (module_at n) place) ∙ are 0 (omega arith) in
      ap (λ k. asleep_below n active inputs k x) next
      ∙ counted_from (m + 1) slots (omega (arith, long)) (λ k within. let same : m + 1 + k ≡ m + suc k = omega arith in ap (module_at n) same ∙ are (suc k) (omega (arith, within)))
      ∙ ap (λ k. readers_asleep active numbering x (m + 1) slots + asleep_below n active inputs k x) one
      ∙ ap (λ (s : Option ModuleRecord). readers_asleep active numbering x (m + 1) slots + (reads_of m s + asleep_below n active inputs m x)) at
      ∙ ap (λ k. readers_asleep active numbering x (m + 1) slots + (k + asleep_below n active inputs m x)) (here m slot low)
      ∙ swapped (readers_asleep active numbering x (m + 1) slots) (reads_asleep active numbering x m slot) (asleep_below n active inputs m x)
    where
      swapped : (a b c : ℕ) → a + (b + c) ≡ b + a + c
      swapped a b c = omega arith

  pub counted : asleep_below n active inputs (length n.modules) x ≡ readers_asleep active numbering x 0 n.modules
  counted =
      let all : 0 + length n.modules ≡ length n.modules = omega arith in
      ap (λ k. asleep_below n active inputs k x) (sym all)
      ∙ counted_from 0 n.modules all (λ k within. let same : 0 + k ≡ k = omega arith in ap (module_at n) same)
      ∙ no_more (readers_asleep active numbering x 0 n.modules)
    where
      no_more : (k : ℕ) → k + 0 ≡ k
      no_more k = omega arith

-- ---- which wires are read

-- a number at a port
number_inside : (xs : List ℕ) (p d : ℕ) → p < length xs → number_at xs p ≡ Some (slice_index_or xs p d)
number_inside [] p d low = let no : ⊥ = omega (arith, low) in absurd no
number_inside (y ∷ xs) zero d low = refl
number_inside (y ∷ xs) (suc p) d low = number_inside xs p d (omega (arith, low))

port_within : (ports : List (Option ℕ)) (p y : ℕ) → slice_index_or ports p None ≡ Some y → p < length ports
port_within ports p y is = elim (cases_lt p (length ports)) as (λ _. p < length ports) [
  | inl low ↦ low
  | inr past ↦ absurd (none-some y (sym (get_or_past ports p None past) ∙ is))
]

-- an active module's wires are found, up to its number
active_from : (n : Circuit) (active : ℕ → Bool) (inputs : List (List (Option ℕ))) (numbers : Numbers) (m w : ℕ) → is_some (module_at n m) ≡ true → active m ≡ true → reads_wire numbers (ports_of inputs m) w ≡ true → (k : ℕ) → m < k →
    active_below n active inputs numbers k w ≡ true
active_from n active inputs numbers m w stands on read zero low = let no : ⊥ = omega (arith, low) in absurd no
active_from n active inputs numbers m w stands on read (suc k) low = elim (cases_eq k m) as (λ _. active_below n active inputs numbers (suc k) w ≡ true) [
  | inl same ↦
      or_left ((is_some (module_at n k) && active k) && reads_wire numbers (ports_of inputs k) w) (active_below n active inputs numbers k w)
      (subst (λ j. ((is_some (module_at n j) && active j) && reads_wire numbers (ports_of inputs j) w) ≡ true) (sym same) (all_three (is_some (module_at n m)) (active m) (reads_wire numbers (ports_of inputs m) w) stands on read))
  | inr other ↦
      or_right ((is_some (module_at n k) && active k) && reads_wire numbers (ports_of inputs k) w) (active_below n active inputs numbers k w)
      (active_from n active inputs numbers m w stands on read k (omega (arith, low, other)))
]
  where
    all_three : (a b c : Bool) → a ≡ true → b ≡ true → c ≡ true → ((a && b) && c) ≡ true
    all_three true true true one two three = refl
    all_three true true false one two three = three
    all_three true false c one two three = two
    all_three false b c one two three = one

module _ (n : Circuit) (active : ℕ → Bool) (inputs : List (List (Option ℕ))) (numbers : Numbers) (numbering : Numbering) (by_port : (m : ℕ) → m < length n.modules → AreByPort (numbering.inputs m) (ports_of inputs m))
    (all : (m : ℕ) (r : ModuleRecord) → module_at n m ≡ Some r → ReadsNumbers numbering m r)
    (of_wire : (m k d : ℕ) → k < length (numbering.inputs m) → (numbering.source (slice_index_or (numbering.inputs m) k d)).0 ≡ wire_of numbers (slice_index_or (numbering.inputs m) k d))
    (m w : ℕ) (on : active m ≡ true) (is : Reads n m w) where
  abbrev k : ℕ
  k = is.input.0

  abbrev number : ℕ
  number = slice_index_or (numbering.inputs m) k 0

  low : m < length n.modules
  low = slot_within n.modules m is.part is.stands

  same : length (numbering.inputs m) ≡ length is.part.inputs
  same = sym (length-map (numbering.inputs m) numbering.source) ∙ ap (length {A = ℕ × ℕ}) (all m is.part is.stands) ∙ length-map is.part.inputs source_of

  within : k < length is.part.inputs
  within = is.input.1

  inside : k < length (numbering.inputs m)
  inside = let long = same in let short = within in omega (arith, long, short)

  source : numbering.source number ≡ source_of is.port
  source =
      sym (get_or-map numbering.source (numbering.inputs m) k 0 (0, 0) inside)
      ∙ ap (λ (vs : List (ℕ × ℕ)). slice_index_or vs k (0, 0)) (all m is.part is.stands)
      ∙ get_or-map source_of is.part.inputs k is.port (0, 0) within
      ∙ ap source_of is.input.2

  wire : wire_of numbers number ≡ w
  wire = sym (of_wire m k 0 inside) ∙ ap (λ (v : ℕ × ℕ). v.0) source ∙ is.wire

  port : slice_index_or (ports_of inputs m) k None ≡ Some number
  port = by_port m low k ∙ number_inside (numbering.inputs m) k 0 inside

  found : reads_wire numbers (ports_of inputs m) w ≡ true
  found =
      list_any_at (is_on_wire numbers w) (ports_of inputs m) k None (port_within (ports_of inputs m) k number port)
      (ap (is_on_wire numbers w) port ∙ eq-eqb (wire_of numbers number) w wire)

  -- a wire that an active module reads is found
  pub wire_read : active_below n active inputs numbers (length n.modules) w ≡ true
  wire_read = active_from n active inputs numbers m w (ap (is_some {T = ModuleRecord}) is.stands) on found (length n.modules) low
