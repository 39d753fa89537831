-- Marks that are set one by one.
use Rattle.std.proofs.Common.{◌≡◌, ◌⊎◌, ℕ, ◌+◌, ◌<◌, Bool, true, false, List, Option, Some, None, length, slice_index_or, slice_set, refl, ap, sym, subst, ◌∙◌, arith, inl, inr}
use Rattle.std.specs.Prelude.{Contains}
use Rattle.std.specs.List.{list_any}
use Rattle.std.proofs.lemmas.Bool.{cases_lt, cases_eq}
use Rattle.std.proofs.lemmas.List.{get_or_past, get_or_default, get_or-set_same, get_or-set_other, length-set}
use Rattle.std.proofs.lemmas.List.Folds.{list_any-from_Any}
use Rattle.mp_records.specs.declared.ids.WireId.{WireId}
use Rattle.mp_records.specs.declared.ports.Input.{Input}
use Rattle.mp_records.specs.declared.ports.Output.{Output}
use Rattle.mp_records.specs.declared.module_record.ModuleRecord.{ModuleRecord}
use Rattle.mp_netlist.specs.Circuit.{Circuit, Drives, module_at}
use Rattle.mp_records.specs.Inputs.{input_in, no_input}
use Rattle.mp_records.specs.Outputs.{output_in}
use Rattle.mp_partition.specs.runs.Marks.{is_marked}
use Rattle.mp_partition.specs.regions.Readers.{Reads}
use Rattle.mp_near.specs.reach.Marks.{AreGrown}
use Rattle.mp_near.specs.reach.Reach.{ReadsNone}

pub grown_none : (marks : List Bool) → AreGrown marks marks
grown_none marks = record { places = refl; kept = λ k is. is }

pub grown_more : (first before after : List Bool) → AreGrown first before → AreGrown before after → AreGrown first after
grown_more first before after one other = record { places = other.places ∙ one.places; kept = λ k is. other.kept k (one.kept k is) }

pub grown_set : (marks : List Bool) (i : ℕ) → i < length marks → AreGrown marks (slice_set marks i true)
grown_set marks i low = record {
  places = length-set marks i true;
  kept = λ k is. elim (cases_eq k i) as (λ _. is_marked (slice_set marks i true) k ≡ true) [
    | inl here ↦ ap (λ j. is_marked (slice_set marks i true) j) here ∙ get_or-set_same marks i true false low
    | inr other ↦ get_or-set_other marks i k true false other ∙ is
  ];
}

-- the wires of the first so many outputs are marked
abbrev pub AreDriven : List Output → ℕ → ℕ → List Bool → Type 0
AreDriven outputs count size marks = (p w : ℕ) → p < count → (output_in outputs p).wire ≡ Some (record { 0 = w }) → w < size → is_marked marks w ≡ true

pub driven_more : (outputs : List Output) (i size : ℕ) (before after : List Bool) (d : Output) → i < length outputs → length before ≡ size → AreGrown before after → AreDriven outputs i size before →
    ((w : ℕ) → (slice_index_or outputs i d).wire ≡ Some (record { 0 = w }) → w < length before → is_marked after w ≡ true) → AreDriven outputs (i + 1) size after
driven_more outputs i size before after d inside same grown are one p w low is within = elim (cases_eq p i) as (λ _. is_marked after w ≡ true) [
  | inl here ↦ one w (ap (λ (o : Output). o.wire) (get_or_default outputs i d (record { wire = None; delay = 1 }) inside) ∙ ap (λ k. (output_in outputs k).wire) (sym here) ∙ is) (omega arith)
  | inr other ↦ grown.kept w (are p w (omega arith) is within)
]

pub driven_all : (outputs : List Output) (count size : ℕ) (marks : List Bool) → length outputs < count + 1 → AreDriven outputs count size marks →
    (p w : ℕ) → (output_in outputs p).wire ≡ Some (record { 0 = w }) → w < size → is_marked marks w ≡ true
driven_all outputs count size marks all are p w is within = elim (cases_lt p count) as (λ _. is_marked marks w ≡ true) [
  | inl here ↦ are p w here is within
  | inr past ↦
      let none : output_in outputs p ≡ record { wire = None; delay = 1 } = get_or_past outputs p (record { wire = None; delay = 1 }) (omega arith) in
      let no : ◌≡◌ {A = Option WireId} None (Some (record { 0 = w })) = ap (λ (o : Output). o.wire) (sym none) ∙ is in
      cc
]

-- beside what was marked at first only wires of outputs are
abbrev pub AreOnlyDriven : List Output → List Bool → List Bool → Type 0
AreOnlyDriven outputs first marks = (w : ℕ) → is_marked marks w ≡ true → (is_marked first w ≡ true) ⊎ ((p : ℕ) × ((output_in outputs p).wire ≡ Some (record { 0 = w })))

pub only_more : (outputs : List Output) (i : ℕ) (first before after : List Bool) (d : Output) → i < length outputs →
    ((w : ℕ) → is_marked after w ≡ true → (is_marked before w ≡ true) ⊎ ((slice_index_or outputs i d).wire ≡ Some (record { 0 = w }))) → AreOnlyDriven outputs first before → AreOnlyDriven outputs first after
only_more outputs i first before after d inside one are w is = by (one w is)
  where
    by : (is_marked before w ≡ true) ⊎ ((slice_index_or outputs i d).wire ≡ Some (record { 0 = w })) → (is_marked first w ≡ true) ⊎ ((p : ℕ) × ((output_in outputs p).wire ≡ Some (record { 0 = w })))
    by (inl had) = are w had
    by (inr at) = inr (i, ap (λ (o : Output). o.wire) (get_or_default outputs i (record { wire = None; delay = 1 }) d inside) ∙ at)

-- the wires of the first so many inputs are marked
abbrev pub AreRead : List Input → ℕ → ℕ → List Bool → Type 0
AreRead inputs count size marks = (p : ℕ) → p < count → (input_in inputs p).wire.0 < size → is_marked marks (input_in inputs p).wire.0 ≡ true

pub read_more : (inputs : List Input) (i size : ℕ) (before after : List Bool) (d : Input) → i < length inputs → length before ≡ size → AreGrown before after → AreRead inputs i size before →
    ((slice_index_or inputs i d).wire.0 < length before → is_marked after (slice_index_or inputs i d).wire.0 ≡ true) → AreRead inputs (i + 1) size after
read_more inputs i size before after d inside same grown are one p low within = elim (cases_eq p i) as (λ _. is_marked after (input_in inputs p).wire.0 ≡ true) [
  | inl here ↦
      let at : slice_index_or inputs i d ≡ input_in inputs p = get_or_default inputs i d no_input inside ∙ ap (λ k. input_in inputs k) (sym here) in
      subst (λ (x : Input). is_marked after x.wire.0 ≡ true) at (one (let less : (slice_index_or inputs i d).wire.0 < size = subst (λ (x : Input). x.wire.0 < size) (sym at) within in omega arith))
  | inr other ↦ grown.kept (input_in inputs p).wire.0 (are p (omega arith) within)
]

-- so is the wire of an input among them
pub read_has : (inputs : List Input) (size : ℕ) (marks : List Bool) → AreRead inputs (length inputs) size marks → (port : Input) (w : ℕ) → Contains inputs port → port.wire.0 ≡ w → w < size → is_marked marks w ≡ true
read_has inputs size marks are port w has at within =
    let one : input_in inputs has.0 ≡ port = get_or_default inputs has.0 no_input port has.1 ∙ has.2 in
    let same : (input_in inputs has.0).wire.0 ≡ w = ap (λ (i : Input). i.wire.0) one ∙ at in
    subst (λ k. is_marked marks k ≡ true) same (are has.0 has.1 (omega arith))

-- the wires of a module's ports
pub module_driven : (n : Circuit) (m : ℕ) (found : ModuleRecord) (outputs : List Output) (size : ℕ) (marks : List Bool) → module_at n m ≡ Some found → outputs ≡ found.outputs →
    ((p w : ℕ) → (output_in outputs p).wire ≡ Some (record { 0 = w }) → w < size → is_marked marks w ≡ true) → (p w : ℕ) → Drives n m p w → w < size → is_marked marks w ≡ true
module_driven n m found outputs size marks at same are p w drives low =
    let there : module_at n m ≡ Some drives.part = drives.stands in
    let one : drives.part ≡ found = cc in
    are p w (ap (λ (os : List Output). (output_in os p).wire) (same ∙ ap (λ (r : ModuleRecord). r.outputs) (sym one)) ∙ drives.output) low

pub module_only : (n : Circuit) (m : ℕ) (found : ModuleRecord) (outputs : List Output) (first marks : List Bool) → module_at n m ≡ Some found → outputs ≡ found.outputs → AreOnlyDriven outputs first marks →
    (w : ℕ) → is_marked marks w ≡ true → (is_marked first w ≡ true) ⊎ ((p : ℕ) × Drives n m p w)
module_only n m found outputs first marks at same are w is = by (are w is)
  where
    by : (is_marked first w ≡ true) ⊎ ((p : ℕ) × ((output_in outputs p).wire ≡ Some (record { 0 = w }))) → (is_marked first w ≡ true) ⊎ ((p : ℕ) × Drives n m p w)
    by (inl had) = inl had
    by (inr port) = inr (port.0, record { part = found; stands = at; output = ap (λ (os : List Output). (output_in os port.0).wire) (sym same) ∙ port.1 })

pub none_driven : (n : Circuit) (m : ℕ) → module_at n m ≡ None → (p w : ℕ) → Drives n m p w → ⊥
none_driven n m none p w drives = let there : module_at n m ≡ Some drives.part = drives.stands in cc

pub module_read : (n : Circuit) (m : ℕ) (found : ModuleRecord) (inputs : List Input) (size : ℕ) (marks : List Bool) → module_at n m ≡ Some found → inputs ≡ found.inputs →
    AreRead inputs (length inputs) size marks → (w : ℕ) → Reads n m w → w < size → is_marked marks w ≡ true
module_read n m found inputs size marks at same are w reads low =
    let there : module_at n m ≡ Some reads.part = reads.stands in
    let one : reads.part ≡ found = cc in
    let has = subst (λ (xs : List Input). Contains xs reads.port) (ap (λ (r : ModuleRecord). r.inputs) one ∙ sym same) reads.input in
    read_has inputs size marks are reads.port w has reads.wire low

pub none_read : (n : Circuit) (m : ℕ) → module_at n m ≡ None → (w : ℕ) → Reads n m w → ⊥
none_read n m none w reads = let there : module_at n m ≡ Some reads.part = reads.stands in cc

-- no input of the module is at a marked wire
pub reads_none : (n : Circuit) (m : ℕ) (found : ModuleRecord) (inputs : List Input) (marks : List Bool) → module_at n m ≡ Some found → inputs ≡ found.inputs →
    list_any (λ (i : Input). is_marked marks i.wire.0) inputs ≡ false → ReadsNone n marks m
reads_none n m found inputs marks at same not w reads =
    let there : module_at n m ≡ Some reads.part = reads.stands in
    let one : reads.part ≡ found = cc in
    let has = subst (λ (xs : List Input). Contains xs reads.port) (ap (λ (r : ModuleRecord). r.inputs) one ∙ sym same) reads.input in
    ap (λ k. is_marked marks k) (sym reads.wire) ∙ by has (is_marked marks reads.port.wire.0) refl
  where
    by : Contains inputs reads.port → (b : Bool) → is_marked marks reads.port.wire.0 ≡ b → is_marked marks reads.port.wire.0 ≡ false
    by has true e = let yes = list_any-from_Any (λ (i : Input). is_marked marks i.wire.0) inputs (has.0, reads.port, has.1, has.2, e) in cc
    by has false e = e
