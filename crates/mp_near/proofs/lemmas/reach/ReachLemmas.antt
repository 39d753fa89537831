-- What is marked as reached.
use Rattle.std.proofs.Common.{◌≡◌, ◌⊎◌, ◌==◌, ℕ, ◌+◌, ◌<◌, ◌≤◌, Bool, true, false, List, None, length, slice_index_or, slice_set, take, refl, ap, sym, subst, ◌∙◌, arith, inl, inr}
use Rattle.std.specs.Prelude.{Any, IsSome}
use Rattle.std.specs.List.{list_any}
use Rattle.std.proofs.lemmas.Bool.{cases_lt, cases_eq, or_cases, or_left, eq-eqb, eqb-true}
use Rattle.std.proofs.lemmas.List.Folds.{list_any-from_Any, list_any_more}
use Rattle.std.proofs.lemmas.List.{get_or_past, get_or-set_same, get_or-set_other, length-set}
use Rattle.mp_records.specs.NamedWires.{is_wire, module_names}
use Rattle.mp_records.specs.declared.ports.Input.{Input}
use Rattle.mp_records.specs.declared.ports.Output.{Output}
use Rattle.mp_netlist.specs.Slots.{stands_and}
use Rattle.mp_netlist.specs.Circuit.{Circuit, IsCircuit, Drives, module_at}
use Rattle.mp_model.proofs.SlotLemmas.{some_within}
use Rattle.mp_partition.specs.runs.Marks.{is_marked}
use Rattle.mp_depend.specs.work.Revisions.{IsRevision}
use Rattle.mp_near.specs.reach.Marks.{AreGrown}
use Rattle.mp_partition.specs.regions.Readers.{Reads}
use Rattle.mp_near.specs.region.Picks.{AreWiresOf}
use Rattle.mp_near.specs.reach.Reach.{AreReadersMarked, IsClosedBetween, IsSetSame, IsReach, IsWholeReach, ReadsNone}
use Rattle.mp_netlist.specs.Around.{is_in}
use Rattle.mp_near.proofs.lemmas.reach.MarkLemmas.{grown_none, grown_more}
use Rattle.mp_near.proofs.lemmas.reach.StandLemmas.{driven_low, marked_within}

-- the wires that the marked modules below a count have are marked
abbrev pub MarkedBelow : (ℕ → ℕ → Type 0) → List Bool → ℕ → List Bool → Type 0
MarkedBelow Has modules count wires = (m w : ℕ) → m < count → is_marked modules m ≡ true → Has m w → is_marked wires w ≡ true

-- a port of the module drives the wire
abbrev pub Driven : Circuit → ℕ → ℕ → Type 0
Driven n m w = (p : ℕ) × Drives n m p w

pub below_none : (Has : ℕ → ℕ → Type 0) (modules wires : List Bool) → MarkedBelow Has modules 0 wires
below_none Has modules wires m w low is has = absurd (omega arith)

-- the wires of the next module are marked too
pub below_next : (Has : ℕ → ℕ → Type 0) (modules : List Bool) (i : ℕ) (wires next : List Bool) → AreGrown wires next → ((w : ℕ) → Has i w → is_marked next w ≡ true) →
    MarkedBelow Has modules i wires → MarkedBelow Has modules (i + 1) next
below_next Has modules i wires next grown one are m w low is has = elim (cases_eq m i) as (λ _. is_marked next w ≡ true) [
  | inl here ↦ one w (subst (λ k. Has k w) here has)
  | inr other ↦ grown.kept w (are m w (omega arith) is has)
]

-- the next module isn't marked
pub below_same : (Has : ℕ → ℕ → Type 0) (modules : List Bool) (i : ℕ) (wires : List Bool) → is_marked modules i ≡ false → MarkedBelow Has modules i wires → MarkedBelow Has modules (i + 1) wires
below_same Has modules i wires not are m w low is has = elim (cases_eq m i) as (λ _. is_marked wires w ≡ true) [
  | inl here ↦ let no : is_marked modules m ≡ false = ap (λ k. is_marked modules k) here ∙ not in absurd (let no : ⊥ = cc in no)
  | inr other ↦ are m w (omega arith) is has
]

-- of all modules
pub below_all : (Has : ℕ → ℕ → Type 0) (modules : List Bool) (count : ℕ) (wires : List Bool) → length modules ≤ count → MarkedBelow Has modules count wires →
    (m w : ℕ) → is_marked modules m ≡ true → Has m w → is_marked wires w ≡ true
below_all Has modules count wires all are m w is has = are m w (let low = marked_within modules m is in omega (arith, low, all)) is has

still_unmarked : (marks new : List Bool) → AreGrown marks new → (k : ℕ) → is_marked new k ≡ false → is_marked marks k ≡ false
still_unmarked marks new grown k not = by (is_marked marks k) refl
  where
    by : (b : Bool) → is_marked marks k ≡ b → is_marked marks k ≡ false
    by true is = let yes = grown.kept k is in cc
    by false is = is

-- the wires that a module drives stand in the new netlist, so they are marked if those below its count of wires are
pub driven_marked : (n new : Circuit) → IsCircuit n → length n.wires ≤ length new.wires → (m : ℕ) (wires marks : List Bool) → length wires ≡ length new.wires →
    ((p w : ℕ) → Drives n m p w → w < length wires → is_marked marks w ≡ true) → (p w : ℕ) → Drives n m p w → is_marked marks w ≡ true
driven_marked n new ok more m wires marks size are p w drives = are p w drives (let low = driven_low n new ok (omega arith) m p w drives in omega (arith, low, size))

-- wires that are marked at first, and those of the marked modules below a count
pub record AreFirst (old new : Circuit) (modules first : List Bool) (count : ℕ) (wires : List Bool) : Type 0 where
  pub grown : AreGrown first wires
  pub before : MarkedBelow (Driven old) modules count wires
  pub after : MarkedBelow (Driven new) modules count wires

pub first_none : (old new : Circuit) (modules first : List Bool) → AreFirst old new modules first 0 first
first_none old new modules first = record { grown = grown_none first; before = below_none (Driven old) modules first; after = below_none (Driven new) modules first }

-- the wires of the next module are marked
pub first_more : (old new : Circuit) (modules first wires half next : List Bool) (i : ℕ) → AreGrown wires half → AreGrown half next →
    ((p w : ℕ) → Drives old i p w → is_marked half w ≡ true) → ((p w : ℕ) → Drives new i p w → is_marked next w ≡ true) → AreFirst old new modules first i wires → AreFirst old new modules first (i + 1) next
first_more old new modules first wires half next i one two before after are =
    let both = grown_more wires half next one two in
    record {
      grown = grown_more first wires next are.grown both;
      before = below_next (Driven old) modules i wires next both (λ w drives. two.kept w (before drives.0 w drives.1)) are.before;
      after = below_next (Driven new) modules i wires next both (λ w drives. after drives.0 w drives.1) are.after;
    }

-- the next module isn't marked
pub first_same : (old new : Circuit) (modules first wires : List Bool) (i : ℕ) → is_marked modules i ≡ false → AreFirst old new modules first i wires → AreFirst old new modules first (i + 1) wires
first_same old new modules first wires i not are = record {
  grown = are.grown;
  before = below_same (Driven old) modules i wires not are.before;
  after = below_same (Driven new) modules i wires not are.after;
}

-- what differs, with the wires of modules that do
pub first_reach : (old new : Circuit) → IsRevision old new → (modules first wires : List Bool) (count : ℕ) → length modules ≡ length new.modules → length first ≡ length new.wires →
    ((m : ℕ) → m < length new.modules → is_marked modules m ≡ false → module_at old m ≡ module_at new m) → ((w : ℕ) → w < length new.wires → is_marked first w ≡ false → IsSetSame old new w) →
    length new.modules ≤ count → AreFirst old new modules first count wires → IsReach old new modules wires
first_reach old new revision modules first wires count size places same alike all are = record {
  module_count = size;
  wire_count = are.grown.places ∙ places;
  same = λ m not. elim (cases_lt m (length new.modules)) as (λ _. module_at old m ≡ module_at new m) [
    | inl low ↦ same m low not
    | inr past ↦ let more = revision.modules in let none : module_at old m ≡ None = get_or_past old.modules m None (omega arith) in none ∙ sym (get_or_past new.modules m None past)
  ];
  alike = λ w not. elim (cases_lt w (length new.wires)) as (λ _. IsSetSame old new w) [
    | inl low ↦ alike w low (still_unmarked first wires are.grown w not)
    | inr past ↦ let more = revision.wires in inr (get_or_past old.wires w None (omega arith), get_or_past new.wires w None past)
  ];
  before = λ m p w is drives. below_all (Driven old) modules count wires (omega (arith, size, all)) are.before m w is (p, drives);
  after = λ m p w is drives. below_all (Driven new) modules count wires (omega (arith, size, all)) are.after m w is (p, drives);
}

-- a module more is marked, and the wires that it drives
pub reach_more : (old new : Circuit) (modules wires half next : List Bool) (i : ℕ) → i < length modules → AreGrown wires half → AreGrown half next →
    ((p w : ℕ) → Drives old i p w → is_marked half w ≡ true) → ((p w : ℕ) → Drives new i p w → is_marked next w ≡ true) → IsReach old new modules wires → IsReach old new (slice_set modules i true) next
reach_more old new modules wires half next i low one two before after reach = record {
  module_count = length-set modules i true ∙ reach.module_count;
  wire_count = two.places ∙ one.places ∙ reach.wire_count;
  same = λ m not. elim (cases_eq m i) as (λ _. module_at old m ≡ module_at new m) [
    | inl here ↦ let yes = here_marked m here in absurd (let no : ⊥ = cc in no)
    | inr other ↦ reach.same m (sym (get_or-set_other modules i m true false other) ∙ not)
  ];
  alike = λ w not. reach.alike w (still_unmarked wires half one w (still_unmarked half next two w not));
  before = λ m p w is drives. elim (cases_eq m i) as (λ _. is_marked next w ≡ true) [
    | inl here ↦ two.kept w (before p w (subst (λ k. Drives old k p w) here drives))
    | inr other ↦ two.kept w (one.kept w (reach.before m p w (sym (get_or-set_other modules i m true false other) ∙ is) drives))
  ];
  after = λ m p w is drives. elim (cases_eq m i) as (λ _. is_marked next w ≡ true) [
    | inl here ↦ after p w (subst (λ k. Drives new k p w) here drives)
    | inr other ↦ two.kept w (one.kept w (reach.after m p w (sym (get_or-set_other modules i m true false other) ∙ is) drives))
  ];
}
  where
    here_marked : (m : ℕ) → m ≡ i → is_marked (slice_set modules i true) m ≡ true
    here_marked m here = ap (λ k. is_marked (slice_set modules i true) k) here ∙ get_or-set_same modules i true false low

-- the next wire isn't marked, or has marked readers alone
pub between_next : (n : Circuit) (modules wires : List Bool) (from i : ℕ) → (is_marked wires i ≡ true → AreReadersMarked n modules i) → IsClosedBetween n modules wires from i → IsClosedBetween n modules wires from (i + 1)
between_next n modules wires from i one are w at low is = elim (cases_eq w i) as (λ _. AreReadersMarked n modules w) [
  | inl here ↦ subst (AreReadersMarked n modules) (sym here) (one (ap (λ k. is_marked wires k) (sym here) ∙ is))
  | inr other ↦ are w at (omega arith) is
]

-- of the wires below a number, and of those from there on
pub whole_between : (old new : Circuit) (modules wires : List Bool) (middle end : ℕ) → length new.wires ≤ end → IsReach old new modules wires → IsClosedBetween new modules wires 0 middle → IsClosedBetween new modules wires middle end →
    IsWholeReach old new modules wires
whole_between old new modules wires middle end all reach below above = record {
  reach = reach;
  closed = λ m not w reads. by m not w reads (is_marked wires w) refl;
}
  where
    marked : (w : ℕ) → is_marked wires w ≡ true → AreReadersMarked new modules w
    marked w is =
        let low = marked_within wires w is in
        let size = reach.wire_count in
        elim (cases_lt w middle) as (λ _. AreReadersMarked new modules w) [
          | inl here ↦ below w (omega arith) here is
          | inr past ↦ above w past (omega (arith, low, size, all)) is
        ]

    by : (m : ℕ) → is_marked modules m ≡ false → (w : ℕ) → Reads new m w → (b : Bool) → is_marked wires w ≡ b → is_marked wires w ≡ false
    by m not w reads true is = let yes = marked w is m reads in absurd (let no : ⊥ = cc in no)
    by m not w reads false is = is

-- a module that reads a wire is at it
pub reader_at : (n : Circuit) (m w : ℕ) → Reads n m w → stands_and (module_names w) (module_at n m) ≡ true
reader_at n m w reads = ap (stands_and (module_names w)) reads.stands ∙ or_left (list_any (λ (i : Input). i.wire.0 == w) reads.part.inputs) (list_any (λ (o : Output). is_wire o.wire w) reads.part.outputs) here
  where
    at : Any (λ (i : Input). (i.wire.0 == w) ≡ true) reads.part.inputs
    at = (reads.input.0, reads.port, reads.input.1, reads.input.2, eq-eqb reads.port.wire.0 w reads.wire)

    here : list_any (λ (i : Input). i.wire.0 == w) reads.part.inputs ≡ true
    here = list_any-from_Any (λ (i : Input). i.wire.0 == w) reads.part.inputs at

-- of the modules so far, those that read the wire are marked
abbrev pub AreMarkedIn : Circuit → List Bool → ℕ → List ℕ → Type 0
AreMarkedIn n modules w row = (m : ℕ) → is_in m row ≡ true → Reads n m w → is_marked modules m ≡ true

-- of one more
pub marked_more : (n : Circuit) (before after : List Bool) (w : ℕ) (row : List ℕ) (i d : ℕ) → i < length row → AreGrown before after → (Reads n (slice_index_or row i d) w → is_marked after (slice_index_or row i d) ≡ true) →
    AreMarkedIn n before w (take i row) → AreMarkedIn n after w (take (i + 1) row)
marked_more n before after w row i d within grown one are m is reads =
    by (or_cases (is_in m (take i row)) (slice_index_or row i d == m) (sym (list_any_more (λ k. k == m) row i d within) ∙ is))
  where
    by : (is_in m (take i row) ≡ true) ⊎ ((slice_index_or row i d == m) ≡ true) → is_marked after m ≡ true
    by (inl had) = grown.kept m (are m had reads)
    by (inr same) =
        let this : slice_index_or row i d ≡ m = eqb-true (slice_index_or row i d) m same in
        subst (λ k. is_marked after k ≡ true) this (one (subst (λ k. Reads n k w) (sym this) reads))

-- a module that isn't heard of reads no marked wire, or is marked
pub unheard : (old new : Circuit) (modules wires : List Bool) (m w : ℕ) → IsReach old new modules wires → is_marked wires w ≡ true → (m < length modules → is_marked modules m ≡ false → ReadsNone new wires m) → Reads new m w → is_marked modules m ≡ true
unheard old new modules wires m w reach is none reads = by (is_marked modules m) refl
  where
    stands : IsSome (module_at new m)
    stands = subst IsSome (sym reads.stands) refl

    by : (b : Bool) → is_marked modules m ≡ b → is_marked modules m ≡ true
    by true e = e
    by false e =
        let low = some_within new.modules m stands in
        let size = reach.module_count in
        let not = none (omega (arith, low, size)) e w reads in
        absurd (let no : ⊥ = cc in no)

-- the wires of marked modules are marked beside those that were
pub wires_are : (old new : Circuit) (modules wires all : List Bool) (count : ℕ) → length modules ≤ count → AreGrown wires all → MarkedBelow (Reads old) modules count all → MarkedBelow (Reads new) modules count all →
    AreWiresOf old new modules wires all
wires_are old new modules wires all count whole grown before after = record {
  places = grown.places;
  reached = grown.kept;
  before = λ m w is reads. below_all (Reads old) modules count all whole before m w is reads;
  after = λ m w is reads. below_all (Reads new) modules count all whole after m w is reads;
}
