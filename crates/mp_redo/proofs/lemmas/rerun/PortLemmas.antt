-- The wires at a module's ports are turned on, one after the other.
use Rattle.std.proofs.Common.{◌≡◌, ℕ, ◌+◌, ◌<◌, ◌≤◌, true, List, Some, None, IsSome, length, refl, ap, sym, subst, ◌∙◌, arith, inl, inr}
use Rattle.std.specs.Prelude.{◌==◌, ◌||◌, slice_index_or}
use Rattle.std.proofs.lemmas.Bool.{cases_eq, eq-eqb, or_right}
use Rattle.std.proofs.lemmas.List.{get_or_default}
use Rattle.std.proofs.lemmas.Option.{same_Some}
use Rattle.mp_records.specs.declared.ports.Input.{Input}
use Rattle.mp_records.specs.declared.ports.Output.{Output}
use Rattle.mp_records.specs.declared.module_record.ModuleRecord.{ModuleRecord}
use Rattle.mp_records.specs.Inputs.{input_in, no_input}
use Rattle.mp_records.specs.Outputs.{output_in, output_at}
use Rattle.mp_netlist.specs.Circuit.{Circuit, IsCircuit, Drives, wire_at, module_at}
use Rattle.mp_partition.specs.regions.Readers.{Reads}
use Rattle.mp_redo.specs.declared.rerun.rerun.Rerun.{Rerun}
use Rattle.mp_redo.specs.rerun.Reruns.{on_of}
use Rattle.mp_redo.specs.rerun.Waking.{HasTurnedOn}
use Rattle.mp_active.proofs.lemmas.agreement.SourceLemmas.{output_stands}
use Rattle.mp_redo.proofs.lemmas.rerun.ReaderLemmas.{output_within}

pub none_turned : (s : Rerun) → HasTurnedOn s s
none_turned s = record { kept = refl; seen = refl; until = λ w. refl; lit = λ w lit. lit }

pub turned_more : (s l new : Rerun) → HasTurnedOn s l → HasTurnedOn l new → HasTurnedOn s new
turned_more s l new one other = record {
  kept = ap (λ (x : Rerun). record x { simulation = new.simulation; comparison = new.comparison }) other.kept ∙ ap (λ (x : Rerun). record x { simulation = new.simulation; comparison = new.comparison }) one.kept;
  seen = other.seen ∙ one.seen;
  until = λ w. other.until w ∙ one.until w;
  lit = λ w lit. other.lit w (one.lit w lit);
}

-- the wire is on that was turned on
pub now_lit : (l new : Rerun) (v : ℕ) → ((w : ℕ) → on_of new w ≡ (on_of l w || (w == v))) → on_of new v ≡ true
now_lit l new v on = on v ∙ or_right (on_of l v) (v == v) (eq-eqb v v refl)

-- the first inputs, and one more
pub inputs_lit : (items : List Input) (k : ℕ) (l new : Rerun) (here : Input) → k < length items → here ≡ slice_index_or items k here → ((w : ℕ) → on_of new w ≡ (on_of l w || (w == here.wire.0))) → HasTurnedOn l new →
    ((j : ℕ) → j < k → on_of l (input_in items j).wire.0 ≡ true) → (j : ℕ) → j < k + 1 → on_of new (input_in items j).wire.0 ≡ true
inputs_lit items k l new here low is on turned before j upto = elim (cases_eq j k) as (λ _. on_of new (input_in items j).wire.0 ≡ true) [
  | inl e ↦
      let same : (input_in items j).wire.0 ≡ here.wire.0 = ap (λ (i : ℕ). (input_in items i).wire.0) e ∙ ap (λ (i : Input). i.wire.0) (get_or_default items k no_input here low ∙ sym is) in
      ap (on_of new) same ∙ now_lit l new here.wire.0 on
  | inr other ↦ turned.lit (input_in items j).wire.0 (before j (omega (arith, upto, other)))
]

-- the first outputs, and one more
pub outputs_lit : (items : List Output) (k : ℕ) (l new : Rerun) (here : Output) → k < length items → here ≡ slice_index_or items k here →
    ((w : ℕ) → here.wire ≡ Some (record { 0 = w }) → on_of new w ≡ true) → HasTurnedOn l new →
    ((j w : ℕ) → j < k → (output_in items j).wire ≡ Some (record { 0 = w }) → on_of l w ≡ true) → (j w : ℕ) → j < k + 1 → (output_in items j).wire ≡ Some (record { 0 = w }) → on_of new w ≡ true
outputs_lit items k l new here low is on turned before j w upto drives = elim (cases_eq j k) as (λ _. on_of new w ≡ true) [
  | inl e ↦
      let same : (output_in items j).wire ≡ here.wire = ap (λ (i : ℕ). (output_in items i).wire) e ∙ ap (λ (o : Output). o.wire) (get_or_default items k (record { wire = None; delay = 1 }) here low ∙ sym is) in
      on w (sym same ∙ drives)
  | inr other ↦ turned.lit w (before j w (omega (arith, upto, other)) drives)
]

-- ---- the ports of a module that stands
module _ (n : Circuit) (ok : IsCircuit n) (m : ℕ) (r : ModuleRecord) (at : module_at n m ≡ Some r) where
  part_is : (other : ModuleRecord) → module_at n m ≡ Some other → other ≡ r
  part_is other there = same_Some other r (sym there ∙ at)

  pub input_stands : (items : List Input) (k : ℕ) (here : Input) → items ≡ r.inputs → k < length items → here ≡ slice_index_or items k here → IsSome (wire_at n here.wire.0)
  input_stands items k here same low is =
      let inside : k < length r.inputs = subst (λ (xs : List Input). k < length xs) same low in
      let stands = ((ok.modules_ok m r at).reads k here inside).0 in
      let e : here ≡ slice_index_or r.inputs k here = is ∙ ap (λ (xs : List Input). slice_index_or xs k here) same in
      subst (λ (i : Input). IsSome (wire_at n i.wire.0)) (sym e) stands

  pub output_stands_at : (items : List Output) (k v : ℕ) (here : Output) → items ≡ r.outputs → k < length items → here ≡ slice_index_or items k here → here.wire ≡ Some (record { 0 = v }) → IsSome (wire_at n v)
  output_stands_at items k v here same low is wire =
      let inside : k < length r.outputs = subst (λ (xs : List Output). k < length xs) same low in
      let e : output_at r k ≡ here = get_or_default r.outputs k (record { wire = None; delay = 1 }) here inside ∙ sym (is ∙ ap (λ (xs : List Output). slice_index_or xs k here) same) in
      let drives : Drives n m k v = record { part = r; stands = at; output = ap (λ (o : Output). o.wire) e ∙ wire } in
      output_stands n ok m k v drives

  pub all_read : (items : List Input) (k : ℕ) (l : Rerun) → items ≡ r.inputs → length items ≤ k → ((j : ℕ) → j < k → on_of l (input_in items j).wire.0 ≡ true) → (w : ℕ) → Reads n m w → on_of l w ≡ true
  all_read items k l same all on w reads =
      let inputs : reads.part.inputs ≡ items = ap (λ (x : ModuleRecord). x.inputs) (part_is reads.part reads.stands) ∙ sym same in
      let j = reads.input.0 in
      let low : j < length items = subst (λ (xs : List Input). j < length xs) inputs reads.input.1 in
      let e : input_in items j ≡ reads.port =
      get_or_default items j no_input reads.port low ∙ sym (ap (λ (xs : List Input). slice_index_or xs j reads.port) inputs) ∙ reads.input.2 in
      ap (on_of l) (sym (ap (λ (i : Input). i.wire.0) e ∙ reads.wire)) ∙ on j (omega (arith, low, all))

  pub all_driven : (items : List Output) (k : ℕ) (l : Rerun) → items ≡ r.outputs → length items ≤ k → ((j w : ℕ) → j < k → (output_in items j).wire ≡ Some (record { 0 = w }) → on_of l w ≡ true) →
      (p w : ℕ) → Drives n m p w → on_of l w ≡ true
  all_driven items k l same all on p w drives =
      let outputs : drives.part.outputs ≡ items = ap (λ (x : ModuleRecord). x.outputs) (part_is drives.part drives.stands) ∙ sym same in
      let wire : (output_in items p).wire ≡ Some (record { 0 = w }) = ap (λ (xs : List Output). (output_in xs p).wire) (sym outputs) ∙ drives.output in
      on p w (let low = output_within items p w wire in omega (arith, low, all)) wire
