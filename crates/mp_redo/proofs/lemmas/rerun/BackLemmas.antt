-- What is known of a module's wires is put back, output by output.
use Rattle.std.proofs.Common.{◌≡◌, ℕ, ◌+◌, ◌<◌, ◌≤◌, Bool, true, false, List, [], ◌∷◌, ◌++◌, Option, Some, None, take, length, zero, suc, refl, ap, sym, subst, ◌∙◌, arith, inl, inr}
use Rattle.std.specs.Prelude.{◌&&◌, ◌||◌, slice_index_or}
use mathlib.Core.Path.{fun_ext}
use Rattle.std.proofs.lemmas.Bool.{or_cases, true≢false}
use Rattle.std.proofs.lemmas.List.{take_more, take_all, get_or_default}
use Rattle.mp_records.specs.declared.ids.WireId.{WireId}
use Rattle.mp_records.specs.declared.ports.Output.{Output}
use Rattle.mp_records.specs.declared.module_record.ModuleRecord.{ModuleRecord}
use Rattle.mp_records.specs.NamedWires.{is_wire}
use Rattle.mp_records.specs.Outputs.{output_in, output_at}
use Rattle.mp_netlist.specs.Circuit.{Circuit, IsCircuit, Drives, module_at}
use Rattle.mp_netlist.specs.Drivers.{driver}
use Rattle.mp_partition.specs.runs.Outcomes.{Outcome}
use Rattle.mp_simulation.specs.run.Stimuli.{left_of}
use Rattle.mp_active.specs.excerpt.Numberings.{Numbering}
use Rattle.mp_active.specs.excerpt.Leaving.{is_port_of}
use Rattle.mp_active.proofs.lemmas.steps.RestingLemmas.{none_ahead}
use Rattle.mp_redo.specs.declared.rerun.rerun.Rerun.{Rerun}
use Rattle.mp_redo.specs.rerun.Following.{AreToCome, is_tail}
use Rattle.mp_redo.specs.rerun.Reruns.{active_of, until_of}
use Rattle.mp_redo.specs.rerun.Returning.{CanReturn, AreBack, IsNextBack, is_output}
use Rattle.mp_redo.proofs.lemmas.rerun.ReaderLemmas.{outputs_are}
use Rattle.mp_active.proofs.lemmas.compare.WakingLemmas.{wire_is}

-- before the first, none is back
pub none_back : (old new : Circuit) (run : Outcome) (numbering : Numbering) (since : ℕ → ℕ) (t m : ℕ) (s : Rerun) → CanReturn old new run numbering since t m s → AreBack new numbering t (is_output []) s s
none_back old new run numbering since t m s can = record {
  kept = refl;
  ahead = none_ahead new numbering t s.simulation;
  pending_outputs = subst (λ (comes : ℕ → ℕ → Bool). AreToCome new comes t (left_of s.pending_outputs)) (fun_ext (λ w. fun_ext (λ u. right (is_tail new (active_of s) (until_of s) w u)))) can.followed.pending_outputs;
}
  where
    right : (b : Bool) → b ≡ (b && true)
    right true = refl
    right false = refl

-- an output without a wire has nothing to put back
pub no_wire_back : (old new : Circuit) (run : Outcome) (t m p : ℕ) (output : Output) (s : Rerun) (next : IsNextBack old new run t m p output s) → output.wire ≡ None →
    AreBack new next.numbering t (λ v. next.wires v || is_wire output.wire v) next.start s
no_wire_back old new run t m p output s next none =
    subst (λ (ws : ℕ → Bool). AreBack new next.numbering t ws next.start s) (fun_ext (λ v. right (next.wires v) ∙ sym (ap (λ (o : Option WireId). next.wires v || is_wire o v) none))) next.back
  where
    right : (b : Bool) → b ≡ (b || false)
    right true = refl
    right false = refl

-- ---- the first outputs, and one more
found_before : (k : ℕ) (outputs : List Output) (w : ℕ) → is_output (take k outputs) w ≡ true → (p : ℕ) × (p < k) × ((output_in outputs p).wire ≡ Some (record { 0 = w }))
found_before zero outputs w is = absurd (true≢false (sym is))
found_before (suc k) [] w is = absurd (true≢false (sym is))
found_before (suc k) (o ∷ outputs) w is = elim (or_cases (is_wire o.wire w) (is_output (take k outputs) w) is) as (λ _. (p : ℕ) × (p < suc k) × ((output_in (o ∷ outputs) p).wire ≡ Some (record { 0 = w }))) [
  | inl here ↦ (0, omega arith, wire_is o.wire w here)
  | inr else ↦ let more = found_before k outputs w else in let low = more.1 in (suc more.0, omega (arith, low), more.2)
]

output_pushed : (outputs : List Output) (o : Output) (w : ℕ) → is_output (outputs ++ o ∷ []) w ≡ (is_output outputs w || is_wire o.wire w)
output_pushed [] o w = right (is_wire o.wire w)
  where
    right : (b : Bool) → (b || false) ≡ b
    right true = refl
    right false = refl
output_pushed (x ∷ outputs) o w = ap (λ b. is_wire x.wire w || b) (output_pushed outputs o w) ∙ joined (is_wire x.wire w) (is_output outputs w) (is_wire o.wire w)
  where
    joined : (a b c : Bool) → (a || (b || c)) ≡ ((a || b) || c)
    joined true b c = refl
    joined false b c = refl

pub output_more : (items : List Output) (k : ℕ) (here : Output) → k < length items → here ≡ slice_index_or items k here → (λ w. is_output (take k items) w || is_wire here.wire w) ≡ is_output (take (k + 1) items)
output_more items k here low is = fun_ext (λ w.
    sym (output_pushed (take k items) here w)
    ∙ ap (λ (xs : List Output). is_output xs w) (sym (take_more items k here low ∙ ap (λ (o : Output). take k items ++ o ∷ []) (sym is))))

-- the next output's wire isn't among those of the first
module _ (old new : Circuit) (run : Outcome) (ok : IsCircuit new) (t m : ℕ) (r : ModuleRecord) (at : module_at new m ≡ Some r) (s : Rerun) (items : List Output) (same : items ≡ r.outputs) where
  pub next_own : (k : ℕ) (here : Output) → k < length items → here ≡ slice_index_or items k here → output_at r k ≡ here
  next_own k here low is = ap (λ (xs : List Output). output_in xs k) (sym same) ∙ get_or_default items k (record { wire = None; delay = 1 }) here low ∙ sym is

  pub next_fresh : (k : ℕ) (here : Output) → k < length items → here ≡ slice_index_or items k here → (w : ℕ) → here.wire ≡ Some (record { 0 = w }) → is_output (take k items) w ≡ false
  next_fresh k here low is w wire = by (is_output (take k items) w) refl
    where
      by : (b : Bool) → is_output (take k items) w ≡ b → is_output (take k items) w ≡ false
      by false e = e
      by true e =
          let found = found_before k items w e in
          let before = found.1 in
          let one : Drives new m found.0 w = record { part = r; stands = at; output = ap (λ (xs : List Output). (output_in xs found.0).wire) (sym same) ∙ found.2 } in
          let other : Drives new m k w = record { part = r; stands = at; output = ap (λ (o : Output). o.wire) (next_own k here low is) ∙ wire } in
          let port = (ok.one_port m found.0 m k w one other).1 in
          absurd (omega (arith, before, port))

  pub all_back : (numbering : Numbering) (k : ℕ) (l : Rerun) → length items ≤ k → AreBack new numbering t (is_output (take k items)) s l → AreBack new numbering t (λ w. is_port_of m (driver new w)) s l
  all_back numbering k l all back =
      subst (λ (ws : ℕ → Bool). AreBack new numbering t ws s l)
      (fun_ext (λ w. ap (λ (xs : List Output). is_output xs w) (take_all k items all ∙ same) ∙ outputs_are new ok m r at w)) back
