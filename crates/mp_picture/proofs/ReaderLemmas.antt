-- The readers of wires, found module by module and input by input.
use Rattle.std.proofs.Common.{◌≡◌, ℕ, ◌+◌, ◌<◌, ◌≤◌, ◌==◌, Bool, true, false, cond, List, [], ◌∷◌, ◌++◌, length, map, get_or, take, replicate, Option, refl, sym, ap, subst, ◌∙◌, ◌^◌, zero-add, append_assoc, append-nil, inl, inr, arith}
use Rattle.std.specs.List.{filter, flat_map, enumerate_from, slice_set}
use Rattle.std.proofs.lemmas.Bool.{cases_eq, eq-eqb, ne_eqb}
use Rattle.std.proofs.lemmas.Grind.{flat_map-append}
use Rattle.std.proofs.lemmas.List.{take_more, take_all, get_or_default, get_or-set_same, get_or-set_other, get_or-replicate, length-set, length-replicate}
use Rattle.std.proofs.lemmas.List.FromFn.{length-enumerate_from, get_or-enumerate_from}
use Rattle.mp_records.specs.declared.ids.ModuleId.{ModuleId}
use Rattle.mp_records.specs.declared.ports.Input.{Input}
use Rattle.mp_records.specs.declared.module_record.ModuleRecord.{ModuleRecord}
use Rattle.mp_modules.proofs.KindLemmas.{few_inputs}
use Rattle.mp_netlist.specs.Circuit.{Circuit, IsModule}
use Rattle.mp_netlist.specs.Readers.{ports_at, readers, readers_in}
use Rattle.mp_picture.specs.ReaderRows.{AreReaders, HasMore, port_at, row_at}

abbrev pub Rows : Type 0
Rows = List (List (ModuleId × ℕ))

-- ---- one list element more

module _ {X Y : Type 0} (f : ℕ × X → List Y) (xs : List X) (i : ℕ) where
  numbered_more : (d : X) → i < length xs → flat_map f (take i (enumerate_from 0 xs)) ++ f (i, get_or xs i d) ≡ flat_map f (take (i + 1) (enumerate_from 0 xs))
  numbered_more d within =
      let all = enumerate_from 0 xs in
      let low : i < length all = omega (arith, within, length-enumerate_from 0 xs) in
      let here : get_or all i (0, d) ≡ (i, get_or xs i d) = get_or-enumerate_from 0 xs i (0, d) within ∙ ap (λ (k : ℕ). (k, get_or xs i d)) (zero-add i) in
      ap (λ (ys : List Y). flat_map f (take i all) ++ ys) (ap f (sym here) ∙ sym (append-nil (f (get_or all i (0, d)))))
      ∙ sym (ap (flat_map f) (take_more all i (0, d) low) ∙ flat_map-append f (take i all) (get_or all i (0, d) ∷ []))

  numbered_all : i ≡ length xs → flat_map f (take i (enumerate_from 0 xs)) ≡ flat_map f (enumerate_from 0 xs)
  numbered_all over = ap (flat_map f) (take_all i (enumerate_from 0 xs) (omega (arith, over, length-enumerate_from 0 xs)))

-- ---- rows that grow

-- no readers yet
pub more_none : (rows : Rows) → HasMore rows rows (λ w. [])
more_none rows = record { places = refl; each = λ w low. sym (append-nil (row_at rows w)) }

module _ {X : Type 0} (f : ℕ → ℕ × X → List (ModuleId × ℕ)) (xs : List X) (i : ℕ) (old mid : Rows) where
  -- with those of an element more
  pub more_next : (d : X) (new : Rows) → i < length xs → HasMore old mid (λ w. flat_map (f w) (take i (enumerate_from 0 xs))) → HasMore mid new (λ w. f w (i, get_or xs i d))
      → HasMore old new (λ w. flat_map (f w) (take (i + 1) (enumerate_from 0 xs)))
  more_next d new within before now = record {
    places = now.places ∙ before.places;
    each = λ w low.
        now.each w (omega (arith, low, before.places))
        ∙ ap (λ (rs : List (ModuleId × ℕ)). rs ++ f w (i, get_or xs i d)) (before.each w low)
        ∙ append_assoc (row_at old w) (flat_map (f w) (take i (enumerate_from 0 xs))) (f w (i, get_or xs i d))
        ∙ ap (λ (rs : List (ModuleId × ℕ)). row_at old w ++ rs) (numbered_more (f w) xs i d within);
  }

  -- with those of all elements
  pub more_all : i ≡ length xs → HasMore old mid (λ w. flat_map (f w) (take i (enumerate_from 0 xs))) → HasMore old mid (λ w. flat_map (f w) (enumerate_from 0 xs))
  more_all over before = record {
    places = before.places;
    each = λ w low. before.each w low ∙ ap (λ (rs : List (ModuleId × ℕ)). row_at old w ++ rs) (numbered_all (f w) xs i over);
  }

-- ---- the inputs of a module

one_first : {X Y : Type 0} (f : X → Y) (b : Bool) (x : X) (xs : List X) → cond b (f x ∷ []) [] ++ map f xs ≡ map f (cond b (x ∷ xs) xs)
one_first f true x xs = refl
one_first f false x xs = refl

ports_are : (w m : ℕ) (ports : List (ℕ × Input)) → flat_map (port_at w m) ports ≡ ports_at w m ports
ports_are w m [] = refl
ports_are w m (port ∷ ports) =
    let named : ℕ × Input → ModuleId × ℕ = (λ (p : ℕ × Input). (record { 0 = m }, p.0)) in
    ap (λ (rs : List (ModuleId × ℕ)). port_at w m port ++ rs) (ports_are w m ports)
    ∙ one_first named (port.1.wire.0 == w) port (filter (λ (p : ℕ × Input). p.1.wire.0 == w) ports)

-- all inputs
pub inputs_all : (m : ℕ) (inputs : List Input) (i : ℕ) (old new : Rows) → i ≡ length inputs → HasMore old new (λ w. flat_map (port_at w m) (take i (enumerate_from 0 inputs)))
    → HasMore old new (λ w. ports_at w m (enumerate_from 0 inputs))
inputs_all m inputs i old new over before =
    let all = more_all (λ w. port_at w m) inputs i old new over before in
    record { places = all.places; each = λ w low. all.each w low ∙ ap (λ (rs : List (ModuleId × ℕ)). row_at old w ++ rs) (ports_are w m (enumerate_from 0 inputs)) }

-- an input at a wire that has a row
pub port_pushed : (rows : Rows) (m port : ℕ) (input : Input) (row new : List (ModuleId × ℕ)) → input.wire.0 < length rows → row ≡ get_or rows input.wire.0 row → new ≡ row ++ (record { 0 = m }, port) ∷ []
    → HasMore rows (slice_set rows input.wire.0 new) (λ w. port_at w m (port, input))
port_pushed rows m port input row new within is pushed = record {
  places = length-set rows input.wire.0 new;
  each = λ w low. elim (cases_eq input.wire.0 w) as (λ _. row_at (slice_set rows input.wire.0 new) w ≡ row_at rows w ++ port_at w m (port, input)) [
    | inl same ↦
        let test : (input.wire.0 == w) ≡ true = eq-eqb input.wire.0 w same in
        rw test
        (ap (row_at (slice_set rows input.wire.0 new)) (sym same) ∙ get_or-set_same rows input.wire.0 new [] within ∙ pushed
        ∙ ap (λ (rs : List (ModuleId × ℕ)). rs ++ (record { 0 = m }, port) ∷ []) (is ∙ get_or_default rows input.wire.0 row [] within ∙ ap (row_at rows) same))
    | inr other ↦
        let test : (input.wire.0 == w) ≡ false = ne_eqb input.wire.0 w other in
        rw test (get_or-set_other rows input.wire.0 w new [] (λ e. other (sym e)) ∙ sym (append-nil (row_at rows w)))
  ];
}

-- an input at a wire without a row
pub port_outside : (rows : Rows) (m port : ℕ) (input : Input) → length rows ≤ input.wire.0 → HasMore rows rows (λ w. port_at w m (port, input))
port_outside rows m port input past = record {
  places = refl;
  each = λ w low.
      let test : (input.wire.0 == w) ≡ false = ne_eqb input.wire.0 w (λ e. omega (arith, e, past, low)) in
      rw test (sym (append-nil (row_at rows w)));
}

-- ---- all modules

-- the inputs of a module can be numbered
pub inputs_few : (n : Circuit) (r : ModuleRecord) → IsModule n r → length r.inputs < 2 ^ 32
inputs_few n r ok = omega (arith, ok.inputs, few_inputs r.kind)

-- in a slot
pub slot_more : (old new : Rows) (m : ℕ) (here there : Option ModuleRecord) → here ≡ there → HasMore old new (λ w. readers_in w (m, here)) → HasMore old new (λ w. readers_in w (m, there))
slot_more old new m here there is more = subst (λ (slot : Option ModuleRecord). HasMore old new (λ w. readers_in w (m, slot))) is more

-- with those of all modules the rows have the readers of the wires
pub readers_all : (n : Circuit) (m : ℕ) (rows : Rows) → m ≡ length n.modules
    → HasMore (replicate (length n.wires) []) rows (λ w. flat_map (readers_in w) (take m (enumerate_from 0 n.modules))) → AreReaders n rows
unfolding readers
readers_all n m rows over before w low =
    let empty : Rows = replicate (length n.wires) [] in
    let all = more_all readers_in n.modules m empty rows over before in
    all.each w (omega (arith, low, length-replicate {A = List (ModuleId × ℕ)} (length n.wires) []))
    ∙ ap (λ (rs : List (ModuleId × ℕ)). rs ++ flat_map (readers_in w) (enumerate_from 0 n.modules)) (get_or-replicate (length n.wires) w [] [] low)
