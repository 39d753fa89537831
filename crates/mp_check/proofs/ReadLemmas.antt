-- Wires that are marked as read.
use Rattle.std.proofs.Common.{◌≡◌, ◌≢◌, ℕ, ◌+◌, ◌<◌, ◌==◌, ◌||◌, Bool, true, false, List, length, get_or, take, None, refl, ap, sym, ◌∙◌, inl, inr, arith}
use Rattle.std.specs.List.{list_any}
use Rattle.std.proofs.lemmas.Bool.{cases_eq, eq-eqb, ne_eqb}
use Rattle.std.proofs.lemmas.List.{take_all}
use Rattle.std.proofs.lemmas.List.Folds.{list_any_more}
use Rattle.mp_records.specs.declared.ports.Input.{Input}
use Rattle.mp_records.specs.NamedWires.{bundle_names}
use Rattle.mp_netlist.specs.Slots.{stands_and}
use Rattle.mp_netlist.specs.Circuit.{Circuit, module_at, bundle_at}
use Rattle.mp_check.specs.Notes.{is_read, module_reads}
use Rattle.mp_check.specs.ReadWires.{mark_at, AreRead, AreReadByModules, AreReadByBundles}

pub or_later : (a b c : Bool) → ((a || b) || c) ≡ (a || (b || c))
or_later true b c = refl
or_later false b c = refl

pub or_true : (a : Bool) → true ≡ (a || true)
or_true true = refl
or_true false = refl

pub or_false : (a : Bool) → a ≡ (a || false)
or_false true = refl
or_false false = refl

-- a mark more
pub marked_one : (old new : List Bool) (p w : ℕ) → w < length old → (p < length old → mark_at new p ≡ true) → ((v : ℕ) → v ≢ p → mark_at new v ≡ mark_at old v)
    → mark_at new w ≡ (mark_at old w || (p == w))
marked_one old new p w low here others = elim (cases_eq w p) as (λ _. mark_at new w ≡ (mark_at old w || (p == w))) [
  | inl same ↦
      let test : (p == w) ≡ true = eq-eqb p w (sym same) in
      rw test (ap (mark_at new) same ∙ here (omega (arith, same, low)) ∙ or_true (mark_at old w))
  | inr other ↦
      let test : (p == w) ≡ false = ne_eqb p w (λ e. other (sym e)) in
      rw test (others w other ∙ or_false (mark_at old w))
]

-- one input more
pub input_more : (inputs : List Input) (i : ℕ) (d : Input) (w : ℕ) (first old new : Bool) → i < length inputs → old ≡ (first || list_any (λ (x : Input). x.wire.0 == w) (take i inputs))
    → new ≡ (old || ((get_or inputs i d).wire.0 == w)) → new ≡ (first || list_any (λ (x : Input). x.wire.0 == w) (take (i + 1) inputs))
input_more inputs i d w first old new within was is =
    let reads : Input → Bool = (λ (x : Input). x.wire.0 == w) in
    is ∙ ap (λ b. b || reads (get_or inputs i d)) was ∙ or_later first (list_any reads (take i inputs)) (reads (get_or inputs i d))
    ∙ ap (λ b. first || b) (sym (list_any_more reads inputs i d within))

-- one module more
pub module_more : (n : Circuit) (m : ℕ) (old new : List Bool) → m < length n.modules → length new ≡ length old → AreReadByModules n m old
    → ((w : ℕ) → w < length old → mark_at new w ≡ (mark_at old w || stands_and (module_reads w) (module_at n m))) → AreReadByModules n (m + 1) new
module_more n m old new within size are each = record {
  places = size ∙ are.places;
  each = λ w low.
      each w (omega (arith, low, are.places)) ∙ ap (λ b. b || stands_and (module_reads w) (module_at n m)) (are.each w low)
      ∙ sym (list_any_more (stands_and (module_reads w)) n.modules m None within);
}

-- all modules, and no bundle yet
pub all_modules : (n : Circuit) (marks : List Bool) → AreReadByModules n (length n.modules) marks → AreReadByBundles n 0 marks
all_modules n marks are = record {
  places = are.places;
  each = λ w low. are.each w low ∙ ap (list_any (stands_and (module_reads w))) (take_all (length n.modules) n.modules (omega arith)) ∙ or_false (list_any (stands_and (module_reads w)) n.modules);
}

-- one bundle more
pub bundle_more : (n : Circuit) (b : ℕ) (old new : List Bool) → b < length n.bundles → length new ≡ length old → AreReadByBundles n b old
    → ((w : ℕ) → w < length old → mark_at new w ≡ (mark_at old w || stands_and (bundle_names w) (bundle_at n b))) → AreReadByBundles n (b + 1) new
bundle_more n b old new within size are each = record {
  places = size ∙ are.places;
  each = λ w low.
      each w (omega (arith, low, are.places)) ∙ ap (λ x. x || stands_and (bundle_names w) (bundle_at n b)) (are.each w low)
      ∙ or_later (list_any (stands_and (module_reads w)) n.modules) (list_any (stands_and (bundle_names w)) (take b n.bundles)) (stands_and (bundle_names w) (bundle_at n b))
      ∙ ap (λ x. list_any (stands_and (module_reads w)) n.modules || x) (sym (list_any_more (stands_and (bundle_names w)) n.bundles b None within));
}

-- all of them
pub all_read : (n : Circuit) (marks : List Bool) → AreReadByBundles n (length n.bundles) marks → AreRead n marks
unfolding is_read
all_read n marks are w low =
    are.each w low
    ∙ ap (λ bs. list_any (stands_and (module_reads w)) n.modules || list_any (stands_and (bundle_names w)) bs) (take_all (length n.bundles) n.bundles (omega arith))

-- the three wires of a bundle
pub three_marks : (r a d w : ℕ) (zero one two three : Bool) → one ≡ (zero || (r == w)) → two ≡ (one || (a == w)) → three ≡ (two || (d == w)) → three ≡ (zero || ((r == w || a == w) || d == w))
three_marks r a d w zero one two three first second third =
    third ∙ ap (λ b. b || (d == w)) (second ∙ ap (λ b. b || (a == w)) first ∙ or_later zero (r == w) (a == w)) ∙ or_later zero (r == w || a == w) (d == w)
