-- The least delay of modules, when one of them changes.
use Rattle.std.proofs.Common.{◌≡◌, ℕ, zero, suc, ◌+◌, ◌<◌, List, [], ◌∷◌, ◌++◌, Option, None, Some, length, get_or, take, drop, fold, ◌⊎◌, inl, inr, refl, sym, ap, subst, ◌∙◌, arith}
use Rattle.std.specs.List.{flat_map}
use Rattle.std.proofs.Math.ListN.{set}
use Rattle.std.proofs.lemmas.List.{take-append-drop}
use Rattle.std.proofs.lemmas.List.Sums.{fold-append}
use Rattle.mp_records.specs.declared.module_record.ModuleRecord.{ModuleRecord}
use Rattle.mp_modules.specs.Delays.{lesser}
use Rattle.mp_netlist.specs.Delays.{delays_in}
use Rattle.mp_netlist.specs.Least.{least_among, least_at, lesser_of, IsAtMost, IsChanged}

none_lesser : (a : Option ℕ) → lesser_of None a ≡ a
none_lesser None = refl
none_lesser (Some d) = refl

lesser_assoc : (a b c : Option ℕ) → lesser_of (lesser_of a b) c ≡ lesser_of a (lesser_of b c)
lesser_assoc a b None = refl
lesser_assoc a None (Some c) = refl
lesser_assoc None (Some b) (Some c) = refl
lesser_assoc (Some a) (Some b) (Some c) = ap Some (omega arith)

lesser_comm : (a b : Option ℕ) → lesser_of a b ≡ lesser_of b a
lesser_comm None None = refl
lesser_comm None (Some b) = refl
lesser_comm (Some a) None = refl
lesser_comm (Some a) (Some b) = ap Some (omega arith)

-- the least from a delay on is the lesser of that and of the least
pub fold_from : (known : Option ℕ) (delays : List ℕ) → fold lesser known delays ≡ lesser_of known (fold lesser None delays)
fold_from known [] = refl
fold_from known (x ∷ xs) =
    fold_from (lesser known x) xs ∙ lesser_assoc known (Some x) (fold lesser None xs) ∙ ap (lesser_of known) (sym (fold_from (Some x) xs))

pub least_cons : (slot : Option ModuleRecord) (slots : List (Option ModuleRecord)) → least_among (slot ∷ slots) ≡ lesser_of (least_at slot) (least_among slots)
least_cons slot slots = fold-append lesser None (delays_in slot) (flat_map delays_in slots) ∙ fold_from (least_at slot) (flat_map delays_in slots)

least_append : (xs ys : List (Option ModuleRecord)) → least_among (xs ++ ys) ≡ lesser_of (least_among xs) (least_among ys)
least_append [] ys = sym (none_lesser (least_among ys))
least_append (x ∷ xs) ys =
    least_cons x (xs ++ ys) ∙ ap (lesser_of (least_at x)) (least_append xs ys)
    ∙ sym (lesser_assoc (least_at x) (least_among xs) (least_among ys)) ∙ ap (λ l. lesser_of l (least_among ys)) (sym (least_cons x xs))

-- one more slot is looked at
pub least_more : (slots : List (Option ModuleRecord)) (i : ℕ) → i < length slots → least_among (take (i + 1) slots) ≡ lesser_of (least_among (take i slots)) (least_at (get_or slots i None))
least_more [] i within = absurd (omega arith)
least_more (slot ∷ slots) zero within = least_cons slot [] ∙ sym (none_lesser (least_at slot))
least_more (slot ∷ slots) (suc i) within =
    let next : suc i + 1 ≡ suc (i + 1) = omega arith in
    ap (λ k. least_among (take k (slot ∷ slots))) next ∙ least_cons slot (take (i + 1) slots) ∙ ap (lesser_of (least_at slot)) (least_more slots i (omega arith))
    ∙ sym (lesser_assoc (least_at slot) (least_among (take i slots)) (least_at (get_or slots i None)))
    ∙ ap (λ l. lesser_of l (least_at (get_or slots i None))) (sym (least_cons slot (take i slots)))

-- something is put into a slot, or nothing beyond them
pub least_set : (slots : List (Option ModuleRecord)) (i : ℕ) (s : Option ModuleRecord) → (i < length slots) ⊎ (s ≡ None)
    → IsChanged (least_among slots) (least_at (get_or slots i None)) (least_at s) (least_among (set slots i s))
least_set [] i s (inl within) = absurd (omega arith)
least_set [] i s (inr none) = record { rest = None; was = refl; is = ap (λ t. lesser_of None (least_at t)) (sym none) }
least_set (slot ∷ slots) zero s within = record {
  rest = least_among slots;
  was = least_cons slot slots ∙ lesser_comm (least_at slot) (least_among slots);
  is = least_cons s slots ∙ lesser_comm (least_at s) (least_among slots);
}
least_set (slot ∷ slots) (suc i) s within =
    let inner = least_set slots i s (by within) in
    record {
      rest = lesser_of (least_at slot) inner.rest;
      was = least_cons slot slots ∙ ap (lesser_of (least_at slot)) inner.was ∙ sym (lesser_assoc (least_at slot) inner.rest (least_at (get_or slots i None)));
      is = least_cons slot (set slots i s) ∙ ap (lesser_of (least_at slot)) inner.is ∙ sym (lesser_assoc (least_at slot) inner.rest (least_at s));
    }
  where
    by : (suc i < suc (length slots)) ⊎ (s ≡ None) → (i < length slots) ⊎ (s ≡ None)
    by (inl h) = inl (omega arith)
    by (inr none) = inr none

no_less : (bound other : Option ℕ) → IsAtMost bound (lesser_of bound other) → bound ≡ lesser_of bound other
no_less None other most = absurd most
no_less (Some b) None most = refl
no_less (Some b) (Some o) most = ap Some (omega (arith, most))

-- where the first slots have the least that there can be, that is the least
pub least_found : (slots : List (Option ModuleRecord)) (i : ℕ) (bound : Option ℕ) → least_among (take i slots) ≡ bound → IsAtMost bound (least_among slots) → bound ≡ least_among slots
least_found slots i bound is most =
    let all : least_among slots ≡ lesser_of bound (least_among (drop i slots)) =
    ap least_among (sym (take-append-drop i slots)) ∙ least_append (take i slots) (drop i slots) ∙ ap (λ l. lesser_of l (least_among (drop i slots))) is in
    no_less bound (least_among (drop i slots)) (subst (IsAtMost bound) all most) ∙ sym all

-- where a slot has the least that there can be, that is the least
pub least_met : (slots : List (Option ModuleRecord)) (i : ℕ) (bound : Option ℕ) → least_at (get_or slots i None) ≡ bound → IsAtMost bound (least_among slots) → bound ≡ least_among slots
least_met slots i bound is most =
    let part = least_set slots i None (inr refl) in
    let all : least_among slots ≡ lesser_of bound part.rest = part.was ∙ ap (lesser_of part.rest) is ∙ lesser_comm part.rest bound in
    no_less bound part.rest (subst (IsAtMost bound) all most) ∙ sym all
