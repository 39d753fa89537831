-- The wires that stand, one after the other.
use Rattle.std.proofs.Common.{IsErrAnd}
use Rattle.mp_streams.specs.Outgoing.{Outgoing, Puts}
use Rattle.mp_streams.specs.WriteErrors.{is_fault}
use Rattle.mp_streams.specs.declared.write_error.WriteError.{WriteError}
use Rattle.mp_exports.proofs.lemmas.vcd.Names.{puts_unmade, OutOfMemory, ◌≡◌, ◌+◌, ◌-◌, ◌<◌, ◌≤◌, ◌∷◌, ◌++◌, take_more, map-append, left_whole, left_then, left_as, left_none, ℕ, List, [], append_assoc, length, drop, Option, None, Some, zero, suc, refl, ap, ◌∙◌, add-one, arith, filter, flat_map, range_with_len, drop-cons, drop-length, Waveform, WireRecord, Circuit, IsCircuit, wire_at, width_of, slot_at, wave, slot_wave, standing_from, is_changed, slot_text, with_levels, onto_slot, nat_tests, flat_map-append, Bool, append-nil, take, sym, subst, puts_then, Left, take-append-drop, Result, drop-drop}

pub standing_end : (slots : List (Option WireRecord)) (w : ℕ) → w ≡ length slots → standing_from w (drop w slots) ≡ []
standing_end slots w over = ap (λ k. standing_from w (drop k slots)) over ∙ ap (standing_from w) (drop-length slots)

pub lines_step : (told : ℕ → List ℕ) (slots : List (Option WireRecord)) (w : ℕ) → w < length slots
    → flat_map told (standing_from w (drop w slots)) ≡ slot_text told w (slot_at slots w) ++ flat_map told (standing_from (w + 1) (drop (w + 1) slots))
lines_step told slots w within = grind (arith, nat_tests, drop-cons, add-one)

pub told_step : (n : Circuit) (t w next : ℕ) → w < length n.wires → next ≡ w + 1
    → with_levels n t (filter (is_changed n t) (standing_from w (drop w n.wires))) ≡ onto_slot n t w (wire_at n w) (with_levels n t (filter (is_changed n t) (standing_from next (drop next n.wires))))
told_step n t w next within is = rw is (grind (arith, nat_tests, drop-cons, add-one))

pub times_step : (t upto : ℕ) → t < upto → range_with_len t (upto - t) ≡ t ∷ range_with_len (t + 1) (upto - (t + 1))
times_step t upto within = let more : upto - t ≡ suc (upto - (t + 1)) = omega arith in ap (range_with_len t) more

pub times_end : (t upto : ℕ) → upto ≤ t → range_with_len t (upto - t) ≡ []
times_end t upto over = let none : upto - t ≡ 0 = omega arith in ap (range_with_len t) none

-- the texts of some times, and then of others
times_split : (f : ℕ → List ℕ) (t m k u n : ℕ) → t + m ≡ u → m + k ≡ n → flat_map f (range_with_len t n) ≡ flat_map f (range_with_len t m) ++ flat_map f (range_with_len u k)
times_split f t zero k u n there all = grind arith
times_split f t (suc m) k u zero there all = absurd (omega (arith, all))
times_split f t (suc m) k u (suc n) there all = grind (arith, append_assoc, (times_split f (t + 1) m k u n (omega (arith, there)) (omega (arith, all))))

pub times_divide : (f : ℕ → List ℕ) (from to upto : ℕ) → from ≤ to → to ≤ upto
    → flat_map f (range_with_len from (upto - from)) ≡ flat_map f (range_with_len from (to - from)) ++ flat_map f (range_with_len to (upto - to))
times_divide f from to upto first second = times_split f from (to - from) (upto - to) to (upto - from) (omega (arith, first)) (omega (arith, first, second))

-- the texts of the things from one place to before another, before those of the things behind them
pub text_divide : {X : Type 0} (t : X → List ℕ) (xs : List X) (k e : ℕ) → k ≤ e → flat_map t (drop k xs) ≡ flat_map t (take (e - k) (drop k xs)) ++ flat_map t (drop e xs)
text_divide t xs k e order =
    let there : k + (e - k) ≡ e = omega (arith, order) in
    grind (arith, there, (take-append-drop (e - k) (drop k xs)), (drop-drop (e - k) k xs), flat_map-append)

-- memory was wanting before anything was written
pub unmade : {S U : Type 0} {r : Result U WriteError} (a : Outgoing S) (xs : List ℕ) → IsErrAnd r (λ y. y ≡ OutOfMemory) → Puts is_fault r a a xs
unmade {r = r} a xs is = puts_unmade r OutOfMemory a xs is refl

-- the last piece of a text was written, or failed
pub left_last : {S U E : Type 0} {g : E → Bool} {r : Result U E} {whole xs ys : List ℕ} {a b c : Outgoing S} → ys ≡ [] → Left whole a b (xs ++ ys) → Puts g r b c xs → Puts g r a c whole
left_last {S} {U} {E} {g} {r} {whole} {xs} {ys} {a} {b} {c} none left piece =
    let rest : xs ++ ys ≡ xs = ap (λ l. xs ++ l) none ∙ append-nil xs in
    subst (Puts g r a c) (ap (λ l. left.done ++ l) (sym rest) ∙ left.all) (puts_then left.written piece)

pub changes_in : (n : Circuit) (w : ℕ) (slot : Option WireRecord) (v : Waveform) → Some v ≡ slot_wave n w slot → (r : WireRecord) × (slot ≡ Some r) × (v.changes ≡ (wave n w).changes)
changes_in n w slot v same = grind (arith, nat_tests)

pub none_in : (n : Circuit) (w t : ℕ) (slot : Option WireRecord) (others : List (ℕ × ℕ)) → None ≡ slot_wave n w slot → others ≡ onto_slot n t w slot others
none_in n w t slot others same = grind (arith, nat_tests)

pub narrow : (n : Circuit) → IsCircuit n → (w : ℕ) → width_of (wire_at n w) ≤ 64
narrow n circuit w = by (wire_at n w) refl
  where
    by : (slot : Option WireRecord) → wire_at n w ≡ slot → width_of slot ≤ 64
    by None stands = omega arith
    by (Some r) stands = let wire = circuit.wires_ok w r stands in wire.narrow

pub ruleset put_wires_steps = (left_whole, left_then, left_as, left_none, lines_step, standing_end)

pub ruleset put_agenda_steps = (left_whole, left_then, left_as, left_none, times_step, times_end)

pub ruleset widths_of_steps = (take_more, map-append)
