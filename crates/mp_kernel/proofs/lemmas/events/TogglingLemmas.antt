-- Wires of width 1 toggle, one after the other.
use Rattle.std.proofs.Common.{◌≡◌, ℕ, suc, ◌+◌, ◌<◌, ◌≤◌, Bool, true, false, cond, List, [], ◌∷◌, ◌++◌, length, take, drop, refl, sym, ap, ◌∙◌, arith, eq-eqb, subst}
use Rattle.std.specs.Prelude.{◌==◌, slice_index_or}
use Rattle.std.proofs.Math.Seq.{drop-cons}
use Rattle.std.proofs.lemmas.Bool.{eqb-true}
use Rattle.std.proofs.lemmas.Grind.{flat_map-append}
use Rattle.std.proofs.lemmas.List.{take_more}
use Rattle.std.proofs.lemmas.List.Sums.{sum_by_more, sum_by_more_le}
use Rattle.mp_modules.specs.declared.automata.automaton_state.AutomatonState.{AutomatonState}
use Rattle.mp_modules.specs.automata.Codes.{bit}
use Rattle.mp_wave.specs.Waveform.{Waveform, last_time}
use Rattle.mp_kernel.specs.declared.events.fanout_entry.FanoutEntry.{FanoutEntry}
use Rattle.mp_wave.specs.ToggleWaves.{toggled_at}
use Rattle.mp_kernel.specs.events.Adding.{AreAdded, IsAdding, listed}
use Rattle.mp_kernel.specs.events.Toggling.{row_at, wave_at, entries_from, CanToggle, AreToggled}
use Rattle.mp_kernel.proofs.lemmas.events.AddingLemmas.{front, back, added_both}

-- a wire that is listed once isn't before its place
pub fresh : (ws : List ℕ) (i : ℕ) → i < length ws → ((w : ℕ) → listed w ws ≤ 1) → listed (slice_index_or ws i 0) (take i ws) ≡ 0
fresh ws i within once =
    let w = slice_index_or ws i 0 in
    let own : bit (w == w) ≡ 1 = ap bit (eq-eqb w w refl) in
    let more = sum_by_more_le (λ d. cond (d == w) 1 0) ws i 0 within in
    let most = once w in
    omega arith

pub listed_next : (ws : List ℕ) (i v : ℕ) → i < length ws → listed v (take (i + 1) ws) ≡ listed v (take i ws) + cond (slice_index_or ws i 0 == v) 1 0
listed_next ws i v within = sum_by_more (λ d. cond (d == v) 1 0) ws i 0 within

-- so its wave is as it was
pub same_yet : (waves now : List Waveform) (ws : List ℕ) (i time : ℕ) → i < length ws → CanToggle waves ws time → AreToggled waves now (take i ws) time →
    wave_at now (slice_index_or ws i 0) ≡ wave_at waves (slice_index_or ws i 0)
same_yet waves now ws i time within over are =
    are.each (slice_index_or ws i 0) ∙
    ap (λ n. cond (n == 0) (wave_at waves (slice_index_or ws i 0)) (toggled_at (wave_at waves (slice_index_or ws i 0)) time)) (fresh ws i within over.once)

pub over_yet : (waves now : List Waveform) (ws : List ℕ) (i time : ℕ) → i < length ws → CanToggle waves ws time → AreToggled waves now (take i ws) time →
    last_time 0 (wave_at now (slice_index_or ws i 0)).changes < time
over_yet waves now ws i time within over are =
    subst (λ (w : Waveform). last_time 0 w.changes < time) (sym (same_yet waves now ws i time within over are)) (over.over i 0 within)

rest_is : (rows : List (List FanoutEntry)) (ws : List ℕ) (i : ℕ) → i < length ws →
    entries_from rows (drop i ws) ≡ row_at rows (slice_index_or ws i 0) ++ entries_from rows (drop (suc i) ws)
rest_is rows ws i within = ap (λ xs. entries_from rows xs) (drop-cons ws i 0 within)

pub next_added : (rows : List (List FanoutEntry)) (ws : List ℕ) (i : ℕ) (states : List AutomatonState) (due : List ℕ) → i < length ws →
    IsAdding states due (entries_from rows (drop i ws)) → IsAdding states due (row_at rows (slice_index_or ws i 0))
next_added rows ws i states due within h =
    front states due (row_at rows (slice_index_or ws i 0)) (entries_from rows (drop (suc i) ws))
    (subst (λ xs. IsAdding states due xs) (rest_is rows ws i within) h)

pub rest_added : (rows : List (List FanoutEntry)) (ws : List ℕ) (i : ℕ) (states new : List AutomatonState) (due new_due : List ℕ) → i < length ws →
    IsAdding states due (entries_from rows (drop i ws)) → AreAdded states new (row_at rows (slice_index_or ws i 0)) → IsAdding new new_due [] →
    length new ≡ length states → IsAdding new new_due (entries_from rows (drop (i + 1) ws))
rest_added rows ws i states new due new_due within h added is same =
    let e : suc i ≡ i + 1 = omega arith in
    subst (λ k. IsAdding new new_due (entries_from rows (drop k ws))) e
    (back states new due new_due (row_at rows (slice_index_or ws i 0)) (entries_from rows (drop (suc i) ws))
    (subst (λ xs. IsAdding states due xs) (rest_is rows ws i within) h) added is same)

append_nil : (xs : List FanoutEntry) → xs ++ [] ≡ xs
append_nil [] = refl
append_nil (x ∷ xs) = ap (λ ys. x ∷ ys) (append_nil xs)

pub all_added : (rows : List (List FanoutEntry)) (ws : List ℕ) (i : ℕ) (states now new : List AutomatonState) → i < length ws →
    AreAdded states now (entries_from rows (take i ws)) → AreAdded now new (row_at rows (slice_index_or ws i 0)) →
    AreAdded states new (entries_from rows (take (i + 1) ws))
all_added rows ws i states now new within before then =
    let row = row_at rows (slice_index_or ws i 0) in
    let is : entries_from rows (take (i + 1) ws) ≡ entries_from rows (take i ws) ++ row =
    ap (λ xs. entries_from rows xs) (take_more ws i 0 within) ∙ flat_map-append (row_at rows) (take i ws) (slice_index_or ws i 0 ∷ [])
    ∙ ap (λ xs. entries_from rows (take i ws) ++ xs) (append_nil row) in
    subst (λ xs. AreAdded states new xs) (sym is) (added_both (entries_from rows (take i ws)) row before then)

toggled_one : (waves now new : List Waveform) (ws : List ℕ) (i time v : ℕ) (t : Bool) → i < length ws → CanToggle waves ws time → AreToggled waves now (take i ws) time →
    (slice_index_or ws i 0 == v) ≡ t → wave_at new v ≡ cond (0 + cond t 1 0 == 0) (wave_at now v) (toggled_at (wave_at now v) time) →
    wave_at new v ≡ cond (listed v (take (i + 1) ws) == 0) (wave_at waves v) (toggled_at (wave_at waves v) time)
toggled_one waves now new ws i time v true within over are is then =
    let w = slice_index_or ws i 0 in
    let none = fresh ws i within over.once in
    let more = listed_next ws i w within in
    let own : bit (w == w) ≡ 1 = ap bit (eq-eqb w w refl) in
    let one : listed w (take (i + 1) ws) ≡ 1 = omega arith in
    subst (λ k. wave_at now k ≡ wave_at waves k → wave_at new k ≡ toggled_at (wave_at now k) time → wave_at new k ≡ cond (listed k (take (i + 1) ws) == 0) (wave_at waves k) (toggled_at (wave_at waves k) time))
    (eqb-true w v is)
    (λ same toggled. toggled ∙ ap (λ k. toggled_at k time) same ∙ sym (ap (λ n. cond (n == 0) (wave_at waves w) (toggled_at (wave_at waves w) time)) one))
    (subst (λ k. wave_at now k ≡ wave_at waves k) (eqb-true w v is) (same_yet waves now ws i time within over are)) then
toggled_one waves now new ws i time v false within over are is then =
    let w = slice_index_or ws i 0 in
    let more = listed_next ws i v within in
    let none : bit (w == v) ≡ 0 = ap bit is in
    let as_before : listed v (take (i + 1) ws) ≡ listed v (take i ws) = omega arith in
    then ∙ are.each v ∙ sym (ap (λ n. cond (n == 0) (wave_at waves v) (toggled_at (wave_at waves v) time)) as_before)

pub toggled_next : (waves now new : List Waveform) (ws : List ℕ) (i time : ℕ) → i < length ws → CanToggle waves ws time → AreToggled waves now (take i ws) time →
    AreToggled now new (slice_index_or ws i 0 ∷ []) time → AreToggled waves new (take (i + 1) ws) time
toggled_next waves now new ws i time within over are then = record {
  placed = then.placed ∙ are.placed;
  each = λ v. toggled_one waves now new ws i time v (slice_index_or ws i 0 == v) within over are refl (then.each v);
}
