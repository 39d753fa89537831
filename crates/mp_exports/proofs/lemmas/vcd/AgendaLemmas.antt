-- The changes of a time, one before the others.
use Rattle.mp_exports.proofs.lemmas.vcd.Names.{vec_len, told_at, left_whole, left_then, left_as, ◌≡◌, ◌≢◌, ◌+◌, ◌-◌, ◌<◌, ◌≤◌, ◌==◌, ◌∷◌, ◌++◌, None, map, get_or-map, left_none, nat_lt-false, nat_lt-true, earlier_than-take, get_or_default, ℕ, Bool, true, not, cond, nat_le, List, [], length, length-append, take, slice_index, slice_set, Some, zero, suc, refl, ap, subst, ◌∙◌, zero-add, add-one, get_or, arith, get_or-set_other, get_or-set_same, nat_tests, cases_lt, eq-eqb, eqb-true, le-leb, lt-leb, lt-ltb, ne_eqb, get_or-append, length-set, get_or-append_seam, take-suc, changes_after, between, WireRecord, Circuit, wire_at, width_of, level, filter, flat_map-map, value_line, marked, time_mark, QueuedChange, no_entry, entry_at, IsChain, Tells, told_from, with_told, onto, onto_slot, with_levels, told_lines}
use Rattle.mp_exports.specs.declared.vcd.change_queue.ChangeQueue.{ChangeQueue}

-- one entry more at the end leaves a chain
pub chain_more : (entries : List QueuedChange) (added : QueuedChange) (place : ℕ) (told : List (ℕ × ℕ)) → IsChain entries place told → IsChain (entries ++ added ∷ []) place told
chain_more entries added place [] chain = chain
chain_more entries added place (x ∷ told) chain = grind (arith, nat_tests, get_or-append, length-append, (chain_more entries added (entry_at entries (place - 1)).next told chain.5))

pub chain_within : (entries : List QueuedChange) (place : ℕ) (told : List (ℕ × ℕ)) → IsChain entries place told → place ≤ length entries
chain_within entries place [] chain = grind (arith, nat_tests)
chain_within entries place (x ∷ told) chain = grind (arith, nat_tests)

pub told_as : (firsts : List ℕ) (entries : List QueuedChange) (told other : ℕ → List (ℕ × ℕ)) → ((t : ℕ) → t < length firsts → told t ≡ other t) → Tells firsts entries told → Tells firsts entries other
told_as firsts entries told other same tells t within = subst (IsChain entries (slice_index firsts t)) (same t within) (tells t within)

module _ (firsts : List ℕ) (entries : List QueuedChange) (told : ℕ → List (ℕ × ℕ)) (time place : ℕ) (added : QueuedChange) (tells : Tells firsts entries told) (within : time < length firsts)
    (next : added.next ≡ slice_index firsts time) (last : place ≡ length entries + 1) where
  first_here : IsChain (entries ++ added ∷ []) place ((added.wire, added.level) ∷ told time)
  first_here =
      let old = tells time within in
      let same : entry_at (entries ++ added ∷ []) (place - 1) ≡ added = ap (entry_at (entries ++ added ∷ [])) (omega arith) ∙ get_or-append_seam entries added [] no_entry in
      grind (arith, same, (length-append entries (added ∷ [])), (chain_within entries (slice_index firsts time) (told time) old), (chain_more entries added (slice_index firsts time) (told time) old))

  pub told_more : Tells (slice_set firsts time place) (entries ++ added ∷ []) (with_told told time (added.wire, added.level))
  told_more t inside = grind (arith, length-set, eqb-true, get_or-set_same, first_here, nat_tests, get_or-set_other, chain_more)

pub onto-append : (w : ℕ) (xs ys : List (ℕ × ℕ)) (t : ℕ) (others : List (ℕ × ℕ)) → onto w (xs ++ ys) t others ≡ onto w ys t (onto w xs t others)
onto-append w [] ys t others = refl
onto-append w (x ∷ xs) ys t others = grind (arith, nat_tests, (onto-append w xs ys t (cond (x.0 == t) ((w, x.1) ∷ others) others)))

-- with the change at a place, those before it and then it
pub onto_next : (w : ℕ) (changes : List (ℕ × ℕ)) (i t : ℕ) (others : List (ℕ × ℕ)) → i < length changes
    → onto w (take (i + 1) changes) t others ≡ with_told (λ t. onto w (take i changes) t others) (get_or changes i (0, 0)).0 (w, (get_or changes i (0, 0)).1) t
onto_next w changes i t others within =
    ap (λ l. onto w l t others) (ap (λ k. take k changes) (add-one i) ∙ take-suc changes i (0, 0) within) ∙ onto-append w (take i changes) (get_or changes i (0, 0) ∷ []) t others

-- the changes of a level up to a time leave its change at a time not later, where it differs there from the one a unit before
module _ (levels : ℕ → ℕ) (w t : ℕ) where
  pub onto_changes : (m : ℕ) (others : List (ℕ × ℕ))
      → onto w (changes_after levels 0 m) t others ≡ cond (nat_le t m) (cond (not (levels t == levels (t - 1))) ((w, levels t) ∷ others) others) others
  onto_changes zero others = grind (arith, nat_tests, eq-eqb, le-leb, lt-leb)
  onto_changes (suc m) others = grind (arith, onto-append, zero-add, eqb-true, cases_lt, lt-leb, le-leb, nat_tests, ne_eqb, (onto_changes m others))

-- changes that pass a test which each at a time passes
onto-filter : (p : ℕ × ℕ → Bool) (w : ℕ) (changes : List (ℕ × ℕ)) (t : ℕ) (others : List (ℕ × ℕ)) → ((change : ℕ × ℕ) → change.0 ≡ t → p change ≡ true)
    → onto w (filter p changes) t others ≡ onto w changes t others
onto-filter p w [] t others each = refl
onto-filter p w (x ∷ xs) t others each = grind (arith, nat_tests, eqb-true, (onto-filter p w xs t (cond (x.0 == t) ((w, x.1) ∷ others) others) each), (onto-filter p w xs t others each))

-- those between two times, at a time between them
pub onto_between : (w from to : ℕ) (changes : List (ℕ × ℕ)) (t : ℕ) (others : List (ℕ × ℕ)) → from < t → t < to → onto w (between from to changes) t others ≡ onto w changes t others
onto_between w from to changes t others after before = grind (arith, nat_tests, onto-filter, lt-ltb)

-- a change at a time from another on
pub with_told-from : (told : ℕ → List (ℕ × ℕ)) (from time : ℕ) (change : ℕ × ℕ) (k : ℕ) → from ≤ time → with_told (told_from from told) (time - from) change k ≡ told_from from (with_told told time change) k
with_told-from told from time change k after = grind (arith, nat_tests)

-- the changes of the wave of a wire at a time below the horizon
pub onto_wave : (n : Circuit) (w t : ℕ) (r : WireRecord) (others : List (ℕ × ℕ)) → t < n.horizon
    → onto w (changes_after (level n w) 0 (n.horizon - 1)) t others ≡ onto_slot n t w (Some r) others
onto_wave n w t r others within = grind (arith, nat_tests, le-leb, onto_changes)

-- the width that is listed of a wire
pub width_is : (n : Circuit) (widths : List ℕ) (w : ℕ) → widths ≡ map width_of n.wires → slice_index widths w ≡ width_of (wire_at n w)
width_is n widths w are = ap (λ ws. slice_index ws w) are ∙ get_or-map width_of n.wires w None

-- the chain of a time
pub chain_at : (n : Circuit) (agenda : ChangeQueue) (t place : ℕ) → agenda.from ≤ t → t < agenda.from + vec_len agenda.firsts → Tells agenda.firsts.items agenda.entries.items (told_from agenda.from (told_at n))
    → place ≡ slice_index agenda.firsts.items (t - agenda.from) → IsChain agenda.entries.items place (told_at n t)
chain_at n agenda t place low high told is =
    let same : agenda.from + (t - agenda.from) ≡ t = omega (arith, low) in
    subst (λ u. IsChain agenda.entries.items place (told_at n u)) same (rw is (told (t - agenda.from) (omega (arith, low, high))))

-- a chain that is not over has an entry, whose line comes first
pub record HasEntry (n : Circuit) (entries : List QueuedChange) (entry : QueuedChange) (place : ℕ) (told : List (ℕ × ℕ)) (line : List ℕ) : Type 0 where
  pub later : List (ℕ × ℕ)
  pub smaller : entry.next < place
  pub chain : IsChain entries entry.next later
  pub lines : told_lines n told ≡ line ++ told_lines n later

pub chain_next : (n : Circuit) (widths : List ℕ) (entries : List QueuedChange) (entry : QueuedChange) (place : ℕ) (told : List (ℕ × ℕ)) (line : List ℕ) → widths ≡ map width_of n.wires
    → entry_at entries (place - 1) ≡ entry → IsChain entries place told → 0 < place → line ≡ value_line (slice_index widths entry.wire) entry.wire entry.level → HasEntry n entries entry place told line
chain_next n widths entries entry place [] line are is chain some same = grind (arith, nat_tests)
chain_next n widths entries entry place (x ∷ later) line are is chain some same = grind (arith, nat_tests, width_is)

pub chain_over : (n : Circuit) (entries : List QueuedChange) (place : ℕ) (told : List (ℕ × ℕ)) → place ≡ 0 → IsChain entries place told → told_lines n told ≡ []
chain_over n entries place [] none chain = refl
chain_over n entries place (x ∷ told) none chain = grind (arith, nat_tests)

-- the text of a unit with changes
pub marked_some : (n : Circuit) (t : ℕ) (ws : List ℕ) (entries : List QueuedChange) (place : ℕ) → IsChain entries place (with_levels n t ws) → place ≢ 0 → marked n t ws ≡ time_mark t ++ told_lines n (with_levels n t ws)
marked_some n t ws entries place chain some =
    grind (arith, nat_tests, (flat_map-map (λ (change : ℕ × ℕ). value_line (width_of (wire_at n change.0)) change.0 change.1) (λ (w : ℕ). (w, level n w t)) ws))

-- and of one without
pub marked_none : (n : Circuit) (t : ℕ) (ws : List ℕ) (entries : List QueuedChange) (place : ℕ) → IsChain entries place (with_levels n t ws) → place ≡ 0 → marked n t ws ≡ []
marked_none n t ws entries place chain none = grind (arith, nat_tests)

pub ruleset parts_count_before_steps = (get_or_default, cases_lt, earlier_than-take, nat_lt-true, nat_lt-false)

pub ruleset units_put_unit_steps = (chain_within, left_none, chain_over, chain_at, left_whole, left_then, left_as, marked_none, marked_some)
