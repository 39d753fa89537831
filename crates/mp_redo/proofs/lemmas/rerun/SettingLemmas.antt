-- What is set in a unit of wires that no active module drives.
use Rattle.std.proofs.Common.{◌≡◌, ℕ, ◌+◌, ◌<◌, ◌≤◌, Bool, true, false, not, cond, List, [], ◌++◌, All, length, refl, sym, ap, subst, ◌∙◌, arith, inl, inr, slice_index_or}
use Rattle.std.specs.Prelude.{◌&&◌, nat_le}
use Rattle.std.proofs.lemmas.Bool.{cases_lt, cases_Bool, and_parts, leb-true}
use Rattle.std.proofs.lemmas.List.{get_or_past}
use Rattle.std.proofs.lemmas.List.Elements.{All-append}
use Rattle.mp_netlist.specs.Circuit.{Circuit, IsCircuit}
use Rattle.mp_netlist.specs.Drivers.{driver}
use Rattle.mp_model.specs.Waves.{level}
use Rattle.mp_modules.specs.automata.Codes.{bit}
use Rattle.mp_kernel.specs.events.Adding.{listed}
use Rattle.mp_kernel.specs.timers.TimerWheels.{never}
use Rattle.mp_simulation.specs.bits.Changes.{change_at}
use Rattle.mp_simulation.proofs.lemmas.bits.ListedLemmas.{listed_append}
use Rattle.mp_kernel.specs.declared.datapath.level_change.LevelChange.{LevelChange}
use Rattle.mp_simulation.specs.units.DataLevels.{is_data, is_bit_wire, changes_of}
use Rattle.mp_simulation.proofs.lemmas.units.LevelWheelLemmas.{changes_append}
use Rattle.mp_simulation.proofs.lemmas.units.PresentLemmas.{change_here}
use Rattle.mp_simulation.specs.run.Stimuli.{bits_at, levels_at, left_of}
use Rattle.mp_active.specs.agreement.Sources.{SleepersDriveAlike, WiresAgree}
use Rattle.mp_depend.specs.work.Revisions.{IsRevision}
use Rattle.mp_partition.specs.runs.Outcomes.{Outcome}
use Rattle.mp_active.specs.excerpt.Numberings.{Numbering}
use Rattle.mp_active.specs.excerpt.Setting.{is_outside, AreSetOutside}
use Rattle.mp_active.proofs.lemmas.excerpt.TestLemmas.{bit_true}
use Rattle.mp_active.specs.declared.compare.set_wires.SetWires.{SetWires}
use Rattle.mp_active.specs.compare.Comparing.{source_at, follows, off}
use Rattle.mp_active.specs.compare.Passing.{has_data_at, is_set, HasLevel, AreSet}
use Rattle.mp_redo.specs.declared.rerun.rerun.Rerun.{Rerun}
use Rattle.mp_redo.specs.rerun.Following.{is_tail, is_set_anew}
use Rattle.mp_redo.specs.rerun.Reruns.{IsFollowed, active_of, on_of, until_of}
use Rattle.mp_redo.proofs.lemmas.rerun.NumberLemmas.{past_rests, bit_wire_narrow}
use Rattle.mp_redo.proofs.lemmas.rerun.ToComeLemmas.{bits_to_come, levels_to_come, set_to_come}
use Rattle.mp_redo.proofs.lemmas.rerun.SplitLemmas.{outside_split}
use Rattle.mp_redo.proofs.lemmas.rerun.FollowLemmas.{agrees, follows_on}
use Rattle.mp_active.proofs.lemmas.excerpt.KeptLemmas.{bit_is}

-- ---- tests

-- a wire of the sort is set as often as it changes
sort_set : (set data_too c anew tail outside is : Bool) → data_too ≡ false → is ≡ true → bit (c && anew) + (bit (c && tail) + bit set) ≡ bit (c && outside) →
    bit (set && not data_too) + (cond data_too 0 (bit (c && anew)) + cond data_too 0 (bit (c && tail))) ≡ bit ((c && is) && outside)
sort_set set data_too c anew tail outside is narrow bits sum = rw (narrow, bits) (by set c sum)
  where
    by : (set c : Bool) → bit (c && anew) + (bit (c && tail) + bit set) ≡ bit (c && outside) → bit (set && true) + (bit (c && anew) + bit (c && tail)) ≡ bit ((c && true) && outside)
    by true true e = omega (arith, e)
    by true false e = omega (arith, e)
    by false true e = omega (arith, e)
    by false false e = omega (arith, e)

sort_unset : (set data_too c anew tail outside is : Bool) → data_too ≡ true → is ≡ false →
    bit (set && not data_too) + (cond data_too 0 (bit (c && anew)) + cond data_too 0 (bit (c && tail))) ≡ bit ((c && is) && outside)
sort_unset set data_too c anew tail outside is wide none = rw (wide, none) (by set c)
  where
    by : (set c : Bool) → bit (set && false) + (0 + 0) ≡ bit ((c && false) && outside)
    by true true = refl
    by true false = refl
    by false true = refl
    by false false = refl

data_set : (set data_too c anew tail outside : Bool) → data_too ≡ true → bit (c && anew) + (bit (c && tail) + bit set) ≡ bit (c && outside) →
    bit (set && data_too) + (cond data_too (bit (c && anew)) 0 + cond data_too (bit (c && tail)) 0) ≡ bit ((c && data_too) && outside)
data_set set data_too c anew tail outside wide sum = rw wide (by set c sum)
  where
    by : (set c : Bool) → bit (c && anew) + (bit (c && tail) + bit set) ≡ bit (c && outside) → bit (set && true) + (bit (c && anew) + bit (c && tail)) ≡ bit ((c && true) && outside)
    by true true e = omega (arith, e)
    by true false e = omega (arith, e)
    by false true e = omega (arith, e)
    by false false e = omega (arith, e)

data_unset : (set data_too c anew tail outside : Bool) → data_too ≡ false →
    bit (set && data_too) + (cond data_too (bit (c && anew)) 0 + cond data_too (bit (c && tail)) 0) ≡ bit ((c && data_too) && outside)
data_unset set data_too c anew tail outside narrow = rw narrow (by set c)
  where
    by : (set c : Bool) → bit (set && false) + (0 + 0) ≡ bit ((c && false) && outside)
    by true true = refl
    by true false = refl
    by false true = refl
    by false false = refl

-- what is no wire isn't set
past_set : (set data_too has c anew tail outside is : Bool) → set ≡ false → c ≡ false →
    bit (set && not has) + (cond data_too 0 (bit (c && anew)) + cond data_too 0 (bit (c && tail))) ≡ bit ((c && is) && outside)
past_set set data_too has c anew tail outside is none rests = rw (none, rests) (by data_too)
  where
    by : (b : Bool) → 0 + (cond b 0 0 + cond b 0 0) ≡ 0
    by true = refl
    by false = refl

past_data : (set data_too has c anew tail outside : Bool) → set ≡ false → c ≡ false →
    bit (set && has) + (cond data_too (bit (c && anew)) 0 + cond data_too (bit (c && tail)) 0) ≡ bit ((c && data_too) && outside)
past_data set data_too has c anew tail outside none rests = rw (none, rests) (by data_too)
  where
    by : (b : Bool) → 0 + (cond b 0 0 + cond b 0 0) ≡ 0
    by true = refl
    by false = refl

module _ (old n : Circuit) (old_ok : IsCircuit old) (ok : IsCircuit n) (revised : IsRevision old n) (wires : WiresAgree) (sleepers : SleepersDriveAlike) (run : Outcome) (numbering : Numbering) (since : ℕ → ℕ) (t : ℕ)
    (below : t + 1 < never) (s : Rerun) (is : IsFollowed old n run numbering since t s) (was set : SetWires) (none_bits : was.bits.items ≡ []) (none_levels : was.levels.items ≡ [])
    (are : AreSet (level old) (t + 1) s.comparison was set) where
  abbrev anew : ℕ → Bool
  anew w = is_set_anew n (until_of s) w (t + 1)

  abbrev tail : ℕ → Bool
  tail w = is_tail n (active_of s) (until_of s) w (t + 1)

  abbrev outside : ℕ → Bool
  outside w = on_of s w && is_outside (active_of s) (driver n w)

  sum : (w : ℕ) → bit (change_at n w (t + 1) && anew w) + (bit (change_at n w (t + 1) && tail w) + bit (is_set (level old) (t + 1) s.comparison w)) ≡ bit (change_at n w (t + 1) && outside w)
  sum w =
      outside_split n ok old (active_of s) since (until_of s) is.sources (on_of s) (change_at old w (t + 1)) w (t + 1) (is.lit w) below
      (λ soon. follows_on old n old_ok ok revised wires sleepers (active_of s) since (until_of s) t below is.sleeping is.sources w soon)

  past_follows : (w : ℕ) → length n.wires ≤ w → is_set (level old) (t + 1) s.comparison w ≡ false
  past_follows w past =
      let places = is.numbered.wires in
      ap (λ source. follows source (t + 1) && change_at old w (t + 1)) (get_or_past s.comparison.sources.items w off (omega (arith, past, places)))

  -- ---- how often a wire is set
  bits_by : (w : ℕ) →
      bit (is_set (level old) (t + 1) s.comparison w && not (has_data_at s.comparison w))
      + (cond (is_data n w) 0 (bit (change_at n w (t + 1) && anew w)) + cond (is_data n w) 0 (bit (change_at n w (t + 1) && tail w)))
      ≡ bit ((change_at n w (t + 1) && is_bit_wire n w) && outside w)
  bits_by w = elim (cases_lt w (length n.wires)) as (λ _.
      bit (is_set (level old) (t + 1) s.comparison w && not (has_data_at s.comparison w))
      + (cond (is_data n w) 0 (bit (change_at n w (t + 1) && anew w)) + cond (is_data n w) 0 (bit (change_at n w (t + 1) && tail w)))
      ≡ bit ((change_at n w (t + 1) && is_bit_wire n w) && outside w)) [
        | inl low ↦
            ap (λ b. bit (is_set (level old) (t + 1) s.comparison w && not b)
            + (cond (is_data n w) 0 (bit (change_at n w (t + 1) && anew w)) + cond (is_data n w) 0 (bit (change_at n w (t + 1) && tail w)))) (is.numbered.with_data w low)
            ∙ elim (cases_Bool (is_data n w)) as (λ _.
            bit (is_set (level old) (t + 1) s.comparison w && not (is_data n w))
            + (cond (is_data n w) 0 (bit (change_at n w (t + 1) && anew w)) + cond (is_data n w) 0 (bit (change_at n w (t + 1) && tail w)))
            ≡ bit ((change_at n w (t + 1) && is_bit_wire n w) && outside w)) [
              | inl wide ↦
                  sort_unset (is_set (level old) (t + 1) s.comparison w) (is_data n w) (change_at n w (t + 1)) (anew w) (tail w) (outside w) (is_bit_wire n w) wide (wide_bit w wide)
              | inr narrow ↦
                  sort_set (is_set (level old) (t + 1) s.comparison w) (is_data n w) (change_at n w (t + 1)) (anew w) (tail w) (outside w) (is_bit_wire n w) narrow (bit_is n w low narrow) (sum w)
            ]
        | inr past ↦
            past_set (is_set (level old) (t + 1) s.comparison w) (is_data n w) (has_data_at s.comparison w) (change_at n w (t + 1)) (anew w) (tail w) (outside w) (is_bit_wire n w)
            (past_follows w past) (past_rests n ok w (t + 1) past)
      ]
    where
      wide_bit : (w : ℕ) → is_data n w ≡ true → is_bit_wire n w ≡ false
      wide_bit w wide = elim (cases_Bool (is_bit_wire n w)) as (λ _. is_bit_wire n w ≡ false) [
        | inl is_bit ↦ let narrow = bit_wire_narrow n w is_bit in let no : ⊥ = cc in absurd no
        | inr other ↦ other
      ]

  levels_by : (w : ℕ) →
      bit (is_set (level old) (t + 1) s.comparison w && has_data_at s.comparison w)
      + (cond (is_data n w) (bit (change_at n w (t + 1) && anew w)) 0 + cond (is_data n w) (bit (change_at n w (t + 1) && tail w)) 0)
      ≡ bit ((change_at n w (t + 1) && is_data n w) && outside w)
  levels_by w = elim (cases_lt w (length n.wires)) as (λ _.
      bit (is_set (level old) (t + 1) s.comparison w && has_data_at s.comparison w)
      + (cond (is_data n w) (bit (change_at n w (t + 1) && anew w)) 0 + cond (is_data n w) (bit (change_at n w (t + 1) && tail w)) 0)
      ≡ bit ((change_at n w (t + 1) && is_data n w) && outside w)) [
        | inl low ↦
            ap (λ b. bit (is_set (level old) (t + 1) s.comparison w && b)
            + (cond (is_data n w) (bit (change_at n w (t + 1) && anew w)) 0 + cond (is_data n w) (bit (change_at n w (t + 1) && tail w)) 0)) (is.numbered.with_data w low)
            ∙ elim (cases_Bool (is_data n w)) as (λ _.
            bit (is_set (level old) (t + 1) s.comparison w && is_data n w)
            + (cond (is_data n w) (bit (change_at n w (t + 1) && anew w)) 0 + cond (is_data n w) (bit (change_at n w (t + 1) && tail w)) 0)
            ≡ bit ((change_at n w (t + 1) && is_data n w) && outside w)) [
              | inl wide ↦ data_set (is_set (level old) (t + 1) s.comparison w) (is_data n w) (change_at n w (t + 1)) (anew w) (tail w) (outside w) wide (sum w)
              | inr narrow ↦ data_unset (is_set (level old) (t + 1) s.comparison w) (is_data n w) (change_at n w (t + 1)) (anew w) (tail w) (outside w) narrow
            ]
        | inr past ↦
            past_data (is_set (level old) (t + 1) s.comparison w) (is_data n w) (has_data_at s.comparison w) (change_at n w (t + 1)) (anew w) (tail w) (outside w)
            (past_follows w past) (past_rests n ok w (t + 1) past)
      ]

  -- ---- the lists
  module _ (bits : List ℕ) (levels : List LevelChange)
      (all_bits : bits ≡ (set.bits.items ++ bits_at (t + 1) (left_of s.stimuli)) ++ bits_at (t + 1) (left_of s.pending_outputs))
      (all_levels : levels ≡ (set.levels.items ++ levels_at (t + 1) (left_of s.stimuli)) ++ levels_at (t + 1) (left_of s.pending_outputs)) where
    set_bits : (w : ℕ) → listed w bits ≡ bit ((change_at n w (t + 1) && is_bit_wire n w) && outside w)
    set_bits w =
        let a = ap (listed w) all_bits in
        let b = listed_append w (set.bits.items ++ bits_at (t + 1) (left_of s.stimuli)) (bits_at (t + 1) (left_of s.pending_outputs)) in
        let d = listed_append w set.bits.items (bits_at (t + 1) (left_of s.stimuli)) in
        let e = are.bits w in
        let f = ap (listed w) none_bits in
        let g = bits_to_come n (is_set_anew n (until_of s)) t (left_of s.stimuli) is.stimuli w in
        let h = bits_to_come n (is_tail n (active_of s) (until_of s)) t (left_of s.pending_outputs) is.pending_outputs w in
        let i = bits_by w in
        omega (arith, a, b, d, e, f, g, h, i)

    set_levels : (w : ℕ) → changes_of w levels ≡ bit ((change_at n w (t + 1) && is_data n w) && outside w)
    set_levels w =
        let a = ap (changes_of w) all_levels in
        let b = changes_append w (set.levels.items ++ levels_at (t + 1) (left_of s.stimuli)) (levels_at (t + 1) (left_of s.pending_outputs)) in
        let d = changes_append w set.levels.items (levels_at (t + 1) (left_of s.stimuli)) in
        let e = are.levels w in
        let f = ap (changes_of w) none_levels in
        let g = levels_to_come n (is_set_anew n (until_of s)) t (left_of s.stimuli) is.stimuli w in
        let h = levels_to_come n (is_tail n (active_of s) (until_of s)) t (left_of s.pending_outputs) is.pending_outputs w in
        let i = levels_by w in
        omega (arith, a, b, d, e, f, g, h, i)

    abbrev IsRight : LevelChange → Type 0
    IsRight change = change.level ≡ level n change.number (t + 1)

    -- a wire that follows has its new level
    old_right : All IsRight set.levels.items
    old_right k d low =
        let change : LevelChange = slice_index_or set.levels.items k d in
        let w = change.number in
        let right = are.right (subst (All (HasLevel (level old) (t + 1))) (sym none_levels) (λ j e less. let no : ⊥ = omega (arith, less) in absurd no)) in
        let here = change_here set.levels.items k d low in
        let count = are.levels w in
        let none = ap (changes_of w) none_levels in
        let some = bit_true (is_set (level old) (t + 1) s.comparison w && has_data_at s.comparison w) (omega (arith, here, count, none)) in
        let one = and_parts (is_set (level old) (t + 1) s.comparison w) (has_data_at s.comparison w) some in
        let two = and_parts (follows (source_at s.comparison w) (t + 1)) (change_at old w (t + 1)) one.0 in
        let three = and_parts (on_of s w) (nat_le (until_of s w) (t + 1)) two.0 in
        let soon = leb-true (until_of s w) (t + 1) three.1 in
        right k d low ∙ agrees old n old_ok ok revised wires sleepers (active_of s) since (until_of s) t below is.sleeping is.sources w (t + 1) soon (omega arith)

    all_right : All IsRight levels
    all_right =
        subst (All IsRight) (sym all_levels)
        (All-append IsRight (set.levels.items ++ levels_at (t + 1) (left_of s.stimuli)) (levels_at (t + 1) (left_of s.pending_outputs))
        (All-append IsRight set.levels.items (levels_at (t + 1) (left_of s.stimuli)) old_right (set_to_come n (is_set_anew n (until_of s)) t (left_of s.stimuli) is.stimuli))
        (set_to_come n (is_tail n (active_of s) (until_of s)) t (left_of s.pending_outputs) is.pending_outputs))

    pub are_set_outside : AreSetOutside n (active_of s) (on_of s) bits levels (t + 1)
    are_set_outside = record { bits = set_bits; each = set_levels; levels = all_right }

-- the same at a time that comes next
pub set_outside_at : (old n : Circuit) → IsCircuit old → IsCircuit n → IsRevision old n → WiresAgree → SleepersDriveAlike → (run : Outcome) (numbering : Numbering) (since : ℕ → ℕ) (t time : ℕ) (s : Rerun) (was set : SetWires)
    (bits : List ℕ) (levels : List LevelChange) → t + 1 ≡ time → time < never → IsFollowed old n run numbering since t s → was.bits.items ≡ [] → was.levels.items ≡ [] →
    AreSet (level old) time s.comparison was set → bits ≡ (set.bits.items ++ bits_at time (left_of s.stimuli)) ++ bits_at time (left_of s.pending_outputs) →
    levels ≡ (set.levels.items ++ levels_at time (left_of s.stimuli)) ++ levels_at time (left_of s.pending_outputs) → AreSetOutside n (active_of s) (on_of s) bits levels time
set_outside_at old n old_ok ok revised wires sleepers run numbering since t time s was set bits levels next below is none_bits none_levels are all_bits all_levels =
    let back = sym next in
    subst (AreSetOutside n (active_of s) (on_of s) bits levels) next
    (are_set_outside old n old_ok ok revised wires sleepers run numbering since t (omega (arith, next, below)) s is was set none_bits none_levels
    (subst (λ u. AreSet (level old) u s.comparison was set) back are) bits levels
    (subst (λ u. bits ≡ (set.bits.items ++ bits_at u (left_of s.stimuli)) ++ bits_at u (left_of s.pending_outputs)) back all_bits)
    (subst (λ u. levels ≡ (set.levels.items ++ levels_at u (left_of s.stimuli)) ++ levels_at u (left_of s.pending_outputs)) back all_levels))
