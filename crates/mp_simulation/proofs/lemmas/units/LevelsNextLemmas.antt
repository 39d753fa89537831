-- The levels of all numbers in the next unit, and the waves of wires with data.
use Rattle.std.proofs.Common.{◌≡◌, ℕ, ◌+◌, ◌-◌, ◌<◌, ◌≤◌, Bool, true, false, cond, List, ◌++◌, All, length, refl, sym, ap, ◌∙◌, arith}
use Rattle.std.specs.Prelude.{◌==◌, ◌&&◌, slice_index}
use Rattle.mp_netlist.specs.Circuit.{Circuit, IsCircuit}
use Rattle.mp_modules.specs.automata.Codes.{bit}
use Rattle.mp_kernel.specs.events.Adding.{listed}
use Rattle.mp_simulation.specs.bits.Changes.{late_change}
use Rattle.mp_simulation.proofs.lemmas.bits.ListedLemmas.{listed_append}
use Rattle.mp_kernel.specs.declared.datapath.level_change.LevelChange.{LevelChange}
use Rattle.mp_kernel.specs.datapath.Levels.{toggled, changed}
use Rattle.mp_simulation.specs.units.DataLevels.{is_data, late_level, changes_of, IsLevelAt}
use Rattle.mp_simulation.proofs.lemmas.units.AheadLemmas.{has_change}
use Rattle.mp_simulation.proofs.lemmas.units.LateLemmas.{late_stays, late_flips}
use Rattle.mp_simulation.proofs.lemmas.units.LevelLemmas.{toggled_at, toggled_both, toggled_length, changed_at}

low_bit : (c : Bool) → bit c ≤ 1
low_bit true = omega arith
low_bit false = omega arith

unset_when : (c : Bool) → bit (c && true) ≡ 0 → c ≡ false
unset_when true none = absurd (omega arith)
unset_when false none = refl

module _ (n : Circuit) (ok : IsCircuit n) (source : ℕ → ℕ × ℕ) (numbers t : ℕ) (levels wires late : List ℕ) (present : List LevelChange)
    (was : (x : ℕ) → x < numbers → slice_index levels x ≡ late_level n (source x) t) (long : length levels ≡ numbers)
    (bits : (x : ℕ) → x < numbers → is_data n (source x).0 ≡ false → listed x wires + listed x late ≡ bit (late_change n (source x) (t + 1)))
    (wide_quiet : (x : ℕ) → x < numbers → is_data n (source x).0 ≡ true → listed x wires + listed x late ≡ 0)
    (each : (x : ℕ) → x < numbers → changes_of x present ≡ bit (has_change n source x (t + 1))) (right : All (IsLevelAt n source (t + 1)) present) where
  flip_when : (x : ℕ) (c : Bool) → late_change n (source x) (t + 1) ≡ c → is_data n (source x).0 ≡ false → x < numbers →
      cond (bit c == 0) (slice_index levels x) (1 - slice_index levels x) ≡ late_level n (source x) (t + 1)
  flip_when x true is narrow number = ap (λ k. 1 - k) (was x number) ∙ late_flips n ok (source x) t narrow is
  flip_when x false is narrow number = was x number ∙ late_stays n ok (source x) t is

  by_width : (x : ℕ) (wide : Bool) → is_data n (source x).0 ≡ wide → x < numbers → changes_of x present ≡ 0 →
      slice_index (toggled levels (wires ++ late)) x ≡ late_level n (source x) (t + 1)
  by_width x false narrow number none =
      let sum = listed_append x wires late in
      let is = bits x number narrow in
      let low = low_bit (late_change n (source x) (t + 1)) in
      let all : listed x (wires ++ late) ≡ bit (late_change n (source x) (t + 1)) = omega arith in
      toggled_at levels (wires ++ late) x (omega arith) (omega arith)
      ∙ ap (λ k. cond (k == 0) (slice_index levels x) (1 - slice_index levels x)) all
      ∙ flip_when x (late_change n (source x) (t + 1)) refl narrow number
  by_width x true wide number none =
      let sum = listed_append x wires late in
      let is = wide_quiet x number wide in
      let all : listed x (wires ++ late) ≡ 0 = omega arith in
      let still : late_change n (source x) (t + 1) ≡ false =
      unset_when (late_change n (source x) (t + 1)) (sym (ap (λ b. bit (late_change n (source x) (t + 1) && b)) wide) ∙ sym (each x number) ∙ none) in
      toggled_at levels (wires ++ late) x (omega arith) (omega arith)
      ∙ ap (λ k. cond (k == 0) (slice_index levels x) (1 - slice_index levels x)) all
      ∙ was x number
      ∙ late_stays n ok (source x) t still

  pub levels_now : (x : ℕ) → x < numbers → slice_index (changed (toggled (toggled levels wires) late) present) x ≡ late_level n (source x) (t + 1)
  levels_now x number =
      let same = toggled_length levels (wires ++ late) in
      ap (λ (xs : List ℕ). slice_index (changed xs present) x) (toggled_both levels wires late)
      ∙ changed_at (λ y. late_level n (source y) (t + 1)) (toggled levels (wires ++ late)) present x (omega arith) right (by_width x (is_data n (source x).0) refl number)
