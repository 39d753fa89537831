-- Changes of numbers with data are known some units before, each once.
use Rattle.std.proofs.Common.{◌≡◌, ◌≢◌, ℕ, suc, ◌+◌, ◌-◌, ◌<◌, ◌≤◌, Bool, true, false, nat_lt, drop, List, [], ◌∷◌, ◌++◌, Option, Some, None, All, length, refl, sym, ap, ◌∙◌, arith, eq-eqb, ne_eqb, subst}
use Rattle.std.specs.Prelude.{◌==◌, ◌&&◌}
use Rattle.std.specs.List.{count_by}
use Rattle.std.proofs.lemmas.Bool.{eqb-true, eqb-false}
use Rattle.std.proofs.lemmas.Bool.Decides.{nat_tests}
use Rattle.std.proofs.Math.ListN.{get_or-eq_default}
use Rattle.mp_netlist.specs.Circuit.{Circuit}
use Rattle.mp_modules.specs.automata.Codes.{bit}
use Rattle.mp_kernel.specs.declared.events.output_port.OutputPort.{OutputPort}
use Rattle.mp_simulation.specs.bits.Changes.{late_change}
use Rattle.mp_kernel.specs.declared.datapath.level_change.LevelChange.{LevelChange}
use Rattle.mp_kernel.specs.datapath.LevelWheels.{scheduled, entry_at}
use Rattle.mp_simulation.specs.units.DataLevels.{is_data, changes_of, IsLevelAt}
use Rattle.mp_simulation.specs.units.DataWheels.{data_slot, ahead, HaveLevels}
use Rattle.mp_simulation.proofs.lemmas.bits.TurnLemmas.{turned_at, turned_length}
use Rattle.mp_simulation.proofs.lemmas.units.LevelWheelLemmas.{is_change, changes_each, HoldsIn, HoldsOf, holds_scheduled}

-- the number has data, and a change at a time
abbrev pub has_change : Circuit → (ℕ → ℕ × ℕ) → ℕ → ℕ → Bool
has_change n source x u = late_change n (source x) u && is_data n (source x).0

-- ---- entries of one number

own_in : (k x j l : ℕ) (t : Bool) → (j == k) ≡ t → count_by (is_change k x) ((j, record { number = x; level = l }) ∷ []) ≡ bit t
own_in k x j l true is = let own : (x == x) ≡ true = eq-eqb x x refl in rw (is, own) refl
own_in k x j l false is = rw is refl

none_by : (k x j v l : ℕ) (t : Bool) → (j == k) ≡ t → (v == x) ≡ false → count_by (is_change k x) ((j, record { number = v; level = l }) ∷ []) ≡ 0
none_by k x j v l true is other = rw (is, other) refl
none_by k x j v l false is other = rw is refl

pub counted_entry : (k x d l : ℕ) → count_by (is_change k x) (entry_at (Some x) d l) ≡ bit (d - 1 == k)
counted_entry k x d l = own_in k x (d - 1) l (d - 1 == k) refl

pub no_entry : (k x d l : ℕ) (wire : Option ℕ) → (wire ≡ Some x → ⊥) → count_by (is_change k x) (entry_at wire d l) ≡ 0
no_entry k x d l None other = refl
no_entry k x d l (Some v) other =
    let differs : (v == x) ≡ false = ne_eqb v x (λ e. other (ap (λ (y : ℕ). Some y) e)) in
    none_by k x (d - 1) v l (d - 1 == k) refl differs

-- ---- one unit more

never : (c : Bool) → bit (c && false) ≡ 0
never true = refl
never false = refl

one_more : (c : Bool) → bit (c && false) + bit (c && true) ≡ bit (c && true)
one_more true = refl
one_more false = refl

no_more : (e : Bool) (x : ℕ) → x + bit (e && false) ≡ x
no_more true x = omega arith
no_more false x = omega arith

not_here : (c e : Bool) (d k : ℕ) (low : Bool) → nat_lt k d ≡ low → d - 1 ≢ k → 0 < d → bit (c && nat_lt (k + 1) d) + bit (e && false) ≡ bit (c && nat_lt k d)
not_here c e d k true low other some =
    let within : k < d = grind (arith, nat_tests) in
    let further : k + 1 < d = omega arith in
    let test : nat_lt (k + 1) d ≡ true = grind (arith, nat_tests) in
    no_more e (bit (c && nat_lt (k + 1) d)) ∙ ap (λ b. bit (c && b)) (test ∙ sym low)
not_here c e d k false low other some =
    let beyond : d ≤ k = grind (arith, nat_tests) in
    let test : nat_lt (k + 1) d ≡ false = grind (arith, nat_tests) in
    no_more e (bit (c && nat_lt (k + 1) d)) ∙ ap (λ b. bit (c && b)) (test ∙ sym low)

-- a change that is known so many units before is entered just then
pub one_ahead : (c e : Bool) (d k : ℕ) (entry : Bool) → (d - 1 == k) ≡ entry → 0 < d → (entry ≡ true → e ≡ c) →
    bit (c && nat_lt (k + 1) d) + bit (e && entry) ≡ bit (c && nat_lt k d)
one_ahead c e d k true is some same =
    let here : d - 1 ≡ k = eqb-true (d - 1) k is in
    let was : nat_lt (k + 1) d ≡ false = grind (arith, nat_tests) in
    let now : nat_lt k d ≡ true = grind (arith, nat_tests) in
    ap (λ b. bit (c && b) + bit (e && true)) was
    ∙ ap (λ b. bit (c && false) + bit (b && true)) (same refl)
    ∙ one_more c
    ∙ sym (ap (λ b. bit (c && b)) now)
one_ahead c e d k false is some same = not_here c e d k (nat_lt k d) refl (eqb-false (d - 1) k is) some

-- and one that isn't known before is never entered
pub none_ahead : (c : Bool) (k a count : ℕ) → a ≡ 0 → count ≡ 0 → bit (c && nat_lt (k + 1) a) + count ≡ bit (c && nat_lt k a)
none_ahead c k a count zero_a none =
    let one : nat_lt (k + 1) a ≡ false = grind (arith, nat_tests) in
    let other : nat_lt k a ≡ false = grind (arith, nat_tests) in
    ap (λ b. bit (c && b) + count) one ∙ ap (λ x. bit (c && false) + x) none ∙ (let e = never c in let right : bit (c && false) + 0 ≡ bit (c && false) = omega arith in right)
    ∙ sym (ap (λ b. bit (c && b)) other)

-- of a number without data nothing is entered
pub none_without : (c : Bool) (a b : Bool) (count : ℕ) → count ≡ 0 → bit ((c && false) && a) + count ≡ bit ((c && false) && b)
none_without true a b count none = omega arith
none_without false a b count none = omega arith

-- ---- the slots of the next unit

-- what comes into the slots after t + 1
pub record AreEntered (n : Circuit) (source : ℕ → ℕ × ℕ) (before : ℕ → Option ℕ) (next : List OutputPort) (t : ℕ) (entries : List (ℕ × LevelChange)) : Type 0 where
  pub each : (x k : ℕ) → x < length next →
      bit (has_change n source x (t + 1 + 1 + k) && nat_lt (k + 1) (ahead n before next x)) + count_by (is_change k x) entries ≡
      bit (has_change n source x (t + 1 + 1 + k) && nat_lt k (ahead n before next x))
  pub levels : All (HoldsOf (λ k. IsLevelAt n source (t + 1 + 1 + k))) entries

beyond_by : (c d : Bool) (a k units : ℕ) → (d ≡ true → a ≤ units) → units ≤ k → bit ((c && d) && nat_lt k a) ≡ 0
beyond_by c true a k units far beyond =
    let low = far refl in
    let test : nat_lt k a ≡ false = grind (arith, nat_tests) in
    ap (λ b. bit ((c && true) && b)) test ∙ never (c && true)
beyond_by true false a k units far beyond = refl
beyond_by false false a k units far beyond = refl

module _ (n : Circuit) (source : ℕ → ℕ × ℕ) (before : ℕ → Option ℕ) (next : List OutputPort) (t : ℕ) (slots : List (List LevelChange)) (some : 0 < length slots)
    (have : HaveLevels n source before next t slots) (far : (x : ℕ) → x < length next → is_data n (source x).0 ≡ true → ahead n before next x ≤ length slots) where
  abbrev turned : List (List LevelChange)
  turned = drop 1 slots ++ [] ∷ []

  later_when : (x k : ℕ) (low : Bool) → x < length next → nat_lt (suc k) (length slots) ≡ low →
      changes_of x (data_slot slots (suc k)) ≡ bit (has_change n source x (t + 1 + 1 + k) && nat_lt (k + 1) (ahead n before next x))
  later_when x k true number low =
      let inside : suc k < length slots = grind (arith, nat_tests) in
      let time : t + 1 + suc k ≡ t + 1 + 1 + k = omega arith in
      let e : suc k ≡ k + 1 = omega arith in
      have.each x (suc k) number inside
      ∙ ap (λ u. bit (has_change n source x u && nat_lt (suc k) (ahead n before next x))) time
      ∙ ap (λ j. bit (has_change n source x (t + 1 + 1 + k) && nat_lt j (ahead n before next x))) e
  later_when x k false number low =
      let beyond : length slots ≤ suc k = grind (arith, nat_tests) in
      ap (λ (cs : List LevelChange). changes_of x cs) (get_or-eq_default slots [] beyond)
      ∙ sym (beyond_by (late_change n (source x) (t + 1 + 1 + k)) (is_data n (source x).0) (ahead n before next x) (k + 1) (length slots) (far x number) (omega arith))

  later_each : (x k : ℕ) → x < length next → changes_of x (data_slot (drop 1 slots ++ [] ∷ []) k) ≡ bit (has_change n source x (t + 1 + 1 + k) && nat_lt (k + 1) (ahead n before next x))
  later_each x k number = ap (λ (cs : List LevelChange). changes_of x cs) (turned_at slots k) ∙ later_when x k (nat_lt (suc k) (length slots)) number refl

  later_levels : HoldsIn (λ k. IsLevelAt n source (t + 1 + 1 + k)) (drop 1 slots ++ [] ∷ [])
  later_levels k =
      let time : t + 1 + suc k ≡ t + 1 + 1 + k = omega arith in
      subst (λ (cs : List LevelChange). All (IsLevelAt n source (t + 1 + 1 + k)) cs) (sym (turned_at slots k))
      (subst (λ u. All (IsLevelAt n source u) (data_slot slots (suc k))) time (have.levels (suc k)))

  pub levels_next : (entries : List (ℕ × LevelChange)) → AreEntered n source before next t entries → (new : List (List LevelChange)) →
      new ≡ scheduled (drop 1 slots ++ [] ∷ []) entries → length new ≡ length slots → HaveLevels n source before next (t + 1) new
  levels_next entries are new is units =
      let long = turned_length slots some in
      subst (λ (s : List (List LevelChange)). HaveLevels n source before next (t + 1) s) (sym is) (record {
        each = λ x k number within.
            let same = ap (length {A = List LevelChange}) is in
            changes_each (drop 1 slots ++ [] ∷ []) entries k x (omega arith)
            ∙ ap (λ c. c + count_by (is_change k x) entries) (later_each x k number)
            ∙ are.each x k number;
        levels = holds_scheduled (λ k. IsLevelAt n source (t + 1 + 1 + k)) (drop 1 slots ++ [] ∷ []) entries later_levels are.levels;
      })
