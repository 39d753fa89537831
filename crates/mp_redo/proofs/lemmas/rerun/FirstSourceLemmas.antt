-- Where the levels of wires come from at first.
use Rattle.std.proofs.Common.{◌≡◌, ◌≢◌, ◌⊎◌, ℕ, ◌<◌, ◌≤◌, Bool, true, false, not, nat_lt, List, [], ◌∷◌, Option, Some, None, IsSome, is_some, length, refl, ap, sym, subst, ◌∙◌, arith, inl, inr}
use Rattle.std.specs.Prelude.{◌&&◌}
use Rattle.std.proofs.lemmas.Bool.{cases_Bool, cases_eq, cases_lt, both_ways, and_right, le-ltb}
use Rattle.std.proofs.lemmas.List.{get_or_past}
use Rattle.std.proofs.lemmas.Option.{same_Some}
use Rattle.mp_records.specs.declared.ids.ModuleId.{ModuleId}
use Rattle.mp_records.specs.declared.ports.Input.{Input}
use Rattle.mp_netlist.specs.declared.driver.Driver.{Driver}
use Rattle.mp_netlist.specs.declared.driver.Driver.TheVariants.{Nothing, Stimulus, Port}
use Rattle.mp_netlist.specs.Circuit.{Circuit, IsCircuit, wire_at, stimulus_at}
use Rattle.mp_netlist.specs.Drivers.{driver, is_port}
use Rattle.mp_netlist.proofs.DriverLemmas.{finds_ports, finds_only_ports, driven_stands}
use Rattle.mp_modules.specs.automata.Codes.{bit}
use Rattle.mp_kernel.specs.timers.TimerWheels.{never}
use Rattle.mp_simulation.specs.bits.Changes.{change_at}
use Rattle.mp_partition.specs.runs.Marks.{is_marked}
use Rattle.mp_partition.specs.regions.Readers.{Reads}
use Rattle.mp_depend.specs.work.Revisions.{IsDrivenAlike}
use Rattle.mp_active.specs.agreement.Sources.{IsAsBefore, AreSources}
use Rattle.mp_active.specs.excerpt.Excerpts.{is_followed, ArePortsOn}
use Rattle.mp_active.proofs.lemmas.excerpt.KeptLemmas.{stands_within}
use Rattle.mp_active.specs.declared.compare.wire_source.WireSource.{WireSource}
use Rattle.mp_active.specs.declared.compare.comparison.Comparison.{Comparison}
use Rattle.mp_active.specs.compare.Comparing.{off, source_at}
use Rattle.mp_active.specs.compare.Reading.{active_below}
use Rattle.mp_active.specs.compare.First.{IsRenewedBy, AreFirst}
use Rattle.mp_redo.specs.rerun.Following.{AreTails}

-- ---- what isn't known not to be alike is alike

abbrev IsDecided : Type 0 → Type 0
IsDecided P = P ⊎ (P → ⊥)

decided : {P : Type 0} → IsDecided P → ((P → ⊥) → ⊥) → P
decided (inl is) deny = is
decided (inr isnt) deny = absurd (deny isnt)

some_or_not : {A : Type 0} (o : Option A) → IsDecided (IsSome o)
some_or_not o = elim (cases_Bool (is_some o)) as (λ _. IsDecided (IsSome o)) [ inl some ↦ inl some | inr none ↦ inr (λ some. both_ways (is_some o) none some) ]

pair_same : (p q : ℕ × ℕ) → p.0 ≡ q.0 → p.1 ≡ q.1 → p ≡ q
pair_same p q first second = ap (λ k. let v : ℕ × ℕ = (k, p.1) in v) first ∙ ap (λ k. let v : ℕ × ℕ = (q.0, k) in v) second

pairs_or_not : (p q : ℕ × ℕ) → IsDecided (p ≡ q)
pairs_or_not p q = elim (cases_eq p.0 q.0) as (λ _. IsDecided (p ≡ q)) [
  | inl first ↦ elim (cases_eq p.1 q.1) as (λ _. IsDecided (p ≡ q)) [
    | inl second ↦ inl (pair_same p q first second)
    | inr other ↦ inr (λ e. other (ap (λ (v : ℕ × ℕ). v.1) e))
  ]
  | inr other ↦ inr (λ e. other (ap (λ (v : ℕ × ℕ). v.0) e))
]

lists_or_not : (xs ys : List (ℕ × ℕ)) → IsDecided (xs ≡ ys)
lists_or_not [] [] = inl refl
lists_or_not [] (y ∷ ys) = inr (λ e. cc)
lists_or_not (x ∷ xs) [] = inr (λ e. cc)
lists_or_not (x ∷ xs) (y ∷ ys) = elim (pairs_or_not x y) as (λ _. IsDecided (x ∷ xs ≡ y ∷ ys)) [
  | inl first ↦ elim (lists_or_not xs ys) as (λ _. IsDecided (x ∷ xs ≡ y ∷ ys)) [
    | inl rest ↦ inl (ap (λ (v : ℕ × ℕ). v ∷ xs) first ∙ ap (λ (vs : List (ℕ × ℕ)). y ∷ vs) rest)
    | inr other ↦ inr (λ e. other cc)
  ]
  | inr other ↦ inr (λ e. other cc)
]

stimuli_or_not : (one other : Option (List (ℕ × ℕ))) → IsDecided (one ≡ other)
stimuli_or_not None None = inl refl
stimuli_or_not None (Some y) = inr (λ e. cc)
stimuli_or_not (Some x) None = inr (λ e. cc)
stimuli_or_not (Some x) (Some y) = elim (lists_or_not x y) as (λ _. IsDecided (Some x ≡ Some y)) [ inl same ↦ inl (ap (λ (v : List (ℕ × ℕ)). Some v) same) | inr differ ↦ inr (λ e. differ (same_Some x y e)) ]

-- a driver is one that isn't a port, or not
drivers_or_not : (one other : Driver) → is_port other ≡ false → IsDecided (one ≡ other)
drivers_or_not Nothing Nothing portless = inl refl
drivers_or_not Nothing Stimulus portless = inr (λ e. cc)
drivers_or_not Stimulus Nothing portless = inr (λ e. cc)
drivers_or_not Stimulus Stimulus portless = inl refl
drivers_or_not (Port m p) Nothing portless = inr (λ e. cc)
drivers_or_not (Port m p) Stimulus portless = inr (λ e. cc)
drivers_or_not one (Port m p) portless = let none : ⊥ = cc in absurd none

no_port : (d : Driver) (m : ModuleId) (p : ℕ) → is_port d ≡ false → d ≡ Port m p → ⊥
no_port Nothing m p portless e = cc
no_port Stimulus m p portless e = cc
no_port (Port k q) m p portless e = cc

alike_when : (old new : Circuit) (w : ℕ) → is_port (driver new w) ≡ false → ((IsDrivenAlike old new w → ⊥) → ⊥) → IsDrivenAlike old new w
alike_when old new w portless deny = record {
  before = decided (some_or_not (wire_at old w)) (λ none. deny (λ is. none is.before));
  after = decided (some_or_not (wire_at new w)) (λ none. deny (λ is. none is.after));
  one = decided (drivers_or_not (driver old w) (driver new w) portless) (λ none. deny (λ is. none is.one));
  stimulus = decided (stimuli_or_not (stimulus_at old w) (stimulus_at new w)) (λ none. deny (λ is. none is.stimulus));
  part = λ m p drives. absurd (no_port (driver new w) m p portless drives);
}

-- ---- renewed wires

zero_or_never : 0 ≢ never
zero_or_never e = let no : ⊥ = omega (arith, e) in no

renewed_by : (old new : Circuit) (active : List Bool) (w p : ℕ) (m : ModuleId) (d : Driver) → d ≡ Port m p → IsRenewedBy old new active w d → is_marked active m.0 ≡ true
renewed_by old new active w p m Nothing e is = let no : ⊥ = cc in absurd no
renewed_by old new active w p m Stimulus e is = let no : ⊥ = cc in absurd no
renewed_by old new active w p m (Port k q) e is = let same : k ≡ m = cc in subst (λ (j : ModuleId). is_marked active j.0 ≡ true) same is

renews_by : (old new : Circuit) (active : List Bool) (w p : ℕ) (m : ModuleId) (d : Driver) → d ≡ Port m p → is_marked active m.0 ≡ true → IsRenewedBy old new active w d
renews_by old new active w p m Nothing e is = let no : ⊥ = cc in absurd no
renews_by old new active w p m Stimulus e is = let no : ⊥ = cc in absurd no
renews_by old new active w p m (Port k q) e is = let same : k ≡ m = cc in subst (λ (j : ModuleId). is_marked active j.0 ≡ true) (sym same) is

-- a wire that no port drives is renewed where it isn't alike
unlike_by : (old new : Circuit) (active : List Bool) (w : ℕ) (d : Driver) → is_port d ≡ false → (IsDrivenAlike old new w → ⊥) → IsRenewedBy old new active w d
unlike_by old new active w Nothing portless unlike = unlike
unlike_by old new active w Stimulus portless unlike = unlike
unlike_by old new active w (Port m p) portless unlike = let none : ⊥ = cc in absurd none

port_within : (n : Circuit) → IsCircuit n → (w p : ℕ) (m : ModuleId) → driver n w ≡ Port m p → w < length n.wires
port_within n ok w p m drives = stands_within n w (wire_at n w) refl (driven_stands n ok m.0 p w (finds_only_ports n w p m drives))

read_within : (n : Circuit) → IsCircuit n → (m w : ℕ) → Reads n m w → w < length n.wires
read_within n ok m w is =
    let stands = ((ok.modules_ok m is.part is.stands).reads is.input.0 is.port is.input.1).0 in
    stands_within n w (wire_at n w) refl (subst (λ v. is_some (wire_at n v) ≡ true) (ap (λ (i : Input). i.wire.0) is.input.2 ∙ is.wire) stands)

module _ (old new : Circuit) (new_ok : IsCircuit new) (active : List Bool) (inputs : List (List (Option ℕ))) (c : Comparison) (first : AreFirst old new active inputs c) where
  abbrev until : ℕ → ℕ
  until w = (source_at c w).until

  abbrev on : ℕ → Bool
  on w = (source_at c w).is_on

  off_until : (w : ℕ) → length new.wires ≤ w → until w ≡ 0
  off_until w past = ap (λ (s : WireSource). s.until) (get_or_past c.sources.items w off (let long = first.places in omega (arith, past, long)))

  -- it is known always or never
  until_is : (w : ℕ) → (until w ≡ never) ⊎ (until w ≡ 0)
  until_is w = elim (cases_lt w (length new.wires)) as (λ _. (until w ≡ never) ⊎ (until w ≡ 0)) [
    | inl low ↦ elim (first.sources w low).either as (λ _. (until w ≡ never) ⊎ (until w ≡ 0)) [
      | inl is ↦ inl (ap (λ (s : WireSource). s.until) is)
      | inr is ↦ inr (ap (λ (s : WireSource). s.until) is)
    ]
    | inr past ↦ inr (off_until w past)
  ]

  zero_when : (w : ℕ) → (until w ≡ never → ⊥) → until w ≡ 0
  zero_when w deny = elim (until_is w) as (λ _. until w ≡ 0) [ inl is ↦ absurd (deny is) | inr is ↦ is ]

  awake : (w p : ℕ) (m : ModuleId) → driver new w ≡ Port m p → is_marked active m.0 ≡ true → until w ≡ never
  awake w p m drives marked = (first.sources w (port_within new new_ok w p m drives)).never.1 (renews_by old new active w p m (driver new w) drives marked)

  asleep : (w p : ℕ) (m : ModuleId) → driver new w ≡ Port m p → is_marked active m.0 ≡ false → until w ≡ 0
  asleep w p m drives sleeps =
      zero_when w (λ is. both_ways (is_marked active m.0) sleeps (renewed_by old new active w p m (driver new w) drives ((first.sources w (port_within new new_ok w p m drives)).never.0 is)))

  others : (w : ℕ) → is_port (driver new w) ≡ false → (until w ≡ never) ⊎ ((until w ≡ 0) × IsAsBefore old new w)
  others w portless = elim (cases_lt w (length new.wires)) as (λ _. (until w ≡ never) ⊎ ((until w ≡ 0) × IsAsBefore old new w)) [
    | inl low ↦ elim (until_is w) as (λ _. (until w ≡ never) ⊎ ((until w ≡ 0) × IsAsBefore old new w)) [
      | inl is ↦ inl is
      | inr is ↦ inr (is, inl (alike_when old new w portless (λ unlike. zero_or_never (sym is ∙ (first.sources w low).never.1 (unlike_by old new active w (driver new w) portless unlike)))))
    ]
    | inr past ↦ inr (off_until w past, inr past)
  ]

  -- where all sleep that aren't active since time 0
  pub sources : AreSources old new (λ m. is_marked active m) (λ m. 0) until
  sources = record {
    awake = awake;
    asleep = λ w p m r drives sleeps at. asleep w p m drives sleeps;
    others = others;
  }

  -- ---- which wires are on

  -- a wire that has other levels is on
  pub lit : (w : ℕ) → 0 < until w → on w ≡ true
  lit w some = elim (cases_lt w (length new.wires)) as (λ _. on w ≡ true) [
    | inl low ↦ elim (first.sources w low).either as (λ _. on w ≡ true) [
      | inl is ↦ ap (λ (s : WireSource). s.is_on) is
      | inr is ↦ let none = ap (λ (s : WireSource). s.until) is in let no : ⊥ = omega (arith, some, none) in absurd no
    ]
    | inr past ↦ let none = off_until w past in let no : ⊥ = omega (arith, some, none) in absurd no
  ]

  -- so is one that an active module reads
  read_on : (w : ℕ) → w < length new.wires → active_below new (λ m. is_marked active m) inputs c.numbers (length new.modules) w ≡ true → on w ≡ true
  read_on w low read = elim (first.sources w low).either as (λ _. on w ≡ true) [
    | inl is ↦ ap (λ (s : WireSource). s.is_on) is
    | inr is ↦ ap (λ (s : WireSource). s.is_on) is ∙ read
  ]

  pub ports_on : ((m w : ℕ) → is_marked active m ≡ true → Reads new m w → active_below new (λ k. is_marked active k) inputs c.numbers (length new.modules) w ≡ true) → ArePortsOn new (λ m. is_marked active m) on
  ports_on read = record {
    driven = λ m p w marked drives.
        let is = awake w p (record { 0 = m }) (finds_ports new new_ok m p w drives) marked in
        lit w (omega (arith, is));
    read = λ m w marked reads. read_on w (read_within new new_ok m w reads) (read m w marked reads);
  }

  -- ---- changes to come

  -- no module has fallen asleep yet
  no_tail_by : (w u : ℕ) (d : Driver) → driver new w ≡ d → (is_followed (λ m. is_marked active m) d && nat_lt u (until w)) ≡ false
  no_tail_by w u Nothing is = refl
  no_tail_by w u Stimulus is = refl
  no_tail_by w u (Port m p) is = elim (cases_Bool (is_marked active m.0)) as (λ _. (not (is_marked active m.0) && nat_lt u (until w)) ≡ false) [
    | inl marked ↦ ap (λ b. not b && nat_lt u (until w)) marked
    | inr sleeps ↦ ap (λ k. not (is_marked active m.0) && nat_lt u k) (asleep w p m is sleeps) ∙ and_right (not (is_marked active m.0)) (nat_lt u 0) (le-ltb u 0 (omega arith))
  ]

  pub no_tails : AreTails new (λ m. is_marked active m) until 0 []
  no_tails = record {
    listed = tt;
    each = λ w u later. sym (ap (λ b. bit (change_at new w u && b)) (no_tail_by w u (driver new w) refl) ∙ ap bit (and_right (change_at new w u) false refl));
    set = λ k d within. let no : ⊥ = omega (arith, within) in absurd no;
  }
