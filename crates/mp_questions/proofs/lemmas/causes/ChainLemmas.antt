-- Chains of causes.
use Rattle.std.proofs.Common.{◌≡◌, ◌≢◌, ◌⊎◌, ℕ, ◌+◌, ◌-◌, ◌<◌, ◌≤◌, ◌==◌, Bool, true, false, not, cond, List, [], ◌∷◌, length, drop, take, get_or, map, filter, All, Option, Some, None, IsSome, option_map, nat_lt, zero, suc, refl, ap, sym, subst, ◌∙◌, arith, inl, inr}
use Rattle.std.proofs.lemmas.Bool.{cases_lt, eqb-true, eqb-false, lt-ltb}
use Rattle.std.proofs.lemmas.List.{get_or-take}
use Rattle.std.proofs.lemmas.List.Elements.{All-nil, All-cons}
use Rattle.std.proofs.lemmas.Option.{same_Some}
use Rattle.mp_modules.specs.declared.memory.Memory.{Memory}
use Rattle.mp_modules.specs.Memories.{output_of}
use Rattle.mp_modules.specs.Histories.{has_event}
use Rattle.mp_records.specs.declared.ids.WireId.{WireId}
use Rattle.mp_records.specs.declared.ids.ModuleId.{ModuleId}
use Rattle.mp_records.specs.declared.ports.Input.{Input}
use Rattle.mp_records.specs.declared.module_record.ModuleRecord.{ModuleRecord}
use Rattle.mp_records.specs.Outputs.{delay_of}
use Rattle.mp_netlist.specs.declared.driver.Driver.{Driver}
use Rattle.mp_netlist.specs.declared.driver.Driver.TheVariants.{Nothing, Stimulus, Port}
use Rattle.mp_netlist.specs.Circuit.{Circuit, IsCircuit, Drives, wire_at, module_at, stimulus_at}
use Rattle.mp_netlist.specs.Drivers.{driver, stimulus_driver}
use Rattle.mp_netlist.proofs.DriverLemmas.{driven_by, finds_ports}
use Rattle.mp_model.specs.Levels.{initial_of, input_by, inputs_by, driven_level, port_level}
use Rattle.mp_model.specs.Evaluations.{delay_in}
use Rattle.mp_model.specs.Waves.{level, state}
use Rattle.mp_model.proofs.BehaviourLemmas.{satisfies}
use Rattle.mp_model.proofs.EvaluationLemmas.{delay_positive, port_level_is}
use Rattle.mp_model.proofs.QuietLemmas.{same_inputs}
use Rattle.mp_questions.specs.declared.causes.wire_change.WireChange.{WireChange}
use Rattle.mp_questions.specs.declared.causes.input_event.InputEvent.{InputEvent}
use Rattle.mp_questions.specs.causes.Changes.{change_at, last_change}
use Rattle.mp_questions.specs.timing.Events.{last_event}
use Rattle.mp_questions.specs.causes.Causes.{DrivingPort, Cause, Outside, Start, Events, port_at, port_by, driving_port, hears, event_at, events_at, cause_by, cause_of, first_change, followed}
use Rattle.mp_questions.specs.causes.Chains.{chain_from, chain}
use Rattle.mp_questions.specs.causes.Shares.{time_of}
use Rattle.mp_questions.specs.causes.Laws.{IsChange, IsEarlier, Explains, HasCause, AreFalling, TimesFall, IsFirst, IsWhole, GoesBack}
use Rattle.mp_questions.proofs.lemmas.causes.EventLemmas.{no_event_at, event_later, steady_level, hears_is, undriven_level, last_event_is}

-- ---- ports

port_delay_at : (n : Circuit) → IsCircuit n → (m : ModuleId) (p : ℕ) (g : DrivingPort) (slot : Option ModuleRecord) → module_at n m.0 ≡ slot → option_map (port_at m p) slot ≡ Some g → 0 < g.delay
port_delay_at n ok m p g None at e = cc
port_delay_at n ok m p g (Some r) at e =
    let d : delay_of r p ≡ g.delay = ap (λ (x : DrivingPort). x.delay) (same_Some (port_at m p r) g e) in
    let some : 0 < delay_of r p = subst (λ slot. 0 < delay_in slot p) at (delay_positive n ok m.0 p) in
    omega (arith, d, some)

-- a port that drives a wire has a delay
pub port_delay : (n : Circuit) → IsCircuit n → (w : ℕ) (g : DrivingPort) → driving_port n w ≡ Some g → 0 < g.delay
port_delay n ok w g is = by (driver n w) is
  where
    by : (d : Driver) → port_by n d ≡ Some g → 0 < g.delay
    by Nothing e = cc
    by Stimulus e = cc
    by (Port m p) e = port_delay_at n ok m p g (module_at n m.0) refl e

-- ---- what a change follows

-- an input hears a change
record IsHeard (n : Circuit) (u : ℕ) (d : WireChange) : Type 0 where
  input : Input
  heard : hears n u input ≡ true
  is : d ≡ change_at n input.wire (u - input.delay)

first_heard : (n : Circuit) (u : ℕ) (inputs : List Input) (d : WireChange) → first_change (events_at n u inputs) ≡ Some d → IsHeard n u d
first_heard n u [] d e = cc
first_heard n u (i ∷ is) d e = by (hears n u i) refl e (first_heard n u is d)
  where
    by : (b : Bool) → hears n u i ≡ b → first_change (map (event_at n u) (cond b (i ∷ filter (hears n u) is) (filter (hears n u) is))) ≡ Some d
        → (first_change (events_at n u is) ≡ Some d → IsHeard n u d) → IsHeard n u d
    by true has same later = record { input = i; heard = has; is = sym (same_Some (change_at n i.wire (u - i.delay)) d same) }
    by false has same later = later same

-- what a change follows is a change before it, at a time from 1 on
pub record IsFollowed (n : Circuit) (c d : WireChange) : Type 0 where
  pub before : d.time < c.time
  pub from : 0 < d.time
  pub change : IsChange n d

heard_before : (n : Circuit) → IsCircuit n → (c d : WireChange) (g : DrivingPort) → 0 < g.delay → IsHeard n (c.time - g.delay) d → IsFollowed n c d
heard_before n ok c d g some h =
    let u = c.time - g.delay in
    let event : has_event (level n h.input.wire.0) (u - h.input.delay) ≡ true = sym (hears_is n ok u h.input) ∙ h.heard in
    let later = event_later (level n h.input.wire.0) (u - h.input.delay) event in
    let time : d.time ≡ u - h.input.delay = ap (λ (x : WireChange). x.time) h.is in
    record {
      before = omega (arith, time, later, some);
      from = omega (arith, time, later);
      change = subst (IsChange n) (sym h.is) (record { differs = event; level_is = refl });
    }

pub followed_is : (n : Circuit) → IsCircuit n → (c d : WireChange) → followed (cause_of n c) ≡ Some d → IsFollowed n c d
followed_is n ok c d is = by (driving_port n c.wire.0) refl is
  where
    tested : (g : DrivingPort) → 0 < g.delay → (b : Bool) → followed (cond b (Start g) (Events g (events_at n (c.time - g.delay) g.part.inputs))) ≡ Some d → IsFollowed n c d
    tested g some true e = cc
    tested g some false e = heard_before n ok c d g some (first_heard n (c.time - g.delay) g.part.inputs d e)

    by : (g : Option DrivingPort) → driving_port n c.wire.0 ≡ g → followed (cause_by n c.time g) ≡ Some d → IsFollowed n c d
    by None at e = cc
    by (Some g) at e = tested g (port_delay n ok c.wire.0 g at) (c.time == g.delay) e

-- ---- as many steps as there are

abbrev pub HasTime : Option WireChange → Type 0
HasTime None = Unit {0}
HasTime (Some c) = 0 < c.time

pub followed_time : (n : Circuit) → IsCircuit n → (c : WireChange) → 0 < c.time → (next : Option WireChange) → followed (cause_of n c) ≡ next → HasTime next × (time_of next < c.time)
followed_time n ok c some None is = (tt, some)
followed_time n ok c some (Some d) is = let f = followed_is n ok c d is in (f.from, f.before)

-- a chain has no more steps than its time
pub enough : (n : Circuit) → IsCircuit n → (k j : ℕ) (next : Option WireChange) → HasTime next → time_of next ≤ k → time_of next ≤ j → chain_from n k next ≡ chain_from n j next
enough n ok zero zero next has a b = refl
enough n ok zero (suc j) None has a b = refl
enough n ok zero (suc j) (Some c) has a b = absurd (omega (arith, has, a))
enough n ok (suc k) zero None has a b = refl
enough n ok (suc k) zero (Some c) has a b = absurd (omega (arith, has, b))
enough n ok (suc k) (suc j) None has a b = refl
enough n ok (suc k) (suc j) (Some c) has a b =
    let f = followed_time n ok c has (followed (cause_of n c)) refl in
    ap (λ cs. c ∷ cs) (enough n ok k j (followed (cause_of n c)) f.0 (omega (arith, f.1, a)) (omega (arith, f.1, b)))

-- all of a chain
abbrev pub rest : Circuit → Option WireChange → List WireChange
rest n next = chain_from n (time_of next) next

pub rest_step : (n : Circuit) → IsCircuit n → (c : WireChange) → 0 < c.time → rest n (Some c) ≡ c ∷ rest n (followed (cause_of n c))
rest_step n ok c some = by c.time refl
  where
    f : HasTime (followed (cause_of n c)) × (time_of (followed (cause_of n c)) < c.time)
    f = followed_time n ok c some (followed (cause_of n c)) refl

    by : (t : ℕ) → c.time ≡ t → chain_from n t (Some c) ≡ c ∷ rest n (followed (cause_of n c))
    by zero e = absurd (omega (arith, e, some))
    by (suc t) e = ap (λ cs. c ∷ cs) (enough n ok t (time_of (followed (cause_of n c))) (followed (cause_of n c)) f.0 (omega (arith, f.1, e)) (omega arith))

-- ---- the last change

pub record IsLastChange (n : Circuit) (wire : WireId) (t : ℕ) (c : WireChange) : Type 0 where
  pub from : 0 < c.time
  pub within : c.time ≤ t
  pub change : IsChange n c

pub last_change_is : (n : Circuit) (wire : WireId) (t : ℕ) (c : WireChange) → last_change n wire t ≡ Some c → IsLastChange n wire t c
last_change_is n wire t c is = by (last_event (level n wire.0) t) refl is
  where
    by : (o : Option ℕ) → last_event (level n wire.0) t ≡ o → option_map (change_at n wire) o ≡ Some c → IsLastChange n wire t c
    by None at e = cc
    by (Some u) at e =
        let last = last_event_is (level n wire.0) t u at in
        let same : change_at n wire u ≡ c = same_Some (change_at n wire u) c e in
        subst (IsLastChange n wire t) same (record {
          from = event_later (level n wire.0) u last.event;
          within = last.within;
          change = record { differs = last.event; level_is = refl };
        })

pub last_change_time : (n : Circuit) (wire : WireId) (t : ℕ) (next : Option WireChange) → last_change n wire t ≡ next → HasTime next × (time_of next ≤ t)
last_change_time n wire t None is = (tt, omega arith)
last_change_time n wire t (Some c) is = let last = last_change_is n wire t c is in (last.from, last.within)

-- the chain of the last change
pub chain_is : (n : Circuit) → IsCircuit n → (wire : WireId) (t : ℕ) (next : Option WireChange) → last_change n wire t ≡ next → chain n wire t ≡ rest n next
unfolding chain
chain_is n ok wire t next is =
    let time = last_change_time n wire t next is in
    ap (chain_from n t) is ∙ enough n ok t (time_of next) next time.0 time.1 (omega arith)

-- ---- every change has a cause

-- up to its delay a port's wire has its first level
early_level : (n : Circuit) → IsCircuit n → (m p w t : ℕ) (r : ModuleRecord) → module_at n m ≡ Some r → driver n w ≡ Port (record { 0 = m }) p → t < delay_of r p → level n w t ≡ initial_of (wire_at n w)
early_level n ok m p w t r at drives early =
    let less : nat_lt t (delay_of r p) ≡ true = lt-ltb t (delay_of r p) early in
    (satisfies n ok).levels w t
    ∙ ap (λ d. driven_level d n (state n) w t) drives
    ∙ ap (λ slot. port_level (state n) slot m p (initial_of (wire_at n w)) t) at
    ∙ ap (λ (b : Bool). cond b (initial_of (wire_at n w)) (output_of (state n m (t - delay_of r p)) p)) less

-- a change isn't before the delay of its port
never_early : (n : Circuit) → IsCircuit n → (m p w t : ℕ) (r : ModuleRecord) → module_at n m ≡ Some r → driver n w ≡ Port (record { 0 = m }) p → t < delay_of r p → has_event (level n w) t ≡ false
never_early n ok m p w t r at drives early =
    no_event_at (level n w) t (early_level n ok m p w (t - 1) r at drives (omega (arith, early)) ∙ sym (early_level n ok m p w t r at drives early))

-- inputs that hear nothing stay
inputs_stay : (n : Circuit) (u : ℕ) (inputs : List Input) → events_at n (suc u) inputs ≡ [] → map (λ (i : Input). input_by n (level n) i (suc u)) inputs ≡ map (λ (i : Input). input_by n (level n) i u) inputs
inputs_stay n u [] none = refl
inputs_stay n u (i ∷ is) none = by (input_by n (level n) i u == input_by n (level n) i (suc u)) refl none (inputs_stay n u is)
  where
    by : (b : Bool) → (input_by n (level n) i u == input_by n (level n) i (suc u)) ≡ b → map (event_at n (suc u)) (cond (not b) (i ∷ filter (hears n (suc u)) is) (filter (hears n (suc u)) is)) ≡ []
        → (events_at n (suc u) is ≡ [] → map (λ (j : Input). input_by n (level n) j (suc u)) is ≡ map (λ (j : Input). input_by n (level n) j u) is)
        → map (λ (j : Input). input_by n (level n) j (suc u)) (i ∷ is) ≡ map (λ (j : Input). input_by n (level n) j u) (i ∷ is)
    by true same e later =
        ap (λ v. v ∷ map (λ (j : Input). input_by n (level n) j (suc u)) is) (sym (eqb-true (input_by n (level n) i u) (input_by n (level n) i (suc u)) same))
        ∙ ap (λ vs. input_by n (level n) i u ∷ vs) (later e)
    by false same e later = cc

-- a change from a port, later than its delay, follows an event
follows_event : (n : Circuit) → IsCircuit n → (m p w t : ℕ) (r : ModuleRecord) → module_at n m ≡ Some r → driver n w ≡ Port (record { 0 = m }) p → delay_of r p < t
    → has_event (level n w) t ≡ true → events_at n (t - delay_of r p) r.inputs ≡ [] → ⊥
follows_event n ok m p w t r at drives late event none =
    let u = t - delay_of r p - 1 in
    let next : t - delay_of r p ≡ suc u = omega (arith, late) in
    let after : u + 1 ≡ suc u = omega arith in
    let quiet : events_at n (suc u) r.inputs ≡ [] = subst (λ k. events_at n k r.inputs ≡ []) next none in
    let same : inputs_by n (level n) r (u + 1) ≡ inputs_by n (level n) r u = subst (λ k. inputs_by n (level n) r k ≡ inputs_by n (level n) r u) (sym after) (inputs_stay n u r.inputs quiet) in
    let stays = same_inputs n ok m u r at same in
    let now : t ≡ u + 1 + delay_of r p = omega (arith, late) in
    let before : t - 1 ≡ u + delay_of r p = omega (arith, late) in
    let still : level n w (t - 1) ≡ level n w t
    = ap (level n w) before ∙ port_level_is n ok m p w u r at drives ∙ ap (λ (s : Memory). output_of s p) (sym stays) ∙ sym (port_level_is n ok m p w (u + 1) r at drives) ∙ ap (level n w) (sym now) in
    let no = sym event ∙ no_event_at (level n w) t still in
    cc

all_earlier : (n : Circuit) → IsCircuit n → (t d : ℕ) (inputs : List Input) → 0 < d → d < t → All (IsEarlier n t) (events_at n (t - d) inputs)
all_earlier n ok t d [] some late = All-nil (IsEarlier n t)
all_earlier n ok t d (i ∷ is) some late = by (hears n (t - d) i) refl (all_earlier n ok t d is some late)
  where
    by : (b : Bool) → hears n (t - d) i ≡ b → All (IsEarlier n t) (events_at n (t - d) is)
        → All (IsEarlier n t) (map (event_at n (t - d)) (cond b (i ∷ filter (hears n (t - d)) is) (filter (hears n (t - d)) is)))
    by true has others =
        let event : has_event (level n i.wire.0) (t - d - i.delay) ≡ true = sym (hears_is n ok (t - d) i) ∙ has in
        All-cons (IsEarlier n t) (event_at n (t - d) i) (events_at n (t - d) is) (record {
          change = record { differs = event; level_is = refl };
          from = event_later (level n i.wire.0) (t - d - i.delay) event;
          before = omega (arith, some, late);
        }) others
    by false has others = others

some_events : (es : List InputEvent) → (es ≡ [] → ⊥) → 0 < length es
some_events [] none = absurd (none refl)
some_events (e ∷ es) none = omega arith

-- a wire that nothing drives has no event
undriven_still : (n : Circuit) → IsCircuit n → (w t : ℕ) → driver n w ≡ Nothing → has_event (level n w) t ≡ false
undriven_still n ok w t none = steady_level (level n w) (initial_of (wire_at n w)) (λ u. undriven_level n ok w u none) t

-- a change of a wire that no port drives is set from outside
set_from_outside : (n : Circuit) → IsCircuit n → (w t : ℕ) → has_event (level n w) t ≡ true → driving_port n w ≡ None → IsSome (stimulus_at n w)
set_from_outside n ok w t event none = by (driven_by n w)
  where
    standing : (m p : ℕ) (r : ModuleRecord) → module_at n m ≡ Some r → driver n w ≡ Port (record { 0 = m }) p → ⊥
    standing m p r at drives = let found = sym none ∙ ap (port_by n) drives ∙ ap (option_map (port_at (record { 0 = m }) p)) at in cc

    alone : (s : Option (List (ℕ × ℕ))) → stimulus_at n w ≡ s → driver n w ≡ stimulus_driver s → IsSome s
    alone None at is = let no = sym event ∙ undriven_still n ok w t is in cc
    alone (Some changes) at is = refl

    by : ((m p : ℕ) × Drives n m p w) ⊎ (driver n w ≡ stimulus_driver (stimulus_at n w)) → IsSome (stimulus_at n w)
    by (inl found) = absurd (standing found.0 found.1 found.2.part found.2.stands (finds_ports n ok found.0 found.1 w found.2))
    by (inr is) = alone (stimulus_at n w) refl is

-- where a port drives a wire, it is one of a module that stands
pub record IsPortOf (n : Circuit) (w : ℕ) (g : DrivingPort) : Type 0 where
  pub number : ℕ
  pub stands : module_at n g.id.0 ≡ Some g.part
  pub drives : driver n w ≡ Port g.id number
  pub delay : g.delay ≡ delay_of g.part number

port_of_at : (n : Circuit) (w : ℕ) (m : ModuleId) (p : ℕ) (g : DrivingPort) (slot : Option ModuleRecord) → driver n w ≡ Port m p → module_at n m.0 ≡ slot → option_map (port_at m p) slot ≡ Some g → IsPortOf n w g
port_of_at n w m p g None drives at e = cc
port_of_at n w m p g (Some r) drives at e =
    subst (IsPortOf n w) (same_Some (port_at m p r) g e) (record { number = p; stands = at; drives = drives; delay = refl })

pub port_is : (n : Circuit) (w : ℕ) (g : DrivingPort) → driving_port n w ≡ Some g → IsPortOf n w g
port_is n w g is = by (driver n w) refl is
  where
    by : (d : Driver) → driver n w ≡ d → port_by n d ≡ Some g → IsPortOf n w g
    by Nothing at e = cc
    by Stimulus at e = cc
    by (Port m p) at e = port_of_at n w m p g (module_at n m.0) at refl e

pub has_cause : HasCause
has_cause n ok c is = by (driving_port n c.wire.0) refl
  where
    late : (g : DrivingPort) → IsPortOf n c.wire.0 g → c.time ≢ g.delay → g.delay < c.time
    late g port other = elim (cases_lt c.time (delay_of g.part port.number)) as (λ _. g.delay < c.time) [
      | inl early ↦ let no = sym is.differs ∙ never_early n ok g.id.0 port.number c.wire.0 c.time g.part port.stands port.drives early in cc
      | inr past ↦ omega (arith, past, other, port.delay)
    ]

    tested : (g : DrivingPort) → IsPortOf n c.wire.0 g → 0 < g.delay → (b : Bool) → (c.time == g.delay) ≡ b → Explains n c (cond b (Start g) (Events g (events_at n (c.time - g.delay) g.part.inputs)))
    tested g port some true same = eqb-true c.time g.delay same
    tested g port some false other =
        let after : g.delay < c.time = late g port (eqb-false c.time g.delay other) in (
          after,
          some_events (events_at n (c.time - g.delay) g.part.inputs) (λ none.
              follows_event n ok g.id.0 port.number c.wire.0 c.time g.part port.stands port.drives (omega (arith, after, port.delay)) is.differs
              (subst (λ d. events_at n (c.time - d) g.part.inputs ≡ []) port.delay none)),
          all_earlier n ok c.time g.delay g.part.inputs some after,
        )

    by : (g : Option DrivingPort) → driving_port n c.wire.0 ≡ g → Explains n c (cause_by n c.time g)
    by None at = set_from_outside n ok c.wire.0 c.time is.differs at
    by (Some g) at = tested g (port_is n c.wire.0 g at) (port_delay n ok c.wire.0 g at) (c.time == g.delay) refl

-- ---- times fall, back to a first cause

abbrev IsReal : Circuit → Option WireChange → Type 0
IsReal n None = Unit {0}
IsReal n (Some c) = IsChange n c

followed_real : (n : Circuit) → IsCircuit n → (c : WireChange) (next : Option WireChange) → followed (cause_of n c) ≡ next → IsReal n next
followed_real n ok c None is = tt
followed_real n ok c (Some d) is = (followed_is n ok c d is).change

falling_more : (n : Circuit) → IsCircuit n → (k : ℕ) (c : WireChange) (next : Option WireChange) → followed (cause_of n c) ≡ next → AreFalling (chain_from n k next) → AreFalling (c ∷ chain_from n k next)
falling_more n ok zero c next is fall = tt
falling_more n ok (suc k) c None is fall = tt
falling_more n ok (suc k) c (Some d) is fall = ((followed_is n ok c d is).before, fall)

fall_from : (n : Circuit) → IsCircuit n → (k : ℕ) (next : Option WireChange) → IsReal n next → AreFalling (chain_from n k next) × All (IsChange n) (chain_from n k next)
fall_from n ok zero next real = (tt, All-nil (IsChange n))
fall_from n ok (suc k) None real = (tt, All-nil (IsChange n))
fall_from n ok (suc k) (Some c) real =
    let next = followed (cause_of n c) in
    let others = fall_from n ok k next (followed_real n ok c next refl) in
    (falling_more n ok k c next refl others.0, All-cons (IsChange n) c (chain_from n k next) real others.1)

last_change_real : (n : Circuit) (wire : WireId) (t : ℕ) (next : Option WireChange) → last_change n wire t ≡ next → IsReal n next
last_change_real n wire t None is = tt
last_change_real n wire t (Some c) is = (last_change_is n wire t c is).change

pub times_fall : TimesFall
unfolding chain
times_fall n ok wire t = fall_from n ok t (last_change n wire t) (last_change_real n wire t (last_change n wire t) refl)

first_by : (n : Circuit) (c : WireChange) (found : Cause) → Explains n c found → followed found ≡ None → IsFirst found
first_by n c Outside explains none = tt
first_by n c (Start g) explains none = tt
first_by n c (Events g []) explains none = omega (arith, explains.1)
first_by n c (Events g (e ∷ es)) explains none = cc

whole_more : (n : Circuit) → IsCircuit n → (k : ℕ) (c : WireChange) (next : Option WireChange) → IsChange n c → HasTime next → time_of next ≤ k → followed (cause_of n c) ≡ next → IsWhole n (chain_from n k next)
    → IsWhole n (c ∷ chain_from n k next)
whole_more n ok zero c None real has le is whole = first_by n c (cause_of n c) (has_cause n ok c real) is
whole_more n ok zero c (Some d) real has le is whole = absurd (omega (arith, has, le))
whole_more n ok (suc k) c None real has le is whole = first_by n c (cause_of n c) (has_cause n ok c real) is
whole_more n ok (suc k) c (Some d) real has le is whole = whole

whole_from : (n : Circuit) → IsCircuit n → (k : ℕ) (next : Option WireChange) → IsReal n next → HasTime next → time_of next ≤ k → IsWhole n (chain_from n k next)
whole_from n ok zero next real has le = tt
whole_from n ok (suc k) None real has le = tt
whole_from n ok (suc k) (Some c) real has le =
    let next = followed (cause_of n c) in
    let f = followed_time n ok c has next refl in
    let less : time_of next ≤ k = omega (arith, f.1, le) in
    whole_more n ok k c next real f.0 less refl (whole_from n ok k next (followed_real n ok c next refl) f.0 less)

pub goes_back : GoesBack
unfolding chain
goes_back n ok wire t =
    let next = last_change n wire t in
    let time = last_change_time n wire t next refl in
    whole_from n ok t next (last_change_real n wire t next refl) time.0 time.1

-- ---- step by step

drop_head : {X : Type 0} (all : List X) (k : ℕ) (x : X) (xs : List X) → drop k all ≡ x ∷ xs → (k < length all) × ((d : X) → get_or all k d ≡ x) × (drop (k + 1) all ≡ xs)
drop_head {X = X} [] zero x xs e = let no : ⊥ = cc in absurd no
drop_head {X = X} [] (suc k) x xs e = let no : ⊥ = cc in absurd no
drop_head {X = X} (y ∷ ys) zero x xs e = (omega arith, λ d. cc, cc)
drop_head {X = X} (y ∷ ys) (suc k) x xs e =
    let later = drop_head ys k x xs e in
    let next : suc k + 1 ≡ suc (k + 1) = omega arith in
    (omega (arith, later.0), later.1, ap (λ j. drop j (y ∷ ys)) next ∙ later.2)

-- a chain on its way: the change at a place, and what is left behind it
pub record IsStepAt (n : Circuit) (all : List WireChange) (k : ℕ) (c : WireChange) : Type 0 where
  pub within : k < length all
  pub here : (d : WireChange) → get_or all k d ≡ c
  pub left : drop (k + 1) all ≡ rest n (followed (cause_of n c))

pub step_at : (n : Circuit) → IsCircuit n → (all : List WireChange) (k : ℕ) (c : WireChange) → 0 < c.time → drop k all ≡ rest n (Some c) → IsStepAt n all k c
step_at n ok all k c some left =
    let found = drop_head all k c (rest n (followed (cause_of n c))) (left ∙ rest_step n ok c some) in
    record { within = found.0; here = found.1; left = found.2 }

-- among the first of them too
pub first_within : {X : Type 0} (all : List X) (k most : ℕ) → k < most → k < length all → k < length (take most all)
first_within {X = X} all k zero low within = absurd (omega (arith, low))
first_within {X = X} [] k (suc most) low within = absurd (omega (arith, within))
first_within {X = X} (y ∷ ys) zero (suc most) low within = omega arith
first_within {X = X} (y ∷ ys) (suc k) (suc most) low within = omega (arith, first_within ys k most (omega (arith, low)) (omega (arith, within)))

pub first_step : (n : Circuit) (all : List WireChange) (k most : ℕ) (c d : WireChange) → k < most → IsStepAt n all k c → get_or (take most all) k d ≡ c
first_step n all k most c d low is = get_or-take most all k d low ∙ is.here d

-- all of the first are passed
pub none_left : (all : List WireChange) (k : ℕ) → drop k all ≡ [] → length all ≤ k
none_left [] k e = omega arith
none_left (y ∷ ys) zero e = cc
none_left (y ∷ ys) (suc k) e = omega (arith, none_left ys k e)

pub first_fewer : {X : Type 0} (all : List X) (most : ℕ) → length (take most all) ≤ length all
first_fewer {X = X} all zero = omega arith
first_fewer {X = X} [] (suc most) = omega arith
first_fewer {X = X} (y ∷ ys) (suc most) = omega (arith, first_fewer ys most)
