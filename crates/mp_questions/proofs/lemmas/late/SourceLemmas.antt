-- What leads to a change.
use Rattle.std.proofs.Common.{◌≡◌, ℕ, ◌-◌, ◌<◌, ◌≤◌, ◌==◌, ◌||◌, ◌&&◌, Bool, true, false, cond, List, [], ◌∷◌, ◌++◌, map, filter, Option, Some, None, nat_lt, zero, suc, refl, ap, sym, subst, ◌∙◌, arith}
use Rattle.std.specs.List.{flat_map, filter_map, list_any, cons_option}
use Rattle.std.proofs.lemmas.Bool.{ne_eqb, le-ltb}
use Rattle.std.proofs.lemmas.Option.{same_Some}
use Rattle.std.proofs.lemmas.List.Folds.{list_any-append}
use Rattle.mp_modules.specs.declared.kind.Kind.{Kind}
use Rattle.mp_records.specs.declared.ports.Input.{Input}
use Rattle.mp_netlist.specs.Circuit.{Circuit, IsCircuit}
use Rattle.mp_model.specs.Waves.{level}
use Rattle.mp_questions.specs.declared.causes.wire_change.WireChange.{WireChange}
use Rattle.mp_questions.specs.declared.causes.input_event.InputEvent.{InputEvent}
use Rattle.mp_questions.specs.causes.Changes.{last_change}
use Rattle.mp_questions.specs.causes.Causes.{DrivingPort, Start, Events, driving_port, hears, event_at, events_at, cause_by, cause_of}
use Rattle.mp_questions.proofs.lemmas.causes.EventLemmas.{event_later, hears_is}
use Rattle.mp_questions.proofs.lemmas.causes.ChainLemmas.{port_delay, last_change_is}
use Rattle.mp_questions.specs.late.Sources.{has_memory, sources_by, sources, leading, leads}
use Rattle.mp_questions.specs.late.Lateness.{is_outside, is_excuse, is_excused}
use Rattle.mp_questions.specs.late.Searching.{source_at}

-- ---- the sources, input by input

pub without_memory : (n : Circuit) (u : ℕ) (kind : Kind) (i : Input) → has_memory kind ≡ false → source_at n kind u i ≡ cond (hears n u i) (Some (event_at n u i).change) None
without_memory n u kind i forgets = ap (λ b. cond b (last_change n i.wire (u - i.delay)) (cond (hears n u i) (Some (event_at n u i).change) None)) forgets

pub with_memory : (n : Circuit) (u : ℕ) (kind : Kind) (i : Input) → has_memory kind ≡ true → last_change n i.wire (u - i.delay) ≡ source_at n kind u i
with_memory n u kind i keeps = sym (ap (λ b. cond b (last_change n i.wire (u - i.delay)) (cond (hears n u i) (Some (event_at n u i).change) None)) keeps)

events_by_input : (n : Circuit) (u : ℕ) (inputs : List Input) (kind : Kind) → has_memory kind ≡ false → map (λ (e : InputEvent). e.change) (events_at n u inputs) ≡ filter_map (source_at n kind u) inputs
events_by_input n u [] kind forgets = refl
events_by_input n u (i ∷ is) kind forgets = by (events_by_input n u is kind forgets) (hears n u i) ∙ ap (λ o. cons_option o (filter_map (source_at n kind u) is)) (sym (without_memory n u kind i forgets))
  where
    by : map (λ (e : InputEvent). e.change) (events_at n u is) ≡ filter_map (source_at n kind u) is → (b : Bool) → map (λ (e : InputEvent). e.change) (map (event_at n u) (cond b (i ∷ filter (hears n u) is) (filter (hears n u) is)))
        ≡ cons_option (cond b (Some (event_at n u i).change) None) (filter_map (source_at n kind u) is)
    by later true = ap (λ cs. (event_at n u i).change ∷ cs) later
    by later false = later

last_by_input : (n : Circuit) (u : ℕ) (inputs : List Input) (kind : Kind) → has_memory kind ≡ true → filter_map (λ (i : Input). last_change n i.wire (u - i.delay)) inputs ≡ filter_map (source_at n kind u) inputs
last_by_input n u [] kind keeps = refl
last_by_input n u (i ∷ is) kind keeps =
    ap (λ o. cons_option o (filter_map (λ (k : Input). last_change n k.wire (u - k.delay)) is)) (with_memory n u kind i keeps)
    ∙ ap (cons_option (source_at n kind u i)) (last_by_input n u is kind keeps)

-- what a change that isn't a start comes from
pub sources_are : (n : Circuit) (t : ℕ) (g : DrivingPort) → (t == g.delay) ≡ false → sources_by n t (cause_by n t (Some g)) ≡ filter_map (source_at n g.part.kind (t - g.delay)) g.part.inputs
sources_are n t g later = tested (t == g.delay) later
  where
    by : (b : Bool) → has_memory g.part.kind ≡ b
        → cond b (filter_map (λ (i : Input). last_change n i.wire (t - g.delay - i.delay)) g.part.inputs) (map (λ (e : InputEvent). e.change) (events_at n (t - g.delay) g.part.inputs))
        ≡ filter_map (source_at n g.part.kind (t - g.delay)) g.part.inputs
    by true keeps = last_by_input n (t - g.delay) g.part.inputs g.part.kind keeps
    by false forgets = events_by_input n (t - g.delay) g.part.inputs g.part.kind forgets

    tested : (b : Bool) → b ≡ false → sources_by n t (cond b (Start g) (Events g (events_at n (t - g.delay) g.part.inputs))) ≡ filter_map (source_at n g.part.kind (t - g.delay)) g.part.inputs
    tested true wrong = let none : ⊥ = cc in absurd none
    tested false is = by (has_memory g.part.kind) refl

pub start_sources : (n : Circuit) (t : ℕ) (g : DrivingPort) → (t == g.delay) ≡ true → sources_by n t (cause_by n t (Some g)) ≡ []
start_sources n t g start = ap (λ b. sources_by n t (cond b (Start g) (Events g (events_at n (t - g.delay) g.part.inputs)))) start

-- ---- they come before

-- all changes come before a time
abbrev pub Before : ℕ → List WireChange → Type 0
Before t [] = Unit {0}
Before t (c ∷ cs) = (c.time < t) × Before t cs

-- a change at an input comes before a time, by the delay of the port
pub source_before : (n : Circuit) → IsCircuit n → (kind : Kind) (t d : ℕ) (i : Input) (c : WireChange) → 0 < d → source_at n kind (t - d) i ≡ Some c → (0 < c.time) × (c.time < t)
source_before n ok kind t d i c some is = by (has_memory kind) refl is
  where
    tested : (b : Bool) → hears n (t - d) i ≡ b → cond b (Some (event_at n (t - d) i).change) None ≡ Some c → (0 < c.time) × (c.time < t)
    tested true has e =
        let same : (event_at n (t - d) i).change ≡ c = same_Some (event_at n (t - d) i).change c e in
        let later = event_later (level n i.wire.0) (t - d - i.delay) (sym (hears_is n ok (t - d) i) ∙ has) in
        let time : t - d - i.delay ≡ c.time = ap (λ (x : WireChange). x.time) same in
        (omega (arith, later, time), omega (arith, later, time, some))
    tested false has e = let never : ⊥ = cc in absurd never

    by : (b : Bool) → has_memory kind ≡ b → cond b (last_change n i.wire (t - d - i.delay)) (cond (hears n (t - d) i) (Some (event_at n (t - d) i).change) None) ≡ Some c → (0 < c.time) × (c.time < t)
    by true keeps e = let last = last_change_is n i.wire (t - d - i.delay) c e in (last.from, omega (arith, last.from, last.within, some))
    by false forgets e = tested (hears n (t - d) i) refl e

inputs_before : (n : Circuit) → IsCircuit n → (kind : Kind) (t d : ℕ) (inputs : List Input) → 0 < d → Before t (filter_map (source_at n kind (t - d)) inputs)
inputs_before n ok kind t d [] some = tt
inputs_before n ok kind t d (i ∷ is) some = by (inputs_before n ok kind t d is some) (source_at n kind (t - d) i) refl
  where
    by : Before t (filter_map (source_at n kind (t - d)) is) → (o : Option WireChange) → source_at n kind (t - d) i ≡ o → Before t (cons_option o (filter_map (source_at n kind (t - d)) is))
    by later None at = later
    by later (Some c) at = ((source_before n ok kind t d i c some at).1, later)

pub sources_before : (n : Circuit) → IsCircuit n → (c : WireChange) → Before c.time (sources n c)
sources_before n ok c = by (driving_port n c.wire.0) refl
  where
    tested : (g : DrivingPort) → 0 < g.delay → (b : Bool) → (c.time == g.delay) ≡ b → Before c.time (sources_by n c.time (cause_by n c.time (Some g)))
    tested g some true start = subst (Before c.time) (sym (start_sources n c.time g start)) tt
    tested g some false later = subst (Before c.time) (sym (sources_are n c.time g later)) (inputs_before n ok g.part.kind c.time g.delay g.part.inputs some)

    by : (g : Option DrivingPort) → driving_port n c.wire.0 ≡ g → Before c.time (sources_by n c.time (cause_by n c.time g))
    by None at = tt
    by (Some g) at = tested g (port_delay n ok c.wire.0 g at) (c.time == g.delay) refl

-- ---- as many steps as there are

same_leading : (n : Circuit) (j k t : ℕ) (cs : List WireChange) → Before t cs → ((c : WireChange) → c.time < t → leading n j c ≡ leading n k c) → flat_map (leading n j) cs ≡ flat_map (leading n k) cs
same_leading n j k t [] before same = refl
same_leading n j k t (c ∷ cs) before same = ap (λ l. l ++ flat_map (leading n j) cs) (same c before.0) ∙ ap (λ l. leading n k c ++ l) (same_leading n j k t cs before.1 same)

none_before : (n : Circuit) (k t : ℕ) (cs : List WireChange) → Before t cs → t ≤ 0 → flat_map (leading n k) cs ≡ []
none_before n k t [] before none = refl
none_before n k t (c ∷ cs) before none = absurd (omega (arith, before.0, none))

alone : (n : Circuit) → IsCircuit n → (k : ℕ) (c : WireChange) → c.time ≤ 0 → leading n k c ≡ c ∷ []
alone n ok zero c none = refl
alone n ok (suc k) c none = ap (λ l. c ∷ l) (none_before n k c.time (sources n c) (sources_before n ok c) none)

-- what leads to a change takes no more steps than its time
pub enough : (n : Circuit) → IsCircuit n → (j k : ℕ) (c : WireChange) → c.time ≤ j → c.time ≤ k → leading n j c ≡ leading n k c
enough n ok zero k c a b = sym (alone n ok k c a)
enough n ok (suc j) zero c a b = alone n ok (suc j) c b
enough n ok (suc j) (suc k) c a b =
    ap (λ l. c ∷ l) (same_leading n j k c.time (sources n c) (sources_before n ok c) (λ d less. enough n ok j k d (omega (arith, less, a)) (omega (arith, less, b))))

-- a change and what leads to its sources
pub leads_step : (n : Circuit) → IsCircuit n → (c : WireChange) → leads n c ≡ c ∷ flat_map (leads n) (sources n c)
leads_step n ok c = enough n ok c.time (suc c.time) c (omega arith) (omega arith) ∙ ap (λ l. c ∷ l) (each (sources n c) (sources_before n ok c))
  where
    each : (cs : List WireChange) → Before c.time cs → flat_map (leading n c.time) cs ≡ flat_map (leads n) cs
    each [] before = refl
    each (d ∷ ds) before = ap (λ l. l ++ flat_map (leading n c.time) ds) (enough n ok c.time d.time d (omega (arith, before.0)) (omega arith)) ∙ ap (λ l. leads n d ++ l) (each ds before.1)

-- ---- excuses

any_of_each : {A : Type 0} (p : A → Bool) (f : A → List A) (xs : List A) → list_any p (flat_map f xs) ≡ list_any (λ x. list_any p (f x)) xs
any_of_each p f [] = refl
any_of_each p f (x ∷ xs) = list_any-append p (f x) (flat_map f xs) ∙ ap (λ b. list_any p (f x) || b) (any_of_each p f xs)

-- a change has an excuse where it is one, or one of its sources has one
pub excused_step : (n : Circuit) → IsCircuit n → (w r : ℕ) (c : WireChange) → is_excused n w r c ≡ (is_excuse n w r c || list_any (is_excused n w r) (sources n c))
excused_step n ok w r c = ap (list_any (is_excuse n w r)) (leads_step n ok c) ∙ ap (λ b. is_excuse n w r c || b) (any_of_each (is_excuse n w r) (leads n) (sources n c))

early_is_none : (n : Circuit) (w r : ℕ) (c : WireChange) → c.time < r → is_excuse n w r c ≡ false
early_is_none n w r c early =
    let other : (c.time == r) ≡ false = ne_eqb c.time r (λ e. absurd (omega (arith, e, early))) in
    let not_after : nat_lt r c.time ≡ false = le-ltb r c.time (omega (arith, early)) in
    ap (λ b. (c.wire.0 == w && b) || (nat_lt r c.time && is_outside (cause_of n c))) other
    ∙ ap (λ b. (c.wire.0 == w && false) || (b && is_outside (cause_of n c))) not_after ∙ by (c.wire.0 == w)
  where
    by : (b : Bool) → ((b && false) || false) ≡ false
    by true = refl
    by false = refl

none_of : (n : Circuit) (w r t : ℕ) (cs : List WireChange) → Before t cs → ((d : WireChange) → d.time < t → is_excused n w r d ≡ false) → list_any (is_excused n w r) cs ≡ false
none_of n w r t [] before none = refl
none_of n w r t (c ∷ cs) before none = ap (λ b. b || list_any (is_excused n w r) cs) (none c before.0) ∙ none_of n w r t cs before.1 none

early_upto : (n : Circuit) → IsCircuit n → (w r k : ℕ) (c : WireChange) → c.time ≤ k → c.time < r → is_excused n w r c ≡ false
early_upto n ok w r zero c le early =
    excused_step n ok w r c ∙ ap (λ b. b || list_any (is_excused n w r) (sources n c)) (early_is_none n w r c early)
    ∙ none_of n w r c.time (sources n c) (sources_before n ok c) (λ d less. absurd (omega (arith, less, le)))
early_upto n ok w r (suc k) c le early =
    excused_step n ok w r c ∙ ap (λ b. b || list_any (is_excused n w r) (sources n c)) (early_is_none n w r c early)
    ∙ none_of n w r c.time (sources n c) (sources_before n ok c) (λ d less. early_upto n ok w r k d (omega (arith, less, le)) (omega (arith, less, early)))

-- a change before the request has none
pub early_unexcused : (n : Circuit) → IsCircuit n → (w r : ℕ) (c : WireChange) → c.time < r → is_excused n w r c ≡ false
early_unexcused n ok w r c early = early_upto n ok w r c.time c (omega arith) early
