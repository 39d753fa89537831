-- What holds the grants of an ARBITER.
use Rattle.std.proofs.Common.{◌≡◌, ℕ, ◌<◌, ◌⊎◌, inl, inr, Bool, true, false, not, cond, List, [], ◌∷◌, slice_index, zero, suc, refl, ap, sym, subst, ◌∙◌, arith}
use Rattle.mp_modules.specs.declared.memory.Memory.{Memory}
use Rattle.mp_modules.specs.declared.memory.Client.{Client}
use Rattle.mp_modules.specs.declared.memory.Client.TheVariants.{Nobody, First, Second}
use Rattle.mp_modules.specs.Arbiter.{arbiter_step, arbitrated, requested, promoted, released, granted, is_owner_done, is_engaged}
use Rattle.mp_modules.specs.Clients.{is_free, waits, with_waiting}
use Rattle.mp_modules.specs.Memories.{output_of, is_event}
use Rattle.mp_holding.specs.Holding.{where_so, owning_sets, granting_sets, client_at}
use Rattle.mp_holding.specs.Laws.{HasSet, AreSame}
use Rattle.mp_holding.proofs.SetLemmas.{only, where_is, has_where, same_for, no_event, has_cases, has_left, has_right}
use Rattle.mp_holding.proofs.CallLemmas.{flip_other}

-- ---- the parts of a unit

abbrev state : List ℕ → List ℕ → Client → Bool → Bool → Memory
state i o c first second = record { inputs = i; outputs = o; served = c; waiting = record { first = first; second = second } }

-- the owner stays where no done event is its own: its outputs too, and it still owns
record Stays (before after : Memory) : Type 0 where
  outputs : after.outputs ≡ before.outputs
  served : after.served ≡ before.served

owned_request : (client : Client) (event : Bool) (i o : List ℕ) (c : Client) (first second : Bool) → is_free c ≡ false → Stays (state i o c first second) (requested client event (state i o c first second))
owned_request client false i o c first second owned = record { outputs = refl; served = refl }
owned_request client true i o c first second owned = by (is_engaged client (state i o c first second))
  where
    free : (b : Bool) → b ≡ false → Stays (state i o c first second) (cond b (granted client (state i o c first second)) (record (state i o c first second) { waiting = with_waiting client true (record { first = first; second = second }) }))
    free true is = let wrong : ⊥ = cc in absurd wrong
    free false is = record { outputs = refl; served = refl }

    by : (b : Bool) → Stays (state i o c first second) (cond b (state i o c first second) (cond (is_free c) (granted client (state i o c first second)) (record (state i o c first second) { waiting = with_waiting client true (record { first = first; second = second }) })))
    by true = record { outputs = refl; served = refl }
    by false = free (is_free c) owned

-- what a unit does, after the events of both requests
abbrev requests : Bool → Bool → Memory → Memory
requests a b m = requested Second b (requested First a m)

owned_requests : (a b : Bool) (i o : List ℕ) (c : Client) (first second : Bool) → is_free c ≡ false → Stays (state i o c first second) (requests a b (state i o c first second))
owned_requests a b i o c first second owned =
    let one = owned_request First a i o c first second owned in
    let m = requested First a (state i o c first second) in
    let two = owned_request Second b m.inputs m.outputs m.served m.waiting.first m.waiting.second (ap is_free one.served ∙ owned) in
    record { outputs = two.outputs ∙ one.outputs; served = two.served ∙ one.served }

-- ---- a client that doesn't wait and doesn't ask

record FirstQuiet (before after : Memory) : Type 0 where
  output : output_of after 0 ≡ output_of before 0
  waiting : after.waiting.first ≡ false

record SecondQuiet (before after : Memory) : Type 0 where
  output : output_of after 1 ≡ output_of before 1
  waiting : after.waiting.second ≡ false

module _ (i o : List ℕ) where
  first_released : (d e : Bool) (c : Client) (second : Bool) → FirstQuiet (state i o c false second) (released d e (state i o c false second))
  first_released d e c second = by (is_owner_done c d e)
    where
      by : (b : Bool) → FirstQuiet (state i o c false second) (cond b (state i o Nobody false second) (state i o c false second))
      by true = record { output = refl; waiting = refl }
      by false = record { output = refl; waiting = refl }

  first_promoted : (c : Client) (second : Bool) → FirstQuiet (state i o c false second) (promoted (state i o c false second))
  first_promoted Nobody true = record { output = flip_other o 1 0 (λ is. omega (arith, is)); waiting = refl }
  first_promoted Nobody false = record { output = refl; waiting = refl }
  first_promoted First second = record { output = refl; waiting = refl }
  first_promoted Second second = record { output = refl; waiting = refl }

  first_requested : (b : Bool) (c : Client) (second : Bool) → FirstQuiet (state i o c false second) (requested Second b (state i o c false second))
  first_requested false c second = record { output = refl; waiting = refl }
  first_requested true Nobody true = record { output = refl; waiting = refl }
  first_requested true Nobody false = record { output = flip_other o 1 0 (λ is. omega (arith, is)); waiting = refl }
  first_requested true First true = record { output = refl; waiting = refl }
  first_requested true First false = record { output = refl; waiting = refl }
  first_requested true Second second = record { output = refl; waiting = refl }

  second_released : (d e : Bool) (c : Client) (first : Bool) → SecondQuiet (state i o c first false) (released d e (state i o c first false))
  second_released d e c first = by (is_owner_done c d e)
    where
      by : (b : Bool) → SecondQuiet (state i o c first false) (cond b (state i o Nobody first false) (state i o c first false))
      by true = record { output = refl; waiting = refl }
      by false = record { output = refl; waiting = refl }

  second_promoted : (c : Client) (first : Bool) → SecondQuiet (state i o c first false) (promoted (state i o c first false))
  second_promoted Nobody true = record { output = flip_other o 0 1 (λ is. omega (arith, is)); waiting = refl }
  second_promoted Nobody false = record { output = refl; waiting = refl }
  second_promoted First first = record { output = refl; waiting = refl }
  second_promoted Second first = record { output = refl; waiting = refl }

  second_requested : (a : Bool) (c : Client) (first : Bool) → SecondQuiet (state i o c first false) (requested First a (state i o c first false))
  second_requested false c first = record { output = refl; waiting = refl }
  second_requested true Nobody true = record { output = refl; waiting = refl }
  second_requested true Nobody false = record { output = flip_other o 0 1 (λ is. omega (arith, is)); waiting = refl }
  second_requested true Second true = record { output = refl; waiting = refl }
  second_requested true Second false = record { output = refl; waiting = refl }
  second_requested true First first = record { output = refl; waiting = refl }

-- from a state to the next
first_then : (f : Memory → Memory) → ((i o : List ℕ) (c : Client) (second : Bool) → FirstQuiet (state i o c false second) (f (state i o c false second))) → (before m : Memory) → FirstQuiet before m → FirstQuiet before (f m)
first_then f step before m is =
    let free = is.waiting in
    let next : FirstQuiet m (f m) =
    subst (λ (b : Bool). FirstQuiet (state m.inputs m.outputs m.served b m.waiting.second) (f (state m.inputs m.outputs m.served b m.waiting.second))) (sym free) (step m.inputs m.outputs m.served m.waiting.second) in
    record { output = next.output ∙ is.output; waiting = next.waiting }

second_then : (f : Memory → Memory) → ((i o : List ℕ) (c : Client) (first : Bool) → SecondQuiet (state i o c first false) (f (state i o c first false))) → (before m : Memory) → SecondQuiet before m → SecondQuiet before (f m)
second_then f step before m is =
    let free = is.waiting in
    let next : SecondQuiet m (f m) =
    subst (λ (b : Bool). SecondQuiet (state m.inputs m.outputs m.served m.waiting.first b) (f (state m.inputs m.outputs m.served m.waiting.first b))) (sym free) (step m.inputs m.outputs m.served m.waiting.first) in
    record { output = next.output ∙ is.output; waiting = next.waiting }

first_unit : (b d e : Bool) (m : Memory) → m.waiting.first ≡ false → FirstQuiet m (requested Second b (promoted (released d e m)))
first_unit b d e m free =
    first_then (requested Second b) (λ i o c second. first_requested i o b c second) m (promoted (released d e m))
    (first_then promoted (λ i o c second. first_promoted i o c second) m (released d e m)
    (first_then (released d e) (λ i o c second. first_released i o d e c second) m m (record { output = refl; waiting = free })))

second_unit : (a d e : Bool) (m : Memory) → m.waiting.second ≡ false → SecondQuiet m (requested First a (promoted (released d e m)))
second_unit a d e m free =
    second_then (requested First a) (λ i o c first. second_requested i o a c first) m (promoted (released d e m))
    (second_then promoted (λ i o c first. second_promoted i o c first) m (released d e m)
    (second_then (released d e) (λ i o c first. second_released i o d e c first) m m (record { output = refl; waiting = free })))

-- ---- a unit after another

owner_place : (c : Client) (set : List ℕ) → HasSet (owning_sets c) set → ((c ≡ First) × ((2 ∷ []) ≡ set)) ⊎ ((c ≡ Second) × ((3 ∷ []) ≡ set))
owner_place Nobody set never = absurd never
owner_place First set has = inl (refl, only (2 ∷ []) set has)
owner_place Second set has = inr (refl, only (3 ∷ []) set has)

closed : (b : Bool) → not b ≡ true → b ≡ false
closed true is = let wrong : ⊥ = cc in absurd wrong
closed false is = refl

module _ (m : Memory) (x y : List ℕ) (heard : m.inputs ≡ slice_index x 0 ∷ slice_index x 1 ∷ slice_index x 2 ∷ slice_index x 3 ∷ []) where
  abbrev a : Bool
  a = is_event m y 0

  abbrev b : Bool
  b = is_event m y 1

  abbrev d : Bool
  d = is_event m y 2

  abbrev e : Bool
  e = is_event m y 3

  abbrev after : Memory
  after = arbiter_step m y

  quiet : (q : ℕ) → slice_index m.inputs q ≡ slice_index x q → slice_index y q ≡ slice_index x q → is_event m y q ≡ false
  quiet q heard same = no_event (slice_index m.inputs q) (slice_index y q) (same ∙ sym heard)

  -- no done event is the owner's
  owner_stays : (c : Client) → m.served ≡ c → is_free c ≡ false → is_owner_done c d e ≡ false → Stays m after
  owner_stays c is owned done =
      let owned_here : is_free m.served ≡ false = ap is_free is ∙ owned in
      let kept : released d e m ≡ m = ap (λ t. cond t (record m { served = Nobody }) m) (ap (λ k. is_owner_done k d e) is ∙ done) in
      let unmoved : promoted m ≡ m = ap (λ t. cond t (cond m.waiting.first (granted First m) (cond m.waiting.second (granted Second m) m)) m) owned_here in
      let both : promoted (released d e m) ≡ m = ap promoted kept ∙ unmoved in
      let rest = owned_requests a b m.inputs m.outputs m.served m.waiting.first m.waiting.second owned_here in
      let whole : arbitrated m y ≡ requests a b m = ap (requests a b) both in
      record { outputs = ap (λ (s : Memory). s.outputs) whole ∙ rest.outputs; served = ap (λ (s : Memory). s.served) whole ∙ rest.served }

  abbrev Keeps : ℕ → List ℕ → Type 0
  Keeps p set = (output_of after p ≡ output_of m p) × HasSet (granting_sets (client_at p) p after) set

  by_owner : (p : ℕ) (set : List ℕ) → HasSet (owning_sets m.served) set → AreSame set x y → Keeps p set
  by_owner p set has same = by (owner_place m.served set has)
    where
      from : Stays m after → Keeps p set
      from stays = (
        ap (λ (l : List ℕ). slice_index l p) stays.outputs,
        has_left (owning_sets after.served) (where_so (not (waits (client_at p) after.waiting)) (p ∷ [])) set (subst (λ (c : Client). HasSet (owning_sets c) set) (sym stays.served) has),
      )

      by : ((m.served ≡ First) × ((2 ∷ []) ≡ set)) ⊎ ((m.served ≡ Second) × ((3 ∷ []) ≡ set)) → Keeps p set
      by (inl first) = from (owner_stays First first.0 refl (quiet 2 (ap (λ l. slice_index l 2) heard) (same_for (2 ∷ []) set x y first.1 same).0))
      by (inr second) = from (owner_stays Second second.0 refl (quiet 3 (ap (λ l. slice_index l 3) heard) (same_for (3 ∷ []) set x y second.1 same).0))

  pub grant_keeps : (p : ℕ) → p < 2 → (set : List ℕ) → HasSet (granting_sets (client_at p) p m) set → AreSame set x y → Keeps p set
  grant_keeps zero low set has same = by (has_cases (owning_sets m.served) (where_so (not m.waiting.first) (0 ∷ [])) set has)
    where
      by : HasSet (owning_sets m.served) set ⊎ HasSet (where_so (not m.waiting.first) (0 ∷ [])) set → Keeps 0 set
      by (inl owner) = by_owner 0 set owner same
      by (inr request) =
          let is = where_is (not m.waiting.first) (0 ∷ []) set request in
          let silent : a ≡ false = quiet 0 (ap (λ l. slice_index l 0) heard) (same_for (0 ∷ []) set x y is.1 same).0 in
          let unit = first_unit b d e m (closed m.waiting.first is.0) in
          let whole : arbitrated m y ≡ requested Second b (promoted (released d e m)) = ap (λ t. requested Second b (requested First t (promoted (released d e m)))) silent in (
            ap (λ (s : Memory). output_of s 0) whole ∙ unit.output,
            has_right (owning_sets after.served) (where_so (not after.waiting.first) (0 ∷ [])) set
                (has_where (not after.waiting.first) (0 ∷ []) set (ap (λ (s : Memory). not s.waiting.first) whole ∙ ap not unit.waiting) is.1),
          )
  grant_keeps (suc zero) low set has same = by (has_cases (owning_sets m.served) (where_so (not m.waiting.second) (1 ∷ [])) set has)
    where
      by : HasSet (owning_sets m.served) set ⊎ HasSet (where_so (not m.waiting.second) (1 ∷ [])) set → Keeps 1 set
      by (inl owner) = by_owner 1 set owner same
      by (inr request) =
          let is = where_is (not m.waiting.second) (1 ∷ []) set request in
          let silent : b ≡ false = quiet 1 (ap (λ l. slice_index l 1) heard) (same_for (1 ∷ []) set x y is.1 same).0 in
          let unit = second_unit a d e m (closed m.waiting.second is.0) in
          let whole : arbitrated m y ≡ requested First a (promoted (released d e m)) = ap (λ t. requested Second t (requested First a (promoted (released d e m)))) silent in (
            ap (λ (s : Memory). output_of s 1) whole ∙ unit.output,
            has_right (owning_sets after.served) (where_so (not after.waiting.second) (1 ∷ [])) set
                (has_where (not after.waiting.second) (1 ∷ []) set (ap (λ (s : Memory). not s.waiting.second) whole ∙ ap not unit.waiting) is.1),
          )
  grant_keeps (suc (suc p)) low set has same = absurd (omega (arith, low))
