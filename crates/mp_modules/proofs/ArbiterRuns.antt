-- ARBITER over time.
use Rattle.std.proofs.Common.{◌≡◌, ℕ, zero, suc, ◌+◌, ◌≤◌, Bool, true, false, not, List, refl, sym, subst, ap, ◌∙◌, arith}
use Rattle.std.specs.Prelude.{◌&&◌, ◌||◌, slice_index}
use Rattle.mp_modules.specs.declared.core_module.CoreModule.TheVariants.{Arbiter}
use Rattle.mp_modules.specs.declared.memory.Memory.{Memory}
use Rattle.mp_modules.specs.declared.memory.Client.{Client}
use Rattle.mp_modules.specs.declared.memory.Client.TheVariants.{Nobody, First, Second}
use Rattle.mp_modules.specs.Memories.{output_of, seen}
use Rattle.mp_modules.specs.Clients.{is_free}
use Rattle.mp_modules.specs.Arbiter.{is_owner_done, is_done_ignored, is_engaged, is_request_ignored, is_repeat_request, arbitrated}
use Rattle.mp_modules.specs.Tables.{start, settle, step, found}
use Rattle.mp_modules.specs.declared.finding_code.FindingCode.TheVariants as codes
use Rattle.mp_modules.specs.declared.finding_set.FindingSet.{FindingSet}
use Rattle.mp_modules.specs.Findings.{has_code, no_findings, with_code_if}
use Rattle.std.proofs.lemmas.Bool.{both_ways}
use Rattle.mp_modules.specs.QuietArbiter.{promotes, arbitrated_served}
use Rattle.mp_modules.specs.Quiet.{unchanged}
use Rattle.mp_modules.specs.Histories.{state_at, has_event, events, input, output, served}
use Rattle.mp_modules.specs.EventLaws.{GrantsOneAUnit, GrantsWhileFree, OwnsFromGrant, EndsEachGrant, AsksEachGrant, GrantsEachRequest, EndsEachGrantOnce, NobodyWaitsWhileFree}
use Rattle.mp_modules.proofs.HistoryLemmas.{and_few, either, bit, change, event_at}
use Rattle.mp_modules.proofs.ClientLemmas.{first, second}
use Rattle.mp_modules.proofs.ArbiterUnits.{Amid, owned, freed_by, taken, first_asks, second_asks, unit}

record Owns (x : ℕ → List ℕ) (t : ℕ) : Type 0 where
  a : ℕ
  b : ℕ
  owner : Client
  w1 : Bool
  w2 : Bool
  is : state_at Arbiter x t ≡ owned (x t) a b owner w1 w2

settled : (x : List ℕ) → settle Arbiter x ≡ owned x 0 0 Nobody false false
settled x = rw (unchanged (slice_index x 0), unchanged (slice_index x 1)) refl

-- the unit from a time on, after the state then
abbrev unit_of : (x : ℕ → List ℕ) (t : ℕ) (r : Owns x t) →
    let m = owned (x t) r.a r.b r.owner r.w1 r.w2 in
    Amid (x t) r.a r.b (freed_by (is_owner_done r.owner (event_at x 2 t) (event_at x 3 t)) r.owner)
    (bit r.w1 + bit (taken First (event_at x 0 t) (first_asks (event_at x 2 t) (event_at x 3 t) m)))
    (bit r.w2 + bit (taken Second (event_at x 1 t) (second_asks (event_at x 0 t) (event_at x 2 t) (event_at x 3 t) m)))
    (arbitrated m (x (suc t)))
unit_of x t r = unit (event_at x 0 t) (event_at x 1 t) (event_at x 2 t) (event_at x 3 t) (x t) r.a r.b r.owner r.w1 r.w2

owns : (x : ℕ → List ℕ) (t : ℕ) → Owns x t
owns x zero = record { a = 0; b = 0; owner = Nobody; w1 = false; w2 = false; is = settled (x 0) }
owns x (suc t) =
    let r = owns x t in
    let u = unit_of x t r in
    record {
      a = u.a;
      b = u.b;
      owner = u.owner;
      w1 = u.w1;
      w2 = u.w2;
      is = ap (λ (m : Memory). step Arbiter m (x (suc t))) r.is ∙ ap (seen (x (suc t))) u.is;
    }

-- who owns after the done events of the unit
abbrev freed : (ℕ → List ℕ) → ℕ → Memory → Client
freed x t m = freed_by (is_owner_done m.served (event_at x 2 t) (event_at x 3 t)) m.served

-- where nothing is found, just those, and each done event ends an ownership
record IsExact (x : ℕ → List ℕ) (t : ℕ) (m now : Memory) : Type 0 where
  asked_first : change (output_of m 0) (output_of now 0) + bit now.waiting.first ≡ bit m.waiting.first + bit (event_at x 0 t)
  asked_second : change (output_of m 1) (output_of now 1) + bit now.waiting.second ≡ bit m.waiting.second + bit (event_at x 1 t)
  done_first : first m.served ≡ first (freed x t m) + bit (event_at x 2 t)
  done_second : second m.served ≡ second (freed x t m) + bit (event_at x 3 t)

-- what a unit does: who is granted owns, and grants and those who wait are at most those who waited and who ask
record IsFair (x : ℕ → List ℕ) (t : ℕ) (m now : Memory) : Type 0 where
  to_first : change (output_of m 0) (output_of now 0) + first (freed x t m) ≡ first now.served
  to_second : change (output_of m 1) (output_of now 1) + second (freed x t m) ≡ second now.served
  asked_first : change (output_of m 0) (output_of now 0) + bit now.waiting.first ≤ bit m.waiting.first + bit (event_at x 0 t)
  asked_second : change (output_of m 1) (output_of now 1) + bit now.waiting.second ≤ bit m.waiting.second + bit (event_at x 1 t)
  exact : found Arbiter m (x (suc t)) ≡ no_findings → IsExact x t m now

-- where neither is found, neither is so
neither : (done repeat : Bool) →
    with_code_if codes.DoneWithoutGrant done (with_code_if codes.RepeatRequest repeat no_findings) ≡ no_findings → (done ≡ false) × (repeat ≡ false)
neither true true none = absurd (both_ways _ (ap (λ (s : FindingSet). has_code s codes.DoneWithoutGrant) none) refl)
neither true false none = absurd (both_ways _ (ap (λ (s : FindingSet). has_code s codes.DoneWithoutGrant) none) refl)
neither false true none = absurd (both_ways _ (ap (λ (s : FindingSet). has_code s codes.RepeatRequest) none) refl)
neither false false none = (refl, refl)

all_taken : (event engaged : Bool) → (event && engaged) ≡ false → bit (event && not engaged) ≡ bit event
all_taken true true none = absurd (both_ways _ none refl)
all_taken true false none = refl
all_taken false engaged none = refl

-- where no done event is ignored, each ended an ownership
record HasEnded (owner : Client) (d1 d2 : Bool) : Type 0 where
  of_first : first owner ≡ first (freed_by (is_owner_done owner d1 d2) owner) + bit d1
  of_second : second owner ≡ second (freed_by (is_owner_done owner d1 d2) owner) + bit d2

has_ended : (owner : Client) (d1 d2 : Bool) → is_done_ignored owner d1 d2 ≡ false → HasEnded owner d1 d2
has_ended Nobody true d2 none = absurd (both_ways _ none refl)
has_ended Nobody false true none = absurd (both_ways _ none refl)
has_ended Nobody false false none = record { of_first = refl; of_second = refl }
has_ended First d1 true none = absurd (both_ways _ none refl)
has_ended First true false none = record { of_first = refl; of_second = refl }
has_ended First false false none = record { of_first = refl; of_second = refl }
has_ended Second true d2 none = absurd (both_ways _ none refl)
has_ended Second false true none = record { of_first = refl; of_second = refl }
has_ended Second false false none = record { of_first = refl; of_second = refl }

fair_unit : (x : ℕ → List ℕ) (t : ℕ) → IsFair x t (state_at Arbiter x t) (state_at Arbiter x (suc t))
fair_unit x t =
    let y = x (suc t) in
    let r = owns x t in
    let u = unit_of x t r in
    let e1 = event_at x 0 t in
    let e2 = event_at x 1 t in
    let d1 = event_at x 2 t in
    let d2 = event_at x 3 t in
    let m : Memory = owned (x t) r.a r.b r.owner r.w1 r.w2 in
    let few1 = and_few e1 (not (is_engaged First (first_asks d1 d2 m))) in
    let few2 = and_few e2 (not (is_engaged Second (second_asks e1 d1 d2 m))) in
    let exact : found Arbiter m y ≡ no_findings → IsExact x t m (owned y u.a u.b u.owner u.w1 u.w2) = λ none.
    let so = neither (is_done_ignored r.owner d1 d2) (is_repeat_request m y) none in
    let taken = either (is_request_ignored First e1 (first_asks d1 d2 m)) (is_request_ignored Second e2 (second_asks e1 d1 d2 m)) so.1 in
    let all1 = all_taken e1 (is_engaged First (first_asks d1 d2 m)) taken.0 in
    let all2 = all_taken e2 (is_engaged Second (second_asks e1 d1 d2 m)) taken.1 in
    let ended = has_ended r.owner d1 d2 so.0 in
    record {
      asked_first = omega (arith, u.fair.asked_first);
      asked_second = omega (arith, u.fair.asked_second);
      done_first = ended.of_first;
      done_second = ended.of_second;
    } in
    let known : IsFair x t m (owned y u.a u.b u.owner u.w1 u.w2) =
    record {
      to_first = u.fair.to_first;
      to_second = u.fair.to_second;
      asked_first = omega (arith, u.fair.asked_first);
      asked_second = omega (arith, u.fair.asked_second);
      exact = exact;
    } in
    let stepped : IsFair x t m (step Arbiter m y) = subst (λ (n : Memory). IsFair x t m n) (sym (ap (seen y) u.is)) known in
    subst (λ (k : Memory). IsFair x t k (step Arbiter k y)) (sym r.is) stepped

-- at most one of the two owns
one_owner : (owner : Client) → first owner + second owner ≤ 1
one_owner Nobody = omega arith
one_owner First = omega arith
one_owner Second = omega arith

not_both : (p q : Bool) → bit p + bit q ≤ 1 → (p && q) ≡ false
not_both true true most = absurd (omega arith)
not_both true false most = refl
not_both false q most = refl

some : (p q : Bool) → (p || q) ≡ true → 1 ≤ bit p + bit q
some true q is = omega arith
some false true is = omega arith
some false false is = cc

is_first : (owner : Client) → 1 ≤ first owner → owner ≡ First
is_first Nobody h = absurd (omega arith)
is_first First h = refl
is_first Second h = absurd (omega arith)

is_second : (owner : Client) → 1 ≤ second owner → owner ≡ Second
is_second Nobody h = absurd (omega arith)
is_second First h = absurd (omega arith)
is_second Second h = refl

-- an event of a level, as a number
an_event : (p : Bool) → p ≡ true → bit p ≡ 1
an_event p is = ap bit is

pub grants_one_a_unit : GrantsOneAUnit
grants_one_a_unit x zero = refl
grants_one_a_unit x (suc t) =
    let u = fair_unit x t in
    let one = one_owner (served Arbiter x (suc t)) in
    not_both (has_event (output Arbiter x 0) (suc t)) (has_event (output Arbiter x 1) (suc t)) (omega (arith, u.to_first, u.to_second))

-- nobody owned, or the owner's done event freed it
was_free : (done : Bool) (owner : Client) → first (freed_by done owner) + second (freed_by done owner) ≡ 0 → (is_free owner || done) ≡ true
was_free done Nobody none = refl
was_free true First none = refl
was_free false First none = absurd (omega arith)
was_free true Second none = refl
was_free false Second none = absurd (omega arith)

pub grants_while_free : GrantsWhileFree
grants_while_free x zero grant = cc
grants_while_free x (suc t) grant =
    let u = fair_unit x t in
    let one = one_owner (served Arbiter x (suc t)) in
    let granted = some (has_event (output Arbiter x 0) (suc t)) (has_event (output Arbiter x 1) (suc t)) grant in
    was_free (is_owner_done (served Arbiter x t) (event_at x 2 t) (event_at x 3 t)) (served Arbiter x t) (omega (arith, u.to_first, u.to_second))

pub owns_from_grant : OwnsFromGrant
owns_from_grant x zero = ((λ grant. cc), (λ grant. cc))
owns_from_grant x (suc t) =
    let u = fair_unit x t in (
      (λ grant. is_first (served Arbiter x (suc t)) (let one = an_event _ grant in omega (arith, u.to_first))),
      (λ grant. is_second (served Arbiter x (suc t)) (let one = an_event _ grant in omega (arith, u.to_second))),
    )

-- who owned and owns no longer had a done event
first_done : (owner : Client) (d1 d2 : Bool) → first owner ≤ first (freed_by (is_owner_done owner d1 d2) owner) + bit d1
first_done Nobody d1 d2 = omega arith
first_done First true d2 = omega arith
first_done First false d2 = omega arith
first_done Second d1 d2 = omega arith

second_done : (owner : Client) (d1 d2 : Bool) → second owner ≤ second (freed_by (is_owner_done owner d1 d2) owner) + bit d2
second_done Nobody d1 d2 = omega arith
second_done First d1 d2 = omega arith
second_done Second d1 true = omega arith
second_done Second d1 false = omega arith

pub ends_each_grant : EndsEachGrant
ends_each_grant x zero = (omega arith, omega arith)
ends_each_grant x (suc t) =
    let u = fair_unit x t in
    let before = ends_each_grant x t in
    let d1 = first_done (served Arbiter x t) (event_at x 2 t) (event_at x 3 t) in
    let d2 = second_done (served Arbiter x t) (event_at x 2 t) (event_at x 3 t) in
    (omega (arith, u.to_first, before.0), omega (arith, u.to_second, before.1))

-- each port that was granted or waits has asked
record HaveAsked (x : ℕ → List ℕ) (t : ℕ) : Type 0 where
  of_first : events (output Arbiter x 0) t + bit (state_at Arbiter x t).waiting.first ≤ events (input x 0) t
  of_second : events (output Arbiter x 1) t + bit (state_at Arbiter x t).waiting.second ≤ events (input x 1) t

have_asked : (x : ℕ → List ℕ) (t : ℕ) → HaveAsked x t
have_asked x zero =
    let none1 = ap (λ (m : Memory). bit m.waiting.first) (settled (x 0)) in
    let none2 = ap (λ (m : Memory). bit m.waiting.second) (settled (x 0)) in
    record { of_first = omega arith; of_second = omega arith }
have_asked x (suc t) =
    let u = fair_unit x t in
    let before = have_asked x t in
    record { of_first = omega (arith, u.asked_first, before.of_first); of_second = omega (arith, u.asked_second, before.of_second) }

pub asks_each_grant : AsksEachGrant
asks_each_grant x t =
    let asked = have_asked x t in
    (omega (arith, asked.of_first), omega (arith, asked.of_second))

pub grants_each_request : GrantsEachRequest
grants_each_request x zero none =
    let none1 = ap (λ (m : Memory). bit m.waiting.first) (settled (x 0)) in
    let none2 = ap (λ (m : Memory). bit m.waiting.second) (settled (x 0)) in
    (omega arith, omega arith)
grants_each_request x (suc t) none =
    let u = (fair_unit x t).exact (none t (omega arith)) in
    let before = grants_each_request x t (λ k below. none k (omega arith)) in
    (omega (arith, u.asked_first, before.0), omega (arith, u.asked_second, before.1))

pub ends_each_grant_once : EndsEachGrantOnce
ends_each_grant_once x zero none =
    let none1 = ap (λ (m : Memory). first m.served) (settled (x 0)) in
    let none2 = ap (λ (m : Memory). second m.served) (settled (x 0)) in
    (omega arith, omega arith)
ends_each_grant_once x (suc t) none =
    let f = fair_unit x t in
    let u = f.exact (none t (omega arith)) in
    let before = ends_each_grant_once x t (λ k below. none k (omega arith)) in
    (omega (arith, f.to_first, u.done_first, before.0), omega (arith, f.to_second, u.done_second, before.1))

-- in a state in which somebody is served where anybody waits
none_wait : (served : Client) (first_waits second_waits : Bool) → promotes served first_waits second_waits ≡ false → is_free served ≡ true →
    (first_waits || second_waits) ≡ false
none_wait Nobody true second_waits is free = is
none_wait Nobody false second_waits is free = is
none_wait First first_waits second_waits is free = absurd (both_ways _ refl free)
none_wait Second first_waits second_waits is free = absurd (both_ways _ refl free)

pub nobody_waits_while_free : NobodyWaitsWhileFree
nobody_waits_while_free x zero free =
    let m = state_at Arbiter x 0 in
    none_wait m.served m.waiting.first m.waiting.second (arbitrated_served (seen (x 0) (start Arbiter)) (x 0)) free
nobody_waits_while_free x (suc t) free =
    let m = state_at Arbiter x (suc t) in
    none_wait m.served m.waiting.first m.waiting.second (arbitrated_served (state_at Arbiter x t) (x (suc t))) free
