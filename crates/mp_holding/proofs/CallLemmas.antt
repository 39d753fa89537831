-- What holds the outputs of a CALL.
use Rattle.std.proofs.Common.{◌≡◌, ◌≢◌, ℕ, ◌-◌, ◌<◌, ◌⊎◌, inl, inr, Bool, true, false, not, List, [], ◌∷◌, slice_index, set, zero, suc, refl, ap, sym, subst, ◌∙◌, arith}
use Rattle.std.specs.Prelude.{slice_set}
use Rattle.std.proofs.lemmas.List.{get_or-set_other}
use Rattle.mp_modules.specs.declared.memory.Memory.{Memory}
use Rattle.mp_modules.specs.declared.memory.Waiting.{Waiting}
use Rattle.mp_modules.specs.declared.memory.Client.{Client}
use Rattle.mp_modules.specs.declared.memory.Client.TheVariants.{Nobody, First, Second}
use Rattle.mp_modules.specs.Call.{call_step, called, ended}
use Rattle.mp_modules.specs.Clients.{is_free, is_same}
use Rattle.mp_modules.specs.Memories.{output_of, is_event, seen}
use Rattle.mp_holding.specs.Holding.{where_so, calling_sets, returning_sets, call_sets}
use Rattle.mp_holding.specs.Laws.{HasSet, AreSame}
use Rattle.mp_holding.proofs.SetLemmas.{only, where_is, same_for, no_event, has_cases, has_right}

-- a port that another one's event leaves
pub flip_other : (outputs : List ℕ) (q p : ℕ) → p ≢ q → slice_index (slice_set outputs q (1 - slice_index outputs q)) p ≡ slice_index outputs p
flip_other outputs q p other = get_or-set_other outputs q p (1 - slice_index outputs q) 0 other

-- ---- the parts of a unit, by whom the CALL serves

abbrev state : List ℕ → List ℕ → Client → Waiting → Memory
state i o c w = record { inputs = i; outputs = o; served = c; waiting = w }

-- what a unit does, after the events of the first request, the second one and done
abbrev unit : Bool → Bool → Bool → Memory → Memory
unit a b d m = called Second b (called First a (ended d m))

-- without done: whoever is served stays so, and no done output has an event
module _ (i o : List ℕ) (w : Waiting) where
  served_stays : (a b : Bool) (c : Client) → is_free c ≡ false → unit a b false (state i o c w) ≡ state i o c w
  served_stays a b Nobody is = let wrong : ⊥ = cc in absurd wrong
  served_stays true true First is = refl
  served_stays true false First is = refl
  served_stays false true First is = refl
  served_stays false false First is = refl
  served_stays true true Second is = refl
  served_stays true false Second is = refl
  served_stays false true Second is = refl
  served_stays false false Second is = refl

  -- of a done output
  not_done : (a b : Bool) (c : Client) (p : ℕ) → p ≢ 0 → output_of (unit a b false (state i o c w)) p ≡ slice_index o p
  not_done true b Nobody p other = by b
    where
      by : (b : Bool) → output_of (unit true b false (state i o Nobody w)) p ≡ slice_index o p
      by true = flip_other o 0 p other
      by false = flip_other o 0 p other
  not_done false true Nobody p other = flip_other o 0 p other
  not_done false false Nobody p other = refl
  not_done a b First p other = ap (λ (m : Memory). output_of m p) (served_stays a b First refl)
  not_done a b Second p other = ap (λ (m : Memory). output_of m p) (served_stays a b Second refl)

  -- without requests the request output has no event
  no_request : (d : Bool) (c : Client) → output_of (unit false false d (state i o c w)) 0 ≡ slice_index o 0
  no_request false c = refl
  no_request true Nobody = refl
  no_request true First = flip_other o 1 0 (λ is. omega (arith, is))
  no_request true Second = flip_other o 2 0 (λ is. omega (arith, is))

  -- a client that isn't served and doesn't ask
  first_quiet : (b d : Bool) (c : Client) → is_same First c ≡ false → (output_of (unit false b d (state i o c w)) 1 ≡ slice_index o 1) × (is_same First (unit false b d (state i o c w)).served ≡ false)
  first_quiet b d First is = let wrong : ⊥ = cc in absurd wrong
  first_quiet true true Nobody is = (flip_other o 0 1 (λ is. omega (arith, is)), refl)
  first_quiet true false Nobody is = (flip_other o 0 1 (λ is. omega (arith, is)), refl)
  first_quiet false true Nobody is = (refl, refl)
  first_quiet false false Nobody is = (refl, refl)
  first_quiet true true Second is =
      let before = slice_set o 2 (1 - slice_index o 2) in
      (flip_other before 0 1 (λ is. omega (arith, is)) ∙ flip_other o 2 1 (λ is. omega (arith, is)), refl)
  first_quiet true false Second is = (refl, refl)
  first_quiet false true Second is = (flip_other o 2 1 (λ is. omega (arith, is)), refl)
  first_quiet false false Second is = (refl, refl)

  second_quiet : (a d : Bool) (c : Client) → is_same Second c ≡ false → (output_of (unit a false d (state i o c w)) 2 ≡ slice_index o 2) × (is_same Second (unit a false d (state i o c w)).served ≡ false)
  second_quiet a d Second is = let wrong : ⊥ = cc in absurd wrong
  second_quiet true true Nobody is = (flip_other o 0 2 (λ is. omega (arith, is)), refl)
  second_quiet true false Nobody is = (flip_other o 0 2 (λ is. omega (arith, is)), refl)
  second_quiet false true Nobody is = (refl, refl)
  second_quiet false false Nobody is = (refl, refl)
  second_quiet true true First is =
      let before = slice_set o 1 (1 - slice_index o 1) in
      (flip_other before 0 2 (λ is. omega (arith, is)) ∙ flip_other o 1 2 (λ is. omega (arith, is)), refl)
  second_quiet true false First is = (refl, refl)
  second_quiet false true First is = (flip_other o 1 2 (λ is. omega (arith, is)), refl)
  second_quiet false false First is = (refl, refl)

-- ---- the sets

-- done holds a done output whoever is served
has_done : (client : Client) (request : ℕ) (c : Client) → HasSet (returning_sets client request c) (2 ∷ [])
has_done client request Nobody = inr (inl refl)
has_done client request First = inl refl
has_done client request Second = inl refl

-- its request, where it isn't served
has_request : (client : Client) (request : ℕ) (c : Client) → is_same client c ≡ false → HasSet (returning_sets client request c) (request ∷ [])
has_request client request Nobody is = inl refl
has_request client request First is = by (is_same client First) is
  where
    by : (b : Bool) → b ≡ false → HasSet ((2 ∷ []) ∷ where_so (not b) (request ∷ [])) (request ∷ [])
    by true is = let wrong : ⊥ = cc in absurd wrong
    by false is = inr (inl refl)
has_request client request Second is = by (is_same client Second) is
  where
    by : (b : Bool) → b ≡ false → HasSet ((2 ∷ []) ∷ where_so (not b) (request ∷ [])) (request ∷ [])
    by true is = let wrong : ⊥ = cc in absurd wrong
    by false is = inr (inl refl)

-- one of both
which : (client : Client) (request : ℕ) (c : Client) (set : List ℕ) → is_same client Nobody ≡ false → HasSet (returning_sets client request c) set
    → ((2 ∷ []) ≡ set) ⊎ ((is_same client c ≡ false) × ((request ∷ []) ≡ set))
which client request Nobody set real (inl is) = inr (real, is)
which client request Nobody set real (inr (inl is)) = inl is
which client request Nobody set real (inr (inr never)) = absurd never
which client request First set real (inl is) = inl is
which client request First set real (inr later) = by (is_same client First) later
  where
    by : (b : Bool) → HasSet (where_so (not b) (request ∷ [])) set → ((2 ∷ []) ≡ set) ⊎ ((b ≡ false) × ((request ∷ []) ≡ set))
    by true never = absurd never
    by false has = inr (refl, only (request ∷ []) set has)
which client request Second set real (inl is) = inl is
which client request Second set real (inr later) = by (is_same client Second) later
  where
    by : (b : Bool) → HasSet (where_so (not b) (request ∷ [])) set → ((2 ∷ []) ≡ set) ⊎ ((b ≡ false) × ((request ∷ []) ≡ set))
    by true never = absurd never
    by false has = inr (refl, only (request ∷ []) set has)

-- ---- a unit after another

module _ (m : Memory) (x y : List ℕ) (heard : m.inputs ≡ slice_index x 0 ∷ slice_index x 1 ∷ slice_index x 2 ∷ slice_index x 3 ∷ []) where
  abbrev a : Bool
  a = is_event m y 0

  abbrev b : Bool
  b = is_event m y 1

  abbrev d : Bool
  d = is_event m y 2

  quiet : (q : ℕ) → slice_index m.inputs q ≡ slice_index x q → slice_index y q ≡ slice_index x q → is_event m y q ≡ false
  quiet q heard same = no_event (slice_index m.inputs q) (slice_index y q) (same ∙ sym heard)

  quiet_0 : slice_index y 0 ≡ slice_index x 0 → a ≡ false
  quiet_0 = quiet 0 (ap (λ l. slice_index l 0) heard)

  quiet_1 : slice_index y 1 ≡ slice_index x 1 → b ≡ false
  quiet_1 = quiet 1 (ap (λ l. slice_index l 1) heard)

  quiet_2 : slice_index y 2 ≡ slice_index x 2 → d ≡ false
  quiet_2 = quiet 2 (ap (λ l. slice_index l 2) heard)

  abbrev after : Memory
  after = call_step m y

  abbrev Keeps : ℕ → List ℕ → Type 0
  Keeps p set = (output_of after p ≡ output_of m p) × HasSet (call_sets after p) set

  pub call_keeps : (p : ℕ) → p < 3 → (set : List ℕ) → HasSet (call_sets m p) set → AreSame set x y → Keeps p set
  call_keeps zero low set has same =
      by (has_cases (where_so (not (is_free m.served)) (2 ∷ [])) ((0 ∷ 1 ∷ []) ∷ []) set has)
    where
      served : not (is_free m.served) ≡ true → is_free m.served ≡ false
      served is = closed (is_free m.served) is
        where
          closed : (b : Bool) → not b ≡ true → b ≡ false
          closed true is = let wrong : ⊥ = cc in absurd wrong
          closed false is = refl

      by : HasSet (where_so (not (is_free m.served)) (2 ∷ [])) set ⊎ HasSet ((0 ∷ 1 ∷ []) ∷ []) set → Keeps 0 set
      by (inl done) =
          let is = where_is (not (is_free m.served)) (2 ∷ []) set done in
          let stays = quiet_2 (same_for (2 ∷ []) set x y is.1 same).0 in
          let kept : unit a b d m ≡ m = ap (λ e. unit a b e m) stays ∙ served_stays m.inputs m.outputs m.waiting a b m.served (served is.0) in
          (ap (λ (s : Memory). output_of s 0) kept, subst (λ (s : Memory). HasSet (calling_sets s) set) (sym (ap (seen y) kept)) has)
      by (inr requests) =
          let is = only (0 ∷ 1 ∷ []) set requests in
          let stay = same_for (0 ∷ 1 ∷ []) set x y is same in
          let first = quiet_0 stay.0 in
          let second = quiet_1 stay.1.0 in (
            ap (λ e. output_of (unit e b d m) 0) first ∙ ap (λ e. output_of (unit false e d m) 0) second ∙ no_request m.inputs m.outputs m.waiting d m.served,
            has_right (where_so (not (is_free after.served)) (2 ∷ [])) ((0 ∷ 1 ∷ []) ∷ []) set (inl is),
          )
  call_keeps (suc zero) low set has same = by (which First 0 m.served set refl has)
    where
      by : ((2 ∷ []) ≡ set) ⊎ ((is_same First m.served ≡ false) × ((0 ∷ []) ≡ set)) → Keeps 1 set
      by (inl is) =
          let stays = quiet_2 (same_for (2 ∷ []) set x y is same).0 in (
            ap (λ e. output_of (unit a b e m) 1) stays ∙ not_done m.inputs m.outputs m.waiting a b m.served 1 (λ is. omega (arith, is)),
            subst (HasSet (call_sets after 1)) is (has_done First 0 after.served),
          )
      by (inr request) =
          let stays = quiet_0 (same_for (0 ∷ []) set x y request.1 same).0 in
          let keeps = first_quiet m.inputs m.outputs m.waiting b d m.served request.0 in
          let free : is_same First after.served ≡ false = ap (λ e. is_same First (unit e b d m).served) stays ∙ keeps.1 in
          (ap (λ e. output_of (unit e b d m) 1) stays ∙ keeps.0, subst (HasSet (call_sets after 1)) request.1 (has_request First 0 after.served free))
  call_keeps (suc (suc zero)) low set has same = by (which Second 1 m.served set refl has)
    where
      by : ((2 ∷ []) ≡ set) ⊎ ((is_same Second m.served ≡ false) × ((1 ∷ []) ≡ set)) → Keeps 2 set
      by (inl is) =
          let stays = quiet_2 (same_for (2 ∷ []) set x y is same).0 in (
            ap (λ e. output_of (unit a b e m) 2) stays ∙ not_done m.inputs m.outputs m.waiting a b m.served 2 (λ is. omega (arith, is)),
            subst (HasSet (call_sets after 2)) is (has_done Second 1 after.served),
          )
      by (inr request) =
          let stays = quiet_1 (same_for (1 ∷ []) set x y request.1 same).0 in
          let keeps = second_quiet m.inputs m.outputs m.waiting a d m.served request.0 in
          let free : is_same Second after.served ≡ false = ap (λ e. is_same Second (unit a e d m).served) stays ∙ keeps.1 in
          (ap (λ e. output_of (unit a e d m) 2) stays ∙ keeps.0, subst (HasSet (call_sets after 2)) request.1 (has_request Second 1 after.served free))
  call_keeps (suc (suc (suc p))) low set has same = absurd (omega (arith, low))
