-- The input of a source, by what was taken of it.
use Rattle.mp_commands.proofs.lemmas.command_runs.Names.{◌≡◌, ◌<◌, ◌≤◌, ◌+◌, ℕ, IfSome, Bool, false, List, length, Option, Some, None, Err, refl, sym, subst, arith, take_all, length-take, lt-leb, le-leb, Circuit, lines_of, opening_of, with_places, within_size, too_long, fault_of_take, IsInput, HasInput, StaysUnread, Refuses, RunFault, ReadFailed, OutOfMemory, text_limit, taken_of, Result, ◌-◌, ◌++◌, inl, inr, min, take, cases_lt, ap, ◌∙◌, length-append, max_short_text, limit_least, limit_of_front, TakesInput}
use Rattle.mp_streams.specs.declared.take_error.TakeError.{TakeError}
use Rattle.mp_commands.specs.command_runs.OpenedInputs.{StaysShutBy, StaysShutWith, opening_at, opening_with}
use Rattle.std.specs.Io.KnownBytes.{Consumes, IsAtEnd}
use Rattle.std.proofs.KnownBytes.{Consumes-trans}
use Rattle.std.proofs.Math.Seq.{take-append_seam}
use Rattle.mp_streams.proofs.StreamLemmas.{taken_front}

-- the first bytes tell how long the input may be
taken_by : (left : Option (List ℕ)) (first text : List ℕ) → IfSome left (λ bytes. first ≡ take (max_short_text + 1) bytes) → IfSome left (λ bytes. text ≡ take (text_limit first + 1) bytes)
    → IfSome left (λ bytes. text ≡ taken_of bytes)
taken_by None first text front taken = tt
taken_by (Some bytes) first text front taken = taken ∙ ap (λ l. take (l + 1) bytes) (ap text_limit front ∙ limit_of_front (max_short_text + 1) bytes (omega arith))

-- where these are all, or the input may not have more, they are what is taken
pub first_taken : (old new : Option (List ℕ)) (first : List ℕ) → Consumes old new first → length first ≤ max_short_text + 1 → (length first < max_short_text + 1 → IsAtEnd new)
    → IfSome old (λ bytes. first ≡ take (max_short_text + 1) bytes) → min (length first) (text_limit first) ≤ max_short_text → IfSome old (λ bytes. first ≡ taken_of bytes)
first_taken old new first took most end front low = taken_by old first first front (elim (cases_lt max_short_text (length first)) [
  | inl long ↦ let same : max_short_text ≡ text_limit first = omega (arith, low, long, limit_least first) in subst (λ l. IfSome old (λ bytes. first ≡ take (l + 1) bytes)) same front
  | inr few ↦ taken_front old new first (text_limit first + 1) took (omega (arith, few, limit_least first)) (λ less. end (omega (arith, few)))
])

-- else more are taken
pub more_taken : (old mid new : Option (List ℕ)) (first rest : List ℕ) → Consumes old mid first → Consumes mid new rest → length first ≤ max_short_text + 1 → max_short_text < length first
    → length rest ≤ text_limit first - max_short_text → (length rest < text_limit first - max_short_text → IsAtEnd new) → IfSome old (λ bytes. first ≡ take (max_short_text + 1) bytes)
    → IfSome old (λ bytes. first ++ rest ≡ taken_of bytes)
more_taken old mid new first rest took more most long few end front =
    let all = length-append first rest in
    let least = limit_least first in
    taken_by old first (first ++ rest) front
    (taken_front old new (first ++ rest) (text_limit first + 1) (Consumes-trans old mid new first rest took more) (omega arith) (λ less. end (omega arith)))

-- what is taken of an input tells how long it may be
pub limit_taken : (input : List ℕ) → text_limit (taken_of input) ≡ text_limit input
limit_taken input = limit_of_front (text_limit input + 1) input (omega (arith, limit_least input))

-- ---- no more is taken

-- the first bytes are no more than any input may have, and one
pub takes_first : (old new : Option (List ℕ)) (first : List ℕ) → Consumes old new first → length first ≤ max_short_text + 1 → TakesInput old new
takes_first old new first took most = grind (arith, limit_least)

-- and more bytes are no more than the first ones allow
pub takes_more : (old mid new : Option (List ℕ)) (first rest : List ℕ) → Consumes old mid first → Consumes mid new rest → length first ≤ max_short_text + 1
    → length rest ≤ text_limit first - max_short_text → IfSome old (λ bytes. first ≡ take (max_short_text + 1) bytes) → TakesInput old new
takes_more None mid new first rest took more most few front = tt
takes_more (Some bytes) mid new first rest took more most few front =
    let same : text_limit first ≡ text_limit bytes = ap text_limit front ∙ limit_of_front (max_short_text + 1) bytes (omega arith) in
    (first ++ rest, omega (arith, length-append first rest, limit_least first, same, most, few), Consumes-trans (Some bytes) mid new first rest took more)

-- these are as long as a text may be that begins with the first ones, and one byte longer
pub within_limit : (first rest : List ℕ) → max_short_text < length first → length first ≤ max_short_text + 1 → length rest ≤ text_limit first - max_short_text
    → length (first ++ rest) ≤ text_limit (first ++ rest) + 1
within_limit first rest long most few =
    let whole : max_short_text + 1 ≡ length first = omega (arith, long, most) in
    let front : take (max_short_text + 1) (first ++ rest) ≡ first = ap (λ k. take k (first ++ rest)) whole ∙ take-append_seam first rest in
    let same : text_limit first ≡ text_limit (first ++ rest) = ap text_limit (sym front) ∙ limit_of_front (max_short_text + 1) (first ++ rest) (omega arith) in
    omega (arith, length-append first rest, limit_least first, same, most, few)

pub ruleset take_steps = (takes_first, takes_more, limit_least)

-- bytes that are no more than an input may have are all of it
pub short_input : (left : Option (List ℕ)) (text : List ℕ) → IfSome left (λ bytes. text ≡ taken_of bytes) → length text ≤ text_limit text → IsInput left text
short_input left text front short = grind (arith, limit_taken, take_all, length-take)

-- and more bytes are a front of an input that is too long
pub long_input : (left : Option (List ℕ)) (text : List ℕ) → IfSome left (λ bytes. text ≡ taken_of bytes) → text_limit text < length text → length text ≤ text_limit text + 1
    → HasInput left (λ input. text_limit input < length input)
long_input left text front long within = grind (arith, limit_taken, length-take)

-- any input
pub some_input : (Holds : List ℕ → Type 0) (left : Option (List ℕ)) → ((input : List ℕ) → Holds input) → HasInput left Holds
some_input Holds None each = grind arith
some_input Holds (Some bytes) each = grind arith

-- a source that is not taken to its end
pub unread_as : (left : Option (List ℕ)) (error : TakeError) → StaysUnread left (fault_of_take error)
unread_as left error = grind arith

-- ---- how an input opens

module _ (opening : List ℕ → Result Circuit RunFault) where
  pub within_size-long : (input : List ℕ) → text_limit input < length input → within_size opening input ≡ Err too_long
  within_size-long input long = rw (lt-leb (length input) (text_limit input) long) refl

  pub within_size-short : (input : List ℕ) → length input ≤ text_limit input → within_size opening input ≡ opening input
  within_size-short input short = rw (le-leb (length input) (text_limit input) short) refl

-- one that is not read doesn't open
pub shut_unread : (left : Option (List ℕ)) (valid : Bool) (fault : RunFault) → StaysUnread left fault → StaysShutWith left valid fault
shut_unread left valid ReadFailed unread = tt
shut_unread left valid OutOfMemory unread = some_input (λ input. Unit {0}) left (λ input. tt)
shut_unread left valid fault unread =
    let long = unread.1 in
    subst (StaysShutWith left valid) (sym unread.0) (long.0, long.1, within_size-long (λ input. opening_of (lines_of input) valid) long.0 long.2)

-- ---- names of modules and bundles

-- a fault of the text or of a number is told before a name
placed_fault : (names : List (List ℕ)) (fault : RunFault) → with_places names (Err fault) ≡ Err fault
placed_fault names fault = refl

placed_refused : (names : List (List ℕ)) (read : Result Circuit RunFault) (fault : RunFault) → Refuses false read fault → Refuses false (with_places names read) fault
placed_refused names read fault is = grind (arith, placed_fault)

pub shut_at : (names : List (List ℕ)) (left : Option (List ℕ)) (valid : Bool) (fault : RunFault) → StaysShutWith left valid fault → StaysShutBy left (opening_at names valid) fault
shut_at names left valid ReadFailed shut = tt
shut_at names left valid fault shut = (shut.0, shut.1, placed_refused names (opening_with valid shut.0) fault shut.2)
