-- TOGGLE: its outputs take the events of its input in turn.
use Rattle.std.proofs.Common.{◌≡◌, ℕ, zero, suc, ◌+◌, ◌≤◌, Bool, true, false, not, cond, List, refl, ap, ◌∙◌, arith}
use Rattle.std.specs.Prelude.{◌==◌, slice_index}
use Rattle.mp_modules.specs.declared.core_module.CoreModule.TheVariants.{Toggle}
use Rattle.mp_modules.specs.declared.memory.Memory.{Memory}
use Rattle.mp_modules.specs.declared.memory.Client.TheVariants.{Nobody}
use Rattle.mp_modules.specs.Memories.{flipped, seen}
use Rattle.mp_modules.specs.Tables.{settle, step}
use Rattle.mp_modules.specs.Toggle.{turn}
use Rattle.mp_modules.specs.Quiet.{unchanged}
use Rattle.mp_modules.specs.Histories.{state_at, events, input, output}
use Rattle.mp_modules.specs.EventLaws.{DotHasHalfUp, BlankHasHalfDown}
use Rattle.mp_modules.proofs.HistoryLemmas.{bit, change, changed, event_at, holding}

-- the state with these outputs
abbrev pointing : List ℕ → Bool → Bool → Memory
pointing x dot blank = holding x (bit dot) (bit blank) 0 Nobody false false

-- whose turn it is: that of dot where the outputs agree
abbrev is_blanks : Bool → Bool → ℕ
is_blanks dot blank = change (bit dot) (bit blank)

-- the outputs after a unit in which the input has an event or has none, and that one of them had it
record Turned (event dot blank : Bool) (y : List ℕ) (now : Memory) : Type 0 where
  new_dot : Bool
  new_blank : Bool
  is : now ≡ pointing y new_dot new_blank
  both : bit event ≡ change (bit dot) (bit new_dot) + change (bit blank) (bit new_blank)
  lead : is_blanks dot blank + change (bit dot) (bit new_dot) ≡ is_blanks new_dot new_blank + change (bit blank) (bit new_blank)

turned : (event dot blank : Bool) (x y : List ℕ) →
    Turned event dot blank y (seen y (cond event (flipped (turn (pointing x dot blank)) (pointing x dot blank)) (pointing x dot blank)))
turned true true true x y = record { new_dot = false; new_blank = true; is = refl; both = refl; lead = refl }
turned true true false x y = record { new_dot = true; new_blank = true; is = refl; both = refl; lead = refl }
turned true false true x y = record { new_dot = false; new_blank = false; is = refl; both = refl; lead = refl }
turned true false false x y = record { new_dot = true; new_blank = false; is = refl; both = refl; lead = refl }
turned false true true x y = record { new_dot = true; new_blank = true; is = refl; both = refl; lead = refl }
turned false true false x y = record { new_dot = true; new_blank = false; is = refl; both = refl; lead = refl }
turned false false true x y = record { new_dot = false; new_blank = true; is = refl; both = refl; lead = refl }
turned false false false x y = record { new_dot = false; new_blank = false; is = refl; both = refl; lead = refl }

-- after some units dot is ahead of blank by one event where it is blank's turn
record InTurn (x : ℕ → List ℕ) (t : ℕ) : Type 0 where
  dot : Bool
  blank : Bool
  is : state_at Toggle x t ≡ pointing (x t) dot blank
  both : events (input x 0) t ≡ events (output Toggle x 0) t + events (output Toggle x 1) t
  lead : events (output Toggle x 0) t ≡ events (output Toggle x 1) t + is_blanks dot blank

settled : (x : List ℕ) → settle Toggle x ≡ pointing x false false
settled x = rw (unchanged (slice_index x 0)) refl

next : (x : ℕ → List ℕ) (t : ℕ) → InTurn x t → InTurn x (suc t)
next x t r =
    let y = x (suc t) in
    let u = turned (event_at x 0 t) r.dot r.blank (x t) y in
    let is : state_at Toggle x (suc t) ≡ pointing y u.new_dot u.new_blank = ap (λ (m : Memory). step Toggle m y) r.is ∙ u.is in
    let dots = changed 0 r.is is in
    let blanks = changed 1 r.is is in
    let both = u.both in
    let lead = u.lead in
    record { dot = u.new_dot; blank = u.new_blank; is = is; both = omega arith; lead = omega arith }

in_turn : (x : ℕ → List ℕ) (t : ℕ) → InTurn x t
in_turn x zero = record { dot = false; blank = false; is = settled (x 0); both = refl; lead = refl }
in_turn x (suc t) = next x t (in_turn x t)

at_most_one : (b : Bool) → bit b ≤ 1
at_most_one true = omega arith
at_most_one false = omega arith

pub dot_has_half : DotHasHalfUp
dot_has_half x t =
    let r = in_turn x t in
    let few = at_most_one (not (bit r.dot == bit r.blank)) in
    omega arith

pub blank_has_half : BlankHasHalfDown
blank_has_half x t =
    let r = in_turn x t in
    let few = at_most_one (not (bit r.dot == bit r.blank)) in
    omega arith
