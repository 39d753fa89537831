-- A command runs as its view does.
use Rattle.std.proofs.Common.{◌≡◌, ◌&&◌, inl, inr, Bool, true, false, ℕ, List, Option, Some, None, Result, Ok, Err, IfSome, IsSomeAnd, is_some, length, nat_le, refl, ap, sym, if◌then◌else◌}
use Rattle.mp_netlist.specs.Circuit.{Circuit}
use Rattle.mp_streams.specs.Outgoing.{Outgoing}
use Rattle.mp_streams.specs.declared.write_error.WriteError.{WriteError}
use Rattle.mp_streams.specs.declared.write_error.WriteError.TheVariants as writes
use Rattle.mp_text.specs.declared.text_error.TextError.{TextError}
use Rattle.mp_commands.specs.command_runs.Clauses.{Ran, RanFrom, WritesOne, counted_netlist, has_valid_crew, lines_of, text_limit, too_long, viewed_opening, with_places, with_wires}
use Rattle.mp_commands.specs.command_runs.Names.{Fresh, after_lines}
use Rattle.mp_commands.specs.command_runs.ViewRuns.{RunsView}
use Rattle.mp_commands.specs.declared.command_runs.options.Options.{Options}
use Rattle.mp_commands.specs.declared.command_runs.run_fault.RunFault.{RunFault}
use Rattle.mp_commands.specs.declared.command_runs.run_fault.RunFault.TheVariants.{ReadFailed, WriteFailed, OutOfMemory}
use Rattle.mp_commands.specs.declared.views.view.View.{View}
use Rattle.mp_commands.specs.views.Views.{view_places, view_text, view_wires}
use Rattle.mp_request.specs.declared.request.Command.{Command}
use Rattle.mpwb.specs.CommandTexts.{has_valid_numbers, places_in, wires_in}
use Rattle.mpwb.specs.CommandRuns.{RunsCommand}

-- ---- what is written

module _ {S : Type 0} {P Q : Circuit → List ℕ → Type 0} (turn : (n : Circuit) (text : List ℕ) → P n text → Q n text) (a b : Outgoing S) where
  wrote_as : (r : Result (Unit {0}) WriteError) (opening : Result Circuit RunFault) → WritesOne r opening P a b → WritesOne r opening Q a b
  wrote_as r (Ok n) h = (h.0, turn n h.0 h.1, h.2)
  wrote_as r (Err fault) h = h

  ran_as : (r : Result (Unit {0}) RunFault) (opening : Result Circuit RunFault) → Ran false r opening P a b → Ran false r opening Q a b
  ran_as (Ok done) opening h = wrote_as (Ok done) opening h
  ran_as (Err WriteFailed) opening h = wrote_as (Err writes.WriteFailed) opening h
  ran_as (Err OutOfMemory) opening (inl none) = inl none
  ran_as (Err OutOfMemory) opening (inr part) = inr (wrote_as (Err writes.OutOfMemory) opening part)
  ran_as (Err fault) opening h = h

from_as : {S : Type 0} {P Q : List ℕ → Type 0} (a b : Outgoing S) (left : Option (List ℕ)) (r : Result (Unit {0}) RunFault) → ((input : List ℕ) → P input → Q input) → RanFrom r left P a b → RanFrom r left Q a b
from_as a b left (Err ReadFailed) turn h = h
from_as a b left r turn h = (h.0, h.1, turn h.0 h.2)

-- ---- how it opens

module _ (names places : List (List ℕ)) where
  -- where a number is out of its range no name is asked for
  unasked : (read : Result Circuit TextError) (valid : Bool) → counted_netlist read (valid && false) ≡ with_places places (with_wires names (counted_netlist read (valid && false)))
  unasked (Err error) valid = refl
  unasked (Ok n) true = refl
  unasked (Ok n) false = refl

  opened_as : (numbers : Bool) (view : Option View) (read : Result Circuit TextError) (valid : Bool) → is_some view ≡ numbers → IfSome view (λ v. view_wires v ≡ names) → IfSome view (λ v. view_places v ≡ places)
      → viewed_opening view (counted_netlist read (valid && is_some view)) ≡ with_places places (with_wires names (counted_netlist read (valid && numbers)))
  opened_as numbers None read valid same wires placed = rw (sym same) (unasked read valid)
  opened_as numbers (Some v) read valid same wires placed = rw (sym same, sym wires, sym placed) refl

-- ---- a command

-- what holds in any case holds where there is a text
pub any_some : {A : Type 0} {P : Type 0} (o : Option A) → P → IfSome o (λ x. P)
any_some None p = tt
any_some (Some x) p = p

module _ {S : Type 0} (command : Command) (options : Options) (view : Option View) (left : Option (List ℕ)) (r : Result (Unit {0}) RunFault) (a b : Outgoing S) where
  texts_as : (view : Option View) (text : Circuit → List ℕ) → IfSome view (λ v. view_text v ≡ text) → (n : Circuit) (t : List ℕ) → IsSomeAnd view (λ v. t ≡ view_text v n) → t ≡ text n
  texts_as None text same n t h = absurd h
  texts_as (Some v) text same n t h = rw (sym same) h

  run_as : (text : Circuit → List ℕ) → is_some view ≡ has_valid_numbers command → IfSome view (λ v. view_text v ≡ text) → IfSome view (λ v. view_wires v ≡ wires_in command) → IfSome view (λ v. view_places v ≡ places_in command)
      → RunsView view (has_valid_crew options) r left a b → RunsCommand command text options r left a b
  run_as text numbers same wires placed runs =
      from_as a b left r
      (λ input ran.
      let opened = ap (λ (o : Result Circuit RunFault). if nat_le (length input) (text_limit input) then o else Err too_long)
      (opened_as (wires_in command) (places_in command) (has_valid_numbers command) view (after_lines 0 Fresh (lines_of input)) (has_valid_crew options) numbers wires placed) in
      ran_as (texts_as view text same) a b r _ (rw opened at ran))
      runs

  -- a command whose view has its text and its names, and is there where its numbers are valid
  pub runs_as : (text : Option (Circuit → List ℕ)) → IfSome text (λ t. is_some view ≡ has_valid_numbers command) → IfSome view (λ v. IfSome text (λ t. view_text v ≡ t))
      → IfSome view (λ v. view_wires v ≡ wires_in command) → IfSome view (λ v. view_places v ≡ places_in command) → RunsView view (has_valid_crew options) r left a b
      → IfSome text (λ t. RunsCommand command t options r left a b)
  runs_as None numbers same wires placed runs = tt
  runs_as (Some text) numbers same wires placed runs = run_as text numbers same wires placed runs
