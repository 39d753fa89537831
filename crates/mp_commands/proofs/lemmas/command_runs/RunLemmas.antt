-- The ends of a run.
use Rattle.mp_commands.proofs.lemmas.command_runs.Names.{◌≡◌, ◌<◌, ◌≤◌, ◌⊎◌, ℕ, inl, inr, Bool, false, List, [], length, Option, Result, Ok, Err, IsErrAnd, refl, sym, subst, arith, length-append, err_from_is_err_and, Circuit, RunFault, ReadFailed, WriteFailed, OutOfMemory, counted_netlist, within_size, fault_of_text, fault_of_write, IsInput, StaysUnread, Refuses, WritesOne, Ran, RanFrom, text_limit, Outgoing}
use Rattle.mp_streams.specs.Outgoing as outs
use Rattle.mp_streams.specs.WriteErrors.{Writes}
use Rattle.mp_streams.specs.declared.failed.Failed.{Failed}
use Rattle.mp_streams.specs.declared.write_error.WriteError.{WriteError}
use Rattle.mp_streams.specs.declared.write_error.WriteError.TheVariants as writes
use Rattle.mp_streams.proofs.FlushLemmas.{both, flushed, unflushed, flushed_part, unflushed_part}
use Rattle.mp_streams.proofs.OutLemmas.{puts_unmade}
use Rattle.mp_text.specs.declared.lexing.line_error.LineError.TheVariants as lines
use Rattle.mp_text.specs.declared.text_code.TextCode.TheVariants as texts
use Rattle.mp_text.specs.declared.text_error.TextError.{TextError}
use Rattle.mp_commands.proofs.lemmas.command_runs.InputLemmas.{some_input, within_size-long, within_size-short}

-- ---- a run that writes nothing

module _ {S : Type 0} (seats : Bool) (opening : Result Circuit RunFault) (IsText : Circuit → List ℕ → Type 0) (a : Outgoing S) where
  refused_by : (fault : RunFault) → Refuses seats opening fault → Ran seats (Err fault) opening IsText a a
  refused_by WriteFailed h = absurd h
  refused_by OutOfMemory h = inl (puts_unmade (Err writes.OutOfMemory) writes.OutOfMemory a [] refl refl)
  refused_by fault h = (h, refl)

  pub refused : (r : Result (Unit {0}) RunFault) (fault : RunFault) → IsErrAnd r (λ f. f ≡ fault) → Refuses seats opening fault → Ran seats r opening IsText a a
  refused r fault is h = let p = err_from_is_err_and r is in rw (p.1, p.2) (refused_by fault h)

-- where nobody sits down, no place is wanting
pub refused_unseated : (seats : Bool) (opening : Result Circuit RunFault) (fault : RunFault) → Refuses false opening fault → Refuses seats opening fault
refused_unseated seats opening fault h = grind arith

-- ---- a run that wrote

module _ {S : Type 0} (seats : Bool) (opening : Result Circuit RunFault) (IsText : Circuit → List ℕ → Type 0) (n : Circuit) (same : opening ≡ Ok n) (text : List ℕ) (is : IsText n text) (a b : Outgoing S) where
  failed_by : (error : WriteError) → Writes {T = Unit {0}} (Err error) a b text → Ran seats (Err (fault_of_write error)) opening IsText a b
  failed_by error put = grind arith

  -- a text
  pub wrote : Writes {T = Unit {0}} (Ok tt) a b text → Ran seats (Ok tt) opening IsText a b
  wrote put = rw same (text, is, put)

  -- a part of one
  pub wrote_part : (r : Result (Unit {0}) RunFault) (error : WriteError) → IsErrAnd r (λ f. f ≡ fault_of_write error) → Writes {T = Unit {0}} (Err error) a b text → Ran seats r opening IsText a b
  wrote_part r error is put = let p = err_from_is_err_and r is in rw (p.1, p.2) (failed_by error put)

-- ---- what is held is passed on

-- nothing can fail where nothing is held
pub nothing_held : {S : Type 0} {error : Failed} (a b c : Outgoing S) → a.held ≡ [] → Writes {T = Unit {0}} (Err writes.OutOfMemory) a b [] → outs.Writes {T = Unit {0}} (Err error) b c [] → ⊥
nothing_held {error = error} a b c none first second =
    let all = both a b c [] first.front first.lost second.front second.lost first.held second.held in
    let some : 0 < length second.lost = second.ends.2 in
    grind (arith, none, all, some, length-append)

module _ {S : Type 0} (opening : Result Circuit RunFault) (IsText : Circuit → List ℕ → Type 0) (a b c : Outgoing S) where
  -- one text becomes another
  passed_on : (o : Result Circuit RunFault) (r s : Result (Unit {0}) WriteError) → ((text : List ℕ) → Writes r a b text → Writes s a c text) → WritesOne r o IsText a b → WritesOne s o IsText a c
  passed_on (Ok n) r s on h = (h.0, h.1, on h.0 h.2)
  passed_on (Err fault) r s on h = h

  module _ (seats : Bool) where
    pub ran_flushed : Ran seats (Ok tt) opening IsText a b → outs.Writes {T = Unit {0}} (Ok tt) b c [] → Ran seats (Ok tt) opening IsText a c
    ran_flushed ran put = passed_on opening (Ok tt) (Ok tt) (λ text first. flushed a b c text first put) ran

    pub ran_unflushed : {error : Failed} → Ran seats (Ok tt) opening IsText a b → outs.Writes {T = Unit {0}} (Err error) b c [] → Ran seats (Err WriteFailed) opening IsText a c
    ran_unflushed ran put = passed_on opening (Ok tt) (Err writes.WriteFailed) (λ text first. unflushed a b c text first put) ran

    pub part_flushed : Ran seats (Err OutOfMemory) opening IsText a b → outs.Writes {T = Unit {0}} (Ok tt) b c [] → Ran seats (Err OutOfMemory) opening IsText a c
    part_flushed (inl none) put = inl (flushed_part a b c [] none put)
    part_flushed (inr part) put = inr (passed_on opening (Err writes.OutOfMemory) (Err writes.OutOfMemory) (λ text first. flushed_part a b c text first put) part)

    pub part_unflushed : {error : Failed} → a.held ≡ [] → Ran seats (Err OutOfMemory) opening IsText a b → outs.Writes {T = Unit {0}} (Err error) b c [] → Ran seats (Err WriteFailed) opening IsText a c
    part_unflushed {error = error} empty (inl none) put = absurd (nothing_held {error = error} a b c empty none put)
    part_unflushed {error = error} empty (inr part) put = passed_on opening (Err writes.OutOfMemory) (Err writes.WriteFailed) (λ text first. unflushed_part a b c text first put) part

-- ---- the input

module _ {S : Type 0} (seats : Bool) (opening : List ℕ → Result Circuit RunFault) (IsText : List ℕ → Circuit → List ℕ → Type 0) (left : Option (List ℕ)) (a : Outgoing S) where
  -- of a source a run was made that ended so
  abbrev RanOf : Outgoing S → Result (Unit {0}) RunFault → Type 0
  RanOf b r = RanFrom r left (λ input. Ran seats r (within_size opening input) (IsText input) a b) a b

  -- what is made of its input is made of the source
  pub from_input : (b : Outgoing S) (r : Result (Unit {0}) RunFault) (input : List ℕ) → IsInput left input → length input ≤ text_limit input → Ran seats r (opening input) (IsText input) a b → RanOf b r
  from_input b r input is short ran = grind (arith, within_size-short)

  unread_by : (fault : RunFault) → StaysUnread left fault → RanOf a (Err fault)
  unread_by ReadFailed unread = refl
  unread_by OutOfMemory unread =
      some_input (λ input. Ran seats (Err OutOfMemory) (within_size opening input) (IsText input) a a) left (λ input. refused_by seats (within_size opening input) (IsText input) a OutOfMemory tt)
  unread_by fault unread =
      let long = unread.1 in
      subst (λ (f : RunFault). RanOf a (Err f)) (sym unread.0) (long.0, long.1, (within_size-long opening long.0 long.2, refl))

  -- a source that is not read
  pub unread_source : (r : Result (Unit {0}) RunFault) (fault : RunFault) → IsErrAnd r (λ f. f ≡ fault) → StaysUnread left fault → RanOf a r
  unread_source r fault is unread = let p = err_from_is_err_and r is in rw (p.1, p.2) (unread_by fault unread)

-- ---- a netlist that is not read

pub refused_text : (read : Result Circuit TextError) (valid : Bool) (error : TextError) → (error.code ≡ texts.Line lines.OutOfMemory) ⊎ (read ≡ Err error) → Refuses false (counted_netlist read valid) (fault_of_text error)
refused_text read valid error h = grind arith
