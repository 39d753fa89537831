-- What is held is passed on.
use Rattle.std.proofs.Common.{◌≡◌, ℕ, ◌+◌, ◌<◌, true, List, [], ◌++◌, append_assoc, length, Result, Ok, Err, sym, ap, subst, ◌∙◌, arith}
use Rattle.std.proofs.KnownBytes.{Appends-trans}
use Rattle.std.proofs.lemmas.List.{append-nil, length-append}
use Rattle.mp_streams.specs.declared.failed.Failed.{Failed}
use Rattle.mp_streams.specs.declared.write_error.WriteError.{WriteError}
use Rattle.mp_streams.specs.declared.write_error.WriteError.TheVariants as writes
use Rattle.mp_streams.specs.Outgoing.{Outgoing, Puts}
use Rattle.mp_streams.specs.Outgoing as outs
use Rattle.mp_streams.specs.StreamFaults.{one_more}
use Rattle.mp_streams.specs.WriteErrors.{Writes}
use Rattle.mp_streams.proofs.OutLemmas.{puts_ok, puts_then}

module _ {S : Type 0} (a b c : Outgoing S) (xs : List ℕ) where
  -- of what was held and the text, the rest that neither call lost or passed on is held
  pub both : (f1 l1 f2 l2 : List ℕ) → a.held ++ xs ≡ f1 ++ (b.held ++ l1) → b.held ++ [] ≡ f2 ++ (c.held ++ l2) → a.held ++ xs ≡ (f1 ++ f2) ++ (c.held ++ (l2 ++ l1))
  both f1 l1 f2 l2 first second =
      let split : b.held ≡ f2 ++ (c.held ++ l2) = sym (append-nil b.held) ∙ second in
      first ∙ ap (λ l. f1 ++ (l ++ l1)) split ∙ ap (λ l. f1 ++ l) (append_assoc f2 (c.held ++ l2) l1 ∙ ap (λ l. f2 ++ l) (append_assoc c.held l2 l1))
      ∙ sym (append_assoc f1 f2 (c.held ++ (l2 ++ l1)))

  -- all of it, behind a text
  pub flushed : Writes {T = Unit {0}} (Ok tt) a b xs → outs.Writes {T = Unit {0}} (Ok tt) b c [] → Writes {T = Unit {0}} (Ok tt) a c xs
  flushed first second = subst (Writes {T = Unit {0}} (Ok tt) a c) (append-nil xs) (puts_ok (puts_then first second))

  -- not all of it
  pub unflushed : {error : Failed} → Writes {T = Unit {0}} (Ok tt) a b xs → outs.Writes {T = Unit {0}} (Err error) b c [] → Writes {T = Unit {0}} (Err writes.WriteFailed) a c xs
  unflushed {error = error} first second =
      let put = puts_then first second in
      let whole : Puts {T = Unit {0}} (λ (e : Failed). true) (Err error) a c xs = subst (Puts {T = Unit {0}} (λ (e : Failed). true) (Err error) a c) (append-nil xs) put in
      record { front = whole.front; lost = whole.lost; taken = whole.taken; held = whole.held; ends = whole.ends }

  -- all of it, behind a part of a text for which memory was wanting
  pub flushed_part : Writes {T = Unit {0}} (Err writes.OutOfMemory) a b xs → outs.Writes {T = Unit {0}} (Ok tt) b c [] → Writes {T = Unit {0}} (Err writes.OutOfMemory) a c xs
  flushed_part first second = record {
    front = first.front ++ second.front;
    lost = second.lost ++ first.lost;
    taken = Appends-trans a.taken b.taken c.taken first.front second.front first.taken second.taken;
    held = both first.front first.lost second.front second.lost first.held second.held;
    ends = second.ends.0 ∙ first.ends;
  }

  -- not all of it
  pub unflushed_part : {error : Failed} → Writes {T = Unit {0}} (Err writes.OutOfMemory) a b xs → outs.Writes {T = Unit {0}} (Err error) b c [] → Writes {T = Unit {0}} (Err writes.WriteFailed) a c xs
  unflushed_part {error = error} first second =
      let some : 0 < length second.lost = second.ends.2 in
      record {
        front = first.front ++ second.front;
        lost = second.lost ++ first.lost;
        taken = Appends-trans a.taken b.taken c.taken first.front second.front first.taken second.taken;
        held = both first.front first.lost second.front second.lost first.held second.held;
        ends = (second.ends.0 ∙ ap one_more first.ends, second.ends.1, omega (arith, some, length-append second.lost first.lost));
      }

  -- behind a fault nothing is
  failed_flushed : Writes {T = Unit {0}} (Err writes.WriteFailed) a b xs → outs.Writes {T = Unit {0}} (Ok tt) b c [] → c.held ≡ [] → Writes {T = Unit {0}} (Err writes.WriteFailed) a c xs
  failed_flushed first second none =
      let some : 0 < length first.lost = first.ends.2 in
      record {
        front = first.front ++ second.front;
        lost = second.lost ++ first.lost;
        taken = Appends-trans a.taken b.taken c.taken first.front second.front first.taken second.taken;
        held = both first.front first.lost second.front second.lost first.held second.held;
        ends = (second.ends.0 ∙ first.ends.0, none, omega (arith, some, length-append second.lost first.lost));
      }

  failed_unflushed : {error : Failed} → Writes {T = Unit {0}} (Err writes.WriteFailed) a b xs → outs.Writes {T = Unit {0}} (Err error) b c [] → ⊥
  failed_unflushed {error = error} first second =
      let some : 0 < length second.lost = second.ends.2 in
      let none : 0 ≡ length second.front + (length c.held + length second.lost) =
      sym (ap (λ l. length (l ++ [])) first.ends.1) ∙ ap length second.held ∙ length-append second.front (c.held ++ second.lost)
      ∙ ap (λ n. length second.front + n) (length-append c.held second.lost) in
      omega (arith, some, none)

  -- all of it, however the text ended
  pub passed_on : (r : Result (Unit {0}) WriteError) → Writes r a b xs → outs.Writes {T = Unit {0}} (Ok tt) b c [] → c.held ≡ [] → Writes r a c xs
  passed_on (Ok done) first second none = flushed first second
  passed_on (Err writes.OutOfMemory) first second none = flushed_part first second
  passed_on (Err writes.WriteFailed) first second none = failed_flushed first second none

  -- not all of it
  pub not_passed_on : {error : Failed} (r : Result (Unit {0}) WriteError) → Writes r a b xs → outs.Writes {T = Unit {0}} (Err error) b c [] → Writes {T = Unit {0}} (Err writes.WriteFailed) a c xs
  not_passed_on {error = error} (Ok done) first second = unflushed first second
  not_passed_on {error = error} (Err writes.OutOfMemory) first second = unflushed_part first second
  not_passed_on {error = error} (Err writes.WriteFailed) first second = absurd (failed_unflushed {error = error} first second)
