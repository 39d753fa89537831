use Rattle.std.proofs.Common.{◌≡◌, ◌+◌, ◌-◌, ◌<◌, ◌++◌, length, drop, arith, ◌∙◌, subst, ℕ}
use Rattle.std.proofs.lemmas.List.{get_or-set_other, length-set}
use Rattle.std.proofs.lemmas.List.Elements.{All-take}
use Rattle.mp_phase.specs.Allowed.{IsAllowed}
use Rattle.mp_phase.specs.Lines.{all_asked}
use Rattle.mp_phase.proofs.MailboxLemmas.{one_asked}
use Rattle.mp_phase.proofs.phase.ask_all.Goals as goal

pub loop-place-preserved : goal.loop-place-preserved
loop-place-preserved g c =
    let p = c.loop-place.place - 1 in
    let tasks = c.args.tasks.items in
    let mailboxes = c.loop-place.mailboxes in
    let rest = c.loop-place.rest.items in
    let next : c.loop-place.place ≡ p + 1 = omega arith in
    let within : p < length mailboxes = omega arith in
    record {
      within = omega (arith, length-set mailboxes p c.ask.new.self);
      asked = one_asked p _ mailboxes c.ask.new.self tasks rest c.split_off.new.self.items c.in_ok-part.part.items within c.ask.ensures c.in_ok-part.ensures.items c.in_ok-part.ensures.tail (subst (λ (n : ℕ). rest ++ all_asked (drop n mailboxes) ≡ tasks) next c.loop-place.invariant.asked);
      allowed = rw c.in_ok-part.ensures.items (All-take (λ task. IsAllowed (g.T.Work.enters task) (g.G.Gate.may c.args.gate.now)) _ rest c.loop-place.invariant.allowed);
      free = λ k d below. get_or-set_other mailboxes p k c.ask.new.self d (λ e. omega arith) ∙ c.loop-place.invariant.free k d (omega arith);
    }
