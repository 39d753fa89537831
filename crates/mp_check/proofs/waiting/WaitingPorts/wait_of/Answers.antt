use Rattle.std.proofs.Common.{◌≡◌, ℕ, ◌/◌, ◌%◌, Bool, true, false, cond, List, None, sym, ap, subst, ◌∙◌, arith}
use Rattle.mp_netlist.specs.Circuit.{module_at}
use Rattle.mp_check.specs.Dead.{dead, port_number, port_numbers}
use Rattle.mp_check.specs.Waiting.{first_wait, wait_in, wait_of, waiting}
use Rattle.mp_check.proofs.AwaitedLemmas.{waiting_is_dead}
use Rattle.mp_check.proofs.waiting.WaitingPorts.wait_of.Goals as goal

pub returns-then-not-is_marked-clause-value : goal.returns-then-not-is_marked-clause-value
unfolding wait_of
returns-then-not-is_marked-clause-value c =
    let self = c.args.self.now in
    let n = self.end.at.netlist.now in
    let k = c.args.number in
    let not_so : waiting n k ≡ false = sym (self.are_waiting k) ∙ sym c.is_marked.ensures ∙ c.if-not-is_marked.true in
    sym (ap (λ (b : Bool). cond b (wait_in n (k / port_numbers) (k % port_numbers) (module_at n (k / port_numbers))) None) not_so)

pub awaited-requires-clause-dead : goal.awaited-requires-clause-dead
awaited-requires-clause-dead c =
    let self = c.args.self.now in
    let n = self.end.at.netlist.now in
    let k = c.args.number in
    let so : waiting n k ≡ true = sym (self.are_waiting k) ∙ sym c.is_marked.ensures ∙ c.if-not-is_marked.false in
    let whole : k ≡ port_number (k / port_numbers) (k % port_numbers) = omega arith in
    subst (λ i. dead n i ≡ true) whole (waiting_is_dead n k so)

pub returns-in-Some-clause-value : goal.returns-in-Some-clause-value
unfolding wait_of
returns-in-Some-clause-value c =
    let self = c.args.self.now in
    let n = self.end.at.netlist.now in
    let k = c.args.number in
    let so : waiting n k ≡ true = sym (self.are_waiting k) ∙ sym c.is_marked.ensures ∙ c.if-not-is_marked.false in
    c.first_wait.ensures.value ∙ ap (λ (l : List ℕ). first_wait n (k / port_numbers) c.in-Some.part.now l) c.awaited.ensures
    ∙ ap (wait_in n (k / port_numbers) (k % port_numbers)) c.in-Some.ensures.value
    ∙ sym (ap (λ (b : Bool). cond b (wait_in n (k / port_numbers) (k % port_numbers) (module_at n (k / port_numbers))) None) so)

pub returns-in-None-clause-value : goal.returns-in-None-clause-value
unfolding wait_of
returns-in-None-clause-value c =
    let self = c.args.self.now in
    let n = self.end.at.netlist.now in
    let k = c.args.number in
    let so : waiting n k ≡ true = sym (self.are_waiting k) ∙ sym c.is_marked.ensures ∙ c.if-not-is_marked.false in
    ap (wait_in n (k / port_numbers) (k % port_numbers)) c.in-None.ensures.value
    ∙ sym (ap (λ (b : Bool). cond b (wait_in n (k / port_numbers) (k % port_numbers) (module_at n (k / port_numbers))) None) so)
