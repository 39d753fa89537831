use Rattle.std.proofs.Common.{◌≡◌, ℕ, ◌/◌, ◌%◌, ◌&&◌, true, false, List, sym, ap, subst, ◌∙◌, arith}
use Rattle.std.specs.Prelude.{slice_get}
use Rattle.std.specs.List.{list_any}
use Rattle.mp_model.specs.Waves.{state}
use Rattle.mp_check.specs.Dead.{dead, last_unit, port_number, port_numbers}
use Rattle.mp_check.specs.Waiting.{awaited, is_port_in, may_wait, may_wait_at}
use Rattle.mp_check.proofs.AwaitedLemmas.{not_dead}
use Rattle.mp_check.proofs.waiting.needs_of.Goals as goal

pub returns-then-not-is_marked : goal.returns-then-not-is_marked
returns-then-not-is_marked c =
    let n = c.args.end.now.at.netlist.now in
    let k = c.args.number in
    let alive : dead n k ≡ false = sym (c.requires k) ∙ sym c.is_marked.ensures ∙ c.if-not-is_marked.true in
    λ set. sym (not_dead n set k alive)

pub returns-in-Some : goal.returns-in-Some
unfolding may_wait
returns-in-Some c =
    let n = c.args.end.now.at.netlist.now in
    let k = c.args.number in
    let r = c.in-Some.part.now in
    let so : dead n k ≡ true = sym (c.requires k) ∙ sym c.is_marked.ensures ∙ c.if-not-is_marked.false in
    let whole : k ≡ port_number (k / port_numbers) (k % port_numbers) = omega arith in
    let there : dead n (port_number (k / port_numbers) (k % port_numbers)) ≡ true = subst (λ i. dead n i ≡ true) whole so in
    let inputs = awaited n r (state n (k / port_numbers) (last_unit n)) (k % port_numbers) in
    λ set. c.port_needs.ensures set ∙ ap (λ (l : List ℕ). list_any (λ q. is_port_in n set (slice_get r.inputs q)) l) c.awaited.ensures
    ∙ sym (ap (λ b. b && list_any (λ q. is_port_in n set (slice_get r.inputs q)) inputs) there)
    ∙ ap (may_wait_at n set (k / port_numbers) (k % port_numbers)) c.in-Some.ensures.value

pub returns-in-None : goal.returns-in-None
unfolding may_wait
returns-in-None c =
    let k = c.args.number in
    λ set. ap (may_wait_at c.args.end.now.at.netlist.now set (k / port_numbers) (k % port_numbers)) c.in-None.ensures.value
