use Rattle.std.proofs.Common.{◌≡◌, ℕ, ◌+◌, ◌≤◌, List, [], ◌∷◌, ◌++◌, All, map, zero, suc, ap, sym, subst, ◌∙◌, arith}
use Rattle.std.specs.List.{range_with_len}
use Rattle.std.proofs.lemmas.List.{map-append}
use Rattle.std.proofs.lemmas.List.Elements.{All-append}
use Rattle.mp_report.proofs.TimeLemmas.{times_more}
use Rattle.mp_check.specs.Dead.{port_slots}
use Rattle.mp_check.specs.Deadlocks.{next_port}
use Rattle.mp_check.proofs.deadlocks.next_ports.Goals as goal

one_low : (most x : ℕ) → x ≤ most → All (λ k. k ≤ most) (x ∷ [])
one_low most x low zero d within = low
one_low most x low (suc k) d within = absurd (omega (arith, within))

pub loop-number-preserved : goal.loop-number-preserved
loop-number-preserved c =
    let n = c.args.ports.now.end.at.netlist.now in
    let number = c.loop-number.number in
    let x = c.next_port.result in
    let kept = c.loop-number.invariant in
    let so_far = range_with_len 0 number in
    let more : map (next_port n) (range_with_len 0 (number + 1)) ≡ map (next_port n) so_far ++ next_port n number ∷ [] =
    ap (map (next_port n)) (times_more 0 number) ∙ map-append (next_port n) so_far ((0 + number) ∷ [])
    ∙ ap (λ k. map (next_port n) so_far ++ next_port n k ∷ []) (let e : 0 + number ≡ number = omega arith in e) in
    let items = c.in_ok-push.ensures.items in (
      items ∙ ap (λ l. l ++ x ∷ []) kept.0 ∙ ap (λ y. map (next_port n) so_far ++ y ∷ []) c.next_port.ensures.value ∙ sym more,
      subst (λ (l : List ℕ). All (λ k. k ≤ port_slots n) l) (sym items)
          (All-append (λ k. k ≤ port_slots n) c.loop-number.next.items (x ∷ []) kept.1 (one_low (port_slots n) x c.next_port.ensures.within)),
    )
