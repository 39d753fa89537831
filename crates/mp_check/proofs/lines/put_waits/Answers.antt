use Rattle.std.proofs.Common.{◌≡◌, List, [], ◌∷◌, Ok, length, refl, sym, ap, subst, arith}
use Rattle.std.specs.List.{flat_map}
use Rattle.mp_streams.specs.Outgoing.{Writes}
use Rattle.mp_streams.proofs.OutLemmas.{puts_none, puts_then, puts_sooner, writes_failed}
use Rattle.mp_netlist.specs.Circuit.{Circuit}
use Rattle.mp_check.specs.CheckLines.{next_text, waits_text}
use Rattle.mp_check.specs.declared.wait.Wait.{Wait}
use Rattle.mp_check.proofs.lines.put_waits.Goals as goal

nothing : (n : Circuit) (ws : List Wait) → length ws ≡ 0 → [] ≡ waits_text n ws
nothing n [] none = refl
nothing n (w ∷ ws) none = absurd (omega (arith, none))

pub returns-in_default : goal.returns-in_default
returns-in_default g c =
    subst (Writes {T = Unit {0}} (Ok tt) c.args.out.now c.args.out.now) (nothing c.args.netlist.now c.args.waits.now c.in_default.ensures.cases) (puts_none c.args.out.now)

pub returns-in_err-put_wait : goal.returns-in_err-put_wait
returns-in_err-put_wait g c =
    subst (Writes c.from_residual.result c.args.out.now c.put_wait.new.out) (ap (waits_text c.args.netlist.now) (sym c.in-Some.ensures.cases.0))
    (writes_failed _ c.from_residual.ensures.0 (puts_sooner (flat_map (next_text c.args.netlist.now) c.in-Some.others.now) c.in_err-put_wait.ensures))

pub returns : goal.returns
returns g c =
    subst (Writes c.put_others.result c.args.out.now c.put_others.new.out) (ap (waits_text c.args.netlist.now) (sym c.in-Some.ensures.cases.0))
    (puts_then c.in_ok-put_wait.ensures c.put_others.ensures)
