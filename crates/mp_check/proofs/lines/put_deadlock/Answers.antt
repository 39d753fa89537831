use Rattle.std.proofs.Common.{◌≡◌, ◌++◌, ℕ, List, [], ◌∷◌, codes, decimal, ap, subst, ◌∙◌, append_assoc}
use Rattle.mp_streams.specs.Outgoing.{Writes}
use Rattle.mp_streams.proofs.OutLemmas.{puts_then, puts_sooner, writes_failed}
use Rattle.mp_netlist.specs.Circuit.{Circuit}
use Rattle.mp_check.specs.CheckLines.{deadlock_line, stands_since, waits_text}
use Rattle.mp_check.specs.declared.wait.Wait.{Wait}
use Rattle.mp_check.proofs.lines.put_deadlock.Goals as goal

line_is : (n : Circuit) (waits : List Wait) (s : ℕ) → s ≡ stands_since n waits → (decimal s ++ codes " deadlock ") ++ (waits_text n waits ++ codes "\n") ≡ deadlock_line n waits
line_is n waits s is =
    append_assoc (decimal s) (codes " deadlock ") (waits_text n waits ++ codes "\n") ∙ ap (λ (t : ℕ). decimal t ++ (codes " deadlock " ++ (waits_text n waits ++ (10 ∷ [])))) is

pub returns-in_err-put_to : goal.returns-in_err-put_to
returns-in_err-put_to g c =
    let n = c.args.end.now.at.netlist.now in
    let waits = c.args.waits.now in
    subst (Writes c.from_residual.result c.args.out.now c.put_to.new.out) (line_is n waits c.stands_since.result c.stands_since.ensures)
    (writes_failed _ c.from_residual.ensures.0 (puts_sooner (waits_text n waits ++ codes "\n") c.in_err-put_to.ensures))

pub returns-in_err-put_waits : goal.returns-in_err-put_waits
returns-in_err-put_waits g c =
    let n = c.args.end.now.at.netlist.now in
    let waits = c.args.waits.now in
    subst (Writes c.from_residual-in_err-put_waits.result c.args.out.now c.put_waits.new.out) (line_is n waits c.stands_since.result c.stands_since.ensures)
    (writes_failed _ c.from_residual-in_err-put_waits.ensures.0 (puts_then c.in_ok-put_to.ensures (puts_sooner (codes "\n") c.in_err-put_waits.ensures)))

pub returns : goal.returns
returns g c =
    let n = c.args.end.now.at.netlist.now in
    let waits = c.args.waits.now in
    subst (Writes c.put_text.result c.args.out.now c.put_text.new.self) (line_is n waits c.stands_since.result c.stands_since.ensures)
    (puts_then c.in_ok-put_to.ensures (puts_then c.in_ok-put_waits.ensures c.put_text.ensures))
