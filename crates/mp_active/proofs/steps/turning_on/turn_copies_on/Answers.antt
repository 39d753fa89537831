use Rattle.std.proofs.Common.{◌≡◌, ◌+◌, List, [], ◌∷◌, Some, length, refl, ap, sym, ◌∙◌, arith}
use Rattle.mp_kernel.specs.declared.events.output_port.OutputPort.{OutputPort}
use Rattle.mp_kernel.specs.events.Firing.{copy_at}
use Rattle.mp_active.specs.declared.steps.copying.Copied.{Copied}
use Rattle.mp_active.specs.steps.Copying.{HasTurnedCopy}
use Rattle.mp_active.specs.steps.Chains.{next_in}
use Rattle.mp_active.proofs.lemmas.steps.ChainLemmas.{room_more, below_at}
use Rattle.mp_active.proofs.steps.turning_on.turn_copies_on.Goals as goal
use Rattle.mp_active.proofs.lemmas.compare.ChainLemmas.{none_of}

pub returns-in_default : goal.returns-in_default
returns-in_default c =
    let l = c.loop-sooner in
    let port = c.next_copy-port.ensures ∙ ap (λ (next : List OutputPort). copy_at next l.before) l.invariant.0.next in
    l.invariant.2 [] l.simulation (λ le. sym (ap (λ (p : OutputPort). p.wire) port) ∙ none_of c.next_copy-port.result.wire c.in_default.not-Some) refl

pub loop-sooner-preserved : goal.loop-sooner-preserved
loop-sooner-preserved c =
    let l = c.loop-sooner in
    let wide = c.args.wire.has_data in
    let wave = c.args.wire.wave.now in
    let now = c.args.now in
    let s = c.args.simulation.now in
    let copy : Copied = record { number = c.in-Some.number; sooner = l.sooner; delay = l.sooner + c.from.result } in
    let port : c.next_copy-port.result ≡ copy_at (next_in wide s) l.before = c.next_copy-port.ensures ∙ ap (λ (next : List OutputPort). copy_at next l.before) l.invariant.0.next in
    let is : (copy_at (next_in wide s) l.before).wire ≡ Some c.in-Some.number = sym (ap (λ (p : OutputPort). p.wire) port) ∙ c.in-Some.is in
    let late : l.sooner + c.from.result ≡ l.sooner + (copy_at (next_in wide s) l.before).delay = ap (λ d. l.sooner + d) (c.from.ensures ∙ ap (λ (p : OutputPort). p.delay) port) in
    let turned : HasTurnedCopy wide wave copy now l.simulation c.turn_copy_on.new.simulation = c.in_ok-turn_copy_on.ensures in (
      room_more wide wave copy now s l.simulation c.turn_copy_on.new.simulation l.invariant.0 turned,
      below_at (next_in wide s) (length (next_in wide s)) l.before c.in-Some.number l.invariant.1 c.requires.below is,
      λ copies new behind more. l.invariant.2 (copy ∷ copies) new (c.loop-sooner-test.true, is, refl, late, behind) (c.turn_copy_on.new.simulation, turned, more),
    )

pub returns : goal.returns
returns c =
    let l = c.loop-sooner in
    l.invariant.2 [] l.simulation (λ le. let no : ⊥ = (let past = c.loop-sooner-test.false in omega (arith, le, past)) in absurd no) refl
