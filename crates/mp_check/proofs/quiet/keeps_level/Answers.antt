use Rattle.std.proofs.Common.{◌≡◌, ℕ, ◌+◌, ◌-◌, ◌<◌, List, suc, refl, ap, sym, subst, ◌∙◌, arith}
use Rattle.mp_modules.specs.declared.memory.Memory.{Memory}
use Rattle.mp_modules.specs.declared.storage.any_module.AnyModule.{AnyModule}
use Rattle.mp_modules.specs.Memories.{input_levels, output_of}
use Rattle.mp_modules.specs.storage.AnyModules.{step}
use Rattle.mp_model.specs.Levels.{built, inputs_by}
use Rattle.mp_model.specs.Waves.{level}
use Rattle.mp_model.proofs.BuiltLemmas.{width_of_module}
use Rattle.mp_questions.specs.timing.Waits.{given}
use Rattle.mp_check.specs.Dead.{last_unit}
use Rattle.mp_check.proofs.KeptLevelLemmas.{Keeps, keeps_between, keeps_next, moved_later, next_given, still_while}
use Rattle.mp_check.proofs.quiet.keeps_level.Goals as goal

pub built-part-requires-clause-width : goal.built-part-requires-clause-width
built-part-requires-clause-width c =
    let of = c.args.of.now in
    let ok = c.horizon-horizon.ensures.form in
    width_of_module of.end.at.netlist.now ok of.part.now (ok.modules_ok of.id.0 of.part.now of.stands)

pub loop-now-init : goal.loop-now-init
loop-now-init c =
    let of = c.args.of.now in
    let n = of.end.at.netlist.now in
    let m = of.id.0 in
    let r = of.part.now in
    let ok = c.horizon-horizon.ensures.form in
    let below = of.end.at.within in
    let after = c.args.after in
    let v = c.args.level in
    let next = c.next-now.ensures in
    let now = c.next-now.result in
    let upto = c.requires.after in
    let x : ℕ → List ℕ = (λ (t : ℕ). inputs_by n (level n) r t) in
    let some : after < now = next.later (omega (arith, upto)) in
    let all : after + (now - after - 1) ≡ now - 1 = omega (arith, some) in
    let here : Keeps n m v after after = λ u from till. (let is : after ≡ u = omega (arith, from, till) in ap (given n m 0) (sym is) ∙ sym c.requires.level) in
    record {
      end = refl;
      some = some;
      within = next.within;
      keeps = subst (Keeps n m v after) all
          (keeps_between n ok m r of.stands c.requires.kind v after after (now - after - 1) (omega arith) here
          (λ u low high. next.quiet x n.horizon u c.of-ears.ensures (omega (arith, below)) low (omega (arith, high, some))));
    }

pub loop-now-preserved : goal.loop-now-preserved
loop-now-preserved c =
    let of = c.args.of.now in
    let n = of.end.at.netlist.now in
    let m = of.id.0 in
    let r = of.part.now in
    let ok = c.horizon-horizon.ensures.form in
    let below = of.end.at.within in
    let after = c.args.after in
    let v = c.args.level in
    let kept = c.loop-now.invariant in
    let now = c.loop-now.now in
    let some = kept.some in
    let test = c.loop-now-test.true in
    let next = c.next-now-in-loop-now.ensures in
    let then = c.next-now-in-loop-now.result in
    let x : ℕ → List ℕ = (λ (t : ℕ). inputs_by n (level n) r t) in
    let later : now < then = next.later (omega (arith, test)) in
    let all : now + (then - now - 1) ≡ then - 1 = omega (arith, later) in
    let back : suc (now - 1) ≡ now = omega (arith, some) in
    let levels : c.levels.result ≡ input_levels (x now) = c.levels.ensures x n.horizon c.of-ears.ensures (omega (arith, test, below)) in
    let before = c.with_one_output-memory.result in
    let was : output_of before 0 ≡ v = ap (λ (s : Memory). output_of s 0) c.with_one_output-memory.ensures in
    let stepped : c.step.new.memory ≡ step (built n r) before (input_levels (x now)) =
    c.step.ensures ∙ ap (λ (p : AnyModule). step p before c.levels.result) c.built-part.ensures ∙ ap (step (built n r) before) levels in
    let next_is = next_given n ok m r of.stands c.requires.kind v (now - 1) before (kept.keeps (now - 1) (omega (arith, some)) (omega arith)) was in
    let told : output_of (step (built n r) before (input_levels (x now))) 0 ≡ given n m 0 now =
    subst (λ (k : ℕ). output_of (step (built n r) before (input_levels (x k))) 0 ≡ given n m 0 k) back next_is in
    let is : given n m 0 now ≡ v = sym told ∙ sym (ap (λ (s : Memory). output_of s 0) stepped) ∙ sym c.output.ensures ∙ c.if-output-level.false in
    let keeps : Keeps n m v after now = subst (Keeps n m v after) back (keeps_next n ok m r of.stands c.requires.kind v after (now - 1) kept.keeps (ap (given n m 0) back ∙ is)) in
    record {
      end = refl;
      some = omega (arith, later, some);
      within = next.within;
      keeps = subst (Keeps n m v after) all
          (keeps_between n ok m r of.stands c.requires.kind v after now (then - now - 1) (omega (arith, some)) keeps
          (λ u low high. next.quiet x n.horizon u c.of-ears.ensures (omega (arith, below)) low (omega (arith, high, later))));
    }

pub returns-then-output-level : goal.returns-then-output-level
returns-then-output-level c =
    let of = c.args.of.now in
    let n = of.end.at.netlist.now in
    let m = of.id.0 in
    let r = of.part.now in
    let ok = c.horizon-horizon.ensures.form in
    let below = of.end.at.within in
    let last : of.end.at.time ≡ last_unit n = of.end.last in
    let after = c.args.after in
    let v = c.args.level in
    let kept = c.loop-now.invariant in
    let now = c.loop-now.now in
    let some = kept.some in
    let test = c.loop-now-test.true in
    let x : ℕ → List ℕ = (λ (t : ℕ). inputs_by n (level n) r t) in
    let back : suc (now - 1) ≡ now = omega (arith, some) in
    let levels : c.levels.result ≡ input_levels (x now) = c.levels.ensures x n.horizon c.of-ears.ensures (omega (arith, test, below)) in
    let before = c.with_one_output-memory.result in
    let was : output_of before 0 ≡ v = ap (λ (s : Memory). output_of s 0) c.with_one_output-memory.ensures in
    let stepped : c.step.new.memory ≡ step (built n r) before (input_levels (x now)) =
    c.step.ensures ∙ ap (λ (p : AnyModule). step p before c.levels.result) c.built-part.ensures ∙ ap (step (built n r) before) levels in
    let next_is = next_given n ok m r of.stands c.requires.kind v (now - 1) before (kept.keeps (now - 1) (omega (arith, some)) (omega arith)) was in
    let told : output_of (step (built n r) before (input_levels (x now))) 0 ≡ given n m 0 now =
    subst (λ (k : ℕ). output_of (step (built n r) before (input_levels (x k))) 0 ≡ given n m 0 k) back next_is in
    let is : c.output.result ≡ given n m 0 now = c.output.ensures ∙ ap (λ (s : Memory). output_of s 0) stepped ∙ told in
    moved_later n (given n m 0) after now (omega (arith, some)) (omega (arith, test, last, below))
    (λ same. c.if-output-level.true (is ∙ same ∙ sym c.requires.level))

pub returns : goal.returns
returns c =
    let of = c.args.of.now in
    let n = of.end.at.netlist.now in
    let last : of.end.at.time ≡ last_unit n = of.end.last in
    let upto = c.requires.after in
    let kept = c.loop-now.invariant in
    let test = c.loop-now-test.false in
    still_while n (given n of.id.0 0) c.args.after c.args.level (omega (arith, last, upto))
    (λ u from till. kept.keeps u from (omega (arith, till, last, test, kept.within)))
