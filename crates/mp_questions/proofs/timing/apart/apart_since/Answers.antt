use Rattle.std.proofs.Common.{◌≡◌, ◌-◌, suc, max, sym, ap, ◌∙◌, arith}
use Rattle.mp_questions.specs.timing.Events.{since}
use Rattle.mp_questions.specs.timing.Waits.{apart}
use Rattle.mp_questions.proofs.lemmas.timing.ApartLemmas.{is_apart}
use Rattle.mp_questions.proofs.timing.apart.apart_since.Goals as goal
use Rattle.mp_questions.proofs.timing.apart.apart_since.Goals.{then-loop-ours-test+else-ours-gt0, else-loop-ours-test}

pub loop-ours-preserved : goal.loop-ours-preserved
loop-ours-preserved c =
    let kept = c.loop-ours.invariant in
    let ours = c.loop-ours.ours in
    let same = c.loop-ours-test.true in
    let some = c.if-ours-gt0.true in
    let upto = kept.upto in
    let low = kept.low in
    let next : ours ≡ suc (ours - 1) = omega (arith, some) in
    record {
      upto = omega (arith, upto, low);
      low = c.since-ours-in-loop-ours.ensures.within;
      ours = λ f end hears below. c.since-ours-in-loop-ours.ensures.value f end hears (omega (arith, upto, low, below));
      theirs = λ g end hears below. c.since-theirs-in-loop-ours.ensures.value g end hears (omega (arith, upto, low, below));
      apart = λ f g end one other below bits_f bits_g.
          let at_f : since f c.loop-ours.upto ≡ suc (ours - 1) = sym (kept.ours f end one below) ∙ next in
          let at_g : since g c.loop-ours.upto ≡ suc (ours - 1) = sym (kept.theirs g end other below) ∙ sym same ∙ next in
          sym ((is_apart f g bits_f bits_g c.loop-ours.upto).both (ours - 1) at_f at_g) ∙ kept.apart f g end one other below bits_f bits_g;
    }

pub returns : goal.returns
returns c f g end one other below bits_f bits_g =
    let kept = c.loop-ours.invariant in
    let t = c.loop-ours.upto in
    let at_f = kept.ours f end one below in
    let at_g = kept.theirs g end other below in
    let apart_is = is_apart f g bits_f bits_g t in
    let told = kept.apart f g end one other below bits_f bits_g in
    let most : max c.loop-ours.ours c.loop-ours.theirs ≡ max (since f t) (since g t) = ap (λ v. max v c.loop-ours.theirs) at_f ∙ ap (max (since f t)) at_g in
    elim c.loop-ours-test.branch as (λ _. c.max.result ≡ since (apart f g) c.args.time) [
      | then-loop-ours-test+else-ours-gt0 w ↦
          let same = w.loop-ours-test.true in
          let none = w.if-ours-gt0.false in
          let no_f : since f t ≡ 0 = omega (arith, at_f, none) in
          let no_g : since g t ≡ 0 = omega (arith, at_g, same, none) in
          let zero_most : max (since f t) (since g t) ≡ 0 = omega (arith, no_f, no_g) in
          c.max.ensures ∙ most ∙ zero_most ∙ sym (apart_is.none no_f no_g) ∙ told
      | else-loop-ours-test w ↦
          c.max.ensures ∙ most ∙ sym (apart_is.one (λ equal. w.loop-ours-test.false (at_f ∙ equal ∙ sym at_g))) ∙ told
    ]
