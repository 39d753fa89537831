use Rattle.std.proofs.Common.{length, get_or, max, sym, ap, ◌∙◌, arith}
use Rattle.mp_model.specs.Findings.{module_place}
use Rattle.mp_picture.specs.Found.{place_name}
use Rattle.mp_picture.proofs.MarginLemmas.{longest_more}
use Rattle.mp_picture.proofs.margin.longest_place.Goals as goal

pub loop-place-preserved : goal.loop-place-preserved
loop-place-preserved c =
    let name = place_name c.args.netlist.now in
    let i = c.loop-place.place-index in
    let d = module_place 0 in
    record {
      value =
          c.max-longest.ensures
          ∙ ap (λ k. max k c.loop-place.longest) (ap length c.place_name.ensures)
          ∙ ap (λ k. max (length (name (get_or c.args.places.now i d))) k) c.loop-place.invariant.value
          ∙ sym (longest_more name c.args.places.now i d c.loop-place-test.true);
      short = grind (arith, c.max-longest.ensures, c.loop-place.invariant.short);
    }
