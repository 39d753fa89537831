use Rattle.std.proofs.Common.{◌+◌, false, List, length, ap, sym, subst, ◌∙◌}
use Rattle.std.specs.Prelude.{slice_index_or}
use Rattle.std.proofs.lemmas.List.{length_push}
use Rattle.mp_active.specs.declared.compare.wire_source.WireSource.{WireSource}
use Rattle.mp_active.specs.compare.Comparing.{off}
use Rattle.mp_active.specs.compare.First.{IsFirst}
use Rattle.mp_active.proofs.lemmas.compare.FirstLemmas.{is_first, first_more}
use Rattle.mp_active.proofs.compare.first_sources.first_sources.Goals as goal

pub loop-w-preserved : goal.loop-w-preserved
loop-w-preserved c =
    let old = c.args.old.now in
    let new = c.args.new.now in
    let active = c.args.active.now in
    let w = c.loop-w.w in
    let sources = c.loop-w.sources.items in
    let items = c.in_ok-push.ensures.items in
    record {
      places = ap (length {A = WireSource}) items ∙ length_push sources c.first_source.result ∙ ap (λ k. k + 1) c.loop-w.invariant.places;
      each = λ k less.
          subst (λ (xs : List WireSource). IsFirst old new active k false (slice_index_or xs k off)) (sym items)
          (first_more old new active sources c.first_source.result w c.loop-w.invariant.places c.loop-w.invariant.each
          (is_first old new active w c.is_renewed-is_new.result c.first_source.result c.first_source.ensures.new c.first_source.ensures.other c.is_renewed-is_new.ensures) k less);
    }
