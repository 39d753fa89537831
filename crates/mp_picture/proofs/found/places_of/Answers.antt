use Rattle.std.proofs.Common.{ap, sym, ◌∙◌}
use Rattle.std.specs.List.{list_any}
use Rattle.std.specs.BTreeMap.{is_at}
use Rattle.mp_modules.specs.declared.finding_code.FindingCode.TheVariants.{MergeCollision}
use Rattle.mp_model.specs.declared.finding.Finding.{Finding}
use Rattle.mp_model.specs.Findings.{module_place}
use Rattle.mp_picture.specs.Found.{is_place}
use Rattle.mp_picture.specs.PlaceKeys.{place_key, place_order}
use Rattle.mp_picture.proofs.FoundLemmas.{place_next}
use Rattle.mp_picture.proofs.found.places_of.Goals as goal

abbrev none : Finding
none = record { time = 0; place = module_place 0; code = MergeCollision }

pub loop-finding-init : goal.loop-finding-init
loop-finding-init c = record {
  places = c.new-places.ensures.items;
  seen = λ p. ap (list_any (is_at (place_order (place_key p)))) c.new-seen.ensures.empty ∙ sym (ap (list_any (is_place p)) c.new-places.ensures.items);
}

pub loop-finding-preserved : goal.loop-finding-preserved
loop-finding-preserved c = record {
  places =
      c.in_ok-push_new.ensures.places
      ∙ place_next c.args.found.now c.loop-finding.finding-index none c.loop-finding.places.items c.loop-finding-test.true c.loop-finding.invariant.places;
  seen = c.in_ok-push_new.ensures.seen;
}
