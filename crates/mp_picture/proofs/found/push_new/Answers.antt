use Rattle.std.proofs.Common.{ap, sym, ◌∙◌}
use Rattle.std.specs.BTreeMap.{is_at}
use Rattle.std.specs.List.{list_any}
use Rattle.mp_picture.specs.Found.{is_place}
use Rattle.mp_picture.specs.PlaceKeys.{place_key, place_order}
use Rattle.mp_picture.proofs.PlaceKeyLemmas.{place_stays, place_comes, seen_more}
use Rattle.mp_picture.proofs.found.push_new.Goals as goal

pub returns-then-not-is_new : goal.returns-then-not-is_new
returns-then-not-is_new c =
    let added = rw c.place_key.ensures at c.in_ok-is_new.ensures.added in
    let same = rw c.if-not-is_new.true at c.in_ok-is_new.ensures.unchanged in
    record {
      places = place_stays c.args.places.now.items c.args.place c.in_ok-is_new.is_new _ added (c.requires c.args.place) c.if-not-is_new.true;
      seen = λ p. ap (list_any (is_at (place_order (place_key p)))) same ∙ c.requires p;
    }

pub returns : goal.returns
returns c =
    let added = rw c.place_key.ensures at c.in_ok-is_new.ensures.added in
    let updates = rw c.place_key.ensures at c.in_ok-is_new.ensures.updates in
    record {
      places = c.in_ok-push.ensures.items ∙ place_comes c.args.places.now.items c.args.place c.in_ok-is_new.is_new _ added (c.requires c.args.place) c.if-not-is_new.false;
      seen = λ p.
          updates.0 (place_key p)
          ∙ seen_more c.args.places.now.items c.args.place p _ (c.requires p)
          ∙ sym (ap (list_any (is_place p)) c.in_ok-push.ensures.items);
    }
