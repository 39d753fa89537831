use Rattle.std.proofs.Common.{◌≡◌, ◌∷◌, [], List, true, false, set, append-nil, get_or-set_same, sym, subst, ◌∙◌}
use Rattle.mp_records.specs.declared.ids.WireId.{WireId}
use Rattle.mp_steady.specs.Reaching.{AreReached, mark_at}
use Rattle.mp_steady.proofs.ControlLemmas.{reached_more}
use Rattle.std.proofs.lemmas.List.{get_or_read}
use Rattle.mp_steady.proofs.control.Reached.add.Goals as goal

pub returns-then-index : goal.returns-then-index
returns-then-index c =
    let marks = c.args.self.now.marks.items in
    record {
      reached = λ n are is. are;
      marked = sym (get_or_read marks c.args.wire.0 c.index.result.now c.requires c.index.ensures false) ∙ c.if-index.true;
      more = ([], sym (append-nil c.args.self.now.order.items));
    }

pub returns : goal.returns
returns c =
    let marks = c.args.self.now.marks.items in
    let order = c.args.self.now.order.items in
    let wire = c.args.wire in
    let new : mark_at marks wire.0 ≡ false = sym (get_or_read marks wire.0 c.index.result.now c.requires c.index.ensures false) ∙ c.if-index.false in
    record {
      reached = λ n are is.
          subst (λ (ws : List WireId). AreReached n (set marks wire.0 true) ws) (sym c.in_ok-push.ensures.items) (reached_more n marks order wire are c.requires new is);
      marked = get_or-set_same marks wire.0 true false c.requires;
      more = (wire ∷ [], c.in_ok-push.ensures.items);
    }
