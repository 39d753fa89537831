use Rattle.std.proofs.Common.{◌≡◌, ◌+◌, ◌<◌, ◌++◌, [], ◌∷◌, ℕ, List, take, set, slice_index_or, length, refl, sym, ap, ◌∙◌, subst, arith}
use Rattle.std.proofs.lemmas.List.{map_push, take_more_set, take_all}
use Rattle.mp_simulation.specs.declared.run.stimuli.StimulusChange.{StimulusChange}
use Rattle.mp_partition.specs.regions.Divisions.{heard_by}
use Rattle.mp_engine.specs.declared.messages.message.Heading.{Heading}
use Rattle.mp_engine.specs.messages.Messages.{AreTold, IsToldOnce}
use Rattle.mp_engine.specs.messages.Lines.{parts_of}
use Rattle.mp_engine.proofs.lemmas.messages.LineLemmas.{map_same, written_same}
use Rattle.mp_engine.proofs.lemmas.messages.MessageLemmas.{told_more, told_by_none}
use Rattle.mp_engine.proofs.messages.channels.Channels.receive.Goals as goal

pub loop-line-init : goal.loop-line-init
loop-line-init g c = record {
  told = subst (λ (xs : List StimulusChange). AreTold g.J.Subject.netlist g.J.Subject.wires (heard_by g.J.Subject.heards c.args.self.now.part) [] c.args.window xs) (sym c.new-changes.ensures.items)
      (told_by_none g.J.Subject.netlist g.J.Subject.wires (heard_by g.J.Subject.heards c.args.self.now.part) c.args.window);
  same = ap parts_of c.deref_mut-line-items.ensures.value;
}

pub invariant_of-self-in-Break-1 : goal.invariant_of-self-in-Break-1
invariant_of-self-in-Break-1 g c =
    let same = map_same (λ l. l.by) c.loop-line.line-items c.loop-line.line-index c.message_for.new.self c.line-item.result c.message_for.ensures.line ∙ c.loop-line.invariant.same in
    let back = written_same (λ l. l.by) _ _ c.args.self.now.from.items same c.args.self.now.from.ok.0 in
    record { once = subst (IsToldOnce g.J.Subject.netlist g.J.Subject.wires (heard_by g.J.Subject.heards c.args.self.now.part)) (sym back) c.args.self.now.once }

pub invariant_of-self-in-Break-branch-2 : goal.invariant_of-self-in-Break-branch-2
invariant_of-self-in-Break-branch-2 g c =
    let same = map_same (λ l. l.by) c.loop-line.line-items c.loop-line.line-index c.message_for.new.self c.line-item.result c.message_for.ensures.line ∙ c.loop-line.invariant.same in
    let back = written_same (λ l. l.by) _ _ c.args.self.now.from.items same c.args.self.now.from.ok.0 in
    record { once = subst (IsToldOnce g.J.Subject.netlist g.J.Subject.wires (heard_by g.J.Subject.heards c.args.self.now.part)) (sym back) c.args.self.now.once }

pub invariant_of-self : goal.invariant_of-self
invariant_of-self g c =
    let same = c.loop-line.invariant.same in
    let back = written_same (λ l. l.by) _ _ c.args.self.now.from.items same c.args.self.now.from.ok.0 in
    record { once = subst (IsToldOnce g.J.Subject.netlist g.J.Subject.wires (heard_by g.J.Subject.heards c.args.self.now.part)) (sym back) c.args.self.now.once }

pub loop-line-preserved : goal.loop-line-preserved
loop-line-preserved g c =
    let n = g.J.Subject.netlist in
    let wires = g.J.Subject.wires in
    let heards = g.J.Subject.heards in
    let part = c.args.self.now.part in
    let lines = c.loop-line.line-items in
    let i = c.loop-line.line-index in
    let line = slice_index_or lines i c.line-item.result in
    let message = c.in_ok-message.message in
    let told = subst (λ (h : Heading). AreTold n wires (heard_by heards h.to) (h.by ∷ []) h.window message.changes.items) c.in_ok-message.ensures.heading message.told in
    let low : i < length lines = (let test = c.loop-line-test.true in let long = c.loop-line.auto.line-items in omega (arith, test, long)) in
    let next : parts_of (take (i + 1) (set lines i c.message_for.new.self)) ≡ parts_of (take i lines) ++ line.by ∷ [] =
    ap parts_of (take_more_set lines i c.message_for.new.self low) ∙ map_push (λ l. l.by) (take i lines) c.message_for.new.self ∙ ap (λ by. parts_of (take i lines) ++ by ∷ []) c.message_for.ensures.line in
    let items : c.extend_from_slice.new.self.items ≡ c.loop-line.changes.items ++ message.changes.items =
    c.in_ok-extend_from_slice.ensures.items ∙ ap (λ (xs : List StimulusChange). c.loop-line.changes.items ++ xs) c.as_slice.ensures.value in
    record {
      told = subst (λ (xs : List ℕ). AreTold n wires (heard_by heards part) xs c.args.window c.extend_from_slice.new.self.items) (sym next)
          (subst (λ (xs : List StimulusChange). AreTold n wires (heard_by heards part) (parts_of (take i lines) ++ line.by ∷ []) c.args.window xs) (sym items)
          (told_more n wires (heard_by heards part) (parts_of (take i lines)) (line.by ∷ []) c.args.window c.loop-line.changes.items message.changes.items c.loop-line.invariant.told told));
      same = map_same (λ l. l.by) lines i c.message_for.new.self c.line-item.result c.message_for.ensures.line ∙ c.loop-line.invariant.same;
    }

pub returns-clause-told : goal.returns-clause-told
returns-clause-told g c =
    let lines = c.loop-line.line-items in
    let all : parts_of (take c.loop-line.line-index lines) ≡ parts_of c.args.self.now.from.items =
    ap parts_of (take_all c.loop-line.line-index lines (let past = c.loop-line-test.false in let long = c.loop-line.auto.line-items in omega (arith, past, long))) ∙ c.loop-line.invariant.same in
    subst (λ parts. AreTold g.J.Subject.netlist g.J.Subject.wires (heard_by g.J.Subject.heards c.args.self.now.part) parts c.args.window c.loop-line.changes.items) all c.loop-line.invariant.told

pub returns-in_err-message-clause-same : goal.returns-in_err-message-clause-same
returns-in_err-message-clause-same g c =
    let same = map_same (λ l. l.by) c.loop-line.line-items c.loop-line.line-index c.message_for.new.self c.line-item.result c.message_for.ensures.line ∙ c.loop-line.invariant.same in
    (refl, written_same (λ l. l.by) _ _ c.args.self.now.from.items same c.args.self.now.from.ok.0, refl)

pub returns-in_err-extend_from_slice-clause-same : goal.returns-in_err-extend_from_slice-clause-same
returns-in_err-extend_from_slice-clause-same g c =
    let same = map_same (λ l. l.by) c.loop-line.line-items c.loop-line.line-index c.message_for.new.self c.line-item.result c.message_for.ensures.line ∙ c.loop-line.invariant.same in
    (refl, written_same (λ l. l.by) _ _ c.args.self.now.from.items same c.args.self.now.from.ok.0, refl)
