use Rattle.std.proofs.Common.{◌≡◌, ◌<◌, length, take, Some, sym, ap, ◌∙◌, subst, arith}
use Rattle.std.proofs.lemmas.List.{take_more_set, take_all}
use Rattle.std.proofs.lemmas.List.Elements.{All-push}
use Rattle.mp_engine.specs.messages.Lines.{sent_on, AreSent}
use Rattle.mp_engine.proofs.lemmas.messages.LineLemmas.{map_same, written, written_same}
use Rattle.mp_engine.proofs.messages.channels.Channels.send.Goals as goal

pub returns-in_err-send-clause-readers : goal.returns-in_err-send-clause-readers
returns-in_err-send-clause-readers g c =
    let xs = c.loop-line.line-items in
    let i = c.loop-line.line-index in
    let line = c.line-item.result in
    let readers = map_same (λ l. l.to) xs i c.send.new.self line c.send.ensures.line.0 ∙ c.loop-line.invariant.readers in
    written_same (λ l. l.to) _ _ c.args.self.now.to.items readers c.args.self.now.to.ok.0

pub loop-line-preserved : goal.loop-line-preserved
loop-line-preserved g c =
    let xs = c.loop-line.line-items in
    let i = c.loop-line.line-index in
    let line = c.line-item.result in
    let low : i < length xs = (let test = c.loop-line-test.true in let long = c.loop-line.auto.line-items in omega (arith, test, long)) in
    let heading : c.in_ok-message.message.heading ≡ record { by = c.args.self.now.part; to = c.send.new.self.to; window = c.args.window } =
    c.in_ok-message.ensures ∙ ap (λ to. record { by = c.args.self.now.part; to = to; window = c.args.window }) (sym c.send.ensures.line.0) in
    record {
      sent = subst (AreSent c.args.self.now.part c.args.window) (sym (take_more_set xs i c.send.new.self low))
          (All-push (λ l. sent_on l ≡ Some (record { by = c.args.self.now.part; to = l.to; window = c.args.window })) (take i xs) c.send.new.self c.loop-line.invariant.sent (c.in_ok-send.ensures.sent ∙ ap Some heading));
      readers = map_same (λ l. l.to) xs i c.send.new.self line c.send.ensures.line.0 ∙ c.loop-line.invariant.readers;
    }

pub returns-clause-sent : goal.returns-clause-sent
returns-clause-sent g c =
    let xs = c.loop-line.line-items in
    subst (AreSent c.args.self.now.part c.args.window) (sym (written (λ l. l.to) _ xs c.args.self.now.to.items c.loop-line.invariant.readers c.args.self.now.to.ok.0))
    (subst (AreSent c.args.self.now.part c.args.window) (take_all c.loop-line.line-index xs (let past = c.loop-line-test.false in let long = c.loop-line.auto.line-items in omega (arith, past, long))) c.loop-line.invariant.sent)
