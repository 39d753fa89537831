use Rattle.mp_text.proofs.lemmas.lexing.ToggleLemmas.{four_placed}
use Rattle.mp_text.proofs.lexing.toggle_texts.FourTogglesPiece.write.Goals as goal

pub returns : goal.returns
returns c =
    let toggles = c.args.self.now in
    four_placed toggles.level toggles.one toggles.two toggles.three toggles.four toggles.low _ _ _ _ _ _ _ _ _ _
    c.write_toggle-end.ensures.placed c.write_toggle-end-2.ensures.placed c.write_toggle-end-3.ensures.placed c.write_toggle.ensures.placed
