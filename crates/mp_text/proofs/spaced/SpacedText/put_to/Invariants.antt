use Rattle.mp_text.proofs.Names.{◌∷◌, Ok, take, flat_map, Writes}
use Rattle.mp_text.proofs.spaced.SpacedText.put_to.Given as goal

-- the texts so far are written
abbrev pub invariant-loop-item : goal.invariant-loop-item
invariant-loop-item g l = Writes {T = Unit {0}} (Ok tt) l.fn.out l.out (flat_map (λ item. 32 ∷ g.T.Text.text item) (take l.item-index l.self.items.now))
