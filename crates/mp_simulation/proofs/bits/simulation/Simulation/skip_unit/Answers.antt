use Rattle.std.proofs.Common.{ℕ, ◌∙◌, List, length, refl, sym, ap, subst}
use Rattle.mp_simulation.specs.bits.Copies.{AreListedBelow}
use Rattle.mp_simulation.proofs.lemmas.bits.CopyLemmas.{low_turned}
use Rattle.mp_simulation.proofs.lemmas.bits.TurnLemmas.{turned_length}
use Rattle.mp_simulation.proofs.lemmas.bits.QuietLemmas.{quiet_sound, quiet_before, quiet_copies}
use Rattle.mp_simulation.proofs.lemmas.bits.SimulationLemmas.{copies_sound, running}
use Rattle.mp_simulation.proofs.bits.simulation.Simulation.skip_unit.Goals as goal

pub returns-clause-sound : goal.returns-clause-sound
returns-clause-sound c =
    let s = c.args.self.now in
    let numbers = length s.simulator.fanout in
    record {
      simulator = quiet_sound s.simulator c.skip.new.self c.requires.sound.simulator c.requires.quiet.wires c.skip.ensures;
      copies = copies_sound s.copies _ numbers numbers c.requires.sound.copies refl (ap (length {A = List ℕ}) c.skip-2.ensures ∙ turned_length s.copies.wheel c.requires.sound.copies.some)
          (subst (λ (slots : List (List ℕ)). AreListedBelow numbers slots) (sym c.skip-2.ensures) (low_turned numbers s.copies.wheel c.requires.sound.copies.numbered)) refl;
      behind = c.requires.sound.behind;
    }

pub returns-clause-passed : goal.returns-clause-passed
returns-clause-passed c n scope before t ok whole sets is =
    let s = c.args.self.now in
    let sound = c.requires.sound in
    let quiet = c.requires.quiet in
    running n scope before t s _ _ is refl
    (quiet_copies n ok scope before t s sound quiet whole sets is c.skip-2.new.self c.skip-2.ensures)
    (quiet_before n ok scope before t s sound quiet whole sets is c.skip.new.self c.skip.ensures)
