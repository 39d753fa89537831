use Rattle.std.proofs.Common.{◌≡◌, ◌<◌, ◌∷◌, [], length, rules}
use Rattle.mp_streams.proofs.OutLemmas.{puts_none, writes_failed}
use Rattle.mp_picture.proofs.PutLemmas.{numbers_next, numbers_stopped, numbers_over}
use Rattle.mp_picture.specs.wave_json.Waves.{character}
use Rattle.mp_picture.proofs.wave_json.wave_characters.WaveCharactersText.put_to.Goals as goal

pub loop-column-init : goal.loop-column-init
loop-column-init g c = puts_none c.args.out.now

pub loop-column-preserved : goal.loop-column-preserved
loop-column-preserved g c =
    let self = c.args.self.now in
    let j = c.loop-column.column in
    let within : j < length self.cells.now = search rules in
    numbers_next (λ k. character self.width self.cells.now k ∷ []) (length self.cells.now) j within c.loop-column.invariant c.in_ok-put_character.ensures

pub returns-in_err-put_character : goal.returns-in_err-put_character
returns-in_err-put_character g c =
    let self = c.args.self.now in
    let j = c.loop-column.column in
    let within : j < length self.cells.now = search rules in
    writes_failed _ c.from_residual.ensures.0 (numbers_stopped (λ k. character self.width self.cells.now k ∷ []) (length self.cells.now) j within c.loop-column.invariant c.in_err-put_character.ensures)

pub returns : goal.returns
returns g c =
    let self = c.args.self.now in
    let j = c.loop-column.column in
    let over : j ≡ length self.cells.now = search rules in
    numbers_over (λ k. character self.width self.cells.now k ∷ []) (length self.cells.now) j over c.loop-column.invariant
