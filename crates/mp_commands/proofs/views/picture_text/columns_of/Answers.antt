use Rattle.std.proofs.Common.{◌∙◌}
use Rattle.mp_commands.specs.views.Pictures.{columns_drawn}
use Rattle.mp_commands.proofs.lemmas.views.PictureLemmas.{clipped_columns}
use Rattle.mp_commands.proofs.views.picture_text.columns_of.Goals as goal

pub returns-clause-value : goal.returns-clause-value
returns-clause-value c =
    let asked = c.args.asked.now in
    let high = rw c.horizon-horizon.ensures.value at c.horizon-horizon.ensures.high in
    let made = rw (c.horizon-horizon.ensures.value, c.clipped.ensures, c.clipped-2.ensures, c.columns-most.ensures.value) at c.new.ensures.value in
    made ∙ clipped_columns c.args.netlist.now.horizon asked.from asked.to (columns_drawn c.args.drawing asked.columns) high
