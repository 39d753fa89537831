use Rattle.std.proofs.Common.{List, ℕ, [], ◌∷◌, ◌++◌, codes}
use Rattle.std.specs.List.{flat_map}
use Rattle.mp_streams.proofs.OutLemmas.{puts_then, puts_sooner, writes_failed}
use Rattle.mp_picture.specs.svg.Arrows.{arrow_text}
use Rattle.mp_picture.proofs.svg.arrow_group.put_arrow_list.Goals as goal

abbrev end : List ℕ
end = codes "</g>" ++ 10 ∷ []

pub returns-in_err-put_start : goal.returns-in_err-put_start
returns-in_err-put_start g c =
    writes_failed _ c.from_residual.ensures.0 (puts_sooner (flat_map (arrow_text c.args.frame c.args.wires.now) c.args.arrows.now ++ end) c.in_err-put_start.ensures)

pub returns-in_err-put_arrows : goal.returns-in_err-put_arrows
returns-in_err-put_arrows g c =
    writes_failed _ c.from_residual-in_err-put_arrows.ensures.0 (puts_then c.in_ok-put_start.ensures (puts_sooner end c.in_err-put_arrows.ensures))

pub returns : goal.returns
returns g c = puts_then c.in_ok-put_start.ensures (puts_then c.in_ok-put_arrows.ensures c.put_text.ensures)
