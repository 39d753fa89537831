use Rattle.std.proofs.Common.{refl, ap, ◌∙◌}
use Rattle.mp_streams.proofs.OutLemmas.{puts_unmade}
use Rattle.mp_streams.specs.declared.write_error.WriteError.TheVariants.{OutOfMemory}
use Rattle.mp_picture.specs.Diagrams.{diagram}
use Rattle.mp_picture.specs.Found.{within}
use Rattle.mp_picture.proofs.diagram.put_diagram.Goals as goal

pub returns-in_err-found : goal.returns-in_err-found
returns-in_err-found g c = puts_unmade _ OutOfMemory _ _ c.from_residual.ensures.1 refl

pub returns : goal.returns
unfolding diagram
returns g c =
    let found = c.as_slice.ensures.value ∙ c.in_ok-found.ensures.found ∙ ap (within c.args.picture.now.columns) c.requires.findings in
    rw found at c.put_given_found-put.ensures
