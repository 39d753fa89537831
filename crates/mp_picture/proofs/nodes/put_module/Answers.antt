use Rattle.mp_picture.proofs.nodes.put_module.Goals as goal

pub returns : goal.returns
returns g c =
    rw (c.as_str-name.ensures, c.as_slice.ensures, c.input_cells-inputs.ensures, c.output_cells-outputs.ensures, c.word.ensures, c.shape_of.ensures) at c.put_node.ensures
