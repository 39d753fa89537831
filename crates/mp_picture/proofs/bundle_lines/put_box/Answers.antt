use Rattle.mp_picture.proofs.bundle_lines.put_box.Goals as goal

pub returns : goal.returns
returns g c =
    rw (c.as_str-name.ensures, c.wire_name-request.ensures, c.wire_name-acknowledge.ensures, c.wire_name-payload.ensures) at c.put_node.ensures
