use Rattle.std.proofs.Common.{arith}
use Rattle.mp_picture.proofs.ReaderLemmas.{port_pushed, port_outside}
use Rattle.mp_picture.proofs.readers.push_port.Goals as goal

pub returns-then-place-len : goal.returns-then-place-len
returns-then-place-len c = port_outside c.args.rows.now.items c.args.id.0 c.args.port c.args.input (omega arith)

pub returns : goal.returns
returns c =
    port_pushed c.args.rows.now.items c.args.id.0 c.args.port c.args.input c.index_mut.result.now c.push.new.self (omega arith) c.index_mut.ensures.value c.in_ok-push.ensures
