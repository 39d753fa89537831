use Rattle.mp_text.proofs.Names.{rest_ascii}
use Rattle.mp_text.proofs.stated_question.measure_question.Goals as goal

pub wire_names-requires : goal.wire_names-requires
wire_names-requires c = rest_ascii c.args.words.now 2 c.requires
