use Rattle.mp_text.proofs.Names.{rest_ascii}
use Rattle.mp_text.proofs.stated_edit.stated_module.Goals as goal

pub divided-requires : goal.divided-requires
divided-requires c = rest_ascii c.args.words.now 2 c.requires
