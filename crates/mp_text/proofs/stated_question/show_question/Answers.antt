use Rattle.mp_text.proofs.Names.{rest_ascii}
use Rattle.mp_text.proofs.stated_question.show_question.Goals as goal

pub picture_question-requires : goal.picture_question-requires
picture_question-requires c = rest_ascii c.args.words.now 2 c.requires
