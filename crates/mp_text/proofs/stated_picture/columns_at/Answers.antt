use Rattle.mp_text.proofs.Names.{◌+◌, ◌∙◌, ap, texts_behind}
use Rattle.mp_text.specs.PictureWords.{columns_behind}
use Rattle.mp_text.proofs.stated_picture.columns_at.Goals as goal

pub returns-in-Some-clause-columns : goal.returns-in-Some-clause-columns
returns-in-Some-clause-columns c =
    rw c.in-Some.is (c.columns_behind.ensures.columns ∙ ap columns_behind (texts_behind c.args.words.now (c.in-Some.place + 1)))
