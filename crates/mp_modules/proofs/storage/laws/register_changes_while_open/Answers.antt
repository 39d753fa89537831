use Rattle.mp_modules.proofs.lemmas.storage.RegLemmas.{changes_while_open, follows_while_open}
use Rattle.mp_modules.proofs.storage.laws.register_changes_while_open.Goals as goal

pub returns-clause-changes : goal.returns-clause-changes
returns-clause-changes c = changes_while_open

pub returns-clause-follows : goal.returns-clause-follows
returns-clause-follows c = follows_while_open
