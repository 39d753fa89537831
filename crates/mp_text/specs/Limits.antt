-- The limits of a text.
use Rattle.mp_text.specs.Names.{ℕ}

-- how many bytes a text of any form may have
abbrev pub max_text : ℕ
max_text = 1073741824

-- how many bytes a text of the first or the second form may have
abbrev pub max_short_text : ℕ
max_short_text = 4194304

-- the longest horizon of a text of the first form
abbrev pub max_first_horizon : ℕ
max_first_horizon = 65536

-- the end of the times of a question that gives none: the greatest time
abbrev pub no_end : ℕ
no_end = 18446744073709551615

-- how many steps of a chain may be asked for
abbrev pub max_steps : ℕ
max_steps = 1048576

-- how many are given where a question names no number of them
abbrev pub usual_steps : ℕ
usual_steps = 20

-- how many columns a picture may have
abbrev pub max_columns : ℕ
max_columns = 10000

-- how many it has at most where a question names no number of them
abbrev pub usual_columns : ℕ
usual_columns = 72
