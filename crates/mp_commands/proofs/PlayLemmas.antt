-- A script, line after line.
use Rattle.std.specs.Prelude.{◌∷◌, ◌++◌}
use Rattle.mp_commands.proofs.Names.{ℕ, Bool, true, List, [], append_assoc, Ok, Err, refl, sym, subst, append-nil, Outgoing, Writes, WriteError, puts_then, puts_sooner, Kept, reply, IsNext}
use Rattle.mp_commands.specs.Plays.{AreReplies, PutsReplies}
use Rattle.mp_commands.proofs.ReplyLemmas.{next_keeps}

-- ---- replies to lines

no_lines : (kept : Kept) → AreReplies kept [] []
unfolding AreReplies
no_lines kept = refl

one_line : (wanting : Bool) (kept next : Kept) (line : List ℕ) (lines : List (List ℕ)) (later : List ℕ) → IsNext wanting kept line next → AreReplies next lines later
    → AreReplies kept (line ∷ lines) (reply wanting kept line ++ later)
unfolding AreReplies
one_line wanting kept next line lines later after are = (wanting, next, later, after, are, refl)

-- there are such replies: those where memory is wanting for each edit
pub some_replies : (kept : Kept) (lines : List (List ℕ)) → (text : List ℕ) × AreReplies kept lines text
some_replies kept [] = ([], no_lines kept)
some_replies kept (line ∷ lines) =
    let later = some_replies kept lines in
    (reply true kept line ++ later.0, one_line true kept kept line lines later.0 (next_keeps kept line) later.1)

-- ---- the replies so far

-- these bytes were written, and with replies to the rest behind them they are the replies to all lines
pub record ArePlayed {S : Type 0} (first now : Kept) (lines rest : List (List ℕ)) (old new : Outgoing S) : Type 0 where
  pub done : List ℕ
  pub put : Writes {T = Unit {0}} (Ok tt) old new done
  pub goes_on : (later : List ℕ) → AreReplies now rest later → AreReplies first lines (done ++ later)

pub one_more : {S : Type 0} (first now next : Kept) (lines rest : List (List ℕ)) (line : List ℕ) (a b c : Outgoing S) (wanting : Bool) → ArePlayed first now lines (line ∷ rest) a b
    → IsNext wanting now line next → Writes {T = Unit {0}} (Ok tt) b c (reply wanting now line) → ArePlayed first next lines rest a c
one_more first now next lines rest line a b c wanting played after put = record {
  done = played.done ++ reply wanting now line;
  put = puts_then played.put put;
  goes_on = λ later are.
      subst (AreReplies first lines) (sym (append_assoc played.done (reply wanting now line) later))
      (played.goes_on (reply wanting now line ++ later) (one_line wanting now next line rest later after are));
}

-- all lines were answered
pub replies_all : {S : Type 0} (first now : Kept) (lines : List (List ℕ)) (a b : Outgoing S) → ArePlayed first now lines [] a b → PutsReplies (Ok tt) a b first lines
replies_all first now lines a b played =
    let all = append-nil played.done in
    (played.done, subst (AreReplies first lines) all (played.goes_on [] (no_lines now)), played.put)

-- the reply to a line failed
pub replies_part : {S : Type 0} (error : WriteError) (first now next : Kept) (lines others : List (List ℕ)) (line : List ℕ) (a b c : Outgoing S) (wanting : Bool)
    → ArePlayed first now lines (line ∷ others) a b → IsNext wanting now line next
    → Writes {T = Unit {0}} (Err error) b c (reply wanting now line) → PutsReplies (Err error) a c first lines
replies_part error first now next lines others line a b c wanting played after put =
    let text = reply wanting now line in
    let later = some_replies next others in (
      played.done ++ (text ++ later.0),
      played.goes_on (text ++ later.0) (one_line wanting now next line others later.0 after later.1),
      puts_then played.put (puts_sooner later.0 put),
    )
