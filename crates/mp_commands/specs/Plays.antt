-- The replies to a script.
use Rattle.std.specs.Prelude.{◌≡◌, ◌∷◌, ◌++◌}
use Rattle.mp_commands.specs.Names.{Outgoing, WriteError, Kept, ℕ, Bool, List, [], Result}
use Rattle.mp_streams.specs.WriteErrors.{Writes}
use Rattle.mp_commands.specs.Replies.{reply, IsNext}

-- these bytes are the replies to the lines of a script in turn, where memory was wanting for the edits of some
unfoldable pub AreReplies : Kept → List (List ℕ) → List ℕ → Type 0
AreReplies kept [] text = text ≡ []
AreReplies kept (line ∷ lines) text =
    (wanting : Bool) × (next : Kept) × (later : List ℕ) × IsNext wanting kept line next × AreReplies next lines later × (text ≡ reply wanting kept line ++ later)

-- such replies were written, or a part of them
abbrev pub PutsReplies : {S : Type 0} → Result (Unit {0}) WriteError → Outgoing S → Outgoing S → Kept → List (List ℕ) → Type 0
PutsReplies result old new kept lines = (text : List ℕ) × AreReplies kept lines text × Writes result old new text
