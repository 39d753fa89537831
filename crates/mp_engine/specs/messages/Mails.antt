-- The mails of all parts of a netlist.
use Rattle.std.specs.Prelude.{◌≡◌, ℕ, ◌<◌, List, length, slice_index_or}
use Rattle.mp_engine.specs.declared.messages.message.Subject.{Ghosts}
use Rattle.mp_engine.specs.declared.messages.channels.Channels.{Channels}

module _ {J : Type 0} {subject : Ghosts J} where
  -- the mail at each place is that of the part with this number
  abbrev pub AreNumbered : List (Channels J subject) → Type 0
  AreNumbered mails = (k : ℕ) (d : Channels J subject) → k < length mails → (slice_index_or mails k d).part ≡ k
