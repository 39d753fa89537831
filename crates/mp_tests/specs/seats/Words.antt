-- Replies as one word each.
use Rattle.std.specs.Prelude.{ℕ, List, codes}
use Rattle.mp_seats.specs.declared.reply.Reply.{Reply}
use Rattle.mp_seats.specs.declared.reply.Reply.TheVariants.{Accepted, Refused, NotADesigner, NotKept, Unread, TooLong}

abbrev pub word : Reply → List ℕ
word (Accepted n) = codes "accepted "
word (Refused error) = codes "refused "
word NotADesigner = codes "viewer "
word NotKept = codes "unkept "
word (Unread error) = codes "unread "
word TooLong = codes "long "
