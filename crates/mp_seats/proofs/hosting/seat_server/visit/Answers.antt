use Rattle.std.proofs.Common.{refl, sym}
use Rattle.mp_seats.proofs.hosting.seat_server.visit.Goals as goal

pub returns : goal.returns
returns g c authors more = record {
  result = c.serve-served.result;
  old = c.args.lines.now;
  new = c.serve-served.new.lines;
  before = c.args.out;
  after = c.serve-served.new.out;
  written = (refl, c.requires.0);
  unread = (refl, c.requires.1);
  visit = c.serve-served.ensures.visit authors more;
  received = sym c.into_sink.ensures.taken;
}
