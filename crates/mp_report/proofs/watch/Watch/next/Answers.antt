use Rattle.mp_report.proofs.Names.{arith, rules}
use Rattle.mp_report.proofs.watch.Watch.next.Goals as goal

pub returns-clause-later : goal.returns-clause-later
returns-clause-later c n b time ahead le = search (rules, c.next.ensures.later, c.next-end-2.ensures.later, c.next-end.ensures.later)

pub returns-clause-still : goal.returns-clause-still
returns-clause-still c n b time ahead low high = record {
  request = c.next-end.ensures.still _ _ time _ ahead.request low (omega arith) high;
  acknowledge = c.next-end-2.ensures.still _ _ time _ ahead.acknowledge low (omega arith) high;
  payload = c.next.ensures.still _ _ time _ ahead.payload low (omega arith) high;
}

pub returns-clause-quiet : goal.returns-clause-quiet
returns-clause-quiet c n b time t ahead low high within = (
  c.next-end.ensures.quiet _ _ time t ahead.request low (omega arith) within,
  c.next-end-2.ensures.quiet _ _ time t ahead.acknowledge low (omega arith) within,
  c.next.ensures.quiet _ _ time t ahead.payload low high within,
)
