use Rattle.std.proofs.Crossing.{crosses}
use denote.Param.Send.{IsSend, sendable}
use Rattle.mp_phase.specs.contracts.open_gate.OpenGate
use Rattle.mp_phase.specs.contracts.open_gate.OpenGateGate.TheImpl.{ghosts}
use Rattle.mp_phase.proofs.open_gate.OpenGate.TheSendSync as gate
use Rattle.mp_session.specs.contracts.session.Session
use Rattle.mp_session.proofs.session.Session.TheSendSync as session
use Rattle.mpwb.proofs.live_desk.serve_lines.Goals as goal

-- a search that goes down through the session runs out of steps, so its part is given
pub serve_live-requires-send-S : goal.serve_live-requires-send-S
serve_live-requires-send-S g c κs =
    let netlist : IsSend (Session.the_row OpenGate.the_row ghosts) = session.the_send OpenGate.the_row ghosts gate.the_send in
    search (crosses, sendable) depth 60 fits 20000
