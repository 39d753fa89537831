use Rattle.mp_exports.specs.verilog.Verilog.{bench_text}
use Rattle.mp_exports.proofs.verilog.bench.BenchText.put_to.Goals as goal

pub returns : goal.returns
unfolding bench_text
returns g c = rw (c.wire_slots.ensures.value, c.wire_slots-2.ensures.value, c.wire_slots-3.ensures.value, c.horizon.ensures.value) at c.put_to.ensures
