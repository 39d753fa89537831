use Rattle.mp_exports.specs.verilog.FunctionModules.{function_text}
use Rattle.mp_exports.proofs.verilog.function_modules.FunctionTextText.put_to.Goals as goal

pub returns : goal.returns
unfolding function_text
returns g c =
    rw (c.word.ensures, c.rule.ensures, c.function_module.ensures, c.params.ensures, c.ports.ensures, c.value.ensures, c.heard.ensures) at c.put_to.ensures
