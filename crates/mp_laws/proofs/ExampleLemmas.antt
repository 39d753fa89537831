-- Small examples, computed.
use Rattle.std.proofs.Common.{refl}
use Rattle.mp_modules.specs.Levels.{fits_width}
use Rattle.mp_records.specs.Names.{is_name}
use Rattle.mp_netlist.specs.Slots.{number_named}
use Rattle.mp_netlist.specs.Uses.{is_used}
use Rattle.mp_netlist.specs.Edits.{refusal, edited}
use Rattle.mp_text.specs.lexing.Lines.{lines_of}
use Rattle.mp_streams.specs.Numbers.{spelled_number, number_from}
use Rattle.mp_text.specs.lexing.Words.{words_of}
use Rattle.mp_text.specs.Statements.{statement_of}
use Rattle.mp_text.specs.Sizes.{text_limit}
use Rattle.mp_text.specs.Texts.{text_at, after_lines, after_line, after_statement}
use Rattle.mp_laws.specs.Examples.{BatchExamples, NumberExample, TextExamples}

pub batch_examples : BatchExamples
unfolding refusal edited number_named is_name fits_width
batch_examples = record { made = refl; in_place = refl; none = refl }

pub number_example : NumberExample
unfolding refusal edited number_named is_name fits_width is_used
number_example = refl

pub text_examples : TextExamples
unfolding refusal edited number_named is_name lines_of spelled_number number_from words_of statement_of text_limit text_at after_lines after_line after_statement
text_examples = record { at_second = refl; at_first = refl; lacking = refl; with_horizon = refl }
