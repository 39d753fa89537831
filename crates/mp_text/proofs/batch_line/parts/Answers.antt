use Rattle.std.proofs.lemmas.Result.{IfOk-weaker}
use Rattle.std.proofs.lemmas.Iterator.Consumers.{map_from_collect}
use Rattle.std.proofs.lemmas.Iterator.Splits.{YieldsList-from_slice_split}
use Rattle.mp_text.proofs.Names.{refl, rules, tests}
use Rattle.mp_text.proofs.PartLemmas.{divides, parts_texts, parts_ascii}
use Rattle.mp_text.proofs.batch_line.parts.Goals as goal

pub returns : goal.returns
returns c =
    let split = map_from_collect _ c.collect.ensures.ran (YieldsList-from_slice_split _ divides c.args.words.now c.split.ensures.rest c.split.ensures.done refl (λ x b q k. search (rules, tests))) in
    record {
      parts = IfOk-weaker c.collect.result _ _ (λ parts. parts_texts c.args.words.now parts.items) split;
      ascii = IfOk-weaker c.collect.result _ _ (λ parts is. parts_ascii c.args.words.now parts.items is c.requires) split;
    }
