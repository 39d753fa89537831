use Rattle.mp_text.proofs.lemmas.lexing.Names.{IsAscii, take, take_rest, All-push, rules, refl}
use Rattle.mp_text.proofs.lemmas.lexing.LineWordLemmas.{word_pushed, gap_dropped, word_ascii}
use Rattle.mp_text.proofs.lexing.line.read_line_words.Goals as goal

pub loop-rest-preserved-then-end-gt0 : goal.loop-rest-preserved-then-end-gt0
loop-rest-preserved-then-end-gt0 c =
    let rest = c.loop-rest.rest.now in
    let k = c.word_len-end.result in
    let pushed = c.in_ok-push.ensures.items in
    record {
      same = rw (take_rest rest k) (rw pushed (word_pushed c.loop-rest.words.items _ k rest c.args.line.now (search rules) c.word_len-end.ensures.within c.word_len-end.ensures.word c.word_len-end.ensures.end refl c.loop-rest.invariant.same));
      ascii = rw pushed (All-push (λ word. IsAscii word.now) c.loop-rest.words.items _ c.loop-rest.invariant.ascii (word_ascii (take k rest) c.word_len-end.ensures.word));
    }

pub loop-rest-preserved : goal.loop-rest-preserved
loop-rest-preserved c = record {
  same = rw (take_rest c.loop-rest.rest.now 1) (gap_dropped c.loop-rest.words.items c.loop-rest.rest.now c.args.line.now (search rules) (search rules) c.loop-rest.invariant.same);
  ascii = c.loop-rest.invariant.ascii;
}
