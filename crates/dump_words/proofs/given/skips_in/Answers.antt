use Rattle.std.proofs.Common.{arith, map, sym, ◌∙◌}
use Rattle.std.proofs.lemmas.List.{length-map}
use Rattle.dump_words.specs.Words.{skip_of}
use Rattle.dump_words.proofs.InTurn.{all_read, at_map, none_read, not_read, one_read}
use Rattle.dump_words.proofs.given.skips_in.Goals as goal

pub loop-i-init : goal.loop-i-init
loop-i-init c =
    record {
      so_far = none_read skip_of
          (map (λ word. word.now) c.args.words.now) c.in_ok-found.found.items c.in_ok-found.ensures.items;
    }

pub returns-in-None : goal.returns-in-None
returns-in-None c =
    not_read skip_of (map (λ word. word.now) c.args.words.now) c.loop-i.i c.as_bytes.result.now c.loop-i.found.items
    (omega (arith, length-map c.args.words.now (λ word. word.now), c.loop-i-test.true))
    (c.as_bytes.ensures.value ∙ at_map (λ word. word.now) c.args.words.now c.loop-i.i _ c.loop-i-test.true)
    (sym c.skip_word.ensures ∙ c.in-None.is) c.loop-i.invariant.so_far

pub loop-i-preserved : goal.loop-i-preserved
loop-i-preserved c =
    record {
      so_far =
          one_read skip_of
          (map (λ word. word.now) c.args.words.now) c.loop-i.i c.as_bytes.result.now c.in-Some.skip
          c.loop-i.found.items c.push.new.self.items
          (omega (arith, length-map c.args.words.now (λ word. word.now), c.loop-i-test.true))
          (c.as_bytes.ensures.value ∙ at_map (λ word. word.now) c.args.words.now c.loop-i.i _ c.loop-i-test.true)
          (sym c.skip_word.ensures ∙ c.in-Some.is) c.in_ok-push-in-Some.ensures.items c.loop-i.invariant.so_far;
    }

pub returns : goal.returns
returns c =
    all_read skip_of (map (λ word. word.now) c.args.words.now) c.loop-i.i c.loop-i.found.items
    (omega (arith, length-map c.args.words.now (λ word. word.now), c.loop-i-test.false)) c.loop-i.invariant.so_far
