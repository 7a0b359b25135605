use Rattle.std.proofs.Common.{◌+◌, All, arith, ap, length, map, subst, sym, ◌∙◌}
use Rattle.std.specs.Prelude.{IfSome}
use Rattle.std.proofs.lemmas.List.{length-map}
use Rattle.std.proofs.lemmas.List.Elements.{All-nil, All-push}
use Rattle.dump_words.specs.Words.{IsLowGuest, guest_of}
use Rattle.dump_words.proofs.InTurn.{all_read, at_map, length_pushed, none_read, not_read, one_read}
use Rattle.dump_words.proofs.given.guests_in.Goals as goal

pub loop-i-init : goal.loop-i-init
loop-i-init c =
    let empty = c.in_ok-found.ensures.items in
    record {
      so_far = none_read guest_of (map (λ word. word.now) c.args.words.now) c.in_ok-found.found.items empty;
      low = subst (All IsLowGuest) (sym empty) (All-nil IsLowGuest);
      count = ap length empty;
    }

pub returns-in-None : goal.returns-in-None
returns-in-None c =
    record {
      read =
          not_read guest_of
          (map (λ word. word.now) c.args.words.now) c.loop-i.i c.as_bytes.result.now c.loop-i.found.items
          (omega (arith, length-map c.args.words.now (λ word. word.now), c.loop-i-test.true))
          (c.as_bytes.ensures.value ∙ at_map (λ word. word.now) c.args.words.now c.loop-i.i _ c.loop-i-test.true)
          (sym c.guest_word.ensures.is ∙ c.in-None.is) c.loop-i.invariant.so_far;
      low = tt;
    }

pub loop-i-preserved : goal.loop-i-preserved
loop-i-preserved c =
    let grown = c.in_ok-push-in-Some.ensures.items in
    let low = subst (λ o. IfSome o IsLowGuest) c.in-Some.is c.guest_word.ensures.low in
    record {
      so_far =
          one_read guest_of
          (map (λ word. word.now) c.args.words.now) c.loop-i.i c.as_bytes.result.now c.in-Some.guest
          c.loop-i.found.items c.push.new.self.items
          (omega (arith, length-map c.args.words.now (λ word. word.now), c.loop-i-test.true))
          (c.as_bytes.ensures.value ∙ at_map (λ word. word.now) c.args.words.now c.loop-i.i _ c.loop-i-test.true)
          (sym c.guest_word.ensures.is ∙ c.in-Some.is) grown c.loop-i.invariant.so_far;
      low =
          subst (All IsLowGuest) (sym grown)
          (All-push IsLowGuest c.loop-i.found.items c.in-Some.guest c.loop-i.invariant.low low);
      count =
          ap length grown ∙ length_pushed c.loop-i.found.items c.in-Some.guest
          ∙ ap (λ n. n + 1) c.loop-i.invariant.count;
    }

pub returns : goal.returns
returns c =
    record {
      read =
          all_read guest_of (map (λ word. word.now) c.args.words.now) c.loop-i.i c.loop-i.found.items
          (omega (
            arith,
            length-map c.args.words.now (λ word. word.now),
            c.loop-i-test.false,
          )) c.loop-i.invariant.so_far;
      low = (c.loop-i.invariant.low, omega (arith, c.loop-i.invariant.count, c.loop-i.auto.i-end));
    }
