use Rattle.std.proofs.Common.{◌≡◌, ◌||◌, ◌&&◌, Bool, true, false, not, [], length, refl, ap, ◌∙◌, arith}
use Rattle.ed_layers.specs.Hidden.{elided}
use Rattle.ed_spans.specs.SpanSets.{in_spans}
use Rattle.ed_elide.proofs.FlagLemmas.{elided_by}
use Rattle.ed_elide.proofs.hidden.Hidden.expand.Goals as goal

pub difference-requires-clause-apart : goal.difference-requires-clause-apart
difference-requires-clause-apart c = rw c.len-len.ensures c.runs.ensures.apart

pub difference-requires-clause-within : goal.difference-requires-clause-within
difference-requires-clause-within c = rw c.len-len.ensures c.requires

pub returns : goal.returns
returns c =
    rw (c.in_ok-hidden.ensures, c.len-len.ensures)
    (elided_by (length c.args.self.now) c.runs.result.now [] c.args.show.now c.in_ok-spans.spans.items (λ q below. c.in_ok-spans.ensures.holds q (omega (arith, below, c.len-len.ensures)) ∙ ap (λ x. x && not (in_spans c.args.show.now q)) (or_false (in_spans c.runs.result.now q))) ∙ ap (λ fs. elided fs [] c.args.show.now) c.runs.ensures.flags)
  where
    or_false : (x : Bool) → x ≡ (x || false)
    or_false true = refl
    or_false false = refl
