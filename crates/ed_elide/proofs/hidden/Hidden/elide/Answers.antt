use Rattle.std.proofs.Common.{◌≡◌, ◌^◌, ◌-◌, ◌||◌, ◌&&◌, Bool, true, false, not, [], length, refl, ap, ◌∙◌, arith}
use Rattle.ed_layers.specs.Hidden.{elided}
use Rattle.ed_spans.specs.SpanSets.{in_spans}
use Rattle.ed_spans.proofs.EndLemmas.{apart_within}
use Rattle.ed_elide.proofs.FlagLemmas.{elided_by}
use Rattle.ed_elide.proofs.hidden.Hidden.elide.Goals as goal

pub union-requires-clause-first : goal.union-requires-clause-first
union-requires-clause-first c = apart_within 0 (length c.args.self.now) (2 ^ 32 - 1) c.runs.result.now (omega arith) c.runs.ensures.apart

pub union-requires-clause-second : goal.union-requires-clause-second
union-requires-clause-second c k d below = omega (arith, c.requires k d below)

pub kept-requires : goal.kept-requires
kept-requires c = rw c.len-len.ensures (c.in_ok-spans.ensures.apart (length c.args.self.now) (apart_within 0 (length c.args.self.now) (length c.args.self.now) c.runs.result.now (omega arith) c.runs.ensures.apart) c.requires)

pub returns : goal.returns
returns c =
    rw (c.in_ok-hidden.ensures, c.len-len.ensures)
    (elided_by (length c.args.self.now) c.runs.result.now c.args.hide.now [] c.in_ok-spans.spans.items (λ q below. c.in_ok-spans.ensures.holds q ∙ and_true (in_spans c.runs.result.now q || in_spans c.args.hide.now q)) ∙ ap (λ fs. elided fs c.args.hide.now []) c.runs.ensures.flags)
  where
    and_true : (x : Bool) → x ≡ (x && not false)
    and_true true = refl
    and_true false = refl
