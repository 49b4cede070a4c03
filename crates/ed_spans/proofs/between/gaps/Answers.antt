-- The pass is that of the definition, which holds what the spans don't.
use Rattle.std.proofs.Common.{◌≡◌, ◌∙◌, arith}
use Rattle.ed_spans.specs.SpanSets.{gaps}
use Rattle.ed_spans.proofs.GapLemmas.{apart_next, gap_next, gap_last, gaps_apart, gaps_hold, gaps_runs}
use Rattle.ed_spans.proofs.between.gaps.Goals as goal

pub loop-span-preserved : goal.loop-span-preserved
loop-span-preserved c =
    let next = apart_next c.loop-span.span-index c.loop-span.from c.args.len c.args.spans.now (record { start = 0; len = 0 }) c.loop-span-test.true c.loop-span.invariant.apart in
    record {
      within = next.1.0;
      apart = next.1.1;
      done = rw c.in_ok-put_before.ensures (gap_next c.loop-span.span-index c.loop-span.from c.args.len c.args.spans.now c.loop-span.list.items (gaps 0 c.args.len c.args.spans.now) (record { start = 0; len = 0 }) c.loop-span-test.true c.loop-span.invariant.done);
    }

pub returns-clause-apart : goal.returns-clause-apart
returns-clause-apart c = let is : c.put_before-2.new.list.items ≡ gaps 0 c.args.len c.args.spans.now = c.in_ok-put_before-2.ensures ∙ gap_last c.loop-span.span-index c.loop-span.from c.args.len c.args.spans.now c.loop-span.list.items (gaps 0 c.args.len c.args.spans.now) c.loop-span-test.false c.loop-span.invariant.done in rw is (gaps_apart 0 c.args.len c.args.spans.now c.requires.apart)

pub returns-clause-holds : goal.returns-clause-holds
returns-clause-holds c = let is : c.put_before-2.new.list.items ≡ gaps 0 c.args.len c.args.spans.now = c.in_ok-put_before-2.ensures ∙ gap_last c.loop-span.span-index c.loop-span.from c.args.len c.args.spans.now c.loop-span.list.items (gaps 0 c.args.len c.args.spans.now) c.loop-span-test.false c.loop-span.invariant.done in rw is (λ q below. gaps_hold 0 c.args.len q c.args.spans.now c.requires.apart (omega arith) below)

pub returns-clause-runs : goal.returns-clause-runs
returns-clause-runs c = let is : c.put_before-2.new.list.items ≡ gaps 0 c.args.len c.args.spans.now = c.in_ok-put_before-2.ensures ∙ gap_last c.loop-span.span-index c.loop-span.from c.args.len c.args.spans.now c.loop-span.list.items (gaps 0 c.args.len c.args.spans.now) c.loop-span-test.false c.loop-span.invariant.done in rw is (gaps_runs c.args.len c.args.spans.now c.requires.apart)
