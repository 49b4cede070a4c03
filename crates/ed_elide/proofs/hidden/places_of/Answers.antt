use Rattle.std.proofs.Common.{◌≡◌, ◌+◌, ◌-◌, ◌<◌, ◌∷◌, ◌++◌, [], ◌∙◌, ℕ, List, drop, length, slice_index_or, ap, sym, arith, append_assoc}
use Rattle.std.proofs.lemmas.List.{drop_more}
use Rattle.ed_base.specs.declared.edit.Span.{Span}
use Rattle.ed_base.specs.Spans.{end_of}
use Rattle.ed_spans.proofs.GapLemmas.{apart_next}
use Rattle.ed_elide.specs.Kept.{shown_before}
use Rattle.ed_elide.proofs.hidden.places_of.Goals as goal

abbrev no_span : Span
no_span = record { start = 0; len = 0 }

next : (at p j : ℕ) (spans : List Span) (done whole : List ℕ) → at < length spans → done ++ shown_before p j (drop at spans) ≡ whole
    → (done ++ (j + ((slice_index_or spans at no_span).start - p)) ∷ []) ++ shown_before (end_of (slice_index_or spans at no_span)) (j + ((slice_index_or spans at no_span).start - p)) (drop (at + 1) spans) ≡ whole
next at p j spans done whole below is =
    let s : Span = slice_index_or spans at no_span in
    append_assoc done ((j + (s.start - p)) ∷ []) (shown_before (end_of s) (j + (s.start - p)) (drop (at + 1) spans))
    ∙ ap (λ ss. done ++ shown_before p j ss) (sym (drop_more spans at no_span below)) ∙ is

pub loop-span-preserved : goal.loop-span-preserved
loop-span-preserved c =
    let inv = c.loop-span.invariant in
    let next_apart = apart_next c.loop-span.span-index c.loop-span.end c.args.len c.args.spans.now no_span c.loop-span-test.true inv.apart in
    record {
      within = omega (arith, inv.within, next_apart.0);
      apart = next_apart.1.1;
      done = rw c.in_ok-push.ensures.items (next c.loop-span.span-index c.loop-span.end c.loop-span.shown c.args.spans.now c.loop-span.places.items (shown_before 0 0 c.args.spans.now) c.loop-span-test.true inv.done);
    }
