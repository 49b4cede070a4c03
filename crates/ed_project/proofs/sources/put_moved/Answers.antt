use Rattle.std.proofs.Common.{◌≡◌, ℕ, List, ◌++◌, take, ap, sym, ◌∙◌, append_assoc, arith}
use Rattle.ed_kept.specs.Kept.{pairs_of, run_pairs, runs_of}
use Rattle.ed_project.specs.Kept.{shown_pairs}
use Rattle.ed_kept.proofs.RunLemmas.{step_len}
use Rattle.ed_project.proofs.SourceRuns.{shown_enough, shown_more, shown_whole, step_rises}
use Rattle.ed_project.proofs.sources.put_moved.Goals as goal

pub returns-then-shift-run-clause-shown : goal.returns-then-shift-run-clause-shown
returns-then-shift-run-clause-shown c =
    c.loop-i.invariant
    ∙ ap (λ zs. pairs_of c.args.runs.now.items ++ zs) (shown_enough c.args.shift.now c.args.changes.now c.loop-i.i c.run_at-run.result c.run_at-run.ensures.normal (omega arith) c.run_at-run.ensures.run (omega (arith, c.if-shift-run.true)))

pub returns-then-shift-run-clause-rising : goal.returns-then-shift-run-clause-rising
returns-then-shift-run-clause-rising c = step_rises c.args.changes.now c.run_at-run.ensures.normal

pub put_shown-requires-clause-new : goal.put_shown-requires-clause-new
put_shown-requires-clause-new c = omega (arith, c.requires.new, step_len c.args.changes.now c.run_at-run.ensures.normal, c.run_at-run.ensures.normal.fits)

pub put_shown-requires-clause-run_new : goal.put_shown-requires-clause-run_new
put_shown-requires-clause-run_new c = omega (arith, c.run_at-run.ensures.new, c.run_at-run.ensures.normal.fits)

pub loop-i-preserved : goal.loop-i-preserved
loop-i-preserved c =
    let shown : List (ℕ × ℕ) = shown_pairs c.args.shift.now (run_pairs c.run_at-run.result.old c.run_at-run.result.new c.run_at-run.result.len) in
    let done : List (ℕ × ℕ) = shown_pairs c.args.shift.now (pairs_of (take c.loop-i.i (runs_of c.args.changes.now))) in
    c.in_ok-put_shown.ensures ∙ ap (λ zs. zs ++ shown) c.loop-i.invariant ∙ append_assoc (pairs_of c.args.runs.now.items) done shown
    ∙ ap (λ zs. pairs_of c.args.runs.now.items ++ zs) (sym (shown_more c.args.shift.now c.args.changes.now c.loop-i.i c.run_at-run.result c.run_at-run.ensures.run))

pub put_shown-requires-2-clause-new : goal.put_shown-requires-2-clause-new
put_shown-requires-2-clause-new c = omega (arith, c.requires.new, step_len c.args.changes.now c.run_at.ensures.normal, c.run_at.ensures.normal.fits)

pub put_shown-requires-2-clause-run_new : goal.put_shown-requires-2-clause-run_new
put_shown-requires-2-clause-run_new c = omega (arith, c.run_at.ensures.new, c.run_at.ensures.normal.fits)

pub returns-clause-shown : goal.returns-clause-shown
returns-clause-shown c =
    let count : ℕ = c.count-count.result in
    let shown : List (ℕ × ℕ) = shown_pairs c.args.shift.now (run_pairs c.run_at.result.old c.run_at.result.new c.run_at.result.len) in
    let done : List (ℕ × ℕ) = shown_pairs c.args.shift.now (pairs_of (take c.loop-i.i (runs_of c.args.changes.now))) in
    let last : c.loop-i.i ≡ count = omega arith in
    c.in_ok-put_shown-2.ensures ∙ ap (λ zs. zs ++ shown) c.loop-i.invariant ∙ append_assoc (pairs_of c.args.runs.now.items) done shown
    ∙ ap (λ n. pairs_of c.args.runs.now.items ++ (shown_pairs c.args.shift.now (pairs_of (take n (runs_of c.args.changes.now))) ++ shown)) last
    ∙ ap (λ zs. pairs_of c.args.runs.now.items ++ zs) (sym (shown_more c.args.shift.now c.args.changes.now count c.run_at.result c.run_at.ensures.run) ∙ shown_whole c.args.shift.now c.args.changes.now count c.run_at.ensures.normal (omega arith))

pub returns-clause-rising : goal.returns-clause-rising
returns-clause-rising c = step_rises c.args.changes.now c.run_at.ensures.normal
