use Rattle.std.proofs.Common.{◌≡◌, ℕ, zero, suc, ◌+◌, ◌<◌, List, [], ◌∷◌, ◌++◌, ◌∙◌, length, drop, slice_index_or, refl, sym, ap, append_assoc}
use Rattle.std.proofs.lemmas.List.{drop_more, map-append}
use Rattle.ed_kept.specs.declared.kept.KeptRun.{KeptRun}
use Rattle.ed_kept.specs.Kept.{pairs_of, run_pairs, kept_run}
use Rattle.ed_kept.proofs.Rising.{pairs_push}
use Rattle.ed_elide.specs.Pairs.{turned}
use Rattle.ed_elide.proofs.parts.turned.Goals as goal

turned_row : (i j k : ℕ) → turned (run_pairs i j k) ≡ run_pairs j i k
turned_row i j zero = refl
turned_row i j (suc k) = ap (λ u. (j, i) ∷ u) (turned_row (i + 1) (j + 1) k)

turned_next : (runs list : List KeptRun) (at : ℕ) (d : KeptRun) (whole : List (ℕ × ℕ)) → at < length runs → pairs_of list ++ turned (pairs_of (drop at runs)) ≡ whole
    → pairs_of (list ++ (kept_run (slice_index_or runs at d).new (slice_index_or runs at d).old (slice_index_or runs at d).len ∷ [])) ++ turned (pairs_of (drop (at + 1) runs)) ≡ whole
turned_next runs list at d whole below is =
    let r : KeptRun = slice_index_or runs at d in
    let all : turned (pairs_of (drop at runs)) ≡ run_pairs r.new r.old r.len ++ turned (pairs_of (drop (at + 1) runs)) =
    ap (λ rs. turned (pairs_of rs)) (drop_more runs at d below) ∙ map-append (λ (pair : ℕ × ℕ). (pair.1, pair.0)) (run_pairs r.old r.new r.len) (pairs_of (drop (at + 1) runs)) ∙ ap (λ u. u ++ turned (pairs_of (drop (at + 1) runs))) (turned_row r.old r.new r.len) in
    ap (λ u. u ++ turned (pairs_of (drop (at + 1) runs))) (pairs_push list (kept_run r.new r.old r.len)) ∙ append_assoc (pairs_of list) (run_pairs r.new r.old r.len) (turned (pairs_of (drop (at + 1) runs)))
    ∙ ap (λ u. pairs_of list ++ u) (sym all) ∙ is

pub loop-run-preserved : goal.loop-run-preserved
loop-run-preserved c = rw c.in_ok-push.ensures.items (turned_next c.args.runs.now c.loop-run.list.items c.loop-run.run-index (kept_run 0 0 0) (turned (pairs_of c.args.runs.now)) c.loop-run-test.true c.loop-run.invariant)
