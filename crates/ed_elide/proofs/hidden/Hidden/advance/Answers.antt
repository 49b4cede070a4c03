-- What stays hidden, and what is put in among hidden units but for what came through the buffer.
use Rattle.std.proofs.Common.{◌≡◌, length, ℕ, ◌-◌, ◌<◌, ◌^◌, not, ◌||◌, ◌&&◌, ap, ◌∙◌, arith}
use Rattle.std.specs.List.{All, list_any}
use Rattle.ed_base.specs.ChangeList.{IsNormal, new_len, step}
use Rattle.ed_kept.specs.Kept.{ArePairsRising, pairs_of}
use Rattle.ed_kept.proofs.RunLemmas.{runs_pairs}
use Rattle.ed_layers.specs.Hidden.{hidden_by}
use Rattle.ed_spans.specs.SpanSets.{AreApartFrom, EndsWithin, in_spans}
use Rattle.ed_spans.proofs.EndLemmas.{apart_later, apart_within}
use Rattle.ed_elide.specs.AfterStep.{new_spans, own_spans, put_spans}
use Rattle.ed_elide.specs.Pairs.{placed_in}
use Rattle.ed_elide.proofs.AdvanceLemmas.{advanced, new_hold, new_within, own_within}
use Rattle.ed_elide.proofs.FlagLemmas.{length_flags}
use Rattle.ed_elide.proofs.PairLemmas.{at}
use Rattle.ed_elide.proofs.PutLemmas.{all_puts_apart}
use Rattle.ed_elide.proofs.ShownPairs.{pairs_within, placed_within}
use Rattle.ed_elide.proofs.hidden.Hidden.advance.Goals as goal
use Rattle.ed_elide.proofs.hidden.Hidden.advance.Goals.{After-runs, In_ok-hidden, In_ok-stayed, In_ok-spans}

normal : (c : After-runs) → IsNormal c.args.step.now.changes
normal c = c.kept_by.ensures.normal

kept_rising : (c : After-runs) → ArePairsRising 0 0 c.args.step.now.changes.old_len (new_len c.args.step.now.changes) (pairs_of c.in_ok-kept.kept.items)
kept_rising c = runs_pairs 0 0 c.args.step.now.changes.old_len (new_len c.args.step.now.changes) c.in_ok-kept.kept.items c.in_ok-kept.ensures.rising

apart : (c : After-runs) → AreApartFrom 0 c.args.step.now.changes.old_len c.runs.result.now
apart c = rw c.requires c.runs.ensures.apart

pub parts_within-requires-clause-rising : goal.parts_within-requires-clause-rising
parts_within-requires-clause-rising c = rw c.deref.ensures.value (pairs_within c.args.step.now.changes.old_len (new_len c.args.step.now.changes) (2 ^ 32 - 1) (2 ^ 32 - 1) (pairs_of c.in_ok-kept.kept.items) (omega (arith, c.kept_by.ensures.old_short)) (omega (arith, (normal c).fits)) (kept_rising c))

pub parts_within-requires-clause-apart : goal.parts_within-requires-clause-apart
parts_within-requires-clause-apart c = apart_later 0 c.args.step.now.changes.old_len (2 ^ 32 - 1) c.runs.result.now (omega (arith, c.kept_by.ensures.old_short)) (apart c)

-- the kept pairs that are hidden
pairs_are : (c : In_ok-hidden) → pairs_of c.in_ok-hidden.hidden.items ≡ placed_in 0 c.runs.result.now (pairs_of c.in_ok-kept.kept.items)
pairs_are c = c.in_ok-hidden.ensures ∙ ap (λ rs. placed_in 0 c.runs.result.now (pairs_of rs)) c.deref.ensures.value

hidden_rising : (d : After-runs) (c : In_ok-hidden) → ArePairsRising 0 0 c.args.step.now.changes.old_len (new_len c.args.step.now.changes) (placed_in 0 c.runs.result.now (pairs_of c.in_ok-kept.kept.items)) → ArePairsRising 0 0 c.args.step.now.changes.old_len (new_len c.args.step.now.changes) (pairs_of c.in_ok-hidden.hidden.items)
hidden_rising d c rising = rw (pairs_are c) rising

placed : (c : After-runs) → ArePairsRising 0 0 c.args.step.now.changes.old_len (new_len c.args.step.now.changes) (placed_in 0 c.runs.result.now (pairs_of c.in_ok-kept.kept.items))
placed c = placed_within c.args.step.now.changes.old_len (new_len c.args.step.now.changes) c.runs.result.now (pairs_of c.in_ok-kept.kept.items) (apart c) (kept_rising c)

pub new_spans-requires : goal.new_spans-requires
new_spans-requires c =
    let d : After-runs = (goal.at.new_spans-requires c).After-runs in
    let h : In_ok-hidden = (goal.at.new_spans-requires c).In_ok-hidden in
    rw (c.deref-2.ensures.value, pairs_are h) (pairs_within c.args.step.now.changes.old_len (new_len c.args.step.now.changes) (2 ^ 32 - 1) (2 ^ 32 - 1) (placed_in 0 c.runs.result.now (pairs_of c.in_ok-kept.kept.items)) (omega (arith, c.kept_by.ensures.old_short)) (omega (arith, (normal d).fits)) (placed d))

-- where the spans end
stayed_within : (c : In_ok-stayed) → ArePairsRising 0 0 c.args.step.now.changes.old_len (new_len c.args.step.now.changes) (pairs_of c.in_ok-hidden.hidden.items) → All (EndsWithin (new_len c.args.step.now.changes)) c.in_ok-stayed.stayed.items
stayed_within c rising = rw (c.in_ok-stayed.ensures, c.deref-2.ensures.value) (new_within 0 0 c.args.step.now.changes.old_len (new_len c.args.step.now.changes) c.in_ok-hidden.hidden.items rising)

pub difference-requires-clause-apart : goal.difference-requires-clause-apart
difference-requires-clause-apart c =
    let d : After-runs = (goal.at.difference-requires-clause-apart c).After-runs in
    rw (c.new_len-len.ensures, c.deref-3.ensures.value, c.in_ok-put.ensures.spans) (all_puts_apart c.args.self.now c.args.step.now.changes (normal d))

pub difference-requires-clause-within : goal.difference-requires-clause-within
difference-requires-clause-within c = rw (c.deref-4.ensures.value, c.in_ok-own.ensures) (own_within c.args.me c.new_len-len.result c.as_slice.result.now)

pub union-requires-clause-first : goal.union-requires-clause-first
union-requires-clause-first c =
    let d : After-runs = (goal.at.union-requires-clause-first c).After-runs in
    let all : All (EndsWithin (new_len c.args.step.now.changes)) c.deref-5.result.now = rw c.deref-5.ensures.value (stayed_within (goal.at.union-requires-clause-first c).In_ok-stayed (hidden_rising d (goal.at.union-requires-clause-first c).In_ok-hidden (placed d))) in
    λ k x below. omega (arith, all k x below, (normal d).fits)

pub union-requires-clause-second : goal.union-requires-clause-second
union-requires-clause-second c = rw c.deref-6.ensures.value (apart_within 0 c.new_len-len.result (2 ^ 32 - 1) c.in_ok-among.among.items (omega (arith, c.new_len-len.type_inv)) c.in_ok-among.ensures.apart)

pub kept-requires : goal.kept-requires
kept-requires c =
    let d : After-runs = (goal.at.kept-requires c).After-runs in
    let all : All (EndsWithin (new_len c.args.step.now.changes)) c.deref-5.result.now = rw c.deref-5.ensures.value (stayed_within (goal.at.kept-requires c).In_ok-stayed (hidden_rising d (goal.at.kept-requires c).In_ok-hidden (placed d))) in
    rw c.new_len-len.ensures
    (c.in_ok-spans.ensures.apart (new_len c.args.step.now.changes) all
    (rw (c.deref-6.ensures.value) (apart_within 0 c.new_len-len.result (new_len c.args.step.now.changes) c.in_ok-among.among.items (omega (arith, c.new_len-len.ensures)) c.in_ok-among.ensures.apart)))

-- what the spans hold
holds : (c : In_ok-spans) → pairs_of c.in_ok-hidden.hidden.items ≡ placed_in 0 c.runs.result.now (pairs_of c.in_ok-kept.kept.items) → (q : ℕ) → q < new_len c.args.step.now.changes
    → in_spans c.in_ok-spans.spans.items q ≡ (list_any (at q) (placed_in 0 c.runs.result.now (step c.args.step.now.changes).kept) || (in_spans (put_spans c.args.self.now c.args.step.now.changes.old_len 0 0 c.args.step.now.changes.changes) q && not (in_spans (own_spans c.args.me (new_len c.args.step.now.changes) c.args.step.now.trails) q)))
holds c pairs q below =
    let stayed : in_spans c.deref-5.result.now q ≡ list_any (at q) (placed_in 0 c.runs.result.now (step c.args.step.now.changes).kept) =
    ap (λ ss. in_spans ss q) (c.deref-5.ensures.value ∙ c.in_ok-stayed.ensures ∙ ap new_spans c.deref-2.ensures.value) ∙ new_hold q c.in_ok-hidden.hidden.items
    ∙ ap (list_any (at q)) (pairs ∙ ap (placed_in 0 c.runs.result.now) c.in_ok-kept.ensures.kept) in
    let put : in_spans c.deref-3.result.now q ≡ in_spans (put_spans c.args.self.now c.args.step.now.changes.old_len 0 0 c.args.step.now.changes.changes) q = ap (λ ss. in_spans ss q) (c.deref-3.ensures.value ∙ c.in_ok-put.ensures.spans) in
    let own : in_spans c.deref-4.result.now q ≡ in_spans (own_spans c.args.me (new_len c.args.step.now.changes) c.args.step.now.trails) q =
    ap (λ ss. in_spans ss q) (c.deref-4.ensures.value ∙ c.in_ok-own.ensures) ∙ ap (λ n. in_spans (own_spans c.args.me n c.as_slice.result.now) q) c.new_len-len.ensures ∙ ap (λ rs. in_spans (own_spans c.args.me (new_len c.args.step.now.changes) rs) q) c.as_slice.ensures.runs in
    let among : in_spans c.deref-6.result.now q ≡ (in_spans c.deref-3.result.now q && not (in_spans c.deref-4.result.now q)) = ap (λ ss. in_spans ss q) c.deref-6.ensures.value ∙ c.in_ok-among.ensures.holds q (omega (arith, below, c.new_len-len.ensures)) in
    c.in_ok-spans.ensures.holds q ∙ ap (λ x. x || in_spans c.deref-6.result.now q) stayed
    ∙ ap (λ x. list_any (at q) (placed_in 0 c.runs.result.now (step c.args.step.now.changes).kept) || x) (among ∙ ap (λ x. x && not (in_spans c.deref-4.result.now q)) put ∙ ap (λ x. in_spans (put_spans c.args.self.now c.args.step.now.changes.old_len 0 0 c.args.step.now.changes.changes) q && not x) own)

pub returns-clause-flags : goal.returns-clause-flags
returns-clause-flags c =
    let d : After-runs = (goal.at.returns-clause-flags c).After-runs in
    c.in_ok-next.ensures ∙ ap (λ n. hidden_by n c.in_ok-spans.spans.items) c.new_len-len.ensures
    ∙ advanced c.args.self.now c.args.me c.args.step.now.changes c.args.step.now.trails c.runs.result.now c.in_ok-spans.spans.items (normal d) c.requires c.as_slice.ensures.rising c.runs.ensures.flags
    (holds (goal.at.returns-clause-flags c).In_ok-spans (pairs_are (goal.at.returns-clause-flags c).In_ok-hidden))

pub returns-clause-len : goal.returns-clause-len
returns-clause-len c = ap length c.in_ok-next.ensures ∙ length_flags c.new_len-len.result c.in_ok-spans.spans.items ∙ c.new_len-len.ensures
