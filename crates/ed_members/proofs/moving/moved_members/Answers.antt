-- One member more, and all.
use Rattle.std.proofs.Common.{◌≡◌, ℕ, ◌+◌, ◌<◌, List, ◌∷◌, [], ◌++◌, drop, length, get_or, Option, None, sym, ◌∙◌, ap, subst, arith, rules}
use Rattle.std.specs.Prelude.{slice_index, option_map}
use Rattle.std.proofs.lemmas.List.{get_or_read}
use Rattle.ed_members.specs.Advance.{moved_by}
use Rattle.ed_members.specs.declared.held.Held.{Held}
use Rattle.ed_members.specs.Nexts.{next_in, source_at}
use Rattle.ed_members.specs.Steps.{steps_seen}
use Rattle.std.specs.List.{All, enumerate_from}
use Rattle.ed_base.specs.declared.refusal.Refusal.{Refusal}
use Rattle.ed_layers.specs.Order.{first_conflict, overlap_fault}
use Rattle.ed_members.proofs.NextStarts.{next_known}
use Rattle.ed_members.proofs.StayApart.{apart_after, map_none}
use Rattle.ed_base.specs.declared.piece.Member.{Member}
use Rattle.ed_members.specs.Moving.{EndsInNew}
use Rattle.ed_members.proofs.Within.{after_within, all_rise}
use Rattle.ed_members.proofs.After.{length_after, moved_more, moved_end}
use Rattle.ed_members.proofs.moving.moved_members.Goals as goal

pub loop-index-preserved : goal.loop-index-preserved
loop-index-preserved c =
    let k : ℕ = c.loop-index.index in
    let held : List (Option Held) = c.in_ok-held.held.items in
    let nexts : List (Option ℕ) = c.in_ok-nexts.nexts.items in
    let follow = subst (λ (h : List (Option Held)). (p : ℕ) → p < length c.args.order.now → get_or nexts (slice_index c.args.order.now p) None ≡ next_in c.args.members.now h (source_at c.args.members.now (slice_index c.args.order.now p)) (drop (p + 1) c.args.order.now)) c.deref-2.ensures.value
    c.in_ok-nexts.ensures.each in
    let below : k < length c.args.members.now = c.loop-index-test.true in
    let held_at : c.index-in-loop-index.result.now ≡ get_or held k None = get_or_read held k c.index-in-loop-index.result.now (omega (arith, c.in_ok-held.ensures.held.long)) c.index-in-loop-index.ensures None in
    let next_at : c.index-in-loop-index-2.result.now ≡ get_or nexts k None = get_or_read nexts k c.index-in-loop-index-2.result.now (omega (arith, c.in_ok-nexts.ensures.long)) c.index-in-loop-index-2.ensures None in
    let pushed : c.push.new.self.items ≡ c.loop-index.list.items ++ c.in_ok-moved.field-0 ∷ [] = search rules in
    moved_more c.args.me (steps_seen c.args.steps.now) c.args.members.now held nexts c.args.order.now c.in_ok-held.ensures.held c.requires.sorted c.requires.all follow
    k c.index-members-index.result c.in_ok-moved.field-0 c.loop-index.list.items c.push.new.self.items below c.index-members-index.is
    (c.in_ok-moved.ensures ∙ (ap (λ (h : Option Held). moved_by (steps_seen c.args.steps.now) h c.index-in-loop-index-2.result.now c.index-members-index.result) held_at ∙ ap (λ (n : Option ℕ). moved_by (steps_seen c.args.steps.now) (get_or held k None) n c.index-members-index.result) next_at))
    pushed c.loop-index.invariant

pub returns-clause-members : goal.returns-clause-members
returns-clause-members c = moved_end c.args.me (steps_seen c.args.steps.now) c.args.members.now c.loop-index.list.items c.loop-index.index c.loop-index-test.false c.loop-index.invariant

pub returns-clause-within : goal.returns-clause-within
returns-clause-within c =
    subst (λ (v : List Member). All (EndsInNew (steps_seen c.args.steps.now)) v)
    (sym (moved_end c.args.me (steps_seen c.args.steps.now) c.args.members.now c.loop-index.list.items c.loop-index.index c.loop-index-test.false c.loop-index.invariant))
    (after_within c.args.me (steps_seen c.args.steps.now) c.args.members.now (all_rise c.args.steps.now c.in_ok-held.ensures.sound))

pub returns-clause-count : goal.returns-clause-count
returns-clause-count c =
    ap length (moved_end c.args.me (steps_seen c.args.steps.now) c.args.members.now c.loop-index.list.items c.loop-index.index c.loop-index-test.false c.loop-index.invariant)
    ∙ length_after c.args.me (steps_seen c.args.steps.now) c.args.members.now

pub returns-clause-apart : goal.returns-clause-apart
returns-clause-apart c = λ none inside order.
    subst (λ (v : List Member). overlap_fault v ≡ None)
    (sym (moved_end c.args.me (steps_seen c.args.steps.now) c.args.members.now c.loop-index.list.items c.loop-index.index c.loop-index-test.false c.loop-index.invariant))
    (ap (option_map (λ (pair : ℕ × ℕ). Refusal.Overlap pair.0 pair.1))
    (apart_after c.args.me (steps_seen c.args.steps.now) c.args.members.now (all_rise c.args.steps.now c.in_ok-held.ensures.sound)
    (λ source s is m has. next_known c.args.members.now c.args.order.now c.requires.sorted c.requires.all c.in_ok-held.held.items c.args.me source (steps_seen c.args.steps.now) s is c.in_ok-held.ensures.held m has)
    (map_none (λ (pair : ℕ × ℕ). Refusal.Overlap pair.0 pair.1) (first_conflict (enumerate_from 0 c.args.members.now)) none) inside order))
