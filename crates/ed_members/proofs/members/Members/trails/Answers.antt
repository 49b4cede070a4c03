-- One member more, and all.
use Rattle.std.proofs.Common.{◌≡◌, ℕ, List, Result, Ok, Err, IfOk, ap, arith, sym, subst, ◌∙◌}
use Rattle.ed_layers.specs.CarrierStep.{record_trails}
use Rattle.ed_layers.specs.Records.{member_len, members_len, projection}
use Rattle.ed_pieces.specs.Trails.{trails_in}
use Rattle.ed_members.specs.Steps.{steps_seen}
use Rattle.ed_members.specs.Ways.{LieBetween}
use Rattle.ed_members.proofs.HandingUp.{lie_rises, say_all, say_more, placed_len}
use Rattle.ed_members.proofs.members.Members.trails.Goals as goal

pub put_member-requires-clause-lie : goal.put_member-requires-clause-lie
put_member-requires-clause-lie c = subst (λ p. LieBetween 0 p c.loop-index.list.items) (sym (ap (λ s. s.start) c.place-place.ensures.place)) c.loop-index.invariant.lie

pub put_member-requires-clause-place : goal.put_member-requires-clause-place
put_member-requires-clause-place c =
    let len : c.place-place.result.len ≡ member_len c.get-member.result.now = ap (λ s. s.len) c.place-place.ensures.place ∙ placed_len c.args.self.now c.loop-index.index c.get-member.result.now c.get-member.ensures in
    omega (arith, c.place-place.ensures.within, c.len-len.ensures, c.len-len.type_inv)

pub loop-index-preserved : goal.loop-index-preserved
loop-index-preserved c =
    say_more c.args.me c.args.of_elision (steps_seen c.args.steps.now) c.args.self.now c.loop-index.index c.place-place.result.start c.get-member.result.now c.loop-index.list.items c.put_member.new.list.items c.get-member.ensures
    (ap (λ s. s.start) c.place-place.ensures.place) c.loop-index.invariant c.in_ok-put_member.ensures

pub of-requires : goal.of-requires
of-requires c = lie_rises 0 _ _ c.loop-index.invariant.lie

if_made : {T E : Type 0} (r : Result T E) (P : T → Type 0) (x : T) → IfOk r (λ t. t ≡ x) → P x → IfOk r P
if_made (Ok t) P x is h = subst P (sym is) h
if_made (Err e) P x is h = tt

pub returns : goal.returns
returns c =
    if_made c.of.result (λ t. (sources : List (ℕ × ℕ)) → trails_in t (members_len c.args.self.now) ≡ record_trails c.args.me c.args.of_elision (steps_seen c.args.steps.now) (projection c.args.self.now sources)) c.loop-index.list.items c.of.ensures
    (say_all c.args.me c.args.of_elision (steps_seen c.args.steps.now) c.args.self.now c.loop-index.index c.loop-index.list.items (omega (arith, c.loop-index-test.false, c.count-index-end.ensures.count)) c.loop-index.invariant)
