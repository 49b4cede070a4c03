-- Spans that lie apart stand in order, and none is to cover the source.
use Rattle.std.proofs.Common.{◌≡◌, arith, ◌∙◌, ap, map, [], length, Option, Some, None, MatchOption}
use Rattle.ed_base.specs.declared.refusal.Refusal.{Refusal}
use Rattle.ed_members.specs.declared.fault.MemberFault.{MemberFault}
use Rattle.ed_layers.specs.Records.{members_len, tracked}
use Rattle.ed_members.specs.Faults.{first_fault, len_in}
use Rattle.ed_elide.proofs.ShownLemmas.{members_held, no_fault}
use Rattle.ed_elide.proofs.hidden.Hidden.members.Goals as goal
use Rattle.ed_elide.proofs.hidden.Hidden.members.Goals.{In_ok-list}

faultless : (c : In_ok-list) → first_fault (len_in []) c.in_ok-list.list.items ≡ None
faultless c = rw (c.in_ok-list.ensures, c.deref.ensures.value) (no_fault (len_in []) c.args.source (length c.args.self.now) c.in_ok-shown.shown.items c.in_ok-shown.ensures.apart)

memory_only : (o : Option Refusal) (e : MemberFault) (Q : Refusal → Type 0) → o ≡ None → MatchOption o (e ≡ MemberFault.OutOfMemory) Q → e ≡ MemberFault.OutOfMemory
memory_only None e Q none says = says
memory_only (Some r) e Q none says = absurd (let impossible : ⊥ = cc in impossible)

pub unreachable-requires : goal.unreachable-requires
unreachable-requires c =
    let is : c.in-Err-Mode.field-0 ≡ MemberFault.OutOfMemory = memory_only (first_fault (len_in []) c.in_ok-list.list.items) c.in-Err-Mode.field-0 _ (faultless (goal.at.unreachable-requires c).In_ok-list) c.in-Err-Mode.ensures.fault in
    let other = c.in-Err-Mode.field-0-is in cc

pub unreachable-requires-in-Err-Overlap : goal.unreachable-requires-in-Err-Overlap
unreachable-requires-in-Err-Overlap c =
    let is : c.in-Err-Overlap.field-0 ≡ MemberFault.OutOfMemory = memory_only (first_fault (len_in []) c.in_ok-list.list.items) c.in-Err-Overlap.field-0 _ (faultless (goal.at.unreachable-requires-in-Err-Overlap c).In_ok-list) c.in-Err-Overlap.ensures.fault in
    let other = c.in-Err-Overlap.field-0-is in cc

pub returns-in-Ok-clause-len : goal.returns-in-Ok-clause-len
returns-in-Ok-clause-len c =
    ap members_len (c.in-Ok.ensures.members ∙ c.in_ok-list.ensures ∙ ap (map (tracked c.args.source)) c.deref.ensures.value)
    ∙ members_held c.args.source 0 (length c.args.self.now) c.in_ok-shown.shown.items c.in_ok-shown.ensures.apart ∙ c.in_ok-shown.ensures.near (length c.args.self.now) (omega arith)
