use Rattle.std.proofs.Common.{◌≡◌, ℕ, ◌+◌, ◌-◌, length, ap, sym, subst, ◌∙◌, arith}
use Rattle.ed_layers.specs.CarrierStep.{stay_around}
use Rattle.ed_layers.specs.Records.{members_len}
use Rattle.ed_members.specs.Faults.{replaced}
use Rattle.ed_kept.specs.Kept.{ArePairsRising}
use Rattle.ed_project.specs.Kept.{pairs_around}
use Rattle.ed_project.specs.Planning.{IsNext, added_in}
use Rattle.ed_project.specs.Records.{shown}
use Rattle.ed_project.specs.Texts.{LiteralsStay, no_steps}
use Rattle.ed_project.proofs.Literals.{replaced_stay}
use Rattle.ed_project.proofs.Nexts.{next_is}
use Rattle.ed_project.proofs.Whole.{around_kept, around_rising}
use Rattle.ed_project.proofs.shown.respanned.Goals as goal

pub text_of-requires-clause-stays : goal.text_of-requires-clause-stays
text_of-requires-clause-stays c =
    let added = added_in c.args.first c.args.removed c.args.old.now.members c.args.members in
    let count : ℕ = c.count-2.result - (c.args.first + (c.count.result - (c.args.first + c.args.removed))) in
    let size : count ≡ length (replaced c.args.old.now.members c.args.first c.args.removed added) - (c.args.first + (length c.args.old.now.members - (c.args.first + c.args.removed))) =
    omega (arith, ap length c.requires.others, c.count.ensures.count, c.count-2.ensures.count) in
    subst (λ ms. LiteralsStay (stay_around c.args.first c.args.removed count) c.args.old.now.members ms) (sym c.requires.others) (replaced_stay c.args.old.now.members added c.args.first c.args.removed count c.requires.part size)

pub changes_between-requires : goal.changes_between-requires
changes_between-requires c =
    let behind : ℕ = c.count.result - (c.args.first + c.args.removed) in
    let rising : ArePairsRising 0 0 (members_len c.args.old.now.members) (members_len c.args.members) (pairs_around c.args.old.now.members c.args.members c.args.first behind) =
    around_rising c.args.old.now.members c.args.members c.args.first c.args.removed (added_in c.args.first c.args.removed c.args.old.now.members c.args.members) behind c.requires.part c.requires.others (omega (arith, c.count.ensures.count)) in
    subst (λ ps. ArePairsRising 0 0 c.len.result (length c.in_ok-text.text) ps) (sym c.runs_around-runs.ensures)
    (subst (λ n. ArePairsRising 0 0 n (length c.in_ok-text.text) (pairs_around c.args.old.now.members c.args.members c.args.first behind)) (sym (c.len.ensures.value ∙ c.requires.whole.long))
    (subst (λ n. ArePairsRising 0 0 (members_len c.args.old.now.members) n (pairs_around c.args.old.now.members c.args.members c.args.first behind)) (sym c.in_ok-text.ensures.len) rising))

pub returns-clause-next : goal.returns-clause-next
returns-clause-next c =
    let behind : ℕ = c.count.result - (c.args.first + c.args.removed) in
    let kept = around_kept c.args.old.now.members c.args.members c.args.first c.args.removed (added_in c.args.first c.args.removed c.args.old.now.members c.args.members) behind c.requires.part c.requires.others (omega (arith, c.count.ensures.count)) in
    subst (λ ms. IsNext (stay_around c.args.first c.args.removed (length (added_in c.args.first c.args.removed c.args.old.now.members c.args.members))) no_steps c.args.old.now (shown ms c.in_ok-versions_of.field-0 c.in_ok-text.text) c.in_ok-changes.changes) (sym c.members.view_is)
    (next_is (stay_around c.args.first c.args.removed (length (added_in c.args.first c.args.removed c.args.old.now.members c.args.members))) no_steps c.args.old.now (shown c.args.members c.in_ok-versions_of.field-0 c.in_ok-text.text) c.runs_around-runs.result c.len.result c.in_ok-changes.changes
    (kept ∙ sym c.runs_around-runs.ensures) c.len.ensures.value c.requires.whole.long c.in_ok-text.ensures.len c.in_ok-changes.ensures.changes c.in_ok-changes.ensures.step c.in_ok-changes.ensures.len)
