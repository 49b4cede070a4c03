-- The change list that leads to what is shown next is the carrier's step.
use Rattle.std.proofs.Common.{◌≡◌, ℕ, ◌+◌, List, length, map, Option, Some, sym, ap, subst, ◌∙◌, arith}
use Rattle.std.specs.Prelude.{slice_get}
use Rattle.ed_base.specs.declared.piece.Member.{Member}
use Rattle.ed_base.specs.ChangeList.{ChangeList, change_list, new_len, step}
use Rattle.ed_base.specs.Step.{pairs_from}
use Rattle.ed_layers.specs.CarrierStep.{carrier_step}
use Rattle.ed_layers.specs.Records.{members_len}
use Rattle.ed_layers.specs.SourceStep.{SourceStep}
use Rattle.ed_kept.specs.declared.kept.KeptRun.{KeptRun}
use Rattle.ed_project.specs.declared.shown.Shown.{Shown}
use Rattle.ed_kept.specs.Kept.{ArePairsRising, kept_step, pairs_of}
use Rattle.ed_project.specs.Kept.{AllBecome, Rises, all_pairs}
use Rattle.ed_project.specs.Planning.{IsNext}
use Rattle.ed_project.specs.Records.{record_of}
use Rattle.ed_project.proofs.Origins.{origin}
use Rattle.ed_project.proofs.Placing.{slots_from}
use Rattle.ed_project.proofs.Whole.{all_rising, step_is}

pub next_is : (stays : ℕ → Option ℕ) (steps : ℕ → Option SourceStep) (old new : Shown) (runs : List KeptRun) (n : ℕ) (c : ChangeList) → pairs_from 0 (map (origin stays steps (slots_from 0 old.members)) (slots_from 0 new.members)) ≡ pairs_of runs → n ≡ length old.text → length old.text ≡ members_len old.members → length new.text ≡ members_len new.members → c ≡ change_list (kept_step n (length new.text) runs) new.text → step c ≡ kept_step n (length new.text) runs → new_len c ≡ length new.text → IsNext stays steps old new c
next_is stays steps old new runs n c kept size old_long new_long changes steps_are len =
    let same : carrier_step stays steps (record_of old) (record_of new) ≡ kept_step n (length new.text) runs =
    step_is stays steps old.members new.members old.sources new.sources (pairs_of runs) kept
    ∙ ap (λ x. kept_step x (members_len new.members) runs) (sym (size ∙ old_long))
    ∙ ap (λ x. kept_step n x runs) (sym new_long) in
    record {
      changes = changes ∙ ap (λ s. change_list s new.text) (sym same);
      step = steps_are ∙ sym same;
      from = ap (λ (x : ChangeList). x.old_len) changes ∙ size;
      to = len;
      long = new_long;
    }

-- what is found of the members rises in both texts
pub found_rising : (steps : ℕ → Option SourceStep) (old new : List Member) (n m : ℕ) (ps : List (ℕ × ℕ)) → ps ≡ all_pairs steps 0 0 old new → n ≡ members_len old → m ≡ members_len new → AllBecome steps old new → ((i : ℕ) (x : Member) → slice_get new i ≡ Some x → Rises steps x) → ArePairsRising 0 0 n m ps
found_rising steps old new n m ps pairs old_len new_len become rise =
    let a : 0 + members_len old ≡ n = omega arith in
    let b : 0 + members_len new ≡ m = omega arith in
    subst (λ x. ArePairsRising 0 0 n m x) (sym pairs) (subst (λ x. ArePairsRising 0 0 n x (all_pairs steps 0 0 old new)) b (subst (λ x. ArePairsRising 0 0 x (0 + members_len new) (all_pairs steps 0 0 old new)) a (all_rising steps 0 0 old new become rise)))
