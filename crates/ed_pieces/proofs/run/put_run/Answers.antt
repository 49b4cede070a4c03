-- The last run takes the units, or one more stands behind it.
use Rattle.std.proofs.Common.{◌≡◌, ◌<◌, ◌-◌, ◌++◌, ◌∷◌, [], ◌∙◌, true, false, length, ap, sym, Some, rules}
use Rattle.std.specs.Prelude.{slice_get, slice_set}
use Rattle.std.specs.Vec.{vec_len}
use Rattle.ed_layers.specs.Sending.{is_same_way}
use Rattle.ed_pieces.specs.Runs.{run}
use Rattle.ed_pieces.proofs.Cutting.{at_last, on_ok, put_first, put_joined, put_last, set_again}
use Rattle.ed_pieces.proofs.run.put_run.Goals.{in-Some+else-is_same_way, in_default}
use Rattle.ed_pieces.proofs.run.put_run.Goals as goal

pub returns-then-is_same_way : goal.returns-then-is_same_way
returns-then-is_same_way c =
    let n : vec_len c.args.runs.now ≡ length c.args.runs.now.items = search rules in
    let some : 0 < vec_len c.args.runs.now = search rules in
    let units : 0 < length c.args.units.now = search rules in
    let is : slice_get c.args.runs.now.items (length c.args.runs.now.items - 1) ≡ Some c.in-Some.last.now = at_last c.args.runs.now.items (vec_len c.args.runs.now) c.in-Some.last.now n some c.in-Some.ensures.value in
    let way : c.as_slice.result.now ≡ c.in-Some.last.now.trail = c.as_slice.ensures ∙ ap (λ r. r.trail) c.last.view_is in
    let same : is_same_way c.in-Some.last.now.trail c.args.trail.now ≡ true = rw (way, c.as_slice-in-Some.ensures) at (sym c.is_same_way.ensures ∙ c.if-is_same_way.true) in
    on_ok c.extend.result
    (λ e. ap (λ k. slice_set c.args.runs.now.items (k - 1) c.extend.new.self) n ∙ ap (λ r. slice_set c.args.runs.now.items (length c.args.runs.now.items - 1) r) e ∙ put_joined c.args.runs.now.items c.in-Some.last.now c.args.trail.now c.args.units.now units is same)
    c.extend.ensures

pub returns : goal.returns
returns c =
    let n : vec_len c.args.runs.now ≡ length c.args.runs.now.items = search rules in
    let units : 0 < length c.args.units.now = search rules in
    let pushed : c.push.new.self.items ≡ c.match-last_mut.runs.items ++ run c.args.trail.now c.args.units.now ∷ [] = search rules in
    elim c.match-last_mut.branch [
      | in-Some+else-is_same_way w ↦
          let some : 0 < vec_len c.args.runs.now = search rules in
          let is : slice_get c.args.runs.now.items (length c.args.runs.now.items - 1) ≡ Some w.in-Some.last.now = at_last c.args.runs.now.items (vec_len c.args.runs.now) w.in-Some.last.now n some w.in-Some.ensures.value in
          let way : w.as_slice.result.now ≡ w.in-Some.last.now.trail = w.as_slice.ensures ∙ ap (λ r. r.trail) w.last.view_is in
          let other : is_same_way w.in-Some.last.now.trail c.args.trail.now ≡ false = rw (way, w.as_slice-in-Some.ensures) at (sym w.is_same_way.ensures ∙ w.if-is_same_way.false) in
          let kept : c.match-last_mut.runs.items ≡ c.args.runs.now.items = ap (λ v. v.items) w.runs-is ∙ ap (λ k. slice_set c.args.runs.now.items (k - 1) w.in-Some.last.now) n ∙ set_again c.args.runs.now.items (length c.args.runs.now.items - 1) w.in-Some.last.now is in
          pushed ∙ ap (λ rs. rs ++ run c.args.trail.now c.args.units.now ∷ []) kept ∙ put_last c.args.runs.now.items w.in-Some.last.now c.args.trail.now c.args.units.now units is other
      | in_default w ↦
          let none : vec_len c.args.runs.now ≡ 0 = search rules in
          let kept : c.match-last_mut.runs.items ≡ c.args.runs.now.items = ap (λ v. v.items) w.runs-is in
          pushed ∙ ap (λ rs. rs ++ run c.args.trail.now c.args.units.now ∷ []) kept ∙ put_first c.args.runs.now.items c.args.trail.now c.args.units.now units (sym n ∙ none)
    ]
