use Rattle.std.proofs.Common.{◌≡◌, Bool, true, false, if◌then◌else◌, List, [], ◌++◌, ◌+◌, ◌-◌, ◌≤◌, ◌∷◌, ◌∙◌, length, drop, ap, sym, arith}
use Rattle.ed_base.specs.ChangeList.{new_len}
use Rattle.ed_base.specs.declared.edit.Span.{Span}
use Rattle.ed_layers.specs.Hidden.{among_hidden}
use Rattle.ed_spans.specs.SpanSets.{before}
use Rattle.ed_elide.specs.AfterStep.{left_of, right_of}
use Rattle.ed_elide.proofs.PutLemmas.{Putting, putting_at, putting_fits, putting_more, putting_none}
use Rattle.ed_elide.proofs.hidden.Hidden.put_spans.Goals as goal
use Rattle.ed_elide.proofs.hidden.Hidden.put_spans.Goals.{After-change-item, Joined-is_among, then-is_among+in_ok-put, else-is_among}

pub loop-change-init : goal.loop-change-init
loop-change-init c = rw (c.new-spans.ensures.items, c.as_slice-list.ensures.changes) (putting_none c.args.self.now c.args.changes.now c.as_slice-list.ensures.normal)

left : (c : After-change-item) → Putting c.args.self.now c.args.changes.now c.loop-change.old c.loop-change.new c.loop-change.spans.items (c.change-item.result ∷ drop (c.loop-change.change-index + 1) c.as_slice-list.result.now)
left c = putting_at c.args.self.now c.args.changes.now c.loop-change.old c.loop-change.new c.loop-change.change-index c.loop-change.spans.items c.as_slice-list.result.now c.change-item.result c.loop-change-test.true c.change-item.is c.loop-change.invariant

fits : (c : After-change-item) → (c.loop-change.old ≤ c.change-item.result.start) × ((c.change-item.result.start + c.change-item.result.old_len ≤ c.args.changes.now.old_len) × (c.loop-change.new + (c.change-item.result.start - c.loop-change.old) + length c.change-item.result.text ≤ new_len c.args.changes.now))
fits c = putting_fits c.args.self.now c.args.changes.now c.loop-change.old c.loop-change.new c.loop-change.spans.items c.change-item.result (drop (c.loop-change.change-index + 1) c.as_slice-list.result.now) (left c)

pub overflow_add-start : goal.overflow_add-start
overflow_add-start c = omega (arith, (fits (goal.at.overflow_add-start c).After-change-item).1.1, c.as_slice-list.ensures.normal.fits)

pub overflow_cast-new : goal.overflow_cast-new
overflow_cast-new c = omega (arith, (fits (goal.at.overflow_cast-new c).After-change-item).1.1, c.as_slice-list.ensures.normal.fits, ap length c.as_slice.ensures)

pub overflow_add-new : goal.overflow_add-new
overflow_add-new c = omega (arith, (fits (goal.at.overflow_add-new c).After-change-item).1.1, c.as_slice-list.ensures.normal.fits, ap length c.as_slice.ensures)

-- what the test has told
tested : (c : Joined-is_among) → (b : Bool) → c.is_among.result ≡ b → among_hidden c.args.self.now (left_of c.change-item.result.start) (right_of c.args.changes.now.old_len (c.change-item.result.start + c.change-item.result.old_len)) ≡ b
tested c b is = ap (λ n. among_hidden c.args.self.now (left_of c.change-item.result.start) (right_of n (c.change-item.result.start + c.change-item.result.old_len))) c.requires ∙ sym c.is_among.ensures ∙ is

more : (c : Joined-is_among) → (spans : List Span) → spans ≡ (if among_hidden c.args.self.now (left_of c.change-item.result.start) (right_of c.args.changes.now.old_len (c.change-item.result.start + c.change-item.result.old_len)) then c.loop-change.spans.items ++ before (c.loop-change.new + (c.change-item.result.start - c.loop-change.old)) (c.loop-change.new + (c.change-item.result.start - c.loop-change.old) + length c.change-item.result.text) [] else c.loop-change.spans.items)
    → Putting c.args.self.now c.args.changes.now (c.change-item.result.start + c.change-item.result.old_len) (c.loop-change.new + (c.change-item.result.start - c.loop-change.old) + length c.as_slice.result.now) spans (drop (c.loop-change.change-index + 1) c.as_slice-list.result.now)
more c spans is =
    rw c.as_slice.ensures
    (putting_more c.args.self.now c.args.changes.now c.loop-change.old c.loop-change.new c.loop-change.spans.items c.change-item.result (drop (c.loop-change.change-index + 1) c.as_slice-list.result.now) (left (goal.at.loop-change-preserved c).After-change-item) spans is)

pub loop-change-preserved : goal.loop-change-preserved
loop-change-preserved c = elim c.if-is_among.branch [
  | then-is_among+in_ok-put w ↦ more c c.if-is_among.spans.items (rw (tested c true w.if-is_among.true) (ap (λ v. v.items) w.spans-is ∙ w.in_ok-put.ensures ∙ ap (λ t. c.loop-change.spans.items ++ before (c.loop-change.new + (c.change-item.result.start - c.loop-change.old)) (c.loop-change.new + (c.change-item.result.start - c.loop-change.old) + length t) []) c.as_slice.ensures))
  | else-is_among w ↦ more c c.if-is_among.spans.items (rw (tested c false w.if-is_among.false) (ap (λ v. v.items) w.spans-is))
]
