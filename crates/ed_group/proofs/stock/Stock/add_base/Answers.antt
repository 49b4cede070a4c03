use Rattle.std.proofs.Common.{◌∙◌, map, sym, subst, arith}
use Rattle.ed_climb.specs.Kept.{IsKept}
use Rattle.ed_held.specs.Seen.{known}
use Rattle.ed_group.proofs.Based.{base_judged, base_put}
use Rattle.ed_climb.proofs.KeptNumbers.{held_count, held_few, held_len, refuses_none, refuses_this}
use Rattle.ed_group.proofs.Lasting.{others_stay}
use Rattle.ed_group.proofs.stock.Stock.add_base.Goals as goal

pub returns-in-Some-clause-fault : goal.returns-in-Some-clause-fault
returns-in-Some-clause-fault c =
    let kept : IsKept (map known c.args.self.now) c.self.inside.graph c.self.inside.counts = subst (λ hs. IsKept (map known hs) c.self.inside.graph c.self.inside.counts) c.self.view_is c.self.invariant in
    refuses_this _ _ c.in-Some.refusal (base_judged c.args.self.now c.self.inside.graph c.self.inside.counts kept c.args.text.now c.from-buffers.result c.with_buffer-counts.result (c.from-buffers.ensures ∙ c.count.ensures ∙ held_len c.args.self.now c.self.inside.graph c.self.inside.counts kept) c.with_buffer-counts.ensures c.new_limit.result c.new_limit.ensures ∙ c.in-Some.is)

pub add-requires : goal.add-requires
add-requires c =
    let kept : IsKept (map known c.args.self.now) c.self.inside.graph c.self.inside.counts = subst (λ hs. IsKept (map known hs) c.self.inside.graph c.self.inside.counts) c.self.view_is c.self.invariant in
    omega (arith, held_few c.args.self.now c.self.inside.graph c.self.inside.counts kept)

pub put-requires : goal.put-requires
put-requires c =
    let kept : IsKept (map known c.args.self.now) c.self.inside.graph c.self.inside.counts = subst (λ hs. IsKept (map known hs) c.self.inside.graph c.self.inside.counts) c.self.view_is c.self.invariant in
    record {
      kept = base_put c.args.self.now c.self.inside.graph c.self.inside.counts kept c.args.text.now c.from-buffers.result c.with_buffer-counts.result (c.from-buffers.ensures ∙ c.count.ensures ∙ held_len c.args.self.now c.self.inside.graph c.self.inside.counts kept) c.with_buffer-counts.ensures (sym c.new_limit.ensures ∙ c.in_default.is)
          c.in_ok-graph.graph c.in_ok-graph.ensures.graph c.in_ok-base.base (c.in_ok-base.ensures.buffer ∙ c.in_ok-graph.ensures.number) c.in_ok-base.ensures.versions c.in_ok-base.ensures.changes c.in_ok-base.ensures.regions;
    }

pub returns-clause-fault : goal.returns-clause-fault
returns-clause-fault c =
    let kept : IsKept (map known c.args.self.now) c.self.inside.graph c.self.inside.counts = subst (λ hs. IsKept (map known hs) c.self.inside.graph c.self.inside.counts) c.self.view_is c.self.invariant in
    refuses_none _ c.in_ok-graph.buffer (base_judged c.args.self.now c.self.inside.graph c.self.inside.counts kept c.args.text.now c.from-buffers.result c.with_buffer-counts.result (c.from-buffers.ensures ∙ c.count.ensures ∙ held_len c.args.self.now c.self.inside.graph c.self.inside.counts kept) c.with_buffer-counts.ensures c.new_limit.result c.new_limit.ensures ∙ c.in_default.is)

pub returns-clause-number : goal.returns-clause-number
returns-clause-number c =
    let kept : IsKept (map known c.args.self.now) c.self.inside.graph c.self.inside.counts = subst (λ hs. IsKept (map known hs) c.self.inside.graph c.self.inside.counts) c.self.view_is c.self.invariant in
    c.in_ok-graph.ensures.number ∙ held_count c.args.self.now c.self.inside.graph c.self.inside.counts kept

pub returns-clause-stay : goal.returns-clause-stay
returns-clause-stay c =
    let kept : IsKept (map known c.args.self.now) c.self.inside.graph c.self.inside.counts = subst (λ hs. IsKept (map known hs) c.self.inside.graph c.self.inside.counts) c.self.view_is c.self.invariant in
    others_stay c.args.self.now c.self.inside.graph c.self.inside.counts kept c.put.new.self _ c.in_ok-put.ensures.ok
