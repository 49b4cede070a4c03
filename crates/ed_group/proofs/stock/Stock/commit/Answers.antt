use Rattle.std.proofs.Common.{refl, subst}
use Rattle.ed_risen.specs.Rising.{IsSettled}
use Rattle.ed_held.specs.Seen.{stock}
use Rattle.ed_climb.proofs.Committed.{made_known, made_current, made_one, made_stay, made_stock}
use Rattle.ed_group.proofs.stock.Stock.commit.Goals as goal

pub returns-clause-stock : goal.returns-clause-stock
returns-clause-stock c =
    made_stock c.args.self.now _ c.args.group c.requires
    (made_known c.args.self.now c.self.inside.buffers.items c.deref_mut.result.now c.make-graph.new.buffers c.self.inside.buffers.len c.args.group.moves c.args.group.turned c.args.group c.self.view_is c.deref_mut.ensures.value c.deref_mut.ensures.len
    c.make-graph.ensures.len c.make-graph.ensures.known refl refl)

pub returns-clause-one : goal.returns-clause-one
returns-clause-one c =
    made_one c.args.self.now _ c.args.group c.requires
    (made_known c.args.self.now c.self.inside.buffers.items c.deref_mut.result.now c.make-graph.new.buffers c.self.inside.buffers.len c.args.group.moves c.args.group.turned c.args.group c.self.view_is c.deref_mut.ensures.value c.deref_mut.ensures.len
    c.make-graph.ensures.len c.make-graph.ensures.known refl refl)

pub returns-clause-current : goal.returns-clause-current
returns-clause-current c =
    made_current c.args.self.now _ c.args.group c.requires
    (made_known c.args.self.now c.self.inside.buffers.items c.deref_mut.result.now c.make-graph.new.buffers c.self.inside.buffers.len c.args.group.moves c.args.group.turned c.args.group c.self.view_is c.deref_mut.ensures.value c.deref_mut.ensures.len
    c.make-graph.ensures.len c.make-graph.ensures.known refl refl)

pub returns-clause-stay : goal.returns-clause-stay
returns-clause-stay c =
    made_stay c.args.self.now _ c.args.group c.requires
    (made_known c.args.self.now c.self.inside.buffers.items c.deref_mut.result.now c.make-graph.new.buffers c.self.inside.buffers.len c.args.group.moves c.args.group.turned c.args.group c.self.view_is c.deref_mut.ensures.value c.deref_mut.ensures.len
    c.make-graph.ensures.len c.make-graph.ensures.known refl refl) (subst (λ hs. IsSettled (stock hs)) c.self.view_is c.self.invariant.settled)
