use Rattle.std.proofs.Common.{map, subst}
use Rattle.ed_climb.specs.Kept.{IsKept}
use Rattle.ed_held.specs.Seen.{known}
use Rattle.ed_climb.proofs.Asked.{got, held_is, held_number, held_some, held_few, held_texts}
use Rattle.ed_group.proofs.stock.Stock.held.Goals as goal

pub returns-clause-buffer : goal.returns-clause-buffer
returns-clause-buffer c =
    held_is c.args.self.now c.self.inside.graph c.self.inside.counts (subst (λ hs. IsKept (map known hs) c.self.inside.graph c.self.inside.counts) c.self.view_is c.self.invariant) c.args.b c.index.result.now
    (got c.self.inside.buffers.items c.args.self.now c.args.b c.b.inside.0 c.index.result.now c.self.view_is c.b.view_is c.requires c.index.ensures)

pub returns-clause-number : goal.returns-clause-number
returns-clause-number c =
    held_number c.args.self.now c.self.inside.graph c.self.inside.counts (subst (λ hs. IsKept (map known hs) c.self.inside.graph c.self.inside.counts) c.self.view_is c.self.invariant) c.args.b c.index.result.now
    (got c.self.inside.buffers.items c.args.self.now c.args.b c.b.inside.0 c.index.result.now c.self.view_is c.b.view_is c.requires c.index.ensures)

pub returns-clause-some : goal.returns-clause-some
returns-clause-some c =
    held_some c.args.self.now c.self.inside.graph c.self.inside.counts (subst (λ hs. IsKept (map known hs) c.self.inside.graph c.self.inside.counts) c.self.view_is c.self.invariant) c.args.b c.index.result.now
    (got c.self.inside.buffers.items c.args.self.now c.args.b c.b.inside.0 c.index.result.now c.self.view_is c.b.view_is c.requires c.index.ensures)

pub returns-clause-few : goal.returns-clause-few
returns-clause-few c =
    held_few c.args.self.now c.self.inside.graph c.self.inside.counts (subst (λ hs. IsKept (map known hs) c.self.inside.graph c.self.inside.counts) c.self.view_is c.self.invariant) c.args.b c.index.result.now
    (got c.self.inside.buffers.items c.args.self.now c.args.b c.b.inside.0 c.index.result.now c.self.view_is c.b.view_is c.requires c.index.ensures)

pub returns-clause-texts : goal.returns-clause-texts
returns-clause-texts c =
    held_texts c.args.self.now c.self.inside.graph c.self.inside.counts (subst (λ hs. IsKept (map known hs) c.self.inside.graph c.self.inside.counts) c.self.view_is c.self.invariant) c.args.b c.index.result.now
    (got c.self.inside.buffers.items c.args.self.now c.args.b c.b.inside.0 c.index.result.now c.self.view_is c.b.view_is c.requires c.index.ensures)
