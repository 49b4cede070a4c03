-- A buffer without sources stands on nothing.
use Rattle.std.proofs.Common.{◌≡◌, ◌++◌, ◌∷◌, [], rules}
use Rattle.ed_graph.proofs.Shown.{levelled-push}
use Rattle.ed_graph.proofs.graph.Graph.add.Goals as goal

pub build-requires-clause-levelled : goal.build-requires-clause-levelled
build-requires-clause-levelled c =
    let pushed : c.push.new.self.items ≡ c.self.inside.lists ++ [] ∷ [] = search rules in
    rw pushed (levelled-push c.self.inside.lists c.self.invariant.levelled)
