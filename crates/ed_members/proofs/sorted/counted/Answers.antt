-- One index more.
use Rattle.std.proofs.Common.{◌≡◌, ◌∙◌, ◌++◌, ◌∷◌, [], ap, sym, rules}
use Rattle.ed_members.proofs.Permuted.{places_more}
use Rattle.ed_members.proofs.sorted.counted.Goals as goal

pub loop-index-preserved : goal.loop-index-preserved
loop-index-preserved c =
    let pushed : c.push.new.self.items ≡ c.loop-index.numbers.items ++ c.loop-index.index ∷ [] = search rules in
    pushed ∙ (ap (λ xs. xs ++ c.loop-index.index ∷ []) c.loop-index.invariant ∙ sym (places_more c.loop-index.index))
