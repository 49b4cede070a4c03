-- One more cell of the row.
use Rattle.std.proofs.Common.{◌≡◌, ◌∙◌, ◌++◌, ◌∷◌, [], ◌||◌, sym, ap, arith, rules}
use Rattle.std.specs.Prelude.{nat_eq}
use Rattle.std.specs.List.{list_any}
use Rattle.std.proofs.lemmas.List.FromFn.{map-range_with_len_more}
use Rattle.ed_graph.specs.Rounds.{row_over, cell_in}
use Rattle.ed_graph.proofs.reaching.row.Goals as goal

pub loop-to-preserved : goal.loop-to-preserved
loop-to-preserved c =
    let pushed : c.push.new.self.items ≡ c.loop-to.cells.items ++ c.next_cell.result ∷ [] = search rules in
    pushed ∙ (ap (λ xs. xs ++ c.next_cell.result ∷ []) c.loop-to.invariant
    ∙ (ap (λ b. row_over c.loop-to.to c.args.rows.now c.args.from c.args.sources.now ++ b ∷ []) c.next_cell.ensures
    ∙ sym (map-range_with_len_more (λ to. nat_eq c.args.from to || list_any (λ s. cell_in c.args.rows.now s to) c.args.sources.now) 0 c.loop-to.to c.loop-to.to (omega arith))))
