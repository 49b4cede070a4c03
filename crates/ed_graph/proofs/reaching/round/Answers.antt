-- One more row.
use Rattle.std.proofs.Common.{◌≡◌, ◌∙◌, ◌++◌, ◌∷◌, [], length, map, sym, ap, arith, rules}
use Rattle.std.proofs.lemmas.List.{get_or_read}
use Rattle.std.proofs.lemmas.List.FromFn.{map-range_with_len_more}
use Rattle.ed_base.specs.Numbers.{places}
use Rattle.ed_graph.specs.Standing.{sources_in}
use Rattle.ed_graph.specs.Rounds.{row_over}
use Rattle.ed_graph.proofs.reaching.round.Goals as goal

pub loop-from-preserved : goal.loop-from-preserved
loop-from-preserved c =
    let pushed : c.push.new.self.items ≡ c.loop-from.next.items ++ c.in_ok-row.field-0 ∷ [] = search rules in
    let list : c.as_slice.result.now ≡ sources_in c.args.lists.now c.loop-from.from =
    c.as_slice.ensures ∙ get_or_read c.args.lists.now c.loop-from.from c.index-lists-from.result (omega arith) c.index-lists-from.is [] in
    pushed ∙ (ap (λ xs. xs ++ c.in_ok-row.field-0 ∷ []) c.loop-from.invariant
    ∙ (ap (λ r. map (λ from. row_over (length c.args.lists.now) c.args.rows.now from (sources_in c.args.lists.now from)) (places c.loop-from.from) ++ r ∷ [])
    (c.in_ok-row.ensures ∙ ap (row_over (length c.args.lists.now) c.args.rows.now c.loop-from.from) list)
    ∙ sym (map-range_with_len_more (λ from. row_over (length c.args.lists.now) c.args.rows.now from (sources_in c.args.lists.now from)) 0 c.loop-from.from c.loop-from.from (omega arith))))
