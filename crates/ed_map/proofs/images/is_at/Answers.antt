use Rattle.std.proofs.Common.{Some, sym, ap, ◌∙◌}
use Rattle.std.proofs.lemmas.Option.{slice_get-get_or}
use Rattle.std.proofs.lemmas.Bool.{eqb-true}
use Rattle.ed_map.proofs.images.is_at.Goals as goal

pub returns-then-eq-clause-told : goal.returns-then-eq-clause-told
returns-then-eq-clause-told c =
    let k = c.in-Some.entry.now in
    let found = c.in-Some.ensures.lookup in
    λ same. record {
      entry = k;
      there = slice_get-get_or c.args.known.now c.args.at k found.3.0 ∙ ap Some (sym found.1);
      buffer = eqb-true k.buffer c.args.b (sym c.if-eq.ensures);
      version = eqb-true k.version c.args.v (sym c.eq-then-eq.ensures ∙ same);
    }
