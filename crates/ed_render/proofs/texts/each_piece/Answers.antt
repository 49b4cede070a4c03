use Rattle.std.proofs.Common.{◌≡◌, true, ◌+◌, ◌-◌, ◌≤◌, [], ◌++◌, length, drop, nat_eq, ap, ◌∙◌, arith}
use Rattle.std.specs.Prelude.{slice_range}
use Rattle.std.proofs.lemmas.Bool.Decides.{nat_tests}
use Rattle.std.proofs.lemmas.List.{drop_all}
use Rattle.ed_render.proofs.Pieces.{piece_len, next_piece, last_piece}
use Rattle.ed_render.proofs.texts.each_piece.Goals as goal

pub loop-at-preserved : goal.loop-at-preserved
loop-at-preserved g c =
    let us = g.T.Text.units c.args.text.now in
    let at = c.loop-at.at in
    let k = c.min.result in
    let piece = c.as_slice.result.now in
    let fits : at + k ≤ length us = omega arith in
    let is : piece ≡ slice_range us at (at + k) = c.as_slice.ensures ∙ (c.in_ok-copy_out.ensures.ok ∙ ap (λ l. l ++ slice_range us at (at + k)) c.truncate.ensures) in
    let len : length piece ≡ k = ap length is ∙ piece_len us at k fits in
    let end : nat_eq k (c.len-len.result - at) ≡ true → drop (at + k) us ≡ [] = λ e. let all : k ≡ c.len-len.result - at = grind (arith, nat_tests, e) in drop_all (at + k) us (omega (arith, all)) in
    record {
      whole = next_piece us c.loop-at.line.items c.write_units.new.out.items piece _ at k _ is c.in_ok-at.ensures.within (c.in_ok-at.ensures.ok (drop (at + k) us) end) c.loop-at.invariant.whole;
      within = omega (arith, len, c.in_ok-at.ensures.within);
    }

pub returns : goal.returns
returns g c = last_piece (g.T.Text.units c.args.text.now) c.loop-at.line.items _ c.loop-at.at (omega arith) c.loop-at.invariant.whole
