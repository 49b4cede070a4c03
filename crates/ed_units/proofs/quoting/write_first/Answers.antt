use Rattle.std.proofs.Common.{◌<◌, ◌≡◌, ◌&&◌, ◌++◌, get_or, drop, length, ◌∙◌, sym, ap, false, arith}
use Rattle.std.specs.Prelude.{encode_utf8}
use Rattle.std.specs.Char.Utf16.{is_high_surrogate, is_low_surrogate}
use Rattle.ed_units.specs.Quoted.{quoted_units}
use Rattle.ed_units.proofs.FirstUnits.{first_pair, first_alone, joined}
use Rattle.ed_units.proofs.quoting.write_first.Goals as goal
use Rattle.ed_units.proofs.quoting.write_first.Goals.{else-units-gt1-via-then-units-gt1+else-is_pair, else-units-gt1-via-else-units-gt1}

pub returns-then-is_pair-clause-ok : goal.returns-then-is_pair-clause-ok
returns-then-is_pair-clause-ok c = λ rest end.
    let units = c.args.units.now in
    let first = first_pair units rest (omega arith) (sym c.is_pair.ensures ∙ c.if-is_pair.true) in
    joined _ _ _ _ _ c.in_ok-write_char.ensures.ok
    (first ∙ ap (λ character. encode_utf8 character ++ quoted_units (drop 2 units ++ rest)) (sym c.pair_char.ensures))

pub returns-clause-ok : goal.returns-clause-ok
returns-clause-ok c = λ rest end.
    let units = c.args.units.now in
    let alone : 1 < length units → (is_high_surrogate (get_or units 0 0) && is_low_surrogate (get_or units 1 0)) ≡ false =
    elim c.else-units-gt1.branch [
      | else-units-gt1-via-then-units-gt1+else-is_pair w ↦ λ _. sym w.is_pair.ensures ∙ w.if-is_pair.false
      | else-units-gt1-via-else-units-gt1 w ↦ λ long. absurd (omega arith)
    ] in
    joined _ _ _ _ _ c.in_ok-write_unit.ensures.ok (first_alone units rest c.requires end alone)
