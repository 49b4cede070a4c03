-- A carrier sends on as many units as arrived at it.
use Rattle.std.proofs.Common.{◌≡◌, ℕ, ◌+◌, Bool, true, false, List, [], ◌∷◌, length, length-append, map, if◌then◌else◌, Option, None, refl, sym, ap, ◌∙◌}
use Rattle.std.specs.Prelude.{flat_map, sum_by}
use Rattle.std.specs.List.{enumerate_from, range_with_len}
use Rattle.std.proofs.lemmas.List.{length-map}
use Rattle.std.proofs.lemmas.List.Sums.{sum_by-append, sum_by-cons}
use Rattle.ed_base.specs.declared.piece.Member.{Member}
use Rattle.ed_base.specs.declared.piece.Piece.{Piece}
use Rattle.ed_base.specs.declared.rule.CutRule.{CutRule}
use Rattle.ed_base.specs.Hooks.{CutRules}
use Rattle.ed_base.specs.Spans.{is_empty}
use Rattle.ed_layers.specs.Pieces.{Component}
use Rattle.ed_layers.specs.Sending.{Run, Target, component_sent, piece_of, sending_fault, sent, share, target_pieces, targets, trail_runs}
use Rattle.ed_sending.proofs.Carriers.CarrierText.{AllCutsRise}
use Rattle.ed_sending.proofs.Groups.Faultless.{all_cuts_rise}
use Rattle.ed_sending.proofs.Members.Shares.{CutsRise, run_units, runs_are, shares_are}
use Rattle.ed_sending.proofs.Members.Targets.{rule_for}

-- how many units a piece puts in
abbrev units_in : ℕ × Piece → ℕ
units_in bp = length bp.1.text

module _ (carrier : ℕ) (t : Target) where
  rest_units : (rs : List Run) → sum_by units_in (map (λ p. (t.source, p)) (map (piece_of carrier t 0) rs)) ≡ length (flat_map run_units rs)
  rest_units [] = refl
  rest_units (r ∷ rs) =
      let one : sum_by units_in (map (λ p. (t.source, p)) (map (piece_of carrier t 0) (r ∷ rs))) ≡ length r.units + sum_by units_in (map (λ p. (t.source, p)) (map (piece_of carrier t 0) rs)) =
      sum_by-cons units_in (t.source, piece_of carrier t 0 r) (map (λ p. (t.source, p)) (map (piece_of carrier t 0) rs)) in
      one ∙ ap (λ z. length r.units + z) (rest_units rs) ∙ ap (λ z. z + length (flat_map run_units rs)) (sym (length-map r.units (λ u. (u, r.trail)))) ∙ sym (length-append (run_units r) (flat_map run_units rs))

  -- a target gets a piece for each run
  target_units : (rs : List Run) → sum_by units_in (map (λ p. (t.source, p)) (target_pieces carrier t rs)) ≡ length (flat_map run_units rs)
  target_units [] = either (is_empty t.part)
    where
      either : (b : Bool) → sum_by units_in (map (λ p. (t.source, p)) (if b then [] else piece_of carrier t t.part.len (record { trail = []; units = [] }) ∷ [])) ≡ 0
      either true = refl
      either false = refl
  target_units (r ∷ rs) =
      let one : sum_by units_in (map (λ p. (t.source, p)) (target_pieces carrier t (r ∷ rs))) ≡ length r.units + sum_by units_in (map (λ p. (t.source, p)) (map (piece_of carrier t 0) rs)) =
      sum_by-cons units_in (t.source, piece_of carrier t t.part.len r) (map (λ p. (t.source, p)) (map (piece_of carrier t 0) rs)) in
      one ∙ ap (λ z. length r.units + z) (rest_units rs) ∙ ap (λ z. z + length (flat_map run_units rs)) (sym (length-map r.units (λ u. (u, r.trail)))) ∙ sym (length-append (run_units r) (flat_map run_units rs))

-- the targets get the shares
shares_units : (carrier : ℕ) (rule : Option CutRule) (text : List (ℕ × List (ℕ × ℕ))) (k j : ℕ) (ts : List Target) →
    sum_by units_in (flat_map (λ (it : ℕ × Target). map (λ p. (it.1.source, p)) (target_pieces carrier it.1 (trail_runs (share rule text k it.0)))) (enumerate_from j ts)) ≡ length (flat_map (share rule text k) (range_with_len j (length ts)))
shares_units carrier rule text k j [] = refl
shares_units carrier rule text k j (t ∷ ts) =
    sum_by-append units_in (map (λ p. (t.source, p)) (target_pieces carrier t (trail_runs (share rule text k j)))) (flat_map (λ (it : ℕ × Target). map (λ p. (it.1.source, p)) (target_pieces carrier it.1 (trail_runs (share rule text k it.0)))) (enumerate_from (j + 1) ts))
    ∙ ap (λ z. z + sum_by units_in (flat_map (λ (it : ℕ × Target). map (λ p. (it.1.source, p)) (target_pieces carrier it.1 (trail_runs (share rule text k it.0)))) (enumerate_from (j + 1) ts))) (target_units carrier t (trail_runs (share rule text k j)) ∙ ap (λ z. length z) (runs_are (share rule text k j)))
    ∙ ap (λ z. length (share rule text k j) + z) (shares_units carrier rule text k (j + 1) ts)
    ∙ sym (length-append (share rule text k j) (flat_map (share rule text k) (range_with_len (j + 1) (length ts))))

component_units : (carrier : ℕ) (members : List Member) (resolver : Option CutRules) (c : Component) → CutsRise (rule_for resolver c) (length c.text) (length (targets members c)) → sum_by units_in (component_sent carrier members resolver c) ≡ length c.text
unfolding component_sent
component_units carrier members resolver c cuts =
    shares_units carrier (rule_for resolver c) c.text (length (targets members c)) 0 (targets members c)
    ∙ ap (λ z. length z) (shares_are (rule_for resolver c) c.text (length (targets members c)) cuts)

all_units : (carrier : ℕ) (members : List Member) (resolver : Option CutRules) (cs : List Component) → AllCutsRise members resolver cs → sum_by units_in (sent carrier members resolver cs) ≡ sum_by (λ c. length c.text) cs
all_units carrier members resolver [] cuts = refl
all_units carrier members resolver (c ∷ cs) cuts =
    sum_by-append units_in (component_sent carrier members resolver c) (sent carrier members resolver cs)
    ∙ ap (λ z. z + sum_by units_in (sent carrier members resolver cs)) (component_units carrier members resolver c cuts.0)
    ∙ ap (λ z. length c.text + z) (all_units carrier members resolver cs cuts.1)
    ∙ sym (sum_by-cons (λ (d : Component). length d.text) c cs)

pub sent_units : (carrier : ℕ) (members : List Member) (resolver : Option CutRules) (cs : List Component) → sending_fault carrier members cs ≡ None → sum_by (λ bp. length bp.1.text) (sent carrier members resolver cs) ≡ sum_by (λ c. length c.text) cs
sent_units carrier members resolver cs none = all_units carrier members resolver cs (all_cuts_rise carrier members resolver cs none)
