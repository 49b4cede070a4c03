-- Sending what arrives at a carrier down to its sources.
use Rattle.std.specs.Prelude.{ℕ, zero, suc, ◌+◌, ◌-◌, Bool, true, false, ◌&&◌, List, [], ◌∷◌, ◌++◌, length, map, flat_map, nat_eq, slice_range, Option, Some, None, option_map, if◌then◌else◌}
use Rattle.std.specs.List.{enumerate_from}
use Rattle.std.specs.List.{filter_map}
use Rattle.ed_base.specs.declared.edit.Span.{Span}
use Rattle.ed_base.specs.declared.piece.Member.{Member}
use Rattle.ed_base.specs.declared.piece.Piece.{Piece}
use Rattle.ed_base.specs.declared.piece.Side.{Side}
use Rattle.ed_base.specs.declared.refusal.Refusal.{Refusal}
use Rattle.ed_base.specs.declared.rule.CutRule.{CutRule}
use Rattle.ed_base.specs.Numbers.{first_some, or_else}
use Rattle.ed_base.specs.Spans.{end_of, is_empty, touches_gap, shares_unit, shared}
use Rattle.ed_base.specs.Hooks.{CutRules, cut}
use Rattle.ed_layers.specs.Records.{placement}
use Rattle.ed_layers.specs.Pieces.{Component}

-- a tracked member to which a component goes: its index, its source and bounds, and its part of the component's range, in the source
pub record Target : Type 0 where
  pub member : ℕ
  pub source : ℕ
  pub bounds : Span
  pub part : Span

abbrev pub range_of : Component → Span
range_of c = record { start = c.start; len = c.old_len }

-- a span of the carrier's text inside a placement, in the source
abbrev in_source : Span → Span → Span → Span
in_source place bounds s = record { start = bounds.start + (s.start - place.start); len = s.len }

-- The target that a member is, if it is one: under an insertion a member that has the gap, both ends included, and else one with deleted units.
abbrev pub target_at : Component → Span → ℕ × Member → Option Target
target_at c place (i, Member.Literal units) = None
target_at c place (i, Member.Tracked source bounds mode) =
    if (if nat_eq c.old_len 0 then touches_gap place c.start else shares_unit place (range_of c))
    then Some (record { member = i; source = source; bounds = bounds; part = in_source place bounds (if nat_eq c.old_len 0 then range_of c else shared place (range_of c)) })
    else None

abbrev pub targets : List Member → Component → List Target
targets members c = filter_map (λ im. target_at c (placement members im.0) im) (enumerate_from 0 members)

-- ---- refusals

-- the deleted part of a literal
abbrev pub literal_part : Component → Span → ℕ × Member → Option Span
literal_part c place (i, Member.Literal units) = if shares_unit place (range_of c) then Some (shared place (range_of c)) else None
literal_part c place (i, Member.Tracked source bounds mode) = None

abbrev pub deleted_literal : List Member → Component → Option Span
deleted_literal members c = first_some (map (λ im. literal_part c (placement members im.0) im) (enumerate_from 0 members))

-- why a component can't be sent: it deletes a unit of a literal, or it has no target
abbrev pub component_fault : ℕ → List Member → Component → Option Refusal
component_fault carrier members c = or_else (option_map (Refusal.Literal carrier) (deleted_literal members c))
    (elim (targets members c) [ [] ↦ Some (Refusal.NoPlace carrier c.start) | t ∷ ts ↦ None ])

abbrev pub sending_fault : ℕ → List Member → List Component → Option Refusal
sending_fault carrier members [] = None
sending_fault carrier members (c ∷ cs) = or_else (component_fault carrier members c) (sending_fault carrier members cs)

-- ---- shares

-- where the share of target i of k ends, of n units; without a resolver the last gets all
abbrev pub share_end : Option CutRule → ℕ → ℕ → ℕ → ℕ
share_end (Some rule) n k i = if nat_eq k 1 then n else cut rule n k i
share_end None n k i = if nat_eq (i + 1) k then n else 0

abbrev pub share_start : Option CutRule → ℕ → ℕ → ℕ → ℕ
share_start rule n k zero = 0
share_start rule n k (suc i) = share_end rule n k i

abbrev pub share : Option CutRule → List (ℕ × List (ℕ × ℕ)) → ℕ → ℕ → List (ℕ × List (ℕ × ℕ))
share rule text k i = slice_range text (share_start rule (length text) k i) (share_end rule (length text) k i)

-- ---- pieces

-- whether two ways are the same
abbrev pub is_same_way : List (ℕ × ℕ) → List (ℕ × ℕ) → Bool
is_same_way [] [] = true
is_same_way (a ∷ as_) (b ∷ bs) = nat_eq a.0 b.0 && nat_eq a.1 b.1 && is_same_way as_ bs
is_same_way _ _ = false

-- a run of units of one trail
pub record Run : Type 0 where
  pub trail : List (ℕ × ℕ)
  pub units : List ℕ

abbrev pub onto_runs : ℕ × List (ℕ × ℕ) → List Run → List Run
onto_runs m [] = record { trail = m.1; units = m.0 ∷ [] } ∷ []
onto_runs m (r ∷ rs) = if is_same_way m.1 r.trail then record { trail = r.trail; units = m.0 ∷ r.units } ∷ rs else record { trail = m.1; units = m.0 ∷ [] } ∷ r ∷ rs

abbrev pub trail_runs : List (ℕ × List (ℕ × ℕ)) → List Run
trail_runs [] = []
trail_runs (m ∷ ms) = onto_runs m (trail_runs ms)

-- L where the piece starts at the end of the member's bounds, R where it starts at their start, the member not being empty, and M elsewhere
abbrev pub side_at : Span → ℕ → Side
side_at bounds p = if is_empty bounds then Side.M else (if nat_eq p (end_of bounds) then Side.L else (if nat_eq p bounds.start then Side.R else Side.M))

abbrev pub piece_of : ℕ → Target → ℕ → Run → Piece
piece_of carrier t len r = record { start = t.part.start; len = len; text = r.units; trail = r.trail ++ ((carrier, t.member) ∷ []); side = side_at t.bounds t.part.start }

-- a piece for each run; the first has the target's part of the range, and a target with a part and no text has one piece
abbrev pub target_pieces : ℕ → Target → List Run → List Piece
target_pieces carrier t [] = if is_empty t.part then [] else piece_of carrier t t.part.len (record { trail = []; units = [] }) ∷ []
target_pieces carrier t (r ∷ rs) = piece_of carrier t t.part.len r ∷ map (piece_of carrier t 0) rs

-- a piece, and the buffer to which it goes
abbrev pub Sent : Type 0
Sent = ℕ × Piece

abbrev rule_of : Option CutRules → Component → Option CutRule
rule_of resolver c = option_map (λ r. if nat_eq c.old_len 0 then r.on_insert else r.on_replace) resolver

abbrev target_sent : ℕ → Option CutRule → List (ℕ × List (ℕ × ℕ)) → ℕ → ℕ × Target → List (ℕ × Piece)
target_sent carrier rule text k it = map (λ p. (it.1.source, p)) (target_pieces carrier it.1 (trail_runs (share rule text k it.0)))

unfoldable pub component_sent : ℕ → List Member → Option CutRules → Component → List (ℕ × Piece)
component_sent carrier members resolver c =
    let ts : List Target = targets members c in
    flat_map (target_sent carrier (rule_of resolver c) c.text (length ts)) (enumerate_from 0 ts)

-- what a carrier sends on, by component, target and run
abbrev pub sent : ℕ → List Member → Option CutRules → List Component → List (ℕ × Piece)
sent carrier members resolver cs = flat_map (component_sent carrier members resolver) cs
