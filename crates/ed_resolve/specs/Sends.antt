-- What goes to the targets of one component.
use Rattle.std.specs.Prelude.{ℕ, Bool, List, [], ◌∷◌, drop, flat_map, map, Option, option_map, if◌then◌else◌}
use Rattle.std.specs.List.{enumerate_from, filter_map}
use Rattle.ed_base.specs.declared.piece.Piece.{Piece}
use Rattle.ed_base.specs.declared.rule.CutRule.{CutRule}
use Rattle.ed_base.specs.Hooks.{CutRules}
use Rattle.ed_base.specs.declared.edit.Span.{Span}
use Rattle.ed_base.specs.declared.piece.Member.{Member}
use Rattle.ed_base.specs.Numbers.{first_some}
use Rattle.ed_layers.specs.Pieces.{Component}
use Rattle.ed_layers.specs.Records.{placement}
use Rattle.ed_layers.specs.Sending.{Run, Target, literal_part, piece_of, share, target_at, target_pieces, trail_runs}

-- the rule for an insertion or a replacement
abbrev pub rule_in : Option CutRules → Bool → Option CutRule
rule_in resolver inserting = option_map (λ r. if inserting then r.on_insert else r.on_replace) resolver

-- a piece, and the buffer to which it goes
abbrev pub to_source : ℕ → Piece → ℕ × Piece
to_source source p = (source, p)

-- what one target gets
abbrev pub dealt_one : ℕ → Option CutRule → List (ℕ × List (ℕ × ℕ)) → ℕ → ℕ × Target → List (ℕ × Piece)
dealt_one carrier rule text k it = map (to_source it.1.source) (target_pieces carrier it.1 (trail_runs (share rule text k it.0)))

-- what the targets of a component get
abbrev pub dealt : ℕ → Option CutRule → List (ℕ × List (ℕ × ℕ)) → ℕ → List Target → List (ℕ × Piece)
dealt carrier rule text k ts = flat_map (dealt_one carrier rule text k) (enumerate_from 0 ts)

-- the pieces of these runs, the first with so much of the range
abbrev pub pieces_from : ℕ → Target → ℕ → List Run → List Piece
pieces_from carrier t len [] = []
pieces_from carrier t len (r ∷ rs) = piece_of carrier t len r ∷ pieces_from carrier t 0 rs

-- ---- members from an index on

-- the targets of a component among the members from this index on
abbrev pub targets_from : List Member → Component → ℕ → List Target
targets_from members c k = filter_map (λ im. target_at c (placement members im.0) im) (enumerate_from k (drop k members))

-- the first literal's part among them that the component deletes
abbrev pub literal_from : List Member → Component → ℕ → Option Span
literal_from members c k = first_some (map (λ im. literal_part c (placement members im.0) im) (enumerate_from k (drop k members)))
