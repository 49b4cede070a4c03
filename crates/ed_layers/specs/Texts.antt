-- The text of members over the texts of their sources.
use Rattle.std.specs.Prelude.{ℕ, List, flat_map, slice_range}
use Rattle.ed_base.specs.declared.piece.Member.{Member}
use Rattle.ed_base.specs.Spans.{end_of}

-- a literal, or the part of the source's text between the bounds
abbrev pub member_text : (ℕ → List ℕ) → Member → List ℕ
member_text source_text (Member.Literal units) = units
member_text source_text (Member.Tracked source bounds mode) = slice_range (source_text source) bounds.start (end_of bounds)

abbrev pub text_over : (ℕ → List ℕ) → List Member → List ℕ
text_over source_text members = flat_map (member_text source_text) members
