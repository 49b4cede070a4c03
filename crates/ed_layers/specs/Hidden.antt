-- The hidden places of an elision buffer, as a flag for each place of its source.
use Rattle.std.specs.Prelude.{ℕ, Bool, false, not, ◌&&◌, ◌||◌, List, map, count_by, take, find, nat_lt, Option, Some, None, option_map}
use Rattle.std.specs.Option.{option_map_or}
use Rattle.std.specs.List.{list_any, enumerate_from}
use Rattle.ed_base.specs.declared.edit.Span.{Span}
use Rattle.ed_base.specs.Numbers.{places, find_last}
use Rattle.ed_base.specs.Spans.{holds_place}
use Rattle.ed_layers.specs.Records.{is_hidden}
use Rattle.ed_layers.specs.SourceStep.{SourceStep, trail_at, names, kept_from}

abbrev pub in_some : List Span → ℕ → Bool
in_some spans p = list_any (λ s. holds_place s p) spans

-- what the list hides of a text of this length
abbrev pub hidden_by : ℕ → List Span → List Bool
hidden_by n hide = map (in_some hide) (places n)

-- first the list to hide is added, then the list to show is taken away
abbrev pub elided : List Bool → List Span → List Span → List Bool
elided flags hide show = map (λ pf. (pf.1 || in_some hide pf.0) && not (in_some show pf.0)) (enumerate_from 0 flags)

-- the nearest kept units on both sides of a unit that was put in, by their old places
abbrev pub kept_left : SourceStep → ℕ → Option ℕ
kept_left s q = option_map (λ pair. pair.0) (find_last (λ pair. nat_lt pair.1 q) s.step.kept)

abbrev pub kept_right : SourceStep → ℕ → Option ℕ
kept_right s q = option_map (λ pair. pair.0) (find (λ pair. nat_lt q pair.1) s.step.kept)

-- whether there is a kept neighbour and each that is there was hidden
abbrev pub among_hidden : List Bool → Option ℕ → Option ℕ → Bool
among_hidden flags None None = false
among_hidden flags (Some p) None = is_hidden flags p
among_hidden flags None (Some q) = is_hidden flags q
among_hidden flags (Some p) (Some q) = is_hidden flags p && is_hidden flags q

-- Whether the unit at a new place is hidden: a kept unit stays as it was. One that was put in is hidden among hidden units, unless it was sent through this buffer.
abbrev pub hidden_after : ℕ → SourceStep → List Bool → ℕ → Bool
hidden_after me s flags q = option_map_or (is_hidden flags) (kept_from s.step q) (among_hidden flags (kept_left s q) (kept_right s q) && not (names me (trail_at s q)))

abbrev pub flags_after : ℕ → SourceStep → List Bool → List Bool
flags_after me s flags = map (hidden_after me s flags) (places s.step.new_len)

-- the nearest place of a source position: the number of shown units before it
abbrev pub nearest : List Bool → ℕ → ℕ
nearest flags p = count_by not (take p flags)
