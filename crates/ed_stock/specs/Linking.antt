-- Why a buffer can't stand on these sources.
use Rattle.std.specs.Prelude.{ℕ, List, [], find, nat_eq, nat_lt, Option, Some, None, option_map, if◌then◌else◌}
use Rattle.ed_base.specs.declared.piece.Member.{Member}
use Rattle.ed_base.specs.declared.refusal.Refusal.{Refusal}
use Rattle.ed_layers.specs.Graph as graph
use Rattle.ed_stock.specs.Stock.{Stock, reaches, sources_now}
use Rattle.ed_stock.specs.Making.{sources_in}

-- the first source that reaches the buffer
abbrev pub cycle : Stock → ℕ → List Member → Option Refusal
cycle s b added = option_map Refusal.Cycle (find (λ source. reaches s source b) (sources_in [] added))

-- the sources that would be, were these the sources of the buffer
abbrev sources_with : Stock → ℕ → List ℕ → ℕ → List ℕ
sources_with s b sources c = if nat_eq c b then sources else sources_now s c

-- the greatest height among the first n buffers that would arise
abbrev pub depth : Stock → ℕ → ℕ → List ℕ → Option Refusal
depth s n b sources = (let h : ℕ = graph.greatest_height (sources_with s b sources) n in if nat_lt 8 h then Some (Refusal.Depth h) else None)
