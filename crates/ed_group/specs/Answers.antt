-- What a stock answers to those who change it.
use Rattle.std.specs.Prelude.{ℕ, ◌+◌, ◌<◌, ◌≤◌, List, [], ◌∷◌, length, Option, None}
use Rattle.ed_base.specs.declared.Member.{Member}
use Rattle.ed_base.specs.declared.Refusal.{Refusal}
use Rattle.ed_base.specs.Numbers.{first_some}
use Rattle.ed_base.specs.declared.Span.{Span}
use Rattle.ed_base.specs.Spans.{end_of}
use Rattle.ed_layers.specs.Order.{mode_fault, overlap_fault}
use Rattle.ed_layers.specs.Records.{base, members_of}
use Rattle.ed_stock.specs.Stock.{Stock, record_now, text_now, count}
use Rattle.ed_stock.specs.Limits.{stock_limits}
use Rattle.ed_stock.specs.Linking.{cycle, depth}
use Rattle.ed_stock.specs.Making.{elide_set, elision_of, with_new, projection_of, sources_in, spans_replaced, spans_set}

abbrev pub len_now : Stock → ℕ → ℕ
len_now s b = length (text_now s b)

-- the source of a tracked member is there, and the bounds lie in its current text
abbrev pub LiesIn : Stock → Member → Type 0
LiesIn s (Member.Literal units) = Unit {0}
LiesIn s (Member.Tracked source bounds mode) = (source < count s) × (end_of bounds ≤ len_now s source)

-- ---- new buffers

abbrev pub with_base : Stock → List ℕ → Stock
with_base s text = with_new s (base text 0) None

abbrev pub with_projection : Stock → List Member → Option (List ℕ) → Stock
with_projection s members resolver = with_new s (projection_of s members) resolver

-- why no buffer is added
abbrev pub base_fault : Stock → List ℕ → Option Refusal
base_fault s text = first_some (stock_limits (with_base s text))

abbrev pub projection_fault : Stock → List Member → Option Refusal
projection_fault s members = first_some (mode_fault (len_now s) members ∷ overlap_fault members ∷ depth s (count s + 1) (count s) (sources_in [] members) ∷ first_some (stock_limits (with_projection s members None)) ∷ [])

abbrev pub with_elision : Stock → ℕ → List Span → Option (List ℕ) → Stock
with_elision s source hide resolver = with_new s (elision_of s source hide) resolver

abbrev pub elision_fault : Stock → ℕ → List Span → Option Refusal
elision_fault s source hide = first_some (depth s (count s + 1) (count s) (source ∷ []) ∷ first_some (stock_limits (with_elision s source hide None)) ∷ [])

-- ---- other hidden places

-- why no others are hidden
abbrev pub hidden_fault : Stock → ℕ → List Span → List Span → Option Refusal
hidden_fault s b hide show = first_some (stock_limits (elide_set s b hide show).stock)

-- ---- replaced spans

abbrev pub members_now : Stock → ℕ → List Member
members_now s b = members_of (record_now s b)

-- why members aren't replaced
abbrev pub spans_fault : Stock → ℕ → ℕ → ℕ → List Member → Option Refusal
spans_fault s b first removed added =
    let shown : List Member = spans_replaced (members_now s b) first removed added in
    first_some (mode_fault (len_now s) shown ∷ overlap_fault shown ∷ cycle s b added ∷ depth s (count s) b (sources_in [] shown) ∷ first_some (stock_limits (spans_set s b first removed added).stock) ∷ [])
