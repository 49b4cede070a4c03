-- A stock between groups, as an edit that is sent down finds it.
use Rattle.std.specs.Prelude.{◌≡◌, ◌≢◌, ℕ, ◌<◌, ◌≤◌, Bool, true, List, length, slice_get, Some}
use Rattle.std.specs.List.{AllByRecursion as Each}
use Rattle.ed_base.specs.declared.edit.Span.{Span}
use Rattle.ed_base.specs.declared.mode.SpanMode.{SpanMode}
use Rattle.ed_base.specs.declared.piece.Member.{Member}
use Rattle.ed_base.specs.Spans.{end_of}
use Rattle.ed_layers.specs.Graph.{height}
use Rattle.ed_layers.specs.Order.{in_order, is_inclusive}
use Rattle.ed_layers.specs.Records.{elision, is_carrier, members_of, sources_of, version_in}
use Rattle.ed_layers.specs.Texts.{text_over}
use Rattle.ed_stock.specs.Stock.{Stock, count, now, record_now, sources_now, text_now}

-- how high a buffer stands
abbrev pub height_now : Stock → ℕ → ℕ
height_now s b = height (sources_now s) (count s) b

-- ---- members

-- the members on the source are in order
abbrev pub AreApart : List Member → ℕ → Type 0
AreApart members source = (i j : ℕ) (x y : Span) (mode mode' : SpanMode) → i ≢ j → slice_get members i ≡ Some (Member.Tracked source x mode) → slice_get members j ≡ Some (Member.Tracked source y mode') → in_order (i, x) (j, y) ≡ true

-- the members are in order, lie inside their sources, and a member that is to cover its source does, alone
pub record AreFitting (members : List Member) (texts : ℕ → List ℕ) : Type 0 where
  pub apart : (b : ℕ) → AreApart members b
  pub inside : (k b : ℕ) (x : Span) (mode : SpanMode) → slice_get members k ≡ Some (Member.Tracked b x mode) → end_of x ≤ length (texts b)
  pub covers : (k b : ℕ) (x : Span) (mode : SpanMode) → slice_get members k ≡ Some (Member.Tracked b x mode) → is_inclusive mode ≡ true → (x.start ≡ 0) × (x.len ≡ length (texts b))
  pub alone : (k j b : ℕ) (x y : Span) (mode mode' : SpanMode) → slice_get members k ≡ Some (Member.Tracked b x mode) → is_inclusive mode ≡ true → slice_get members j ≡ Some (Member.Tracked b y mode') → j ≡ k

-- ---- the stock

-- each source of a carrier is lower
abbrev pub AreLower : Stock → Type 0
AreLower s = (c k b : ℕ) (x : Span) (mode : SpanMode) → slice_get (members_of (record_now s c)) k ≡ Some (Member.Tracked b x mode) → height_now s b < height_now s c

-- the sources that a buffer names are there, and lower
abbrev pub NamesLower : Stock → Type 0
NamesLower s = (c : ℕ) → c < count s → Each (λ v. (v.0 < count s) × (height_now s v.0 < height_now s c)) (sources_of (record_now s c))

-- the text of each carrier is what its members show of its sources' texts
abbrev pub AreShown : Stock → Type 0
AreShown s = (c : ℕ) → is_carrier (record_now s c) ≡ true → text_now s c ≡ text_over (text_now s) (members_of (record_now s c))

-- The members of each carrier fit their sources, which are there at the versions that it names; an elision buffer says of each unit of its source whether it is hidden.
pub record IsReady (s : Stock) : Type 0 where
  pub lower : AreLower s
  pub named : (c k b : ℕ) (x : Span) (mode : SpanMode) → slice_get (members_of (record_now s c)) k ≡ Some (Member.Tracked b x mode) → (version_in (sources_of (record_now s c)) b ≡ Some (now s b)) × (b < count s)
  pub fitting : (c : ℕ) → AreFitting (members_of (record_now s c)) (text_now s)
  pub deep : AreShown s
  pub hides : (c source version : ℕ) (flags : List Bool) → record_now s c ≡ elision flags source version → (source < count s) × (height_now s source < height_now s c) × (length flags ≡ length (text_now s source))
