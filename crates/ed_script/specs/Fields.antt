-- Reading the fields of a command from a JSON object.
use Rattle.std.specs.Prelude.{ℕ, ◌^◌, Bool, true, false, ◌&&◌, List, [], ◌∷◌, codes, nat_lt, option_map, option_and_then, unwrap_or, Option, Some, None, if◌then◌else◌}
use Rattle.std.specs.List.{list_any}
use Rattle.std.specs.Str.{bytes_eq}
use Rattle.serde_json.specs.Data.{Data, Items, no_items, item, Members, no_members, member}
use Rattle.serde_json.specs.Find.{get, as_number, as_str, as_array, as_object, as_u64}
use Rattle.ed_base.specs.Names.{is_name}
use Rattle.ed_units.specs.Utf16.{units_of_text}
use Rattle.ed_base.specs.declared.Replace.{Replace}
use Rattle.ed_base.specs.declared.Span.{Span}
use Rattle.ed_base.specs.declared.PointMode.{PointMode}
use Rattle.ed_base.specs.declared.SpanMode.{SpanMode}
use Rattle.ed_base.specs.declared.EdgeMode.{EdgeMode}
use Rattle.ed_base.specs.declared.SpanHow.{SpanHow}
use Rattle.ed_base.specs.declared.ScriptSpan.{ScriptSpan}

infixl 10 ◌>>=◌
abbrev pub ◌>>=◌ : {A B : Type 0} → Option A → (A → Option B) → Option B
o >>= f = option_and_then f o

-- what passes the test
abbrev pub where_true : {A : Type 0} → (A → Bool) → A → Option A
where_true test x = if test x then Some x else None

-- ---- words of the format

abbrev pub name : Data → Option (List ℕ)
name d = as_str d >>= where_true is_name

-- a whole number below 2 ^ 32
abbrev pub whole : Data → Option ℕ
whole d = as_number d >>= as_u64 >>= where_true (λ k. nat_lt k (2 ^ 32))

-- a string, as units
abbrev pub text : Data → Option (List ℕ)
text d = option_map units_of_text (as_str d)

abbrev pub point_mode_of : List ℕ → Option PointMode
point_mode_of word =
    if bytes_eq word (codes "positive") then Some PointMode.Positive
    else (if bytes_eq word (codes "negative") then Some PointMode.Negative else None)

abbrev pub point_mode : Data → Option PointMode
point_mode d = as_str d >>= point_mode_of

abbrev pub span_mode_of : List ℕ → Option SpanMode
span_mode_of word =
    if bytes_eq word (codes "exclusive") then Some SpanMode.EdgeExclusive
    else (if bytes_eq word (codes "inclusive") then Some SpanMode.EdgeInclusive
    else (if bytes_eq word (codes "positive") then Some SpanMode.EdgePositive
    else (if bytes_eq word (codes "negative") then Some SpanMode.EdgeNegative else None)))

abbrev pub span_mode : Data → Option SpanMode
span_mode d = as_str d >>= span_mode_of

-- the modes that a member of a projection may have
abbrev pub member_mode_of : List ℕ → Option SpanMode
member_mode_of word =
    if bytes_eq word (codes "exclusive") then Some SpanMode.EdgeExclusive
    else (if bytes_eq word (codes "inclusive") then Some SpanMode.EdgeInclusive else None)

abbrev pub member_mode : Data → Option SpanMode
member_mode d = as_str d >>= member_mode_of

abbrev pub edge_mode_of : List ℕ → Option EdgeMode
edge_mode_of word =
    if bytes_eq word (codes "allow") then Some EdgeMode.Allow
    else (if bytes_eq word (codes "deny") then Some EdgeMode.Deny else None)

abbrev pub edge_mode : Data → Option EdgeMode
edge_mode d = as_str d >>= edge_mode_of

-- ---- fields

-- the value under a key that has to be there
abbrev pub required : {A : Type 0} → List ℕ → (Data → Option A) → Data → Option A
required key read d = get key d >>= read

-- the value under a key that may be absent
abbrev pub optional : {A : Type 0} → List ℕ → (Data → Option A) → Data → Option (Option A)
optional key read d = read_if_there read (get key d)
  where
    read_if_there : {A : Type 0} → (Data → Option A) → Option Data → Option (Option A)
    read_if_there read None = Some None
    read_if_there read (Some e) = option_map (λ a. Some a) (read e)

-- the same with a value for a key that is absent
abbrev pub defaulted : {A : Type 0} → A → List ℕ → (Data → Option A) → Data → Option A
defaulted default key read d = option_map (λ o. unwrap_or o default) (optional key read d)

-- whether the members have these keys alone
abbrev pub have_only : List (List ℕ) → Members → Bool
have_only keys no_members = true
have_only keys (member key d ms) = list_any (bytes_eq key) keys && have_only keys ms

-- whether the value is an object with these keys alone
abbrev pub has_only : List (List ℕ) → Data → Bool
has_only keys d = only (as_object d)
  where
    only : Option Members → Bool
    only None = false
    only (Some ms) = have_only keys ms

-- each item of an array, read
abbrev pub each_item : {A : Type 0} → (Data → Option A) → Items → Option (List A)
each_item read no_items = Some []
each_item read (item d ds) = read d >>= λ a. option_map (λ rest. a ∷ rest) (each_item read ds)

abbrev pub list_of : {A : Type 0} → (Data → Option A) → Data → Option (List A)
list_of read d = as_array d >>= each_item read

abbrev pub two_fields : Data → Data → Option Span
two_fields s l = whole s >>= λ start. whole l >>= λ len. Some (record { start = start; len = len })

-- an array of a start and a length
unfoldable pub pair : Data → Option Span
pair d = as_array d >>= two
  where
    two : Items → Option Span
    two (item s (item l no_items)) = two_fields s l
    two _ = None

abbrev pub three_fields : Data → Data → Data → Option Replace
three_fields s l t = whole s >>= λ start. whole l >>= λ len. text t >>= λ units. Some (record { start = start; len = len; text = units })

-- an array of a start, a length and a text
unfoldable pub replace : Data → Option Replace
replace d = as_array d >>= three
  where
    three : Items → Option Replace
    three (item s (item l (item t no_items))) = three_fields s l t
    three _ = None

-- an object that tells a span of a buffer, and whether it is to cover its source
unfoldable pub tracked_span : Data → Option ScriptSpan
tracked_span d =
    if has_only (codes "in" ∷ codes "start" ∷ codes "len" ∷ codes "mode" ∷ []) d
    then (required (codes "in") name d >>= λ b. required (codes "start") whole d >>= λ s. required (codes "len") whole d >>= λ l. defaulted SpanMode.EdgeExclusive (codes "mode") member_mode d >>= λ m. Some (ScriptSpan.Tracked b s l m))
    else None

-- a literal text, or a span of a buffer
unfoldable pub script_span : Data → Option ScriptSpan
script_span d = literal_or_tracked (text d)
  where
    literal_or_tracked : Option (List ℕ) → Option ScriptSpan
    literal_or_tracked (Some units) = Some (ScriptSpan.Literal units)
    literal_or_tracked None = tracked_span d

-- by a mode or by a hook, and not by both
abbrev pub one_way : Option SpanMode → Option (List ℕ) → Option SpanHow
one_way (Some mode) None = Some (SpanHow.Mode mode)
one_way None (Some hook) = Some (SpanHow.Custom hook)
one_way _ _ = None
