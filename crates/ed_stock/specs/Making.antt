-- New buffers, and changes to what carriers show.
use Rattle.std.specs.Prelude.{ℕ, ◌+◌, Bool, true, false, List, [], ◌∷◌, ◌++◌, length, map, take, drop, Option, if◌then◌else◌}
use Rattle.ed_base.specs.declared.edit.Span.{Span}
use Rattle.ed_base.specs.declared.piece.Member.{Member}
use Rattle.ed_base.specs.Numbers.{is_among}
use Rattle.ed_layers.specs.Records.{Record, projection, elision, members_of}
use Rattle.ed_layers.specs.Hidden.{hidden_by, elided}
use Rattle.ed_layers.specs.CarrierStep.{stay_around, all_stay}
use Rattle.ed_stock.specs.Stock.{Stock, Buffer, buffer, now, record_now, text_now, with_buffer}
use Rattle.ed_stock.specs.Versions.{Rising, with_record, risen, none_given}

-- a new buffer with its first record
abbrev pub with_new : Stock → Record → Option (List ℕ) → Stock
with_new s r resolver = record s { buffers = s.buffers ++ record { records = r ∷ []; changes = []; resolver = resolver; regions = []; regions_given = 0; turns = 0 } ∷ [] }

-- ---- projections

-- the buffers of the tracked members, each once, as they come
abbrev pub sources_in : List ℕ → List Member → List ℕ
sources_in seen [] = []
sources_in seen (Member.Literal units ∷ ms) = sources_in seen ms
sources_in seen (Member.Tracked source bounds mode ∷ ms) = if is_among source seen then sources_in seen ms else source ∷ sources_in (source ∷ seen) ms

-- the record of these members over the current versions
abbrev pub projection_of : Stock → List Member → Record
projection_of s members = projection members (map (λ b. (b, now s b)) (sources_in [] members))

-- the members with `count` of them from `first` on replaced
abbrev pub spans_replaced : List Member → ℕ → ℕ → List Member → List Member
spans_replaced members first count added = take first members ++ added ++ drop (first + count) members

abbrev turn : Buffer → Buffer
turn x = record x { turns = x.turns + 1 }

abbrev with_turn : ℕ → Rising → Rising
with_turn b r = record r { stock = with_buffer r.stock b (turn (buffer r.stock b)) }

-- always a new version, and then the buffers above
unfoldable pub spans_set : Stock → ℕ → ℕ → ℕ → List Member → Rising
spans_set s b first count added =
    with_turn b (risen none_given (with_record (record { stock = s; moves = [] }) b (stay_around first count (length added))
    (projection_of s (spans_replaced (members_of (record_now s b)) first count added))))

-- ---- elision buffers

abbrev pub elision_of : Stock → ℕ → List Span → Record
elision_of s source hide = elision (hidden_by (length (text_now s source)) hide) source (now s source)

abbrev pub is_same_set : List Bool → List Bool → Bool
is_same_set [] [] = true
is_same_set (true ∷ xs) (true ∷ ys) = is_same_set xs ys
is_same_set (false ∷ xs) (false ∷ ys) = is_same_set xs ys
is_same_set _ _ = false

-- a new version, and then the buffers above, only where the hidden set changes
abbrev pub hidden_set : Stock → ℕ → Record → List Bool → Rising
hidden_set s b (elision flags source version) new =
    if is_same_set flags new then record { stock = s; moves = [] }
    else with_turn b (risen none_given (with_record (record { stock = s; moves = [] }) b all_stay (elision new source version)))
hidden_set s b _ new = record { stock = s; moves = [] }

abbrev pub flags_of : Record → List Bool
flags_of (elision flags source version) = flags
flags_of _ = []

unfoldable pub elide_set : Stock → ℕ → List Span → List Span → Rising
elide_set s b hide show = hidden_set s b (record_now s b) (elided (flags_of (record_now s b)) hide show)
