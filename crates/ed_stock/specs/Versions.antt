-- New versions, and how they rise through the carriers above.
use Rattle.std.specs.Prelude.{ℕ, Bool, List, [], ◌∷◌, ◌++◌, length, map, fold, nat_eq, Option, Some, None, option_and_then, is_some, if◌then◌else◌}
use Rattle.std.specs.Option.{option_map_or}
use Rattle.std.specs.List.{list_any}
use Rattle.ed_base.specs.declared.piece.Member.{Member}
use Rattle.ed_base.specs.Step.{Step}
use Rattle.ed_base.specs.ChangeList.{ChangeList, change_list, step}
use Rattle.ed_base.specs.Denial.{regions_after}
use Rattle.ed_layers.specs.Records.{Record, base, projection, elision, is_elision}
use Rattle.ed_layers.specs.SourceStep.{SourceStep}
use Rattle.ed_layers.specs.Bounds.{members_after}
use Rattle.ed_layers.specs.Hidden.{flags_after}
use Rattle.ed_layers.specs.CarrierStep.{carrier_step, record_trails, all_stay}
use Rattle.ed_stock.specs.Stock.{Stock, Buffer, buffer, now, record_at, record_now, text_at, sources_now, graph_order, with_buffer}

-- a buffer with one more version, along which its regions go
abbrev grown : Buffer → Record → ChangeList → Buffer
grown x r c = record x { records = x.records ++ r ∷ []; changes = x.changes ++ c ∷ []; regions = regions_after (step c) x.regions }

unfoldable pub with_version : Stock → ℕ → Record → ChangeList → Stock
with_version s b r c = with_buffer s b (grown (buffer s b) r c)

-- a stock, and the buffers that have stepped so far in a group, in order, with their steps
pub record Rising : Type 0 where
  pub stock : Stock
  pub moves : List (ℕ × SourceStep)

abbrev pub step_in : List (ℕ × SourceStep) → ℕ → Option SourceStep
step_in [] b = None
step_in (m ∷ ms) b = if nat_eq m.0 b then Some m.1 else step_in ms b

-- the versions made, in that order
abbrev pub versions_made : Rising → List (ℕ × ℕ)
versions_made r = map (λ m. (m.0, now r.stock m.0)) r.moves

-- ---- one carrier

-- each source at its current version
abbrev pub at_now : Stock → List (ℕ × ℕ) → List (ℕ × ℕ)
at_now s sources = map (λ v. (v.0, now s v.0)) sources

-- the members of a version of the carrier, and its hidden places, that are given back
abbrev members_given : Option Record → List Member → List Member
members_given (Some (projection members sources)) new = members
members_given _ new = new

abbrev flags_given : Option Record → List Bool → List Bool
flags_given (Some (elision flags source version)) new = flags
flags_given _ new = new

-- the next record of a carrier whose sources stepped; `given` is an older record whose bounds or hidden places it gets back
abbrev pub next_record : Stock → ℕ → (ℕ → Option SourceStep) → Option Record → Record → Record
next_record s b steps given (base text reiterated) = base text reiterated
next_record s b steps given (projection members sources) = projection (members_given given (members_after b steps members)) (at_now s sources)
next_record s b steps given (elision flags source version) = elision (flags_given given (option_map_or (λ x. flags_after b x flags) (steps source) flags)) source (now s source)

-- a carrier with this new record, where `stays` has the old index of a member that stays
unfoldable pub with_record : Rising → ℕ → (ℕ → Option ℕ) → Record → Rising
with_record r b stays new =
    let steps : ℕ → Option SourceStep = step_in r.moves in
    let x : Buffer = buffer r.stock b in
    let with_text : Stock = with_buffer r.stock b (record x { records = x.records ++ new ∷ [] }) in
    let s : Step = carrier_step stays steps (record_now r.stock b) new in
    record {
      stock = with_version r.stock b new (change_list s (text_at with_text b (length x.records)));
      moves = r.moves ++ (b, record { step = s; trails = record_trails b (is_elision new) steps new }) ∷ [];
    }

-- ---- all carriers above

-- whether a source of the buffer has stepped
abbrev pub is_moved : Rising → ℕ → Bool
is_moved r b = list_any (λ source. is_some (step_in r.moves source)) (sources_now r.stock b)

abbrev pub risen_at : (ℕ → Option ℕ) → Rising → ℕ → Rising
risen_at given r b =
    if is_moved r b then with_record r b all_stay (next_record r.stock b (step_in r.moves) (option_and_then (record_at r.stock b) (given b)) (record_now r.stock b))
    else r

-- Each buffer over a buffer with a new version gets one, sources first. `given` has the version of a carrier whose bounds or hidden places it gets back.
unfoldable pub risen : (ℕ → Option ℕ) → Rising → Rising
risen given r = fold (risen_at given) r (graph_order r.stock)

abbrev pub none_given : ℕ → Option ℕ
none_given b = None
