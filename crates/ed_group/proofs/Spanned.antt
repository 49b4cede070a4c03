-- The start of the way of replaced spans.
use Rattle.std.proofs.Common.{◌≡◌, ◌≢◌, ℕ, ◌<◌, ◌≤◌, ◌^◌, List, [], ◌∷◌, length, map, Option, Some, None, refl, sym, ap, ◌∙◌}
use Rattle.std.specs.Prelude.{slice_get, slice_set}
use Rattle.std.specs.List.{AllByRecursion as Each}
use Rattle.ed_base.specs.declared.Member.{Member}
use Rattle.ed_base.specs.declared.Refusal.{Refusal}
use Rattle.ed_base.specs.declared.Which.{Which}
use Rattle.ed_base.specs.Numbers.{first_some}
use Rattle.ed_graph.specs.Standing.{IsLevelled, sources_in as graph_sources}
use Rattle.ed_layers.specs.CarrierStep.{stay_around}
use Rattle.ed_layers.specs.Order.{mode_fault, overlap_fault}
use Rattle.ed_layers.specs.Records.{members_len, projection}
use Rattle.ed_project.specs.Texts.{no_steps}
use Rattle.ed_stock.specs.Limits.{over, stock_limits}
use Rattle.ed_stock.specs.Making.{sources_in, spans_replaced, spans_set}
use Rattle.ed_stock.specs.Stock.{Stock, count, now, sources_now, text_now}
use Rattle.ed_stock.specs.Versions.{Rising, none_given, risen}
use Rattle.ed_group.specs.Answers.{LiesIn, members_now}
use Rattle.ed_held.specs.declared.held.Held.{Held}
use Rattle.ed_held.specs.declared.moves.Planned.{Planned}
use Rattle.ed_held.specs.Following.{Follows}
use Rattle.ed_risen.specs.Counting.{turned_in}
use Rattle.ed_held.specs.Moves.{CanMake}
use Rattle.ed_risen.specs.Rising.{EndsIn, IsSettled}
use Rattle.ed_climb.specs.Route.{AreTrue, Climbs}
use Rattle.ed_held.specs.Seen.{known, stock}
use Rattle.ed_climb.specs.Begins.{turned_rising}
use Rattle.ed_group.specs.Spanning.{below, carrier_route, spans_first}
use Rattle.ed_risen.proofs.Lists.{each_both}
use Rattle.ed_risen.proofs.Sources.{IsListed, all_listed, named_among}
use Rattle.ed_climb.proofs.Snapshots.{snaps}
use Rattle.ed_climb.proofs.KeptNumbers.{few}
use Rattle.ed_climb.specs.Climbing.{move_to}
use Rattle.ed_group.proofs.FirstCarrier.{carrier_begins, risen_long, same_names}

module _ (hs : List Held) (settled : IsSettled (stock hs)) (g : List (List ℕ)) (len : length g ≡ count (stock hs)) (levelled : IsLevelled g) (b : ℕ) (there : b < count (stock hs))
    (others_are : (c : ℕ) → c ≢ b → graph_sources g c ≡ sources_now (stock hs) c) (members : List Member) (here_are : graph_sources g b ≡ sources_in [] members) (lies : Each (LiesIn (stock hs)) members) where
  abbrev s : Stock
  s = stock hs

  abbrev named : List (ℕ × ℕ)
  named = map (λ c. (c, now (stock hs) c)) (sources_in [] members)

  ends_here : (m : Member) → IsListed (sources_in [] members) m → LiesIn s m → EndsIn s named m
  ends_here (Member.Literal xs) l e = tt
  ends_here (Member.Tracked source bounds mode) l e = (named_among (now s) (sources_in [] members) source l, e.1)

  pub ends_inside : Each (EndsIn (stock hs) (map (λ c. (c, now (stock hs) c)) (sources_in [] members))) members
  ends_inside = each_both (IsListed (sources_in [] members)) (LiesIn s) (EndsIn s named) ends_here members (all_listed members) lies

  pub spans_begin : (hs' : List Held) → AreTrue (map known hs) → ((d : ℕ) → d < count (stock hs) → length (text_now (stock hs) d) ≤ 2 ^ 22) → b < length hs → (x y : Held) → slice_get hs b ≡ Some x → hs' ≡ slice_set hs b y → known y ≡ known x → (n : Planned) → CanMake y n → (stays : ℕ → Option ℕ)
      → Follows stays no_steps (snaps (stock hs) (map (λ c. (c, now (stock hs) c)) (sources_in [] members))) (known x) (projection members (map (λ c. (c, now (stock hs) c)) (sources_in [] members))) n
      → overlap_fault members ≡ None → mode_fault (λ c. length (text_now (stock hs) c)) members ≡ None → members_len members ≤ 2 ^ 22 → Climbs (carrier_route hs g b (spans_first (stock hs) b stays members)) [] (b ∷ below g b) hs' (move_to b n [] ∷ [])
  spans_begin hs' true_ fit inside x y held set same n can stays follows apart cover fits =
      carrier_begins hs settled g len levelled b there others_are (sources_in [] members) here_are (projection members named) refl refl ends_inside hs' true_ fit inside x y held set same n can stays follows (record { ends = ends_inside; apart = apart; cover = cover }) fits

  pub names_spans : (stays : ℕ → Option ℕ) → sources_now (spans_first (stock hs) b stays members).stock ≡ graph_sources g
  names_spans stays = same_names hs settled g len levelled b there others_are (sources_in [] members) here_are (projection members named) refl refl ends_inside stays

  -- too long a text of the buffer itself is refused
  pub spans_too_long : (from removed : ℕ) (added : List Member) → members ≡ spans_replaced (members_now (stock hs) b) from removed added → over Which.Buffers (stock hs).most_buffers (count (stock hs)) ≡ None → ((d : ℕ) → d < count (stock hs) → length (text_now (stock hs) d) ≤ 2 ^ 22) → 2 ^ 22 < members_len members
      → first_some (stock_limits (spans_set (stock hs) b from removed added).stock) ≡ Some (Refusal.Limit Which.Units (members_len members))
  unfolding spans_set
  spans_too_long from removed added is few long too_many =
      ap (λ ms. first_some (stock_limits (turned_in (risen none_given (spans_first s b (stay_around from removed (length added)) ms)).stock (Some b)))) (sym is) ∙ risen_long hs settled g len levelled b there others_are (sources_in [] members) here_are (projection members named) refl refl ends_inside (stay_around from removed (length added)) few long too_many

  -- what the definitions say of replaced spans is the way, and one turn more
  pub spans_land : (from removed : ℕ) (added : List Member) → members ≡ spans_replaced (members_now (stock hs) b) from removed added → (r : Rising) → spans_first (stock hs) b (stay_around from removed (length added)) members ≡ r
      → turned_rising (Some b) (risen none_given r) ≡ spans_set (stock hs) b from removed added
  unfolding spans_set
  spans_land from removed added is r first_is = sym (
      ap (λ ms. turned_rising (Some b) (risen none_given (spans_first s b (stay_around from removed (length added)) ms))) (sym is)
      ∙ ap (λ u. turned_rising (Some b) (risen none_given u)) first_is)
