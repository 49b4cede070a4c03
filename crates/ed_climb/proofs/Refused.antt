-- The refusal of a text that would be too long.
use Rattle.std.proofs.Common.{◌≡◌, ℕ, suc, ◌<◌, ◌≤◌, ◌^◌, true, List, ◌∷◌, ◌++◌, length, fold, Some, None, sym, ap, ◌∙◌, subst, arith, append_assoc}
use Rattle.std.specs.Prelude.{All}
use Rattle.std.specs.List.{AllByRecursion as Each}
use Rattle.ed_base.specs.declared.Refusal.{Refusal}
use Rattle.ed_base.specs.declared.Which.{Which}
use Rattle.ed_base.specs.Numbers.{first_some, is_among}
use Rattle.ed_layers.specs.Records.{Record, members_len, members_of}
use Rattle.ed_members.specs.Moving.{EndsInNew}
use Rattle.ed_stock.specs.Limits.{over, stock_limits}
use Rattle.ed_stock.specs.Stock.{Stock, buffer, count, graph_order, now, record_now, text_now}
use Rattle.ed_stock.specs.Versions.{Rising, next_record, none_given, risen_at, step_in}
use Rattle.ed_risen.specs.Growing.{AreFounded, Grows}
use Rattle.ed_held.specs.Moves.{rising_of}
use Rattle.ed_climb.specs.Climbing.{record_after}
use Rattle.ed_climb.specs.Route.{IsRoute, IsTooLong, Route}
use Rattle.ed_held.specs.Seen.{known, stock_of}
use Rattle.ed_risen.proofs.Lists.{among_itself, among_front, clash, among_behind, among_split, each_among, each_behind, fold_append}
use Rattle.ed_climb.proofs.Climb.{after_is, levels_now, next_long, reached, record_still}
use Rattle.ed_risen.proofs.Growth.{grown_founded, grown_length}
use Rattle.ed_risen.proofs.RisingLemmas.{some_records}
use Rattle.ed_risen.proofs.Turns.{Turns, text_stays, turns}
use Rattle.ed_risen.proofs.OneLimit.{first_long}

-- ---- on the way

module _ (w : Route) (order : List ℕ) (route : IsRoute w order) (all : Each (λ b. b < count (stock_of w.before)) order) (len : ℕ) (long : IsTooLong w order len) where
  abbrev s : Stock
  s = stock_of w.before

  abbrev r : Rising
  r = rising_of (stock_of w.before) long.ms

  abbrev t : Stock
  t = r.stock

  abbrev b : ℕ
  b = long.b

  abbrev u : Rising
  u = risen_at none_given r b

  there : b < count s
  there = (reached w order route long.passed long.done long.hs long.ms long.climbs long.rest b long.split).there

  shallow : w.height b ≤ 8
  shallow = (reached w order route long.passed long.done long.hs long.ms long.climbs long.rest b long.split).shallow

  -- its version by the definitions
  abbrev next : Record
  next = next_record t b (step_in r.moves) None (record_now s b)

  turned : Turns r u b
  turned = turns r b (subst (λ k. b < k) (sym long.climbs.rises.same_count) there) long.moved

  grows : Grows t u.stock b next
  grows = subst (λ x. Grows t u.stock b (next_record t b (step_in r.moves) None x)) (record_still w order route long.passed long.done long.hs long.ms long.climbs long.rest b long.split long.h long.held long.moved) turned.grows

  after : record_after long.hs long.ms (step_in r.moves) (known long.h) ≡ next
  after = after_is w order route long.passed long.done long.hs long.ms long.climbs long.rest b long.split long.h long.held long.moved

  founded_then : AreFounded u.stock
  founded_then = grown_founded t u.stock b next grows long.climbs.rises.founded (levels_now w order route long.passed long.done long.hs long.ms long.climbs long.rest b long.split long.h long.held long.moved 8 shallow)

  text_len : length (text_now u.stock b) ≡ len
  text_len =
      next_long w order route long.passed long.done long.hs long.ms long.climbs long.rest b long.split long.h long.held long.moved u.stock grows (subst (λ x. All (EndsInNew (step_in r.moves)) (members_of x)) after long.ends)
      ∙ ap (λ x. members_len (members_of x)) (sym after) ∙ long.len_is

  -- ---- the end of the way

  abbrev final : Rising
  final = fold (risen_at none_given) w.first order

  final_is : final ≡ fold (risen_at none_given) u long.rest
  final_is = ap (fold (risen_at none_given) w.first) long.split ∙ fold_append (risen_at none_given) w.first long.passed (b ∷ long.rest) ∙ ap (λ x. fold (risen_at none_given) x (b ∷ long.rest)) long.climbs.folded

  all_now : Each (λ c. c < count t) (b ∷ long.rest)
  all_now = each_behind (λ c. c < count t) long.passed (b ∷ long.rest) (subst (Each (λ c. c < count t)) long.split (subst (λ k. Each (λ c. c < k) order) (sym long.climbs.rises.same_count) all))

  -- a buffer that was passed doesn't come again
  once : (c : ℕ) → is_among c long.passed ≡ true → is_among c (b ∷ long.rest) ≡ true → ⊥
  once c early late =
      let cut : (ys : List ℕ) × (zs : List ℕ) × (b ∷ long.rest ≡ ys ++ c ∷ zs) = among_split c (b ∷ long.rest) late in
      let split : order ≡ (long.passed ++ cut.0) ++ c ∷ cut.1 = long.split ∙ ap (λ xs. long.passed ++ xs) cut.2 ∙ sym (append_assoc long.passed cut.0 (c ∷ cut.1)) in
      clash (is_among c (long.passed ++ cut.0)) (among_front c long.passed cut.0 early) (route.reached (long.passed ++ cut.0) cut.1 c split).fresh

  passed_short : (c : ℕ) → is_among c long.passed ≡ true → length (text_now final.stock c) ≤ 2 ^ 22
  passed_short c early =
      let in_ : c < count s = long.climbs.rises.known c (long.climbs.covers c early) in
      let some : 0 < length (buffer t c).records = some_records s w.height route.settled w.start long.done r long.climbs.rises c in_ in
      let stays : text_now (fold (risen_at none_given) r (b ∷ long.rest)).stock c ≡ text_now t c = text_stays (b ∷ long.rest) r c all_now (long.climbs.rises.founded c (now t c) (omega arith)) (λ late. absurd (once c early late)) in
      subst (λ xs. length xs ≤ 2 ^ 22) (sym (ap (λ x. text_now x.stock c) final_is ∙ stays)) (long.climbs.fits c in_)

  here_long : length (text_now final.stock b) ≡ len
  here_long =
      let later : Each (λ c. c < count u.stock) long.rest = subst (λ k. Each (λ c. c < k) long.rest) (sym turned.same_count) all_now.1 in
      let some : 0 < length (buffer u.stock b).records = (let l : length (buffer u.stock b).records ≡ suc (length (buffer t b).records) = grown_length t u.stock b next grows in omega arith) in
      ap (λ x. length (text_now x.stock b)) final_is
      ∙ ap length (text_stays long.rest u b later (founded_then b (now u.stock b) (omega arith)) (λ again. absurd (twice again)))
      ∙ text_len
    where
      twice : is_among b long.rest ≡ true → ⊥
      twice again =
          let cut : (ys : List ℕ) × (zs : List ℕ) × (long.rest ≡ ys ++ b ∷ zs) = among_split b long.rest again in
          let split : order ≡ (long.passed ++ b ∷ cut.0) ++ b ∷ cut.1 = long.split ∙ ap (λ xs. long.passed ++ b ∷ xs) cut.2 ∙ sym (append_assoc long.passed (b ∷ cut.0) (b ∷ cut.1)) in
          clash (is_among b (long.passed ++ b ∷ cut.0)) (among_behind b long.passed (b ∷ cut.0) (among_itself b cut.0)) (route.reached (long.passed ++ b ∷ cut.0) cut.1 b split).fresh

  pub too_long_refused : graph_order final.stock ≡ order → over Which.Buffers final.stock.most_buffers (count final.stock) ≡ None → first_some (stock_limits final.stock) ≡ Some (Refusal.Limit Which.Units len)
  too_long_refused ordered few = first_long final.stock long.passed long.rest b len few (ordered ∙ long.split) (each_among (λ c. length (text_now final.stock c) ≤ 2 ^ 22) long.passed passed_short) here_long long.long
