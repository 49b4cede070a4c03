-- The start of the way of a group that begins with one carrier.
use Rattle.std.proofs.Common.{◌≡◌, ◌≢◌, ℕ, zero, suc, ◌+◌, ◌<◌, ◌≤◌, ◌^◌, Bool, true, false, ◌⊎◌, inl, inr, List, [], ◌∷◌, ◌++◌, length, map, Option, Some, None, refl, sym, ap, ◌∙◌, subst, arith, length-set}
use Rattle.std.specs.Prelude.{fold, max, slice_get, slice_set, nat_eq, nat_lt, is_some, MatchOption, if◌then◌else◌}
use Rattle.std.specs.List.{AllByRecursion as Each, list_any}
use Rattle.std.proofs.lemmas.Bool.{cases_eq, eqb-true, eq-eqb, ne_eqb, lt-ltb, ltb-true}
use Rattle.ed_base.specs.declared.Refusal.{Refusal}
use Rattle.ed_base.specs.declared.Which.{Which}
use Rattle.ed_base.specs.Numbers.{first_some, is_among, places}
use Rattle.ed_base.specs.ChangeList.{change_list, new_len, step}
use Rattle.ed_graph.specs.Standing.{IsLevelled, height_in, sources_in as graph_sources}
use Rattle.ed_layers.specs.CarrierStep.{carrier_step, record_trails}
use Rattle.ed_layers.specs.Graph as order
use Rattle.ed_layers.specs.Records.{Record, is_carrier, is_elision, members_len, members_of, sources_of}
use Rattle.ed_layers.specs.SourceStep.{SourceStep}
use Rattle.ed_pieces.specs.Trails.{trails_in}
use Rattle.ed_project.specs.Texts.{no_steps, text_over}
use Rattle.ed_stock.specs.Limits.{over, stock_limits}
use Rattle.ed_stock.specs.Stock.{Stock, Buffer, buffer, count, now, record_at, record_now, sources_now, text_at, text_now, with_buffer}
use Rattle.ed_stock.specs.Versions.{Rising, at_now, none_given, risen, step_in, with_record, with_version}
use Rattle.ed_held.specs.declared.held.Held.{Held}
use Rattle.ed_held.specs.declared.moves.Move.{Move}
use Rattle.ed_held.specs.declared.moves.Planned.{Planned}
use Rattle.ed_held.specs.Following.{Follows}
use Rattle.ed_risen.specs.Founded.{Founded, Extends}
use Rattle.ed_risen.specs.Counting.{turned_in}
use Rattle.ed_risen.specs.Growing.{AreFounded, Grows}
use Rattle.ed_held.specs.Moves.{CanMake, changes_of, move_of, move_seen, record_of, rising_of, snapshot_of, step_of, with_move}
use Rattle.ed_risen.specs.Rising.{EndsIn, HasStepped, Inside, IsNow, IsRisen, IsSettled, Rises}
use Rattle.ed_climb.specs.Route.{AreTrue, Climbs, IsNewest}
use Rattle.ed_held.specs.Seen.{known, last_of, stock}
use Rattle.ed_risen.specs.Start.{IsStart}
use Rattle.ed_risen.proofs.Turning.{turned_limits}
use Rattle.ed_risen.proofs.Starts.{count_left, only_too_long, risen_is}
use Rattle.ed_group.specs.Spanning.{below, carrier_route}
use Rattle.ed_climb.proofs.Advanced.{map_set}
use Rattle.ed_risen.proofs.Lists.{among_itself, among_more, clash, each_both, passes, passing, each_of, get_map}
use Rattle.ed_climb.proofs.Climb.{rising_to, snapshot_by, stepped_by}
use Rattle.ed_risen.proofs.FoundedLemmas.{each_weaker, founded_in, founded_of}
use Rattle.ed_risen.proofs.Growth.{grown_extends, grown_founded, grown_length, grown_now, grown_now_other, grown_record_now, grown_record_other, grown_text_now, set_grows, set_here, version_grows}
use Rattle.ed_risen.proofs.Lengths.{Fits, length_text_over, plain_trails}
use Rattle.ed_risen.proofs.RisingLemmas.{Same, inside_same, now_is_there}
use Rattle.ed_climb.proofs.Routes.{greatest_above}
use Rattle.ed_risen.proofs.Texts.{named_text}
use Rattle.ed_climb.proofs.Snapshots.{held_buffer, held_record, snaps, snaps_text, text_held}
use Rattle.ed_climb.proofs.KeptNumbers.{few}
use Rattle.ed_risen.proofs.NextRecords.{fits_named, grown_carrier_at, grown_carrier_text}
use Rattle.ed_risen.proofs.ShownRuns.{slots_len}

-- ---- lists

step_in_none : step_in [] ≡ no_steps
step_in_none = λ i b. None

-- ---- the way begins

module _ (hs : List Held) (settled : IsSettled (stock hs)) (g : List (List ℕ)) (len : length g ≡ count (stock hs)) (levelled : IsLevelled g) (b : ℕ) (there : b < count (stock hs))
    (others_are : (c : ℕ) → c ≢ b → graph_sources g c ≡ sources_now (stock hs) c) (sources : List ℕ) (here_are : graph_sources g b ≡ sources)
    (new : Record) (names : sources_of new ≡ map (λ c. (c, now (stock hs) c)) sources) (carries : is_carrier new ≡ true) (ends : Each (EndsIn (stock hs) (sources_of new)) (members_of new)) where
  abbrev s : Stock
  s = stock hs

  abbrev h : ℕ → ℕ
  h = height_in g

  abbrev named : List (ℕ × ℕ)
  named = map (λ c. (c, now (stock hs) c)) sources

  abbrev initial : List ℕ
  initial = b ∷ below g b

  -- a buffer that stands lower
  abbrev Low : ℕ → Type 0
  Low c = (c < count s) × (height_in g c < height_in g b)

  not_b : (c : ℕ) → Low c → c ≢ b
  not_b c low e = absurd (let l : height_in g c < height_in g b = low.1 in let f : height_in g c ≡ height_in g b = ap (height_in g) e in omega arith)

  in_initial : (c : ℕ) → Low c → is_among c initial ≡ true
  in_initial c low = among_more b c (below g b) (passes (λ d. nat_lt (height_in g d) (height_in g b)) 0 (length g) c (omega arith) (let l : c < count s = low.0 in omega (arith, len)) (lt-ltb (height_in g c) (height_in g b) low.1))

  of_initial : (c : ℕ) → is_among c initial ≡ true → (c ≡ b) ⊎ Low c
  of_initial c i = elim (cases_eq c b) [
    | inl e ↦ inl e
    | inr ne ↦ inr (low_of (passing (λ d. nat_lt (height_in g d) (height_in g b)) 0 (length g) c (let e : is_among c initial ≡ is_among c (below g b) = rw (ne_eqb c b ne) refl in sym e ∙ i)))
  ]
    where
      low_of : (0 ≤ c) × (c < 0 + length g) × (nat_lt (height_in g c) (height_in g b) ≡ true) → Low c
      low_of r = ((let l : c < 0 + length g = r.1 in omega (arith, len)), ltb-true (height_in g c) (height_in g b) r.2)

  -- ---- what stands lower

  pairs : (c : ℕ) (vs : List (ℕ × ℕ)) → Each (λ d. d < length g) (map (λ v. v.0) vs) → Each (λ d. height_in g d < height_in g c) (map (λ v. v.0) vs) → Each (λ v. (v.0 < count s) × (height_in g v.0 < height_in g c)) vs
  pairs c [] w l = tt
  pairs c (v ∷ vs) w l = ((subst (λ k. v.0 < k) len w.0, l.0), pairs c vs w.1 l.1)

  below_sources : (c : ℕ) → c < count s → c ≢ b → Each (λ v. (v.0 < count s) × (height_in g v.0 < height_in g c)) (sources_of (record_now s c))
  below_sources c in_ ne = pairs c (sources_of (record_now s c))
      (subst (Each (λ d. d < length g)) (others_are c ne) (each_of (λ d. d < length g) (graph_sources g c) (levelled.within c [] (subst (λ k. c < k) (sym len) in_))))
      (subst (Each (λ d. height_in g d < height_in g c)) (others_are c ne) (each_of (λ d. height_in g d < height_in g c) (graph_sources g c) (levelled.lower c)))

  still_low : (c : ℕ) → Low c → Each (λ v. Low v.0) (sources_of (record_now s c))
  still_low c low = each_weaker (λ (v : ℕ × ℕ). (v.0 < count s) × (height_in g v.0 < height_in g c)) (λ (v : ℕ × ℕ). Low v.0)
      (λ v r. (r.0, (let l : height_in g v.0 < height_in g c = r.1 in let m : height_in g c < height_in g b = low.1 in omega arith))) (sources_of (record_now s c)) (below_sources c low.0 (not_b c low))

  low_sources : Each Low sources
  low_sources = each_both (λ d. d < length g) (λ d. height_in g d < height_in g b) Low (λ d i l. (subst (λ k. d < k) len i, l)) sources
      (subst (Each (λ d. d < length g)) here_are (each_of (λ d. d < length g) (graph_sources g b) (levelled.within b [] (subst (λ k. b < k) (sym len) there))))
      (subst (Each (λ d. height_in g d < height_in g b)) here_are (each_of (λ d. height_in g d < height_in g b) (graph_sources g b) (levelled.lower b)))

  name_each : (P : ℕ × ℕ → Type 0) → ((c : ℕ) → Low c → P (c, now s c)) → (xs : List ℕ) → Each Low xs → Each P (map (λ c. (c, now s c)) xs)
  name_each P all [] l = tt
  name_each P all (x ∷ xs) l = (all x l.0, name_each P all xs l.1)

  each_named : (P : ℕ × ℕ → Type 0) → ((c : ℕ) → Low c → P (c, now s c)) → Each P named
  each_named P all = name_each P all sources low_sources

  down : (k c : ℕ) → ((d : ℕ) → Low d → height_in g d < k → Founded (record_at s) k (d, now s d)) → height_in g c ≤ k → height_in g c < height_in g b → (vs : List (ℕ × ℕ)) → Each (IsNow s) vs → Each (λ v. (v.0 < count s) × (height_in g v.0 < height_in g c)) vs → Each (Founded (record_at s) k) vs
  down k c deep le low [] i l = tt
  down k c deep le low (v ∷ vs) i l =
      (subst (λ w. Founded (record_at s) k (v.0, w)) (sym i.0) (deep v.0 (l.0.0, (let a : height_in g v.0 < height_in g c = l.0.1 in omega arith)) (let a : height_in g v.0 < height_in g c = l.0.1 in omega arith)), down k c deep le low vs i.1 l.1)

  founded_low : (k c : ℕ) → Low c → height_in g c < k → Founded (record_at s) k (c, now s c)
  founded_low zero c low under = absurd (omega arith)
  founded_low (suc k) c low under =
      founded_of (record_at s) k (c, now s c) (record_now s c) (now_is_there s c (settled.some c low.0))
      (down k c (founded_low k) (omega arith) low.1 (sources_of (record_now s c)) (settled.current c low.0) (below_sources c low.0 (not_b c low)))

  top : height_in g b ≤ 8
  unfolding order.greatest_height
  top = let a : height_in g b ≤ fold max 0 (map (height_in g) (places (length g))) = greatest_above (height_in g) 0 (length g) 0 b (omega arith) (omega (arith, len)) in omega (arith, levelled.shallow, a)

  founded_named : (k : ℕ) → height_in g b ≤ k → Each (Founded (record_at s) k) named
  founded_named k le = each_named (Founded (record_at s) k) (λ c low. founded_low k c low (let l : height_in g c < height_in g b = low.1 in omega arith))

  founded_new : (k : ℕ) → height_in g b ≤ k → Each (Founded (record_at s) k) (sources_of new)
  founded_new k le = subst (Each (Founded (record_at s) k)) (sym names) (founded_named k le)

  each_new : (P : ℕ × ℕ → Type 0) → ((c : ℕ) → Low c → P (c, now s c)) → Each P (sources_of new)
  each_new P all = subst (Each P) (sym names) (each_named P all)

  -- what it shows
  abbrev units : List ℕ
  units = text_over (named_text (record_at s) (sources_of new)) (members_of new)

  pub units_len : length units ≡ members_len (members_of new)
  units_len = length_text_over (named_text (record_at s) (sources_of new)) (members_of new) (each_weaker (EndsIn s (sources_of new)) (Fits (named_text (record_at s) (sources_of new))) (fits_named s (sources_of new)) (members_of new) ends)

  -- ---- the stock with its version

  module _ (u : Stock) (grows : Grows (stock hs) u b new) where
    founded_then : AreFounded u
    founded_then = grown_founded s u b new grows settled.founded (founded_new 8 top)

    extends_then : Extends (record_at s) (record_at u)
    extends_then = grown_extends s u b new grows

    now_still : (c : ℕ) → Low c → now u c ≡ now s c
    now_still c low = grown_now_other s u b new grows c (not_b c low)

    text_still : (c : ℕ) → Low c → text_now u c ≡ text_now s c
    text_still c low = grown_text_now s u b new grows settled.founded c (not_b c low) (settled.some c low.0)

    record_still : (c : ℕ) → Low c → record_now u c ≡ record_now s c
    record_still c low = grown_record_other s u b new grows c (not_b c low)

    record_then : record_now u b ≡ new
    record_then = grown_record_now s u b new grows

    text_then : text_now u b ≡ units
    text_then = grown_carrier_text s u b new grows (founded_new 8 top) carries

    text_at_then : text_at u b (length (buffer s b).records) ≡ units
    text_at_then = grown_carrier_at s u b new grows (founded_new 8 top) carries

    low_then : (c : ℕ) → is_among c initial ≡ true → Each (λ v. Low v.0) (sources_of (record_now u c))
    low_then c i = elim (of_initial c i) [
      | inl e ↦ subst (λ d. Each (λ v. Low v.0) (sources_of (record_now u d))) (sym e) (subst (λ x. Each (λ v. Low v.0) (sources_of x)) (sym record_then) (each_new (λ v. Low v.0) (λ d low. low)))
      | inr low ↦ subst (λ x. Each (λ v. Low v.0) (sources_of x)) (sym (record_still c low)) (still_low c low)
    ]

    same_then : (v : ℕ × ℕ) → Low v.0 → Same s u v
    same_then v low = record { at = now_still v.0 low; text = text_still v.0 low }

    inside_then : (x : Record) → Each (λ v. Low v.0) (sources_of x) → Inside s x → Inside u x
    inside_then x low i = inside_same s u x (each_weaker (λ v. Low v.0) (Same s u) same_then (sources_of x) low) i

    risen_b : Inside s new → IsRisen u h initial b
    risen_b inside_b = record {
      closed = each_weaker (λ (v : ℕ × ℕ). Low v.0) (λ v. is_among v.0 initial ≡ true) (λ v low. in_initial v.0 low) (sources_of (record_now u b)) (low_then b (among_itself b (below g b)));
      current = subst (λ x. Each (IsNow u) (sources_of x)) (sym record_then) (each_new (IsNow u) (λ c low. sym (now_still c low)));
      shallow = founded_of (record_at u) (h b) (b, now u b) (record_now u b) (now_is_there u b (let l : length (buffer u b).records ≡ suc (length (buffer s b).records) = grown_length s u b new grows in omega arith))
          (subst (λ x. Each (Founded (record_at u) (h b)) (sources_of x)) (sym record_then)
          (each_weaker (Founded (record_at s) (h b)) (Founded (record_at u) (h b)) (founded_in (record_at s) (record_at u) extends_then (h b)) (sources_of new) (founded_new (h b) (omega arith))));
      inside = subst (Inside u) (sym record_then) (inside_then new (each_new (λ v. Low v.0) (λ d low. low)) inside_b);
    }

    risen_low : (c : ℕ) → Low c → IsRisen u h initial c
    risen_low c low = record {
      closed = each_weaker (λ (v : ℕ × ℕ). Low v.0) (λ v. is_among v.0 initial ≡ true) (λ v l. in_initial v.0 l) (sources_of (record_now u c)) (low_then c (in_initial c low));
      current = subst (λ x. Each (IsNow u) (sources_of x)) (sym (record_still c low))
          (each_both (λ (v : ℕ × ℕ). Low v.0) (IsNow s) (IsNow u) (λ v l i. i ∙ sym (now_still v.0 l)) (sources_of (record_now s c)) (still_low c low) (settled.current c low.0));
      shallow = subst (λ k. Founded (record_at u) (suc (h c)) (c, k)) (sym (now_still c low)) (founded_in (record_at s) (record_at u) extends_then (suc (h c)) (c, now s c) (founded_low (suc (h c)) c low (omega arith)));
      inside = subst (Inside u) (sym (record_still c low)) (inside_then (record_now s c) (still_low c low) (settled.inside c low.0));
    }

  -- ---- the way begins

  module _ (hs' : List Held) (true_ : AreTrue (map known hs)) (fit : (d : ℕ) → d < count (stock hs) → length (text_now (stock hs) d) ≤ 2 ^ 22) (inside : b < length hs) (x y : Held) (held : slice_get hs b ≡ Some x) (set : hs' ≡ slice_set hs b y) (same : known y ≡ known x)
      (n : Planned) (can : CanMake y n) (stays : ℕ → Option ℕ) (follows : Follows stays no_steps (snaps (stock hs) (map (λ c. (c, now (stock hs) c)) sources)) (known x) new n) (stands : Inside (stock hs) new) (fits : members_len (members_of new) ≤ 2 ^ 22) where
    abbrev the_move : Move
    the_move = record { buffer = b; planned = n; trails = [] }

    abbrev next : Record
    next = record_of n

    abbrev u : Stock
    u = with_move s the_move

    grows_next : Grows s u b next
    grows_next = version_grows s b next (changes_of n) there

    grows : Grows s u b new
    grows = subst (Grows s u b) follows.record_is grows_next

    now_then : now u b ≡ length (buffer s b).records
    now_then = grown_now s u b new grows

    -- ---- what was shown

    buffer_is : buffer s b ≡ (known x).buffer
    buffer_is = held_buffer hs b x held

    record_was : record_now s b ≡ last_of (known x).buffer
    record_was = held_record hs b x held

    number : (known x).number ≡ b
    number = true_.numbered b (known x) (get_map known hs b x held)

    at_now_by : (xs : List ℕ) → at_now s (map (λ c. (c, now s c)) xs) ≡ map (λ c. (c, now s c)) xs
    at_now_by [] = refl
    at_now_by (z ∷ zs) = ap (λ rest. (z, now s z) ∷ rest) (at_now_by zs)

    text_made : units ≡ (snapshot_of n).text
    text_made = ap (λ f. text_over f (members_of new)) (sym (snaps_text s named ∙ ap (named_text (record_at s)) (at_now_by sources ∙ sym names))) ∙ sym follows.text

    shown_then : text_now u b ≡ (snapshot_of n).text
    shown_then = text_then u grows ∙ text_made

    -- ---- its step

    from_len : (step (changes_of n)).old_len ≡ length (text_now s b)
    from_len = follows.from ∙ ap length (text_held hs true_ settled b x held there)

    to_len : (step (changes_of n)).new_len ≡ length (text_now u b)
    unfolding carrier_step
    to_len = ap (λ z. z.new_len) follows.step ∙ slots_len new ∙ sym follows.long ∙ ap length (sym shown_then)

    stepped_b : HasStepped s u b (step_of the_move)
    stepped_b = record { there = there; longer = grown_length s u b new grows; from = from_len; to = to_len }

    -- ---- the same by the definitions

    abbrev none : Rising
    none = record { stock = stock hs; moves = [] }

    abbrev with_text : Stock
    with_text = with_buffer s b (record (buffer s b) { records = (buffer s b).records ++ next ∷ [] })

    text_same : text_at with_text b (length (buffer s b).records) ≡ (snapshot_of n).text
    text_same = text_at_then with_text (subst (Grows s with_text b) follows.record_is (set_grows s b next (record (buffer s b) { records = (buffer s b).records ++ next ∷ [] }) there refl)) ∙ text_made

    step_is : step (changes_of n) ≡ carrier_step stays (step_in []) (record_now s b) next
    step_is =
        follows.step ∙ ap (λ z. carrier_step stays no_steps z new) (sym record_was) ∙ ap (carrier_step stays no_steps (record_now s b)) (sym follows.record_is) ∙ ap (λ f. carrier_step stays f (record_now s b) next) (sym step_in_none)

    changes_are : changes_of n ≡ change_list (carrier_step stays (step_in []) (record_now s b) next) (text_at with_text b (length (buffer s b).records))
    changes_are = follows.changes ∙ ap (λ z. change_list z (snapshot_of n).text) (sym follows.step ∙ step_is) ∙ ap (change_list (carrier_step stays (step_in []) (record_now s b) next)) (sym text_same)

    trails_are : record_trails b (is_elision next) (step_in []) next ≡ map (λ z. []) (places (step (changes_of n)).new_len)
    unfolding carrier_step
    trails_are = plain_trails b (step_in []) (λ c z found. absurd (cc)) (is_elision next) next (step (changes_of n)).new_len (sym (ap (λ z. z.new_len) step_is))

    -- no unit came through another carrier
    no_ways : map (λ (z : ℕ). []) (places (step (changes_of n)).new_len) ≡ trails_in [] (new_len (changes_of n))
    no_ways = ap (λ k. map {B = List (ℕ × ℕ)} (λ (z : ℕ). []) (places k)) (to_len ∙ ap length shown_then ∙ sym follows.to)

    step_seen_is : (record { step = carrier_step stays (step_in []) (record_now s b) next; trails = record_trails b (is_elision next) (step_in []) next }) ≡ step_of the_move
    step_seen_is =
        ap (λ z. stepped_by z (record_trails b (is_elision next) (step_in []) next)) (sym step_is)
        ∙ ap (stepped_by (step (changes_of n))) (trails_are ∙ no_ways)

    made_first : with_record none b stays next ≡ rising_of s (the_move ∷ [])
    unfolding with_record
    made_first =
        ap (λ c. rising_to (with_version s b next c) ((b, stepped_by (carrier_step stays (step_in []) (record_now s b) next) (record_trails b (is_elision next) (step_in []) next)) ∷ [])) (sym changes_are)
        ∙ ap (λ z. rising_to u ((b, z) ∷ [])) step_seen_is

    first_is : with_record (record { stock = stock hs; moves = [] }) b stays new ≡ rising_of s (the_move ∷ [])
    first_is = ap (with_record none b stays) (sym follows.record_is) ∙ made_first

    -- ---- the one move

    move_at : (c : ℕ) (m : SourceStep) → step_in (map move_seen (the_move ∷ [])) c ≡ Some m → (c ≡ b) × (m ≡ step_of the_move)
    move_at c m e = by (nat_eq b c) refl e
      where
        by : (t : Bool) → nat_eq b c ≡ t → (if t then Some (step_of the_move) else None) ≡ Some m → (c ≡ b) × (m ≡ step_of the_move)
        by true t e = (sym (eqb-true b c t), (cc))
        by false t e = absurd (cc)

    step_none : (c : ℕ) → c ≢ b → step_in (map move_seen (the_move ∷ [])) c ≡ None
    step_none c ne = ap (λ t. if t then Some (step_of the_move) else None) (ne_eqb b c (λ e. ne (sym e)))

    unmoved_ne : (c : ℕ) → step_in (map move_seen (the_move ∷ [])) c ≡ None → c ≢ b
    unmoved_ne c e f = some_not_none (step_of the_move) (sym (ap (λ t. if t then Some (step_of the_move) else None) (eq-eqb b c (sym f))) ∙ e)
      where
        some_not_none : (m : SourceStep) → Some m ≡ None → ⊥
        some_not_none m e = absurd (cc)

    among_ne : (c : ℕ) (xs : List ℕ) → is_among c (b ∷ xs) ≡ false → c ≢ b
    among_ne c xs out e = absurd (clash (is_among c (b ∷ xs)) (subst (λ d. is_among d (b ∷ xs) ≡ true) (sym e) (among_itself b xs)) out)

    ne_among : (c : ℕ) → c ≢ b → is_among c (b ∷ []) ≡ false
    ne_among c ne = rw (ne_eqb c b ne) refl

    only_b : (c : ℕ) → is_among c (b ∷ []) ≡ true → c ≡ b
    only_b c i = elim (cases_eq c b) [
      | inl e ↦ e
      | inr ne ↦ absurd (clash (is_among c (b ∷ [])) i (ne_among c ne))
    ]

    same_count : count u ≡ count s
    unfolding with_version
    same_count = length-set s.buffers b _

    rises : Rises s h (b ∷ []) initial (rising_of s (the_move ∷ []))
    rises = record {
      same_count = same_count;
      extends = extends_then u grows;
      founded = founded_then u grows;
      names = λ c out. ap (λ y. map (λ v. v.0) (sources_of y)) (grown_record_other s u b new grows c (among_ne c [] out));
      started = λ c out. ne_among c (among_ne c (below g b) out);
      unmoved = λ c e. grows.others c (unmoved_ne c e);
      moved = λ c m e. (let f : (c ≡ b) × (m ≡ step_of the_move) = move_at c m e in subst (HasStepped s u c) (sym f.1) (subst (λ d. HasStepped s u d (step_of the_move)) (sym f.0) stepped_b));
      known = λ c i. elim (of_initial c i) [ inl e ↦ subst (λ d. d < count s) (sym e) there | inr low ↦ low.0 ];
      later = λ c out. step_none c (among_ne c (below g b) out);
      risen = λ c i. elim (of_initial c i) [ inl e ↦ subst (IsRisen u h initial) (sym e) (risen_b u grows stands) | inr low ↦ risen_low u grows c low ];
    }

    newest_b : IsNewest u the_move
    newest_b =
        ap (λ z. snapshot_by z (snapshot_of n).version (snapshot_of n).text) (follows.number ∙ number)
        ∙ ap (λ z. snapshot_by b z (snapshot_of n).text) (follows.version ∙ ap (λ (z : Buffer). length z.records) (sym buffer_is) ∙ sym now_then)
        ∙ ap (snapshot_by b (now u b)) (sym shown_then)

    none_over : (vs : List (ℕ × ℕ)) → Each (λ v. Low v.0) vs → list_any (λ source. is_some (step_in (map move_seen (the_move ∷ [])) source)) (map (λ v. v.0) vs) ≡ false
    none_over [] low = refl
    none_over (v ∷ vs) low = rw (step_none v.0 (not_b v.0 low.0), none_over vs low.1) refl

    fits_then : (c : ℕ) → c < count s → length (text_now u c) ≤ 2 ^ 22
    fits_then c in_ = elim (cases_eq c b) [
      | inl e ↦ subst (λ d. length (text_now u d) ≤ 2 ^ 22) (sym e) (subst (λ xs. length xs ≤ 2 ^ 22) (sym shown_then) (subst (λ k. k ≤ 2 ^ 22) (sym follows.long) fits))
      | inr ne ↦ subst (λ ys. length ys ≤ 2 ^ 22) (sym (grown_text_now s u b new grows settled.founded c ne (settled.some c in_))) (fit c in_)
    ]

    pub carrier_begins : Climbs (carrier_route hs g b (with_record (record { stock = stock hs; moves = [] }) b stays new)) [] (b ∷ below g b) hs' (the_move ∷ [])
    carrier_begins = record {
      same = ap (map known) set ∙ map_set known hs b x y held same;
      rises = rises;
      folded = first_is;
      planned = (subst (λ o. MatchOption o ⊥ (λ z. CanMake z n)) (sym (ap (λ zs. slice_get zs b) set ∙ set_here hs b y inside)) can, tt);
      apart = (tt, tt);
      known_buffers = (there, tt);
      at_once = λ c i. i;
      newest = (newest_b, tt);
      quiet = λ c i. none_over (sources_of (record_now u c)) (low_then u grows c i);
      begun = λ c i. subst (λ d. is_some (move_of (the_move ∷ []) d) ≡ true) (sym (only_b c i)) (rw (eq-eqb b b refl) refl);
      origin = λ c i. inr i;
      covers = λ c i. absurd (cc);
      fits = fits_then;
    }

  -- ---- the way by the definitions, and a text that would be too long

  module _ (stays : ℕ → Option ℕ) where
    abbrev first : Rising
    first = with_record (record { stock = stock hs; moves = [] }) b stays new

    first_made : Grows s first.stock b new × (count first.stock ≡ count s) × (first.stock.most_buffers ≡ s.most_buffers)
    unfolding with_record with_version
    first_made = (version_grows s b new _ there, length-set s.buffers b _, refl)

    grows_first : Grows s first.stock b new
    grows_first = first_made.0

    step_first : (c : ℕ) → c ≢ b → step_in first.moves c ≡ None
    unfolding with_record
    step_first c ne = rw (ne_eqb b c (λ e. ne (sym e))) refl

    names_of : (xs : List ℕ) → map (λ (v : ℕ × ℕ). v.0) (map (λ c. (c, now s c)) xs) ≡ xs
    names_of [] = refl
    names_of (x ∷ xs) = ap (λ rest. x ∷ rest) (names_of xs)

    pub names_first : (c : ℕ) → sources_now first.stock c ≡ graph_sources g c
    names_first c = elim (cases_eq c b) [
      | inl e ↦ subst (λ d. sources_now first.stock d ≡ graph_sources g d) (sym e) (ap (λ x. map (λ v. v.0) (sources_of x)) (record_then first.stock grows_first) ∙ ap (map (λ v. v.0)) names ∙ names_of sources ∙ sym here_are)
      | inr ne ↦ ap (λ x. map (λ v. v.0) (sources_of x)) (grown_record_other s first.stock b new grows_first c ne) ∙ sym (others_are c ne)
    ]

    pub same_names : sources_now first.stock ≡ graph_sources g
    same_names = λ i c. names_first c i

    start_first : IsStart s g first
    start_first = record { levelled = levelled; len = len; same_count = first_made.1; same_most = first_made.2; names = same_names }

    some_first : (c : ℕ) → c < count s → 0 < length (buffer first.stock c).records
    some_first c in_ = elim (cases_eq c b) [
      | inl e ↦ subst (λ d. 0 < length (buffer first.stock d).records) (sym e) (let l : length (buffer first.stock b).records ≡ suc (length (buffer s b).records) = grown_length s first.stock b new grows_first in omega arith)
      | inr ne ↦ subst (λ xs. 0 < length xs) (sym (grows_first.others c ne)) (settled.some c in_)
    ]

    text_first : length (text_now first.stock b) ≡ members_len (members_of new)
    text_first = ap length (text_then first.stock grows_first) ∙ units_len

    pub risen_long : over Which.Buffers (stock hs).most_buffers (count (stock hs)) ≡ None → ((d : ℕ) → d < count (stock hs) → length (text_now (stock hs) d) ≤ 2 ^ 22) → 2 ^ 22 < members_len (members_of new) → first_some (stock_limits (turned_in (risen none_given first).stock (Some b))) ≡ Some (Refusal.Limit Which.Units (members_len (members_of new)))
    risen_long few long too_many =
        turned_limits (risen none_given first).stock b (subst (λ k. b < k) (sym (ap (λ (u : Rising). count u.stock) (risen_is s g first start_first) ∙ count_left s g first start_first)) there)
        ∙ only_too_long s g first start_first (founded_then first.stock grows_first) some_first b there
        (λ c low. step_first c (λ e. absurd (let f : height_in g c ≡ height_in g b = ap (height_in g) e in omega arith))) few
        (λ c in_ ne. subst (λ xs. length xs ≤ 2 ^ 22) (sym (grown_text_now s first.stock b new grows_first settled.founded c ne (settled.some c in_))) (long c in_))
        (subst (λ k. 2 ^ 22 < k) (sym text_first) too_many)
        ∙ ap (λ k. Some (Refusal.Limit Which.Units k)) text_first
