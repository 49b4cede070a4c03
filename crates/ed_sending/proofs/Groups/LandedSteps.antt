-- The steps of a group: each base by its pieces, each projection across the steps of its sources.
use Rattle.std.proofs.Common.{◌≡◌, ◌≢◌, ℕ, zero, suc, ◌+◌, ◌-◌, ◌<◌, ◌≤◌, Bool, true, false, not, ◌&&◌, ◌||◌, List, [], ◌∷◌, ◌++◌, length, length-append, map, filter, if◌then◌else◌, Option, Some, None, ◌⊎◌, inl, inr, refl, sym, ap, ◌∙◌, arith, subst}
use Rattle.std.specs.Prelude.{nat_eq, slice_get, fold, unwrap_or, is_some}
use Rattle.std.specs.List.{list_any, range_with_len}
use Rattle.std.proofs.lemmas.Bool.{cases_lt}
use Rattle.std.proofs.lemmas.Bool.Decides.{nat_tests}
use Rattle.ed_base.specs.declared.piece.Piece.{Piece}
use Rattle.ed_base.specs.Numbers.{places}
use Rattle.ed_base.specs.Step.{pairs_from}
use Rattle.ed_layers.specs.Graph as graph
use Rattle.ed_layers.specs.CarrierStep.{carrier_step, record_trails, all_stay}
use Rattle.ed_layers.specs.Pieces.{marked_text, step_of_pieces, piece_origins}
use Rattle.ed_layers.specs.Records.{Record, base, projection, elision, sources_of, is_carrier, is_elision}
use Rattle.ed_layers.specs.SourceStep.{SourceStep}
use Rattle.ed_stock.specs.Stock.{Stock, now, record_now, text_now, sources_now, count, graph_order}
use Rattle.ed_stock.specs.Versions.{Rising, step_in, with_version, with_record, is_moved, risen_at, risen, next_record, none_given}
use Rattle.ed_stock.specs.Landing.{pieces_at, bases_reached, landed_at, landed}
use Rattle.ed_sending.proofs.Lists.SortedParts.{Each, each_more}
use Rattle.ed_sending.proofs.Texts.PiecesAtGap.{filter_twice}
use Rattle.ed_sending.proofs.Texts.FullText.{Full, old_units, full_text, full_marked, full_origins, IsStepTo}
use Rattle.ed_sending.proofs.Carriers.MemberParts.{woven_none}
use Rattle.ed_sending.proofs.Carriers.SlotReadings.{map_twice}
use Rattle.ed_sending.proofs.Carriers.NewText.{StepsBy}
use Rattle.ed_sending.proofs.Groups.SendingOrder.{Climbs, graph_climbs, graph_once, range_once}
use Rattle.ed_sending.proofs.Groups.Turns.{set_here, step_in_push, records_at, records_in, landed_acts, risen_acts, passed, as_many, fold_append, Splits, splits}
use Rattle.ed_sending.proofs.Groups.RecordTexts.{base_text}
use Rattle.ed_sending.proofs.Carriers.ProjectionStep.{unit_of, units_old}
use Rattle.ed_sending.specs.Ready.{height_now}

-- ---- the newest record

push_last : {X : Type 0} (xs : List X) (x d : X) → unwrap_or (slice_get (xs ++ x ∷ []) (length (xs ++ x ∷ []) - 1)) d ≡ x
push_last {X = X} xs x d = ap (λ n. unwrap_or (slice_get (xs ++ x ∷ []) n) d) (let e : length (xs ++ x ∷ []) ≡ length xs + 1 = length-append xs (x ∷ []) in let f : length (xs ++ x ∷ []) - 1 ≡ length xs = omega arith in f) ∙ ap (λ o. unwrap_or o d) (here xs)
  where
    here : (xs : List X) → slice_get (xs ++ x ∷ []) (length xs) ≡ Some x
    here [] = refl
    here (y ∷ ys) = here ys

newest : (t : Stock) (b : ℕ) (xs : List Record) (r : Record) → records_at t b ≡ xs ++ r ∷ [] → record_now t b ≡ r
newest t b xs r is = ap (λ rs. unwrap_or (slice_get rs (length rs - 1)) (base [] 0)) is ∙ push_last xs r (base [] 0)

pub same_now : (s t : Stock) (b : ℕ) → records_at t b ≡ records_at s b → record_now t b ≡ record_now s b
same_now s t b is = ap (λ rs. unwrap_or (slice_get rs (length rs - 1)) (base [] 0)) is

-- ---- one turn

turn_moved : (r : Rising) (b : ℕ) → is_moved r b ≡ true → step_in r.moves b ≡ None → b < count r.stock →
    (step_in (risen_at none_given r b).moves b ≡ Some (record { step = carrier_step all_stay (step_in r.moves) (record_now r.stock b) (next_record r.stock b (step_in r.moves) None (record_now r.stock b)); trails = record_trails b (is_elision (next_record r.stock b (step_in r.moves) None (record_now r.stock b))) (step_in r.moves) (next_record r.stock b (step_in r.moves) None (record_now r.stock b)) }))
    × (record_now (risen_at none_given r b).stock b ≡ next_record r.stock b (step_in r.moves) None (record_now r.stock b))
unfolding with_version with_record
turn_moved r b moved none there = rw moved (
  step_in_push r.moves b (record { step = carrier_step all_stay (step_in r.moves) (record_now r.stock b) (next_record r.stock b (step_in r.moves) None (record_now r.stock b)); trails = record_trails b (is_elision (next_record r.stock b (step_in r.moves) None (record_now r.stock b))) (step_in r.moves) (next_record r.stock b (step_in r.moves) None (record_now r.stock b)) }) none,
  newest (with_record r b all_stay (next_record r.stock b (step_in r.moves) None (record_now r.stock b))).stock b (records_at r.stock b) (next_record r.stock b (step_in r.moves) None (record_now r.stock b)) (ap records_in (set_here r.stock.buffers b _ there)),
)

turn_still : (r : Rising) (b : ℕ) → is_moved r b ≡ false → risen_at none_given r b ≡ r
turn_still r b still = rw still refl

none_moved : (f : ℕ → Option SourceStep) (vs : List (ℕ × ℕ)) → list_any (λ source. is_some (f source)) (map (λ (v : ℕ × ℕ). v.0) vs) ≡ false → Each (λ v. f v.0 ≡ None) vs
none_moved f [] h = tt
none_moved f (v ∷ vs) h = by (f v.0) refl h (λ e. none_moved f vs e)
  where
    by : (o : Option SourceStep) → f v.0 ≡ o → (is_some o || list_any (λ source. is_some (f source)) (map (λ (v : ℕ × ℕ). v.0) vs)) ≡ false → (list_any (λ source. is_some (f source)) (map (λ (v : ℕ × ℕ). v.0) vs) ≡ false → Each (λ v. f v.0 ≡ None) vs) → Each (λ v. f v.0 ≡ None) (v ∷ vs)
    by None e h more = (e, more h)
    by (Some x) e h more = absurd (let z : true ≡ false = h in cc)

-- ---- all turns

each_passing : (P : ℕ → Type 0) (f : ℕ → Bool) (xs : List ℕ) → ((x : ℕ) → f x ≡ true → P x) → Each P (filter f xs)
each_passing P f [] h = tt
each_passing P f (x ∷ xs) h = either (f x) refl (each_passing P f xs h)
  where
    either : (b : Bool) → f x ≡ b → Each P (filter f xs) → Each P (if b then x ∷ filter f xs else filter f xs)
    either true e rest = (h x e, rest)
    either false e rest = rest

flat_climbs : (xs : List ℕ) → Climbs (λ d. 0) xs
flat_climbs [] = tt
flat_climbs (x ∷ xs) = (all xs, flat_climbs xs)
  where
    all : (ys : List ℕ) → Each (λ (d : ℕ). 0 ≤ 0) ys
    all [] = tt
    all (y ∷ ys) = (omega arith, all ys)

no_sources : (r : Record) → is_carrier r ≡ false → sources_of r ≡ []
no_sources (base text n) e = refl
no_sources (projection members sources) e = absurd (let z : true ≡ false = e in cc)
no_sources (elision flags source version) e = absurd (let z : true ≡ false = e in cc)

module _ (s : Stock) (pending : List (ℕ × Piece)) (reiterated : ℕ → Option ℕ) where
  abbrev pub before : Rising
  before = record { stock = s; moves = [] }

  abbrev pub based : Rising
  based = fold (landed_at pending reiterated) before (bases_reached s pending)

  abbrev reaches_base : ℕ → Bool
  reaches_base b = not (is_carrier (record_now s b)) && not (nat_eq (length (pieces_at pending b)) 0)

  based_many : count based.stock ≡ count s
  based_many = as_many (landed_at pending reiterated) (landed_acts pending reiterated) before (bases_reached s pending)

  based_other : (c : ℕ) → reaches_base c ≡ false → (records_at based.stock c ≡ records_at s c) × (step_in based.moves c ≡ None)
  based_other c out = passed (landed_at pending reiterated) (landed_acts pending reiterated) before (bases_reached s pending) c
      (each_passing (λ d. d ≢ c) reaches_base (places (count s)) (λ d in_ same. (let e : true ≡ false = sym in_ ∙ ap reaches_base same ∙ out in cc)))

  -- a base that pieces reach
  module _ (b : ℕ) (there : b < count s) (reached : reaches_base b ≡ true) where
    own_place : Splits (λ d. 0) (bases_reached s pending) b
    own_place = splits (λ d. 0) (bases_reached s pending) b (flat_climbs (bases_reached s pending))
        (filter_twice (λ d. nat_eq d b) reaches_base (places (count s)) ∙ ap (filter reaches_base) (range_once (λ d. 0) b 0 (count s) (omega arith) (omega arith)) ∙ (rw reached refl))

    abbrev at_turn : Rising
    at_turn = fold (landed_at pending reiterated) before own_place.front

    turn_was : (records_at at_turn.stock b ≡ records_at s b) × (step_in at_turn.moves b ≡ None)
    turn_was = passed (landed_at pending reiterated) (landed_acts pending reiterated) before own_place.front b own_place.before

    based_is : based ≡ fold (landed_at pending reiterated) (landed_at pending reiterated at_turn b) own_place.back
    based_is = ap (λ o. fold (landed_at pending reiterated) before o) own_place.is ∙ fold_append (landed_at pending reiterated) before own_place.front (b ∷ own_place.back)

    turn_text : text_now at_turn.stock b ≡ text_now s b
    turn_text = by (record_now s b) refl reached
      where
        by : (r : Record) → record_now s b ≡ r → (not (is_carrier r) && not (nat_eq (length (pieces_at pending b)) 0)) ≡ true → text_now at_turn.stock b ≡ text_now s b
        by (base text n) is e = base_text at_turn.stock b text n (same_now s at_turn.stock b turn_was.0 ∙ is) ∙ sym (base_text s b text n is)
        by (projection members sources) is e = absurd (let z : false ≡ true = e in cc)
        by (elision flags source version) is e = absurd (let z : false ≡ true = e in cc)

    abbrev base_step : List ℕ → SourceStep
    base_step text = record { step = step_of_pieces (pieces_at pending b) (length text); trails = map (λ u. u.1) (marked_text (pieces_at pending b) text) }

    based_step : step_in based.moves b ≡ Some (base_step (text_now s b))
    based_step =
        ap (λ (r : Rising). step_in r.moves b) based_is
        ∙ (passed (landed_at pending reiterated) (landed_acts pending reiterated) (landed_at pending reiterated at_turn b) own_place.back b own_place.after).1
        ∙ step_in_push at_turn.moves b (base_step (text_now at_turn.stock b)) turn_was.1
        ∙ ap (λ t. Some (base_step t)) turn_text

    based_record : record_now based.stock b ≡ base (map (λ u. u.0) (marked_text (pieces_at pending b) (text_now s b))) (unwrap_or (reiterated b) (now at_turn.stock b + 1))
    unfolding with_version
    based_record =
        let many : count at_turn.stock ≡ count s = as_many (landed_at pending reiterated) (landed_acts pending reiterated) before own_place.front in
        ap (λ (r : Rising). record_now r.stock b) based_is
        ∙ same_now (landed_at pending reiterated at_turn b).stock (fold (landed_at pending reiterated) (landed_at pending reiterated at_turn b) own_place.back).stock b (passed (landed_at pending reiterated) (landed_acts pending reiterated) (landed_at pending reiterated at_turn b) own_place.back b own_place.after).0
        ∙ newest (landed_at pending reiterated at_turn b).stock b (records_at at_turn.stock b) (base (map (λ u. u.0) (marked_text (pieces_at pending b) (text_now at_turn.stock b))) (unwrap_or (reiterated b) (now at_turn.stock b + 1))) (ap records_in (set_here at_turn.stock.buffers b _ (omega arith)))
        ∙ ap (λ t. base (map (λ u. u.0) (marked_text (pieces_at pending b) t)) (unwrap_or (reiterated b) (now at_turn.stock b + 1))) turn_text

    base_is_step : IsStepTo (base_step (text_now s b)) (full_text (pieces_at pending b) (text_now s b))
    base_is_step =
        let fs : List Full = full_text (pieces_at pending b) (text_now s b) in
        let os : map (λ (f : Full). f.0) fs ≡ piece_origins (pieces_at pending b) (length (text_now s b)) = full_origins (pieces_at pending b) (text_now s b) in
        record {
          new_len = ap (λ z. length z) (sym os) ∙ long (λ (f : Full). f.0) fs;
          kept = ap (λ z. pairs_from 0 z) (sym os);
          trails = ap (map (λ (u : ℕ × List (ℕ × ℕ)). u.1)) (sym (full_marked (pieces_at pending b) (text_now s b))) ∙ map_twice (λ (u : ℕ × List (ℕ × ℕ)). u.1) (λ (f : Full). f.1) fs;
        }
      where
        long : {Y : Type 0} (f : Full → Y) (xs : List Full) → length (map f xs) ≡ length xs
        long f [] = refl
        long f (x ∷ xs) = ap suc (long f xs)

  -- the order of the graph stays
  still_base : (c : ℕ) → c < count s → is_carrier (record_now s c) ≡ false → is_carrier (record_now based.stock c) ≡ false
  still_base c there plain = either (reaches_base c) refl
    where
      either : (z : Bool) → reaches_base c ≡ z → is_carrier (record_now based.stock c) ≡ false
      either true e = ap is_carrier (based_record c there e)
      either false e = ap is_carrier (same_now s based.stock c (based_other c e).0) ∙ plain

  based_sources : (c : ℕ) → sources_now based.stock c ≡ sources_now s c
  based_sources c = either (reaches_base c) refl (cases_lt c (count s))
    where
      parts : (a b : Bool) → (not a && b) ≡ true → a ≡ false
      parts false b e = refl
      parts true b e = absurd (let z : false ≡ true = e in cc)

      none_past : (xs : List ℕ) → Each (λ d. d < count s) xs → count s ≤ c → Each (λ d. d ≢ c) xs
      none_past xs a past = each_more (λ d. d < count s) (λ d. d ≢ c) xs (λ d l e. omega arith) a

      below : (a n : ℕ) → a + n ≤ count s → Each (λ d. d < count s) (filter reaches_base (range_with_len a n))
      below a zero l = tt
      below a (suc n) l = one (reaches_base a) (below (a + 1) n (omega arith))
        where
          one : (z : Bool) → Each (λ d. d < count s) (filter reaches_base (range_with_len (a + 1) n)) → Each (λ d. d < count s) (if z then a ∷ filter reaches_base (range_with_len (a + 1) n) else filter reaches_base (range_with_len (a + 1) n))
          one true rest = (omega arith, rest)
          one false rest = rest

      either : (z : Bool) → reaches_base c ≡ z → (c < count s) ⊎ (count s ≤ c) → sources_now based.stock c ≡ sources_now s c
      either false e l = ap (λ r. map (λ (v : ℕ × ℕ). v.0) (sources_of r)) (same_now s based.stock c (based_other c e).0)
      either true e (inr past) = ap (λ r. map (λ (v : ℕ × ℕ). v.0) (sources_of r)) (same_now s based.stock c (passed (landed_at pending reiterated) (landed_acts pending reiterated) before (bases_reached s pending) c (none_past (bases_reached s pending) (below 0 (count s) (omega arith)) past)).0)
      either true e (inl there) =
          let plain : is_carrier (record_now s c) ≡ false = parts (is_carrier (record_now s c)) (not (nat_eq (length (pieces_at pending c)) 0)) e in
          ap (map (λ (v : ℕ × ℕ). v.0)) (no_sources (record_now based.stock c) (still_base c there plain) ∙ sym (no_sources (record_now s c) plain))

  based_order : graph_order based.stock ≡ graph_order s
  based_order = λ i. graph.graph_order (λ c. based_sources c i) (based_many i)

  abbrev pub done : Rising
  done = fold (risen_at none_given) based (graph_order s)

  pub landed_is : landed s pending reiterated none_given ≡ done
  unfolding landed risen
  landed_is = ap (λ o. fold (risen_at none_given) based o) based_order

  module _ (c : ℕ) (there : c < count s) where
    abbrev pub turn : Splits (height_now s) (graph_order s) c
    turn = splits (height_now s) (graph_order s) c (graph_climbs s) (graph_once s c there)

    -- the stock just before the buffer's turn
    abbrev pub reached : Rising
    reached = fold (risen_at none_given) based turn.front

    reached_was : (records_at reached.stock c ≡ records_at based.stock c) × (step_in reached.moves c ≡ step_in based.moves c)
    reached_was = passed (risen_at none_given) (risen_acts none_given) based turn.front c turn.before

    done_is : done ≡ fold (risen_at none_given) (risen_at none_given reached c) turn.back
    done_is = ap (λ o. fold (risen_at none_given) based o) turn.is ∙ fold_append (risen_at none_given) based turn.front (c ∷ turn.back)

    done_own : (records_at done.stock c ≡ records_at (risen_at none_given reached c).stock c) × (step_in done.moves c ≡ step_in (risen_at none_given reached c).moves c)
    done_own =
        let p : (records_at (fold (risen_at none_given) (risen_at none_given reached c) turn.back).stock c ≡ records_at (risen_at none_given reached c).stock c) × (step_in (fold (risen_at none_given) (risen_at none_given reached c) turn.back).moves c ≡ step_in (risen_at none_given reached c).moves c) =
        passed (risen_at none_given) (risen_acts none_given) (risen_at none_given reached c) turn.back c turn.after in
        (ap (λ (r : Rising). records_at r.stock c) done_is ∙ p.0, ap (λ (r : Rising). step_in r.moves c) done_is ∙ p.1)

    -- what a lower buffer did is known then
    pub sees : (d : ℕ) → height_now s d < height_now s c → step_in reached.moves d ≡ step_in done.moves d
    sees d low =
        let other : d ≢ c = λ e. (let f : height_now s d ≡ height_now s c = ap (height_now s) e in omega arith) in
        let p : (records_at (fold (risen_at none_given) (risen_at none_given reached c) turn.back).stock d ≡ records_at (risen_at none_given reached c).stock d) × (step_in (fold (risen_at none_given) (risen_at none_given reached c) turn.back).moves d ≡ step_in (risen_at none_given reached c).moves d) =
        passed (risen_at none_given) (risen_acts none_given) (risen_at none_given reached c) turn.back d (each_more (λ e. height_now s c ≤ height_now s e) (λ e. e ≢ d) turn.back (λ e l same. (let f : height_now s e ≡ height_now s d = ap (height_now s) same in omega arith)) turn.above) in
        sym (ap (λ (r : Rising). step_in r.moves d) done_is ∙ p.1 ∙ (risen_acts none_given).steps reached c d other)

    -- a base
    pub base_steps : is_carrier (record_now s c) ≡ false → StepsBy (step_in done.moves c) (pieces_at pending c) (text_now s c)
    base_steps plain =
        let now_plain : is_carrier (record_now reached.stock c) ≡ false = ap is_carrier (same_now based.stock reached.stock c reached_was.0) ∙ still_base c there plain in
        let still : is_moved reached c ≡ false = ap (λ vs. list_any (λ source. is_some (step_in reached.moves source)) (map (λ (v : ℕ × ℕ). v.0) vs)) (no_sources (record_now reached.stock c) now_plain) in
        let same : step_in done.moves c ≡ step_in based.moves c = done_own.1 ∙ ap (λ (r : Rising). step_in r.moves c) (turn_still reached c still) ∙ reached_was.1 in
        subst (λ (o : Option SourceStep). StepsBy o (pieces_at pending c) (text_now s c)) (sym same) (either (reaches_base c) refl)
      where
        nothing : (a : Bool) (ps : List Piece) → a ≡ false → (not a && not (nat_eq (length ps) 0)) ≡ false → ps ≡ []
        nothing true ps e f = absurd (let z : true ≡ false = e in cc)
        nothing false [] e f = refl
        nothing false (p ∷ ps) e f = absurd (let t : nat_eq (length (p ∷ ps)) 0 ≡ false = grind (arith, nat_tests) in let y : (not false && not (nat_eq (length (p ∷ ps)) 0)) ≡ true = rw t refl in let z : true ≡ false = sym y ∙ f in cc)

        either : (z : Bool) → reaches_base c ≡ z → StepsBy (step_in based.moves c) (pieces_at pending c) (text_now s c)
        either true e = subst (λ (o : Option SourceStep). StepsBy o (pieces_at pending c) (text_now s c)) (sym (based_step c there e)) (base_is_step c there e)
        either false e =
            let none : pieces_at pending c ≡ [] = nothing (is_carrier (record_now s c)) (pieces_at pending c) plain e in
            subst (λ (o : Option SourceStep). StepsBy o (pieces_at pending c) (text_now s c)) (sym (based_other c e).1) (ap (λ ps. full_text ps (text_now s c)) none ∙ woven_none 0 (old_units 0 (text_now s c)))

    -- and its new text
    pub base_reads : is_carrier (record_now s c) ≡ false → text_now done.stock c ≡ map unit_of (full_text (pieces_at pending c) (text_now s c))
    base_reads plain =
        let now_plain : is_carrier (record_now reached.stock c) ≡ false = ap is_carrier (same_now based.stock reached.stock c reached_was.0) ∙ still_base c there plain in
        let still : is_moved reached c ≡ false = ap (λ vs. list_any (λ source. is_some (step_in reached.moves source)) (map (λ (v : ℕ × ℕ). v.0) vs)) (no_sources (record_now reached.stock c) now_plain) in
        let same : record_now done.stock c ≡ record_now based.stock c = same_now (risen_at none_given reached c).stock done.stock c done_own.0 ∙ ap (λ (r : Rising). record_now r.stock c) (turn_still reached c still) ∙ same_now based.stock reached.stock c reached_was.0 in
        either (reaches_base c) refl same
      where
        nothing : (a : Bool) (ps : List Piece) → a ≡ false → (not a && not (nat_eq (length ps) 0)) ≡ false → ps ≡ []
        nothing true ps e f = absurd (let z : true ≡ false = e in cc)
        nothing false [] e f = refl
        nothing false (p ∷ ps) e f = absurd (let t : nat_eq (length (p ∷ ps)) 0 ≡ false = grind (arith, nat_tests) in let y : (not false && not (nat_eq (length (p ∷ ps)) 0)) ≡ true = rw t refl in let z : true ≡ false = sym y ∙ f in cc)

        kept : (r : Record) → record_now s c ≡ r → is_carrier r ≡ false → record_now done.stock c ≡ r → text_now done.stock c ≡ text_now s c
        kept (base text n) is e now_is = base_text done.stock c text n now_is ∙ sym (base_text s c text n is)
        kept (projection members sources) is e now_is = absurd (let z : true ≡ false = e in cc)
        kept (elision flags source version) is e now_is = absurd (let z : true ≡ false = e in cc)

        either : (z : Bool) → reaches_base c ≡ z → record_now done.stock c ≡ record_now based.stock c → text_now done.stock c ≡ map unit_of (full_text (pieces_at pending c) (text_now s c))
        either true e same =
            base_text done.stock c (map (λ (u : ℕ × List (ℕ × ℕ)). u.0) (marked_text (pieces_at pending c) (text_now s c))) (unwrap_or (reiterated c) (now (at_turn c there e).stock c + 1)) (same ∙ based_record c there e)
            ∙ ap (map (λ (u : ℕ × List (ℕ × ℕ)). u.0)) (sym (full_marked (pieces_at pending c) (text_now s c))) ∙ map_twice (λ (u : ℕ × List (ℕ × ℕ)). u.0) (λ (f : Full). f.1) (full_text (pieces_at pending c) (text_now s c))
        either false e same =
            let none : pieces_at pending c ≡ [] = nothing (is_carrier (record_now s c)) (pieces_at pending c) plain e in
            kept (record_now s c) refl plain (same ∙ same_now s based.stock c (based_other c e).0)
            ∙ sym (ap (λ ps. map unit_of (full_text ps (text_now s c))) none ∙ ap (map unit_of) (woven_none 0 (old_units 0 (text_now s c))) ∙ units_old 0 (text_now s c))

    -- a carrier
    pub carrier_turn : is_carrier (record_now s c) ≡ true → (r : Record) → record_now s c ≡ r →
        ((step_in done.moves c ≡ Some (record { step = carrier_step all_stay (step_in reached.moves) r (next_record reached.stock c (step_in reached.moves) None r); trails = record_trails c (is_elision (next_record reached.stock c (step_in reached.moves) None r)) (step_in reached.moves) (next_record reached.stock c (step_in reached.moves) None r) }))
        × (record_now done.stock c ≡ next_record reached.stock c (step_in reached.moves) None r))
        ⊎ ((step_in done.moves c ≡ None) × (record_now done.stock c ≡ r) × Each (λ v. step_in reached.moves v.0 ≡ None) (sources_of r))
    carrier_turn carries r is =
        let out : reaches_base c ≡ false = ap (λ z. not z && not (nat_eq (length (pieces_at pending c)) 0)) carries in
        let was : record_now reached.stock c ≡ r = same_now based.stock reached.stock c reached_was.0 ∙ same_now s based.stock c (based_other c out).0 ∙ is in
        let none : step_in reached.moves c ≡ None = reached_was.1 ∙ (based_other c out).1 in
        let many : count reached.stock ≡ count s = as_many (risen_at none_given) (risen_acts none_given) based turn.front ∙ based_many in
        either (is_moved reached c) refl was none (omega arith)
      where
        either : (z : Bool) → is_moved reached c ≡ z → record_now reached.stock c ≡ r → step_in reached.moves c ≡ None → c < count reached.stock →
            ((step_in done.moves c ≡ Some (record { step = carrier_step all_stay (step_in reached.moves) r (next_record reached.stock c (step_in reached.moves) None r); trails = record_trails c (is_elision (next_record reached.stock c (step_in reached.moves) None r)) (step_in reached.moves) (next_record reached.stock c (step_in reached.moves) None r) }))
            × (record_now done.stock c ≡ next_record reached.stock c (step_in reached.moves) None r))
            ⊎ ((step_in done.moves c ≡ None) × (record_now done.stock c ≡ r) × Each (λ v. step_in reached.moves v.0 ≡ None) (sources_of r))
        either true m was none l =
            let t : (step_in (risen_at none_given reached c).moves c ≡ Some (record { step = carrier_step all_stay (step_in reached.moves) (record_now reached.stock c) (next_record reached.stock c (step_in reached.moves) None (record_now reached.stock c)); trails = record_trails c (is_elision (next_record reached.stock c (step_in reached.moves) None (record_now reached.stock c))) (step_in reached.moves) (next_record reached.stock c (step_in reached.moves) None (record_now reached.stock c)) }))
            × (record_now (risen_at none_given reached c).stock c ≡ next_record reached.stock c (step_in reached.moves) None (record_now reached.stock c)) = turn_moved reached c m none l in
            inl (
              done_own.1 ∙ t.0 ∙ ap (λ z. Some (record { step = carrier_step all_stay (step_in reached.moves) z (next_record reached.stock c (step_in reached.moves) None z); trails = record_trails c (is_elision (next_record reached.stock c (step_in reached.moves) None z)) (step_in reached.moves) (next_record reached.stock c (step_in reached.moves) None z) })) was,
              same_now (risen_at none_given reached c).stock done.stock c done_own.0 ∙ t.1 ∙ ap (λ z. next_record reached.stock c (step_in reached.moves) None z) was,
            )
        either false m was none l =
            let t : risen_at none_given reached c ≡ reached = turn_still reached c m in
            inr (
              done_own.1 ∙ ap (λ (r : Rising). step_in r.moves c) t ∙ none,
              same_now (risen_at none_given reached c).stock done.stock c done_own.0 ∙ ap (λ (r : Rising). record_now r.stock c) t ∙ was,
              none_moved (step_in reached.moves) (sources_of r) (ap (λ z. list_any (λ source. is_some (step_in reached.moves source)) (map (λ (v : ℕ × ℕ). v.0) (sources_of z))) (sym was) ∙ m),
            )
