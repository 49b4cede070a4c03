-- Bases that land one after another: what is so after those below k.
use Rattle.std.proofs.Common.{◌≡◌, ◌≢◌, ℕ, zero, suc, ◌+◌, ◌-◌, ◌<◌, ◌≤◌, ◌^◌, Bool, true, false, not, ◌&&◌, ◌⊎◌, List, [], ◌∷◌, ◌++◌, length, map, filter, Some, None, inl, inr, refl, sym, ap, ◌∙◌, arith, subst}
use Rattle.std.specs.Prelude.{fold, is_some, nat_eq, slice_get, unwrap_or, if◌then◌else◌}
use Rattle.std.specs.List.{list_any, range_with_len}
use Rattle.std.proofs.lemmas.Bool.{cases_Bool, cases_eq, cases_lt, eqb-true}
use Rattle.std.proofs.lemmas.List.{length-map}
use Rattle.std.proofs.lemmas.List.Elements.{filter-append}
use Rattle.ed_base.specs.declared.piece.Piece.{Piece}
use Rattle.ed_base.specs.declared.Refusal.{Refusal}
use Rattle.ed_base.specs.declared.Which.{Which}
use Rattle.ed_base.specs.Numbers.{first_some, is_among, places}
use Rattle.ed_graph.proofs.Fuel.{within_rounds}
use Rattle.ed_graph.proofs.Shown.{height_below_greatest}
use Rattle.ed_graph.specs.Standing.{IsLevelled, height_in, order_in, sources_in}
use Rattle.ed_layers.specs.Graph.{height_within}
use Rattle.ed_layers.specs.Pieces.{marked_text, step_of_pieces}
use Rattle.ed_layers.specs.Records.{Record, base, elision, is_carrier, members_of, projection, sources_of}
use Rattle.ed_risen.proofs.Growth.{grown_record_now, version_grows}
use Rattle.ed_risen.proofs.Lists.{among_itself, among_more, among_split, clash, fold_push, places_push}
use Rattle.ed_risen.proofs.Order.{Comes, among_each, order_all, order_comes}
use Rattle.ed_risen.proofs.RisingLemmas.{lands, some_records, unmoved_text}
use Rattle.ed_risen.proofs.Starts.{first_too_long}
use Rattle.ed_risen.specs.Counting.{member_count}
use Rattle.ed_risen.specs.Growing.{Grows}
use Rattle.ed_risen.specs.Rising.{IsSettled, Rises}
use Rattle.ed_risen.specs.Start.{IsStart}
use Rattle.ed_sending.proofs.Groups.RecordTexts.{base_text}
use Rattle.ed_sending.proofs.Groups.Turns.{landed_acts, passed, records_at}
use Rattle.ed_sending.proofs.Lists.SortedParts.{Each}
use Rattle.ed_sending.proofs.Texts.PiecesAgain.{marked_length}
use Rattle.ed_stock.specs.Landing.{base_changes, landed, landed_at, pieces_at}
use Rattle.ed_stock.specs.Limits.{over, stock_limits}
use Rattle.ed_stock.specs.Stock.{Stock, count, now, record_now, sources_now, text_now}
use Rattle.ed_stock.specs.Versions.{Rising, is_moved, none_given, risen, step_in, with_version}
use Rattle.ed_sending.specs.LandedBelow.{is_reached, landed_below, reached_below}

-- ---- records

reached_plain : (s : Stock) (pending : List (ℕ × Piece)) (b : ℕ) → is_reached s pending b ≡ true → is_carrier (record_now s b) ≡ false
reached_plain s pending b h = parts (is_carrier (record_now s b)) (not (nat_eq (length (pieces_at pending b)) 0)) h
  where
    parts : (x y : Bool) → (not x && y) ≡ true → x ≡ false
    parts false y e = refl
    parts true y e = absurd (cc)

plain_sources : (r : Record) → is_carrier r ≡ false → sources_of r ≡ []
plain_sources (base text n) e = refl
plain_sources (projection members sources) e = absurd (cc)
plain_sources (elision flags source version) e = absurd (cc)

plain_members : (r : Record) → is_carrier r ≡ false → members_of r ≡ []
plain_members (base text n) e = refl
plain_members (projection members sources) e = absurd (cc)
plain_members (elision flags source version) e = absurd (cc)

-- a buffer without sources has height 0
no_height : (S : ℕ → List ℕ) (n k b : ℕ) → S b ≡ [] → height_within S n k b ≡ 0
unfolding height_within
no_height S n zero b none = refl
no_height S n (suc k) b none = rw none refl

-- ---- one more

module _ (s : Stock) (pending : List (ℕ × Piece)) (k : ℕ) where
  reached_more : reached_below s pending (k + 1) ≡ reached_below s pending k ++ filter (is_reached s pending) (k ∷ [])
  reached_more = ap (filter (is_reached s pending)) (places_push k) ∙ filter-append (is_reached s pending) (places k) (k ∷ [])

  pub reached_next : is_reached s pending k ≡ true → reached_below s pending (k + 1) ≡ reached_below s pending k ++ k ∷ []
  reached_next h = reached_more ∙ ap (λ z. reached_below s pending k ++ z) (rw h refl)

  pub reached_not : is_reached s pending k ≡ false → reached_below s pending (k + 1) ≡ reached_below s pending k
  reached_not h = reached_more ∙ ap (λ z. reached_below s pending k ++ z) (rw h refl) ∙ nothing (reached_below s pending k)
    where
      nothing : (xs : List ℕ) → xs ++ [] ≡ xs
      nothing [] = refl
      nothing (x ∷ xs) = ap (λ ys. x ∷ ys) (nothing xs)

  pub landed_next : is_reached s pending k ≡ true → landed_below s pending (k + 1) ≡ landed_at pending none_given (landed_below s pending k) k
  landed_next h = ap (fold (landed_at pending none_given) (record { stock = s; moves = [] })) (reached_next h) ∙ fold_push (landed_at pending none_given) (record { stock = s; moves = [] }) (reached_below s pending k) k

  pub landed_not : is_reached s pending k ≡ false → landed_below s pending (k + 1) ≡ landed_below s pending k
  landed_not h = ap (fold (landed_at pending none_given) (record { stock = s; moves = [] })) (reached_not h)

pub landed_all : (s : Stock) (pending : List (ℕ × Piece)) → landed s pending none_given none_given ≡ risen none_given (landed_below s pending (count s))
unfolding landed
landed_all s pending = refl

-- ---- what landing leaves

module _ (s : Stock) (pending : List (ℕ × Piece)) (k c : ℕ) (out : (is_reached s pending c ≡ false) ⊎ (k ≤ c)) where
  others : (p n : ℕ) → p + n ≤ k → Each (λ d. d ≢ c) (filter (is_reached s pending) (range_with_len p n))
  others p zero l = tt
  others p (suc n) l = one (is_reached s pending p) refl (others (p + 1) n (omega arith))
    where
      differs : is_reached s pending p ≡ true → p ≢ c
      differs t e = elim out [
        | inl f ↦ clash (is_reached s pending c) (ap (is_reached s pending) (sym e) ∙ t) f
        | inr far ↦ absurd (omega arith)
      ]

      one : (z : Bool) → is_reached s pending p ≡ z → Each (λ d. d ≢ c) (filter (is_reached s pending) (range_with_len (p + 1) n)) → Each (λ d. d ≢ c) (if z then p ∷ filter (is_reached s pending) (range_with_len (p + 1) n) else filter (is_reached s pending) (range_with_len (p + 1) n))
      one true t rest = (differs t, rest)
      one false t rest = rest

  was : (records_at (landed_below s pending k).stock c ≡ records_at s c) × (step_in (landed_below s pending k).moves c ≡ None)
  was = passed (landed_at pending none_given) (landed_acts pending none_given) (record { stock = s; moves = [] }) (reached_below s pending k) c (others 0 k (omega arith))

  pub move_still : step_in (landed_below s pending k).moves c ≡ None
  move_still = was.1

  pub now_still : now (landed_below s pending k).stock c ≡ now s c
  now_still = ap (λ rs. length rs - 1) was.0

  pub record_still : record_now (landed_below s pending k).stock c ≡ record_now s c
  record_still = ap (λ rs. unwrap_or (slice_get rs (length rs - 1)) (base [] 0)) was.0

-- ---- what is so of those that have landed

module _ (s : Stock) (graph : List (List ℕ)) (settled : IsSettled s) (levelled : IsLevelled graph) (as_long : length graph ≡ count s) (same : sources_in graph ≡ sources_now s) (pending : List (ℕ × Piece)) where
  -- The bases below k that pieces reach are done, and no others.
  pub record AreLanded (k : ℕ) (done : List ℕ) : Type 0 where
    pub rises : Rises s (height_in graph) [] done (landed_below s pending k)
    pub below : (c : ℕ) → is_among c done ≡ true → (c < k) × (is_carrier (record_now s c) ≡ false)
    pub reached : (c : ℕ) → c < k → is_reached s pending c ≡ true → is_among c done ≡ true

  pub none_landed : AreLanded 0 []
  none_landed = record {
    rises = record {
      same_count = refl;
      extends = λ b v r is. is;
      founded = settled.founded;
      names = λ b h. refl;
      started = λ b h. refl;
      unmoved = λ b h. refl;
      moved = λ b m h. absurd (let e : None ≡ Some m = h in cc);
      known = λ b h. absurd (let e : false ≡ true = h in cc);
      later = λ b h. refl;
      risen = λ b h. absurd (let e : false ≡ true = h in cc);
    };
    below = λ c h. absurd (let e : false ≡ true = h in cc);
    reached = λ c l h. absurd (omega arith);
  }

  shallow_at : (b : ℕ) → b < count s → height_in graph b ≤ 8
  shallow_at b there = let l : height_in graph b ≤ _ = height_below_greatest graph b (omega (arith, as_long)) in omega (arith, levelled.shallow, l)

  -- ---- one more base lands

  module _ (k : ℕ) (there : k < count s) (done : List ℕ) (landed : AreLanded k done) where
    abbrev before : Rising
    before = landed_below s pending k

    abbrev after : Rising
    after = landed_at pending none_given before k

    out : is_among k done ≡ false
    out = elim (cases_Bool (is_among k done)) [ inl i ↦ absurd (let l : k < k = (landed.below k i).0 in omega arith) | inr o ↦ o ]

    there_then : k < count before.stock
    there_then = subst (λ n. k < n) (sym landed.rises.same_count) there

    text_then : text_now before.stock k ≡ text_now s k
    text_then = unmoved_text s (height_in graph) settled [] done before landed.rises k there (landed.rises.later k out)

    abbrev new_text : List ℕ
    new_text = map (λ u. u.0) (marked_text (pieces_at pending k) (text_now before.stock k))

    grows : Grows before.stock after.stock k (base new_text (now before.stock k + 1))
    grows = version_grows before.stock k (base new_text (now before.stock k + 1)) (base_changes before.stock pending k) there_then

    record_then : record_now after.stock k ≡ base new_text (now before.stock k + 1)
    record_then = grown_record_now before.stock after.stock k (base new_text (now before.stock k + 1)) grows

    long_then : length (text_now after.stock k) ≡ (step_of_pieces (pieces_at pending k) (length (text_now before.stock k))).new_len
    long_then =
        ap length (base_text after.stock k new_text (now before.stock k + 1) record_then)
        ∙ length-map (marked_text (pieces_at pending k) (text_now before.stock k)) (λ u. u.0)
        ∙ marked_length (pieces_at pending k) (text_now before.stock k)

    rises_then : is_carrier (record_now s k) ≡ false → Rises s (height_in graph) [] (k ∷ done) after
    rises_then plain =
        lands s (height_in graph) settled [] done before landed.rises k there out (shallow_at k there) (plain_sources (record_now s k) plain) new_text (now before.stock k + 1)
        (record { step = step_of_pieces (pieces_at pending k) (length (text_now before.stock k)); trails = map (λ u. u.1) (marked_text (pieces_at pending k) (text_now before.stock k)) })
        after.stock grows ((landed_acts pending none_given).many before k) (ap length text_then) (sym long_then)

  among_cases : (c k : ℕ) (done : List ℕ) → is_among c (k ∷ done) ≡ true → (c ≡ k) ⊎ (is_among c done ≡ true)
  among_cases c k done h = by (nat_eq c k) refl h
    where
      by : (t : Bool) → nat_eq c k ≡ t → is_among c (k ∷ done) ≡ true → (c ≡ k) ⊎ (is_among c done ≡ true)
      by true t h = inl (eqb-true c k t)
      by false t h = inr (let e : is_among c (k ∷ done) ≡ is_among c done = rw t refl in sym e ∙ h)

  pub next_landed : (k : ℕ) → k < count s → is_reached s pending k ≡ true → (done : List ℕ) → AreLanded k done → AreLanded (k + 1) (k ∷ done)
  next_landed k there is done landed = record {
    rises = subst (Rises s (height_in graph) [] (k ∷ done)) (sym (landed_next s pending k is)) (rises_then k there done landed (reached_plain s pending k is));
    below = λ c h. elim (among_cases c k done h) [
      | inl e ↦ (omega arith, subst (λ x. is_carrier (record_now s x) ≡ false) (sym e) (reached_plain s pending k is))
      | inr i ↦ (let l : c < k = (landed.below c i).0 in omega arith, (landed.below c i).1)
    ];
    reached = λ c l h. elim (cases_eq c k) [
      | inl e ↦ subst (λ x. is_among x (k ∷ done) ≡ true) (sym e) (among_itself k done)
      | inr ne ↦ among_more k c done (landed.reached c (omega arith) h)
    ];
  }

  pub not_landed : (k : ℕ) → is_reached s pending k ≡ false → (done : List ℕ) → AreLanded k done → AreLanded (k + 1) done
  not_landed k not done landed = record {
    rises = subst (Rises s (height_in graph) [] done) (sym (landed_not s pending k not)) landed.rises;
    below = λ c h. (let l : c < k = (landed.below c h).0 in omega arith, (landed.below c h).1);
    reached = λ c l h. elim (cases_eq c k) [
      | inl e ↦ absurd (clash (is_reached s pending k) (subst (λ x. is_reached s pending x ≡ true) e h) not)
      | inr ne ↦ landed.reached c (omega arith) h
    ];
  }

  pub all_landed : (k : ℕ) → k ≤ count s → (done : List ℕ) × AreLanded k done
  all_landed zero l = ([], none_landed)
  all_landed (suc k) l =
      let before : (done : List ℕ) × AreLanded k done = all_landed k (omega arith) in
      subst (λ n. (done : List ℕ) × AreLanded n done) (let e : k + 1 ≡ suc k = omega arith in e) (elim (cases_Bool (is_reached s pending k)) [
        | inl is ↦ (k ∷ before.0, next_landed k (omega arith) is before.0 before.1)
        | inr not ↦ (before.0, not_landed k not before.0 before.1)
      ])

  -- ---- texts and records

  pub text_still : (k c : ℕ) → k ≤ count s → c < count s → (is_reached s pending c ≡ false) ⊎ (k ≤ c) → text_now (landed_below s pending k).stock c ≡ text_now s c
  text_still k c l there out =
      let all : (done : List ℕ) × AreLanded k done = all_landed k l in
      unmoved_text s (height_in graph) settled [] all.0 (landed_below s pending k) all.1.rises c there (move_still s pending k c out)

  -- the record of a base that has landed
  pub record_landed : (k c : ℕ) → c < k → k ≤ count s → is_reached s pending c ≡ true → record_now (landed_below s pending k).stock c ≡ base (map (λ u. u.0) (marked_text (pieces_at pending c) (text_now s c))) (now s c + 1)
  record_landed zero c below l is = absurd (omega arith)
  record_landed (suc k) c below l is = subst (λ n. record_now (landed_below s pending n).stock c ≡ base (map (λ u. u.0) (marked_text (pieces_at pending c) (text_now s c))) (now s c + 1)) (let e : k + 1 ≡ suc k = omega arith in e) (elim (cases_eq c k) [
    | inl e ↦ subst (λ x. record_now (landed_below s pending (k + 1)).stock x ≡ base (map (λ u. u.0) (marked_text (pieces_at pending x) (text_now s x))) (now s x + 1)) (sym e) (here (subst (λ x. is_reached s pending x ≡ true) e is))
    | inr ne ↦ (let before : record_now (landed_below s pending k).stock c ≡ base (map (λ u. u.0) (marked_text (pieces_at pending c) (text_now s c))) (now s c + 1) = record_landed k c (omega arith) (omega arith) is in
        elim (cases_Bool (is_reached s pending k)) [
          | inl t ↦ ap (λ (r : Rising). record_now r.stock c) (landed_next s pending k t) ∙ ap (λ rs. unwrap_or (slice_get rs (length rs - 1)) (base [] 0)) ((landed_acts pending none_given).records (landed_below s pending k) k c ne) ∙ before
          | inr f ↦ ap (λ (r : Rising). record_now r.stock c) (landed_not s pending k f) ∙ before
        ])
  ])
    where
      here : is_reached s pending k ≡ true → record_now (landed_below s pending (k + 1)).stock k ≡ base (map (λ u. u.0) (marked_text (pieces_at pending k) (text_now s k))) (now s k + 1)
      here t =
          let all : (done : List ℕ) × AreLanded k done = all_landed k (omega arith) in
          ap (λ (r : Rising). record_now r.stock k) (landed_next s pending k t)
          ∙ record_then k (omega arith) all.0 all.1
          ∙ ap (λ xs. base (map (λ u. u.0) (marked_text (pieces_at pending k) xs)) (now (landed_below s pending k).stock k + 1)) (text_then k (omega arith) all.0 all.1)
          ∙ ap (λ v. base (map (λ u. u.0) (marked_text (pieces_at pending k) (text_now s k))) (v + 1)) (now_still s pending k k (inr (omega arith)))

  pub text_landed : (k c : ℕ) → c < k → k ≤ count s → is_reached s pending c ≡ true → text_now (landed_below s pending k).stock c ≡ map (λ u. u.0) (marked_text (pieces_at pending c) (text_now s c))
  text_landed k c below l is = base_text (landed_below s pending k).stock c (map (λ u. u.0) (marked_text (pieces_at pending c) (text_now s c))) (now s c + 1) (record_landed k c below l is)

  -- ---- the way up begins

  -- a base has no source that steps
  pub quiet : (k : ℕ) (done : List ℕ) → AreLanded k done → (c : ℕ) → is_among c done ≡ true → is_moved (landed_below s pending k) c ≡ false
  quiet k done landed c i =
      ap (λ vs. list_any (λ source. is_some (step_in (landed_below s pending k).moves source)) vs)
      (landed.rises.names c refl ∙ ap (map (λ (v : ℕ × ℕ). v.0)) (plain_sources (record_now s c) (landed.below c i).1))

  most_stays : (xs : List ℕ) (r : Rising) → (fold (landed_at pending none_given) r xs).stock.most_buffers ≡ r.stock.most_buffers
  unfolding with_version
  most_stays [] r = refl
  most_stays (x ∷ xs) r = most_stays xs (landed_at pending none_given r x)

  pub landed_start : (k : ℕ) → k ≤ count s → IsStart s graph (landed_below s pending k)
  landed_start k l =
      let all : (done : List ℕ) × AreLanded k done = all_landed k l in
      record {
        levelled = levelled;
        len = as_long;
        same_count = all.1.rises.same_count;
        same_most = most_stays (reached_below s pending k) (record { stock = s; moves = [] });
        names = λ i c. (all.1.rises.names c refl ∙ ap (λ (f : ℕ → List ℕ). f c) (sym same)) i;
      }

  pub landed_members : (k : ℕ) → k ≤ count s → (c : ℕ) → c < count s → member_count (landed_below s pending k).stock c ≡ member_count s c
  landed_members k l c there = elim (cases_Bool (is_reached s pending c)) [
    | inr not ↦ still (inl not)
    | inl is ↦ elim (cases_lt c k) [
      | inl below ↦ ap (λ r. length (members_of r)) (record_landed k c below l is) ∙ ap length (sym (plain_members (record_now s c) (reached_plain s pending c is)))
      | inr far ↦ still (inr far)
    ]
  ]
    where
      still : (is_reached s pending c ≡ false) ⊎ (k ≤ c) → member_count (landed_below s pending k).stock c ≡ member_count s c
      still out = ap (λ r. length (members_of r)) (record_still s pending k c out)

  -- ---- a base whose new text is too long, where no reached one of a lower number has such a text, nor any buffer now

  module _ (few : over Which.Buffers s.most_buffers (count s) ≡ None) (short : (c : ℕ) → c < count s → length (text_now s c) ≤ 2 ^ 22) (b : ℕ) (there : b < count s) (is : is_reached s pending b ≡ true)
      (long : 2 ^ 22 < length (marked_text (pieces_at pending b) (text_now s b))) (earlier : (c : ℕ) → c < b → is_reached s pending c ≡ true → length (marked_text (pieces_at pending c) (text_now s c)) ≤ 2 ^ 22) where
    abbrev first : Rising
    first = landed_below s pending (count s)

    all : (done : List ℕ) × AreLanded (count s) done
    all = all_landed (count s) (omega arith)

    bottom : height_in graph b ≡ 0
    bottom = no_height (sources_in graph) (length graph) (length graph) b (ap (λ (f : ℕ → List ℕ). f b) same ∙ ap (map (λ (v : ℕ × ℕ). v.0)) (plain_sources (record_now s b) (reached_plain s pending b is)))

    landed_length : (c : ℕ) → c < count s → is_reached s pending c ≡ true → length (text_now first.stock c) ≡ length (marked_text (pieces_at pending c) (text_now s c))
    landed_length c in_ t = ap length (text_landed (count s) c in_ (omega arith) t) ∙ length-map (marked_text (pieces_at pending c) (text_now s c)) (λ u. u.0)

    split : (ys : List ℕ) × (zs : List ℕ) × (order_in graph ≡ ys ++ b ∷ zs)
    split = among_split b (order_in graph) (order_all (sources_in graph) (length graph) b (omega (arith, as_long)) (within_rounds (sources_in graph) (length graph) (length graph) b))

    comes : Comes (height_in graph) (length graph) 0 (length graph + 1) split.0 b
    comes = order_comes (sources_in graph) (length graph) split.0 b split.1 split.2

    -- what comes before it stands no higher, so it has a lower number
    before_it : (c : ℕ) → is_among c split.0 ≡ true → c < b
    before_it c i =
        let l : height_in graph c ≤ height_in graph b = among_each (λ y. height_in graph y ≤ height_in graph b) split.0 c comes.no_higher i in
        among_each (λ y. height_in graph y ≡ height_in graph b → y < b) split.0 c comes.earlier i (omega (arith, l, bottom))

    short_then : (c : ℕ) → c < count s → is_among c split.0 ≡ true → length (text_now first.stock c) ≤ 2 ^ 22
    short_then c in_ i = elim (cases_Bool (is_reached s pending c)) [
      | inl t ↦ subst (λ n. n ≤ 2 ^ 22) (sym (landed_length c in_ t)) (earlier c (before_it c i) t)
      | inr f ↦ subst (λ n. n ≤ 2 ^ 22) (sym (ap length (text_still (count s) c (omega arith) in_ (inl f)))) (short c in_)
    ]

    pub long_refused : first_some (stock_limits (landed s pending none_given none_given).stock) ≡ Some (Refusal.Limit Which.Units (length (marked_text (pieces_at pending b) (text_now s b))))
    long_refused =
        ap (λ (r : Rising). first_some (stock_limits r.stock)) (landed_all s pending)
        ∙ first_too_long s graph first (landed_start (count s) (omega arith)) all.1.rises.founded (λ c in_. some_records s (height_in graph) settled [] all.0 first all.1.rises c in_) b (λ c lower. absurd (omega (arith, lower, bottom)))
        split.0 split.1 split.2 few short_then (subst (λ n. 2 ^ 22 < n) (sym (landed_length b there is)) long)
        ∙ ap (λ n. Some (Refusal.Limit Which.Units n)) (landed_length b there is)
