-- A settled stock whose graph has levels is ready for an edit.
use Rattle.std.proofs.Common.{◌≡◌, ℕ, ◌-◌, ◌<◌, ◌≤◌, Bool, true, false, not, ◌&&◌, List, [], ◌∷◌, length, map, Some, None, inl, inr, refl, sym, ap, ◌∙◌, arith, subst}
use Rattle.std.specs.Prelude.{All, nat_eq, slice_get, unwrap_or}
use Rattle.std.proofs.lemmas.Bool.{cases_eq, cases_lt, eqb-true}
use Rattle.std.proofs.lemmas.List.Elements.{All-get_or, recursion_from_All}
use Rattle.ed_base.specs.declared.edit.Span.{Span}
use Rattle.ed_base.specs.declared.mode.SpanMode.{SpanMode}
use Rattle.ed_base.specs.declared.piece.Member.{Member}
use Rattle.ed_graph.specs.Standing.{IsLevelled, height_in, sources_in}
use Rattle.ed_layers.specs.Cells.{cells_within}
use Rattle.ed_layers.specs.Graph.{height}
use Rattle.ed_layers.specs.Order.{fails_to_cover, is_inclusive}
use Rattle.ed_layers.specs.Records.{Record, base, elision, is_carrier, members_of, sources_of, version_in}
use Rattle.ed_risen.proofs.Covering.{each_covers}
use Rattle.ed_risen.proofs.FoundedLemmas.{each_version, founded_record, same_cells}
use Rattle.ed_risen.proofs.ShownRuns.{stands}
use Rattle.ed_risen.proofs.Lists.{get_past}
use Rattle.ed_risen.specs.Founded.{Founded}
use Rattle.ed_risen.specs.Rising.{EndsIn, Inside, IsSettled, StandInside}
use Rattle.ed_sending.proofs.Groups.ReadyStocks.{deep_of}
use Rattle.ed_sending.proofs.Groups.GivenCarrier.{in_order_of}
use Rattle.ed_sending.proofs.Groups.RecordTexts.{unit_in}
use Rattle.ed_sending.proofs.Groups.Turns.{records_in}
use Rattle.ed_sending.proofs.Lists.SortedParts.{Each, each_got}
use Rattle.ed_stock.specs.Stock.{Stock, buffer, count, now, record_at, record_now, sources_now, text_now}
use Rattle.ed_sending.specs.Ready.{AreFitting, IsReady, NamesLower, height_now}

-- ---- lists

each_two : (P Q : ℕ → Type 0) (xs : List ℕ) → Each P xs → Each Q xs → Each (λ x. P x × Q x) xs
each_two P Q [] a b = tt
each_two P Q (x ∷ xs) a b = ((a.0, b.0), each_two P Q xs a.1 b.1)

of_names : (P : ℕ → Type 0) (vs : List (ℕ × ℕ)) → Each P (map (λ v. v.0) vs) → Each (λ v. P v.0) vs
of_names P [] a = tt
of_names P (v ∷ vs) a = (a.0, of_names P vs a.1)

-- ---- members that stand together

covering : (f : ℕ → ℕ) (b : ℕ) (x : Span) (mode : SpanMode) → fails_to_cover f (Member.Tracked b x mode) ≡ false → is_inclusive mode ≡ true → (x.start ≡ 0) × (x.len ≡ f b)
covering f b x mode covers inclusive =
    let both : (nat_eq x.start 0 ≡ true) × (nat_eq x.len (f b) ≡ true) = parts (is_inclusive mode) (nat_eq x.start 0) (nat_eq x.len (f b)) inclusive covers in
    (eqb-true x.start 0 both.0, eqb-true x.len (f b) both.1)
  where
    parts : (i a c : Bool) → i ≡ true → (i && not (a && c)) ≡ false → (a ≡ true) × (c ≡ true)
    parts true true true e h = (refl, refl)
    parts true true false e h = absurd (let z : true ≡ false = h in cc)
    parts true false c e h = absurd (let z : true ≡ false = h in cc)
    parts false a c e h = absurd (let z : false ≡ true = e in cc)

pub fitting_of : (s : Stock) (from : List (ℕ × ℕ)) (members : List Member) → StandInside s from members → AreFitting members (text_now s)
fitting_of s from members stand = record {
  apart = λ b i j x y mode mode' other at bt. (in_order_of members stand.apart i j b x y mode mode' other at bt).0;
  inside = λ k b x mode at. (each_got (EndsIn s from) members k (Member.Tracked b x mode) stand.ends at).1;
  covers = λ k b x mode at inclusive. covering (λ d. length (text_now s d)) b x mode (each_got (λ m. fails_to_cover (λ d. length (text_now s d)) m ≡ false) members k (Member.Tracked b x mode) (each_covers (λ d. length (text_now s d)) members stand.cover) at) inclusive;
  alone = λ k j b x y mode mode' at inclusive bt. elim (cases_eq j k) [
    | inl same ↦ same
    | inr other ↦ absurd (let e : is_inclusive mode ≡ false = (in_order_of members stand.apart k j b x y mode mode' (λ f. other (sym f)) at bt).1 in let z : true ≡ false = sym inclusive ∙ e in cc)
  ];
}

-- ---- the stock

past_record : (s : Stock) (c : ℕ) → count s ≤ c → record_now s c ≡ base [] 0
past_record s c past = ap (λ o. unwrap_or (slice_get (records_in o) (length (records_in o) - 1)) (base [] 0)) (get_past s.buffers c past)

module _ (s : Stock) (graph : List (List ℕ)) (settled : IsSettled s) (levelled : IsLevelled graph) (as_long : length graph ≡ count s) (same : sources_in graph ≡ sources_now s) where
  same_height : (b : ℕ) → height_in graph b ≡ height_now s b
  same_height b = ap (λ (f : ℕ → List ℕ). height f (length graph) b) same ∙ ap (λ n. height (sources_now s) n b) as_long

  abbrev StandsLower : ℕ → ℕ → Type 0
  StandsLower c b = (b < count s) × (height_now s b < height_now s c)

  low_in : (c : ℕ) → c < length graph → Each (λ b. (b < length graph) × (height_in graph b < height_in graph c)) (sources_in graph c)
  low_in c there = each_two (λ b. b < length graph) (λ b. height_in graph b < height_in graph c) (sources_in graph c)
      (recursion_from_All (λ b. b < length graph) (sources_in graph c) (All-get_or (All (λ b. b < length graph)) graph c [] there levelled.within))
      (recursion_from_All (λ b. height_in graph b < height_in graph c) (sources_in graph c) (levelled.lower c))

  low_now : (c : ℕ) → c < count s → Each (StandsLower c) (sources_now s c)
  low_now c there =
      subst (λ (f : ℕ → ℕ). Each (λ b. (b < count s) × (f b < f c)) (sources_now s c)) (λ i b. same_height b i)
      (subst (λ n. Each (λ b. (b < n) × (height_in graph b < height_in graph c)) (sources_now s c)) as_long
      (subst (λ (f : ℕ → List ℕ). Each (λ b. (b < length graph) × (height_in graph b < height_in graph c)) (f c)) same (low_in c (subst (λ n. c < n) (sym as_long) there))))

  low_names : (c : ℕ) → c < count s → Each (λ v. StandsLower c v.0) (sources_of (record_now s c))
  low_names c there = of_names (StandsLower c) (sources_of (record_now s c)) (low_now c there)

  -- the sources that are named stand lower
  pub names_lower_of : NamesLower s
  names_lower_of c there = low_names c there

  module _ (c : ℕ) where
    -- the members of each record stand inside their sources
    stand_now : StandInside s (sources_of (record_now s c)) (members_of (record_now s c))
    stand_now = elim (cases_lt c (count s)) [
      | inl below ↦ stands s (record_now s c) (settled.inside c below)
      | inr past ↦ subst (λ (r : Record). StandInside s (sources_of r) (members_of r)) (sym (past_record s c past)) (stands s (base [] 0) tt)
    ]

    module _ (k b : ℕ) (x : Span) (mode : SpanMode) (at : slice_get (members_of (record_now s c)) k ≡ Some (Member.Tracked b x mode)) where
      there_of : c < count s
      there_of = elim (cases_lt c (count s)) [
        | inl below ↦ below
        | inr past ↦ absurd (let e : None ≡ Some (Member.Tracked b x mode) = sym (ap (λ (r : Record). slice_get (members_of r) k) (past_record s c past)) ∙ at in cc)
      ]

      named_now : version_in (sources_of (record_now s c)) b ≡ Some (now s b)
      named_now = (each_got (EndsIn s (sources_of (record_now s c))) (members_of (record_now s c)) k (Member.Tracked b x mode) stand_now.ends at).0

      lower_of : StandsLower c b
      lower_of = each_version (λ v. StandsLower c v.0) (sources_of (record_now s c)) b (now s b) (low_names c there_of) named_now

      founded_of : Founded (record_at s) 8 (b, now s b)
      founded_of =
          let some : 0 < length (buffer s c).records = settled.some c there_of in
          let r : (r : Record) × (record_at s c (now s c) ≡ Some r) × Each (Founded (record_at s) 8) (sources_of r) = founded_record (record_at s) 8 (c, now s c) (settled.founded c (now s c) (omega arith)) in
          let e : r.0 ≡ record_now s c = sym (ap (λ o. unwrap_or o (base [] 0)) r.1) in
          each_version (Founded (record_at s) 8) (sources_of (record_now s c)) b (now s b) (subst (λ (q : Record). Each (Founded (record_at s) 8) (sources_of q)) e r.2) named_now

      cells_of : map unit_in (cells_within (record_at s) 8 b (now s b)) ≡ text_now s b
      cells_of = ap (map unit_in) (same_cells (record_at s) (record_at s) (λ a v r h. h) 8 9 (b, now s b) (omega arith) founded_of)

  -- an elision buffer says of each unit of its source whether it is hidden
  hides_of : (c source version : ℕ) (flags : List Bool) → record_now s c ≡ elision flags source version → (source < count s) × (height_now s source < height_now s c) × (length flags ≡ length (text_now s source))
  hides_of c source version flags is = elim (cases_lt c (count s)) [
    | inl below ↦ (
        let inside : Inside s (elision flags source version) = subst (Inside s) is (settled.inside c below) in
        let low : StandsLower c source = (subst (λ (r : Record). Each (λ v. StandsLower c v.0) (sources_of r)) is (low_names c below)).0 in
        (low.0, low.1, inside.1))
    | inr past ↦ absurd (let e : false ≡ true = sym (ap is_carrier (past_record s c past)) ∙ ap is_carrier is in cc)
  ]

  pub ready_of : IsReady s
  ready_of = record {
    lower = λ c k b x mode at. (lower_of c k b x mode at).1;
    named = λ c k b x mode at. (named_now c k b x mode at, (lower_of c k b x mode at).0);
    fitting = λ c. fitting_of s (sources_of (record_now s c)) (members_of (record_now s c)) (stand_now c);
    deep = λ c carries. deep_of s c (record_now s c) refl carries (λ k b x mode at. (named_now c k b x mode at, cells_of c k b x mode at));
    hides = hides_of;
  }
