-- A stock of which the members of one buffer were set once more.
use Rattle.std.proofs.Common.{◌≡◌, ℕ, ◌-◌, ◌<◌, ◌≤◌, ◌^◌, List, [], ◌∷◌, length, map, Some, refl, sym, ap, ◌∙◌, subst, inl, inr, length-set}
use Rattle.std.specs.Prelude.{slice_get, unwrap_or}
use Rattle.std.specs.List.{AllByRecursion as Each}
use Rattle.std.proofs.lemmas.Bool.{cases_eq}
use Rattle.ed_base.specs.declared.Member.{Member}
use Rattle.ed_base.specs.declared.Which.{Which}
use Rattle.ed_base.specs.Numbers.{first_some}
use Rattle.ed_base.specs.Spans.{end_of}
use Rattle.ed_layers.specs.Cells.{text, vector}
use Rattle.ed_layers.specs.Graph as order
use Rattle.ed_layers.specs.Order.{mode_fault}
use Rattle.ed_layers.specs.Records.{Record, base, elision, members_of, projection, sources_of}
use Rattle.ed_stock.specs.Limits.{inserted, over, placements, some_over, stock_limits, versions}
use Rattle.ed_stock.specs.Stock.{Stock, buffer, count, graph_order, now, record_at, record_now, sources_now, text_now}
use Rattle.ed_risen.specs.Founded.{Founded}
use Rattle.ed_risen.specs.Counting.{turned_in}
use Rattle.ed_risen.specs.Laws.{HasOneVersionEach, OneVector}
use Rattle.ed_risen.specs.Rising.{EndsIn, StandInside, Inside, IsNow, IsSettled}
use Rattle.ed_risen.proofs.Counting.{inserted_turned, placements_turned, versions_turned}
use Rattle.ed_risen.proofs.FoundedLemmas.{each_weaker}
use Rattle.ed_risen.proofs.Growth.{missing, set_here, set_other}

-- a turn more of a buffer leaves all records
pub turned_records : (t : Stock) (b : ℕ) → b < count t → (c : ℕ) → (buffer (turned_in t (Some b)) c).records ≡ (buffer t c).records
turned_records t b there c = elim (cases_eq c b) [
  | inl e ↦ subst (λ d. (buffer (turned_in t (Some b)) d).records ≡ (buffer t d).records) (sym e) (ap (λ o. (unwrap_or o missing).records) (set_here t.buffers b _ there))
  | inr ne ↦ ap (λ o. (unwrap_or o missing).records) (set_other t.buffers b c _ ne)
]

module _ (t : Stock) (b : ℕ) (there : b < count t) where
  abbrev v : Stock
  v = turned_in t (Some b)

  pub recs : (c : ℕ) → (buffer v c).records ≡ (buffer t c).records
  recs c = turned_records t b there c

  pub same_records : record_at v ≡ record_at t
  same_records = λ i c w. slice_get (recs c i) w

  pub same_now : now v ≡ now t
  same_now = λ i c. length (recs c i) - 1

  pub same_text : text_now v ≡ text_now t
  same_text = λ i c. text (same_records i) c (same_now i c)

  pub same_current : record_now v ≡ record_now t
  same_current = λ i c. unwrap_or (same_records i c (same_now i c)) (base [] 0)

  pub same_names : sources_now v ≡ sources_now t
  same_names = λ i c. map (λ w. w.0) (sources_of (same_current i c))

  pub same_count : count v ≡ count t
  same_count = length-set t.buffers b _

  pub same_order : graph_order v ≡ graph_order t
  same_order = ap (λ f. order.graph_order f (count v)) same_names ∙ ap (order.graph_order (sources_now t)) same_count

  ends_then : (vs : List (ℕ × ℕ)) (m : Member) → EndsIn t vs m → EndsIn v vs m
  ends_then vs (Member.Literal units) e = tt
  ends_then vs (Member.Tracked source bounds mode) e = (e.0 ∙ ap Some (sym (ap (λ (f : ℕ → ℕ). f source) same_now)), subst (λ (f : ℕ → List ℕ). end_of bounds ≤ length (f source)) (sym same_text) e.1)

  stand_then : (vs : List (ℕ × ℕ)) (ms : List Member) → StandInside t vs ms → StandInside v vs ms
  stand_then vs ms h = record {
    ends = each_weaker (EndsIn t vs) (EndsIn v vs) (ends_then vs) ms h.ends;
    apart = h.apart;
    cover = ap (λ (f : ℕ → List ℕ). mode_fault (λ c. length (f c)) ms) same_text ∙ h.cover;
  }

  inside_then : (x : Record) → Inside t x → Inside v x
  inside_then (base units reiterated) h = tt
  inside_then (projection ms vs) h = stand_then vs ms h
  inside_then (elision flags source version) h = (h.0 ∙ ap (λ (f : ℕ → ℕ). f source) (sym same_now), h.1 ∙ ap (λ (f : ℕ → List ℕ). length (f source)) (sym same_text))

  pub turned_settled : IsSettled t → IsSettled v
  turned_settled h = record {
    founded = λ c w l. subst (λ f. Founded f 9 (c, w)) (sym same_records) (h.founded c w (subst (λ xs. w < length xs) (recs c) l));
    some = λ c l. subst (λ xs. 0 < length xs) (sym (recs c)) (h.some c (subst (λ k. c < k) same_count l));
    current = λ c l. subst (λ x. Each (IsNow v) (sources_of x)) (sym (ap (λ (f : ℕ → Record). f c) same_current)) (subst (λ (f : ℕ → ℕ). Each (λ w. w.1 ≡ f w.0) (sources_of (record_now t c))) (sym same_now) (h.current c (subst (λ k. c < k) same_count l)));
    inside = λ c l. subst (Inside v) (sym (ap (λ (f : ℕ → Record). f c) same_current)) (inside_then (record_now t c) (h.inside c (subst (λ k. c < k) same_count l)));
  }

  pub turned_one : OneVector t → OneVector v
  turned_one one c w l = subst (λ f. HasOneVersionEach (vector f c w)) (sym same_records) (one c w (subst (λ xs. w < length xs) (recs c) l))

  pub turned_limits : first_some (stock_limits v) ≡ first_some (stock_limits t)
  turned_limits =
      whole (count v) (count t) (map (λ c. length (text_now v c)) (graph_order v)) (map (λ c. length (text_now t c)) (graph_order t)) (inserted v) (inserted t) (versions v) (versions t)
      (map (λ c. length (members_of (record_now v c))) (graph_order v)) (map (λ c. length (members_of (record_now t c))) (graph_order t)) (placements v) (placements t)
      same_count (ap (λ (f : ℕ → List ℕ). map (λ c. length (f c)) (graph_order v)) same_text ∙ ap (map (λ c. length (text_now t c))) same_order)
      (inserted_turned t (Some b) there) (versions_turned t (Some b) there)
      (ap (λ (f : ℕ → Record). map (λ c. length (members_of (f c))) (graph_order v)) same_current ∙ ap (map (λ c. length (members_of (record_now t c)))) same_order) (placements_turned t (Some b) there)
    where
      whole : (n n' : ℕ) (us us' : List ℕ) (i i' w w' : ℕ) (ms ms' : List ℕ) (p p' : ℕ) → n ≡ n' → us ≡ us' → i ≡ i' → w ≡ w' → ms ≡ ms' → p ≡ p' →
          first_some (over Which.Buffers t.most_buffers n ∷ some_over Which.Units (2 ^ 22) us ∷ over Which.Inserted (2 ^ 27) i ∷ over Which.Versions t.most_versions w ∷ some_over Which.Members 1024 ms ∷ over Which.Placements (2 ^ 26) p ∷ [])
          ≡ first_some (over Which.Buffers t.most_buffers n' ∷ some_over Which.Units (2 ^ 22) us' ∷ over Which.Inserted (2 ^ 27) i' ∷ over Which.Versions t.most_versions w' ∷ some_over Which.Members 1024 ms' ∷ over Which.Placements (2 ^ 26) p' ∷ [])
      whole n n' us us' i i' w w' ms ms' p p' e1 e2 e3 e4 e5 e6 = rw (e1, e2, e3, e4, e5, e6) refl
