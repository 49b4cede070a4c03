-- A stock with one buffer more.
use Rattle.std.proofs.Common.{◌≡◌, ◌≢◌, ℕ, zero, suc, ◌+◌, ◌<◌, List, [], ◌∷◌, ◌++◌, length, map, Option, Some, None, refl, sym, ◌∙◌, ap, subst, inl, inr, arith, length-append}
use Rattle.std.specs.Prelude.{slice_get, unwrap_or}
use Rattle.std.specs.List.{AllByRecursion as Each, range_with_len}
use Rattle.std.proofs.lemmas.Bool.{cases_eq, cases_lt}
use Rattle.std.proofs.lemmas.Option.{slice_get_within}
use Rattle.std.proofs.lemmas.List.{length-map}
use Rattle.ed_base.specs.Numbers.{first_some, places}
use Rattle.ed_layers.specs.Cells.{cells_within, text, vector}
use Rattle.ed_layers.specs.Records.{Record, base, sources_of}
use Rattle.ed_stock.specs.Limits.{inserted, versions, placements, stock_limits}
use Rattle.ed_stock.specs.Making.{with_new}
use Rattle.ed_stock.specs.Stock.{Stock, Buffer, buffer, now, record_at, record_now, sources_now, text_now, text_at, count}
use Rattle.ed_climb.specs.declared.counts.Counts.{Counts}
use Rattle.ed_risen.specs.Founded.{Founded}
use Rattle.ed_risen.specs.Growing.{Grows, AreFounded}
use Rattle.ed_climb.specs.Kept.{IsKept}
use Rattle.ed_risen.specs.Laws.{HasOneVersionEach, OneVector}
use Rattle.ed_risen.specs.Rising.{Inside, IsNow, IsSettled}
use Rattle.ed_held.specs.Seen.{Known, stock_of}
use Rattle.ed_risen.proofs.Counting.{new_buffer}
use Rattle.ed_risen.proofs.Settled.{current_one, record_there}
use Rattle.ed_risen.proofs.FoundedLemmas.{each_weaker, founded_record, same_vector}
use Rattle.ed_risen.proofs.Growth.{missing, push_here, push_old, grown_extends, grown_founded, grown_length, grown_now_other, grown_other, grown_record_now, grown_record_other, grown_text_now}
use Rattle.ed_risen.proofs.Lists.{each_both, get_past, places_push}
use Rattle.ed_risen.proofs.RisingLemmas.{Same, inside_same}
use Rattle.ed_risen.proofs.Texts.{same_text}

-- ---- lists

pub map_push : {X Y : Type 0} (f : X → Y) (xs : List X) (x : X) → map f (xs ++ x ∷ []) ≡ map f xs ++ f x ∷ []
map_push f [] x = refl
map_push f (y ∷ ys) x = ap (λ rest. f y ∷ rest) (map_push f ys x)

map_range : {Y : Type 0} (f g : ℕ → Y) (a n : ℕ) → ((b : ℕ) → b < a + n → f b ≡ g b) → map f (range_with_len a n) ≡ map g (range_with_len a n)
map_range f g a zero same = refl
map_range f g a (suc n) same = rw (same a (omega arith), map_range f g (a + 1) n (λ b h. same b (omega arith))) refl

-- ---- a version of a buffer that stays

-- nothing is there, and there is no text
no_text : (at : ℕ → ℕ → Option Record) (b v : ℕ) → at b v ≡ None → text at b v ≡ []
unfolding cells_within
no_text at b v none = rw none refl

-- ---- the new buffer

module _ (ks : List Known) (k : Known) (r : Record) (resolver : Option (List ℕ)) (buffer_is : k.buffer ≡ new_buffer r resolver) where
  abbrev s : Stock
  s = stock_of ks

  abbrev t : Stock
  t = stock_of (ks ++ k ∷ [])

  abbrev n : ℕ
  n = length ks

  buffers_is : t.buffers ≡ s.buffers ++ k.buffer ∷ []
  buffers_is = map_push (λ (x : Known). x.buffer) ks k

  count_is : count s ≡ n
  count_is = length-map ks (λ (x : Known). x.buffer)

  pub new_stock : t ≡ with_new s r resolver
  new_stock = ap (λ (xs : List Buffer). record { buffers = xs; most_buffers = s.most_buffers; most_versions = s.most_versions }) (buffers_is ∙ ap (λ x. s.buffers ++ x ∷ []) buffer_is)

  pub count_more : count t ≡ n + 1
  count_more = length-map (ks ++ k ∷ []) (λ (x : Known). x.buffer) ∙ (let l : length (ks ++ k ∷ []) ≡ n + 1 = omega (arith, length-append ks (k ∷ [])) in l)

  pub new_grows : Grows s t n r
  new_grows = record {
    here = ap (λ o. (unwrap_or o missing).records) (ap (λ xs. slice_get xs n) buffers_is ∙ subst (λ m. slice_get (s.buffers ++ k.buffer ∷ []) m ≡ Some k.buffer) count_is (push_here s.buffers k.buffer))
        ∙ ap (λ (x : Buffer). x.records) buffer_is
        ∙ sym (ap (λ o. (unwrap_or o missing).records ++ r ∷ []) (get_past s.buffers n (let e : count s ≡ n = count_is in omega arith)));
    others = λ a ne. elim (cases_lt a n) [
      | inl below ↦ ap (λ o. (unwrap_or o missing).records) (ap (λ xs. slice_get xs a) buffers_is ∙ push_old s.buffers k.buffer a (let e : count s ≡ n = count_is in omega arith))
      | inr past ↦ ap (λ o. (unwrap_or o missing).records) (get_past t.buffers a (let e : count t ≡ n + 1 = count_more in omega arith) ∙ sym (get_past s.buffers a (let e : count s ≡ n = count_is in omega arith)))
    ];
  }

  module _ (settled : IsSettled s) where
    text_stays : (a v : ℕ) → a ≢ n → text_at t a v ≡ text_at s a v
    text_stays a v ne = by (record_at s a v) refl
      where
        by : (o : Option Record) → record_at s a v ≡ o → text_at t a v ≡ text_at s a v
        by None is = no_text (record_at t) a v (grown_other s t n r new_grows a v ne ∙ is) ∙ sym (no_text (record_at s) a v is)
        by (Some x) is = same_text (record_at s) (record_at t) (grown_extends s t n r new_grows) a v (settled.founded a v (slice_get_within (buffer s a).records v x is))

    -- what a current record names is there
    pub named_there : (b : ℕ) → b < n → Each (λ v. v.0 < n) (sources_of (record_now s b))
    named_there b h =
        let some : 0 < length (buffer s b).records = settled.some b (let e : count s ≡ n = count_is in omega arith) in
        let f : (x : Record) × (record_at s b (now s b) ≡ Some x) × Each (Founded (record_at s) 8) (sources_of x) = founded_record (record_at s) 8 (b, now s b) (settled.founded b (now s b) (omega arith)) in
        let same : record_now s b ≡ f.0 = ap (λ o. unwrap_or o (base [] 0)) f.1 in
        subst (λ x. Each (λ v. v.0 < n) (sources_of x)) (sym same) (each_weaker (Founded (record_at s) 8) (λ v. v.0 < n) founded_there (sources_of f.0) f.2)
      where
        founded_there : (v : ℕ × ℕ) → Founded (record_at s) 8 v → v.0 < n
        founded_there v h =
            let x : (x : Record) × (record_at s v.0 v.1 ≡ Some x) × Each (Founded (record_at s) 7) (sources_of x) = founded_record (record_at s) 7 v h in
            let l : v.0 < count s = record_there s v.0 v.1 x.0 x.1 in
            let e : count s ≡ n = count_is in omega arith

    now_stays : (vs : List (ℕ × ℕ)) → Each (λ v. v.0 < n) vs → Each (IsNow s) vs → Each (IsNow t) vs
    now_stays vs there current = each_both (λ v. v.0 < n) (IsNow s) (IsNow t) (λ v l is. is ∙ sym (grown_now_other s t n r new_grows v.0 (let h : v.0 < n = l in λ e. absurd (omega (arith, e))))) vs there current

    pub text_now_stays : (a : ℕ) → a < n → text_now t a ≡ text_now s a
    text_now_stays a h = grown_text_now s t n r new_grows settled.founded a (λ e. absurd (omega (arith, e))) (settled.some a (let e : count s ≡ n = count_is in omega arith))

    same_there : (v : ℕ × ℕ) → v.0 < n → Same s t v
    same_there v l = record {
      at = grown_now_other s t n r new_grows v.0 (let h : v.0 < n = l in λ e. absurd (omega (arith, e)));
      text = text_now_stays v.0 l;
    }

    inside_stays : (x : Record) → Each (λ v. v.0 < n) (sources_of x) → Inside s x → Inside t x
    inside_stays x there h = inside_same s t x (each_weaker (λ v. v.0 < n) (Same s t) same_there (sources_of x) there) h

    module _ (named : Each (Founded (record_at s) 8) (sources_of r)) (there : Each (λ v. v.0 < n) (sources_of r)) (current : Each (IsNow s) (sources_of r)) (inside : Inside s r) where
      new_founded : AreFounded t
      new_founded = grown_founded s t n r new_grows settled.founded named

      new_some : (b : ℕ) → b < count t → 0 < length (buffer t b).records
      new_some b h = elim (cases_eq b n) [
        | inl e ↦ subst (λ c. 0 < length (buffer t c).records) (sym e) (let l : length (buffer t n).records ≡ suc (length (buffer s n).records) = grown_length s t n r new_grows in omega arith)
        | inr ne ↦ subst (λ xs. 0 < length xs) (sym (new_grows.others b ne)) (settled.some b (let e : count s ≡ n = count_is in let f : count t ≡ n + 1 = count_more in omega arith))
      ]

      new_current : (b : ℕ) → b < count t → Each (IsNow t) (sources_of (record_now t b))
      new_current b h = elim (cases_eq b n) [
        | inl e ↦ subst (λ x. Each (IsNow t) (sources_of x)) (sym (ap (record_now t) e ∙ grown_record_now s t n r new_grows)) (now_stays (sources_of r) there current)
        | inr ne ↦ (let below : b < n = (let f : count t ≡ n + 1 = count_more in omega arith) in
            subst (λ x. Each (IsNow t) (sources_of x)) (sym (grown_record_other s t n r new_grows b ne)) (now_stays (sources_of (record_now s b)) (named_there b below) (settled.current b (let e : count s ≡ n = count_is in omega arith))))
      ]

      new_inside : (b : ℕ) → b < count t → Inside t (record_now t b)
      new_inside b h = elim (cases_eq b n) [
        | inl e ↦ subst (Inside t) (sym (ap (record_now t) e ∙ grown_record_now s t n r new_grows)) (inside_stays r there inside)
        | inr ne ↦ (let below : b < n = (let f : count t ≡ n + 1 = count_more in omega arith) in
            subst (Inside t) (sym (grown_record_other s t n r new_grows b ne)) (inside_stays (record_now s b) (named_there b below) (settled.inside b (let e : count s ≡ n = count_is in omega arith))))
      ]

      pub new_settled : IsSettled t
      new_settled = record { founded = new_founded; some = new_some; current = new_current; inside = new_inside }

      new_one : OneVector s → OneVector t
      new_one one b v below = elim (cases_eq b n) [
        | inl e ↦ (let l : length (buffer t n).records ≡ suc (length (buffer s n).records) = grown_length s t n r new_grows in
            let empty : length (buffer s n).records ≡ 0 = ap (λ o. length (unwrap_or o missing).records) (get_past s.buffers n (let e : count s ≡ n = count_is in omega arith)) in
            let at_n : v < length (buffer t n).records = subst (λ c. v < length (buffer t c).records) e below in
            let last : now t n ≡ v = omega arith in
            subst (λ c. HasOneVersionEach (vector (record_at t) c v)) (sym e) (subst (λ w. HasOneVersionEach (vector (record_at t) n w)) last (current_one t new_current new_some new_founded n (let f : count t ≡ n + 1 = count_more in omega arith))))
        | inr ne ↦ (let old : v < length (buffer s b).records = subst (λ xs. v < length xs) (new_grows.others b ne) below in
            subst HasOneVersionEach (same_vector (record_at s) (record_at t) (grown_extends s t n r new_grows) 9 9 (b, v) (omega arith) (settled.founded b v old)) (one b v old))
      ]

      sources_old : (a : ℕ) → a < n → sources_now s a ≡ sources_now t a
      sources_old a h = ap (λ x. map (λ v. v.0) (sources_of x)) (sym (grown_record_other s t n r new_grows a (λ e. absurd (omega (arith, e)))))

      new_linked : map (sources_now t) (places (length (ks ++ k ∷ []))) ≡ map (sources_now s) (places n) ++ map (λ v. v.0) (sources_of r) ∷ []
      new_linked =
          ap (λ m. map (sources_now t) (places m)) (let l : length (ks ++ k ∷ []) ≡ n + 1 = omega (arith, length-append ks (k ∷ [])) in l)
          ∙ ap (map (sources_now t)) (places_push n)
          ∙ map_push (sources_now t) (places n) n
          ∙ ap (λ xs. xs ++ sources_now t n ∷ []) (sym (map_range (sources_now s) (sources_now t) 0 n (λ b h. sources_old b (omega arith))))
          ∙ ap (λ x. map (sources_now s) (places n) ++ map (λ v. v.0) (sources_of x) ∷ []) (grown_record_now s t n r new_grows)

      module _ (graph graph' : List (List ℕ)) (counts counts' : Counts) (kept : IsKept ks graph counts)
          (number_is : k.number ≡ n) (units : List ℕ) (texts_is : k.texts ≡ units ∷ []) (text_is : text_at t n 0 ≡ units)
          (graph_is : graph' ≡ graph ++ map (λ v. v.0) (sources_of r) ∷ []) where
        new_numbered : (b : ℕ) (x : Known) → slice_get (ks ++ k ∷ []) b ≡ Some x → x.number ≡ b
        new_numbered b x is = elim (cases_lt b n) [
          | inl below ↦ kept.numbered b x (sym (push_old ks k b below) ∙ is)
          | inr past ↦ (let within : b < length (ks ++ k ∷ []) = slice_get_within (ks ++ k ∷ []) b x is in
              let e : n ≡ b = omega (arith, length-append ks (k ∷ [])) in
              let same : k ≡ x = (let f : Some k ≡ Some x = sym (push_here ks k) ∙ ap (slice_get (ks ++ k ∷ [])) e ∙ is in cc) in
              ap (λ (y : Known). y.number) (sym same) ∙ number_is ∙ e)
        ]

        new_texts : (b v : ℕ) (x : Known) (u : List ℕ) → slice_get (ks ++ k ∷ []) b ≡ Some x → slice_get x.texts v ≡ Some u → text_at t b v ≡ u
        new_texts b v x u is has = elim (cases_lt b n) [
          | inl below ↦ text_stays b v (λ e. absurd (omega (arith, e))) ∙ kept.texts b v x u (sym (push_old ks k b below) ∙ is) has
          | inr past ↦ (let within : b < length (ks ++ k ∷ []) = slice_get_within (ks ++ k ∷ []) b x is in
              let e : n ≡ b = omega (arith, length-append ks (k ∷ [])) in
              let same : k ≡ x = (let f : Some k ≡ Some x = sym (push_here ks k) ∙ ap (slice_get (ks ++ k ∷ [])) e ∙ is in cc) in
              subst (λ c. text_at t c v ≡ u) e (only v (ap (λ xs. slice_get xs v) (sym texts_is ∙ ap (λ (y : Known). y.texts) same) ∙ has)))
        ]
          where
            only : (w : ℕ) → slice_get (units ∷ []) w ≡ Some u → text_at t n w ≡ u
            only zero h = text_is ∙ (let e : units ≡ u = cc in e)
            only (suc w) h = absurd (cc)

        pub new_kept : first_some (stock_limits t) ≡ None → counts'.inserted ≡ inserted t → counts'.versions ≡ versions t → counts'.placements ≡ placements t → IsKept (ks ++ k ∷ []) graph' counts'
        new_kept within inserted_is versions_is placements_is = record {
          numbered = new_numbered;
          texts = new_texts;
          linked = graph_is ∙ ap (λ g. g ++ map (λ v. v.0) (sources_of r) ∷ []) kept.linked ∙ sym new_linked;
          settled = new_settled;
          one = new_one kept.one;
          within = within;
          inserted = inserted_is;
          versions = versions_is;
          placements = placements_is;
        }
