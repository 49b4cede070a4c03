-- A stock in which the regions of one buffer have changed is still kept.
use Rattle.std.proofs.Common.{◌≡◌, ℕ, ◌-◌, ◌<◌, ◌^◌, false, inl, inr, List, [], ◌∷◌, length, map, Option, Some, refl, sym, ap, ◌∙◌, subst, arith, length-set}
use Rattle.std.specs.Prelude.{slice_get, slice_set, unwrap_or, Result, Ok, Err, OnOk, OnErr}
use Rattle.std.specs.List.{AllByRecursion as Each}
use Rattle.std.proofs.lemmas.Bool.{cases_eq}
use Rattle.std.proofs.lemmas.Option.{slice_get_within}
use Rattle.ed_base.specs.declared.refusal.Refusal.{Refusal}
use Rattle.ed_base.specs.declared.refusal.Which.{Which}
use Rattle.ed_base.specs.Numbers.{first_some, places}
use Rattle.ed_layers.specs.Cells.{text, vector}
use Rattle.ed_layers.specs.Graph.{graph_order}
use Rattle.ed_layers.specs.Records.{Record, base, is_carrier, members_of, sources_of}
use Rattle.ed_readonly.specs.LiveRegions.{LiveRegions}
use Rattle.ed_stock.specs.Limits.{inserted, over, placements, some_over, stock_limits, versions}
use Rattle.ed_stock.specs.Stock.{Stock, Buffer, buffer, count, record_now, text_at, text_now, with_buffer}
use Rattle.ed_held.specs.Asking.{IsBase, zoned, zoned_buffer}
use Rattle.ed_climb.specs.declared.counts.Counts.{Counts}
use Rattle.ed_held.specs.declared.held.Held.{Held}
use Rattle.ed_risen.specs.Founded.{Founded}
use Rattle.ed_climb.specs.Kept.{IsKept}
use Rattle.ed_risen.specs.Laws.{HasOneVersionEach}
use Rattle.ed_risen.specs.Rising.{Inside, IsSettled}
use Rattle.ed_held.specs.Seen.{Known, known, last_of, stock, stock_of, text_of}
use Rattle.ed_climb.proofs.Advanced.{map_set}
use Rattle.ed_held.proofs.KindLemmas.{base_held, texts_count}
use Rattle.ed_climb.proofs.Asked.{held_is, held_some, held_texts}
use Rattle.ed_climb.proofs.Committed.{set_map}
use Rattle.ed_risen.proofs.Counting.{inserted_changed, inserted_of, placements_changed, placements_of, versions_changed, versions_of}
use Rattle.ed_risen.proofs.Growth.{missing, set_here, set_other}
use Rattle.ed_risen.proofs.RisingLemmas.{Same, inside_same}
use Rattle.ed_risen.proofs.Lists.{get_map}

-- ---- what is so of a stock by its records alone

abbrev Records : Type 0
Records = ℕ → List Record

abbrev records_in : Stock → Records
records_in s b = (buffer s b).records

abbrev at : Records → ℕ → ℕ → Option Record
at rs b v = slice_get (rs b) v

abbrev last : Records → ℕ → ℕ
last rs b = length (rs b) - 1

abbrev newest : Records → ℕ → Record
newest rs b = unwrap_or (at rs b (last rs b)) (base [] 0)

abbrev newest_text : Records → ℕ → List ℕ
newest_text rs b = text (at rs) b (last rs b)

abbrev named : Records → ℕ → List ℕ
named rs b = map (λ v. v.0) (sources_of (newest rs b))

abbrev limits : ℕ → Records → ℕ → ℕ → ℕ → List (Option Refusal)
limits n rs i v p =
    over Which.Buffers 64 n
    ∷ some_over Which.Units (2 ^ 22) (map (λ b. length (newest_text rs b)) (graph_order (named rs) n))
    ∷ over Which.Inserted (2 ^ 27) i
    ∷ over Which.Versions (2 ^ 18) v
    ∷ some_over Which.Members 1024 (map (λ b. length (members_of (newest rs b))) (graph_order (named rs) n))
    ∷ over Which.Placements (2 ^ 26) p
    ∷ []

each_all : {X : Type 0} (P : X → Type 0) → ((x : X) → P x) → (xs : List X) → Each P xs
each_all P all [] = tt
each_all P all (x ∷ xs) = (all x, each_all P all xs)

module _ (ks : List Known) (graph : List (List ℕ)) (counts : Counts) (kept : IsKept ks graph counts) (b : ℕ) (k : Known) (is : slice_get ks b ≡ Some k) (zones : LiveRegions) where
  abbrev ks' : List Known
  ks' = slice_set ks b (zoned zones k)

  abbrev s : Stock
  s = stock_of ks

  abbrev t : Stock
  t = stock_of ks'

  abbrev x : Buffer
  x = zoned_buffer zones k.buffer

  abbrev with_these : List Buffer → Stock
  with_these bs = record { buffers = bs; most_buffers = 64; most_versions = 2 ^ 18 }

  there : slice_get s.buffers b ≡ Some k.buffer
  there = get_map (λ l. l.buffer) ks b k is

  below : b < count s
  below = slice_get_within s.buffers b k.buffer there

  here : buffer s b ≡ k.buffer
  here = ap (λ o. unwrap_or o missing) there

  set_is : t ≡ with_buffer s b x
  set_is = ap with_these (set_map (λ l. l.buffer) ks b (zoned zones k))

  pub zoned_stock : t ≡ with_buffer s b (zoned_buffer zones (buffer s b))
  zoned_stock = set_is ∙ ap (λ y. with_buffer s b (zoned_buffer zones y)) (sym here)

  same_count : count t ≡ count s
  same_count = ap count set_is ∙ length-set s.buffers b x

  same_records : (a : ℕ) → records_in t a ≡ records_in s a
  same_records a = ap (λ u. records_in u a) set_is ∙ elim (cases_eq a b) [
    | inl e ↦ subst (λ c. records_in (with_buffer s b x) c ≡ records_in s c) (sym e) (ap (λ o. (unwrap_or o missing).records) (set_here s.buffers b x below) ∙ sym (ap (λ y. y.records) here))
    | inr ne ↦ ap (λ o. (unwrap_or o missing).records) (set_other s.buffers b a x ne)
  ]

  same : records_in s ≡ records_in t
  same = λ i a. sym (same_records a) i

  there_too : (c : ℕ) → c < count t → c < count s
  there_too c h = subst (λ n. c < n) same_count h

  same_all : (v : ℕ × ℕ) → Same s t v
  same_all v = record { at = sym (ap (λ rs. last rs v.0) same); text = sym (ap (λ rs. newest_text rs v.0) same) }

  zoned_settled : IsSettled t
  zoned_settled = record {
    founded = subst (λ rs. (a v : ℕ) → v < length (rs a) → Founded (at rs) 9 (a, v)) same kept.settled.founded;
    some = λ c h. subst (λ rs. 0 < length (rs c)) same (kept.settled.some c (there_too c h));
    current = λ c h. subst (λ rs. Each (λ v. v.1 ≡ last rs v.0) (sources_of (newest rs c))) same (kept.settled.current c (there_too c h));
    inside = λ c h. subst (Inside t) (ap (λ rs. newest rs c) same) (inside_same s t (record_now s c) (each_all (Same s t) same_all (sources_of (record_now s c))) (kept.settled.inside c (there_too c h)));
  }

  same_inserted : inserted t ≡ inserted s
  same_inserted = ap inserted set_is ∙ inserted_changed s b x below 0 (let e : inserted_of (buffer s b) ≡ inserted_of k.buffer = ap inserted_of here in omega (arith, e)) ∙ omega arith

  same_versions : versions t ≡ versions s
  same_versions = ap versions set_is ∙ versions_changed s b x below 0 (let e : versions_of (buffer s b) ≡ versions_of k.buffer = ap versions_of here in omega (arith, e)) ∙ omega arith

  same_placements : placements t ≡ placements s
  same_placements = ap placements set_is ∙ placements_changed s b x below 0 (let e : placements_of (buffer s b) ≡ placements_of k.buffer = ap placements_of here in omega (arith, e)) ∙ omega arith

  same_limits : stock_limits t ≡ stock_limits s
  same_limits =
      ap (λ n. limits n (records_in t) (inserted t) (versions t) (placements t)) same_count
      ∙ ap (λ rs. limits (count s) rs (inserted t) (versions t) (placements t)) (sym same)
      ∙ ap (λ n. limits (count s) (records_in s) n (versions t) (placements t)) same_inserted
      ∙ ap (λ n. limits (count s) (records_in s) (inserted s) n (placements t)) same_versions
      ∙ ap (limits (count s) (records_in s) (inserted s) (versions s)) same_placements

  -- a buffer that is there now was there, with its number and texts
  was : (c : ℕ) (l : Known) → slice_get ks' c ≡ Some l → (m : Known) × (slice_get ks c ≡ Some m) × (l.number ≡ m.number) × (l.texts ≡ m.texts)
  was c l h = elim (cases_eq c b) [
    | inl e ↦ (let got : Some (zoned zones k) ≡ Some l = sym (set_here ks b (zoned zones k) (slice_get_within ks b k is)) ∙ ap (slice_get ks') (sym e) ∙ h in
        let l_is : zoned zones k ≡ l = cc in
        (k, ap (slice_get ks) e ∙ is, sym (ap (λ y. y.number) l_is), sym (ap (λ y. y.texts) l_is)))
    | inr ne ↦ (l, sym (set_other ks b c (zoned zones k) ne) ∙ h, refl, refl)
  ]

  pub zoned_kept : IsKept ks' graph counts
  zoned_kept = record {
    numbered = λ c l h. (let m = was c l h in m.2 ∙ kept.numbered c m.0 m.1);
    texts = λ c v l u h g. (let m = was c l h in ap (λ rs. text (at rs) c v) (sym same) ∙ kept.texts c v m.0 u m.1 (ap (λ us. slice_get us v) (sym m.3) ∙ g));
    linked = kept.linked ∙ ap (λ rs. map (named rs) (places (length ks))) same ∙ ap (λ n. map (named (records_in t)) (places n)) (sym (length-set ks b (zoned zones k)));
    settled = zoned_settled;
    one = subst (λ rs. (a v : ℕ) → v < length (rs a) → HasOneVersionEach (vector (at rs) a v)) same kept.one;
    within = ap first_some same_limits ∙ kept.within;
    inserted = kept.inserted ∙ sym same_inserted;
    versions = kept.versions ∙ sym same_versions;
    placements = kept.placements ∙ sym same_placements;
  }

-- ---- a buffer that is held and changed

pub either : {X E : Type 0} {A B C : Type 0} (r : Result X E) → OnOk r A → OnErr r B → (A → C) → (B → C) → C
either (Ok x) a b f g = f a
either (Err e) a b f g = g b

pub if_made : {X E : Type 0} {A B : Type 0} (r : Result X E) → (A → B) → OnOk r A → OnOk r B
if_made (Ok x) f a = f a
if_made (Err e) f a = tt

pub if_refused : {X E : Type 0} {A B : Type 0} (r : Result X E) → (A → B) → OnErr r A → OnErr r B
if_refused (Ok x) f a = tt
if_refused (Err e) f a = f a

module _ (bs hs : List Held) (i b : ℕ) (h h' : Held) (same_list : bs ≡ hs) (index : i ≡ b) (is : slice_get hs b ≡ Some h) (graph : List (List ℕ)) (counts : Counts) (kept : IsKept (map known bs) graph counts) where
  set_here_too : map known (slice_set bs i h') ≡ map known (slice_set hs b h')
  set_here_too = ap (λ xs. map known (slice_set xs i h')) same_list ∙ ap (λ j. map known (slice_set hs j h')) index

  kept_too : IsKept (map known hs) graph counts
  kept_too = subst (λ xs. IsKept (map known xs) graph counts) same_list kept

  pub set_is_held : (known h).buffer ≡ buffer (stock hs) b
  set_is_held = held_is hs graph counts kept_too b h is

  module _ (zones : Buffer → LiveRegions) (changed : known h' ≡ zoned (zones (known h).buffer) (known h)) where
    set_all : map known (slice_set bs i h') ≡ slice_set (map known hs) b (zoned (zones (known h).buffer) (known h))
    set_all = set_here_too ∙ set_map known hs b h' ∙ ap (slice_set (map known hs) b) changed

    pub set_kept : IsKept (map known (slice_set bs i h')) graph counts
    set_kept = subst (λ ks. IsKept ks graph counts) (sym set_all) (zoned_kept (map known hs) graph counts kept_too b (known h) (get_map known hs b h is) (zones (known h).buffer))

    pub set_stock : stock (slice_set bs i h') ≡ with_buffer (stock hs) b (zoned_buffer (zones (buffer (stock hs) b)) (buffer (stock hs) b))
    set_stock =
        ap stock_of set_all ∙ zoned_stock (map known hs) graph counts kept_too b (known h) (get_map known hs b h is) (zones (known h).buffer)
        ∙ ap (λ x. with_buffer (stock hs) b (zoned_buffer (zones x) (buffer (stock hs) b))) set_is_held

  module _ (changed : known h' ≡ known h) where
    unset_all : map known (slice_set bs i h') ≡ map known hs
    unset_all = set_here_too ∙ map_set known hs b h h' is changed

    pub unset_kept : IsKept (map known (slice_set bs i h')) graph counts
    unset_kept = subst (λ ks. IsKept ks graph counts) (sym unset_all) kept_too

    pub unset_stock : stock (slice_set bs i h') ≡ stock hs
    unset_stock = ap stock_of unset_all

  -- where it is a base
  pub set_base : is_carrier (record_now (stock hs) b) ≡ false → IsBase h
  set_base bare = base_held h (held_some hs graph counts kept_too b h is) (subst (λ x. is_carrier (last_of x) ≡ false) (sym set_is_held) bare)

  pub set_text : text_of (known h) (length (known h).texts - 1) ≡ text_now (stock hs) b
  set_text =
      let some : 0 < length (known h).buffer.records = held_some hs graph counts kept_too b h is in
      let all : length (known h).texts ≡ length (known h).buffer.records = texts_count h in
      held_texts hs graph counts kept_too b h is (length (known h).texts - 1) (omega (arith, some, all))
      ∙ ap (text_at (stock hs) b) (ap (λ n. n - 1) (all ∙ ap (λ x. length x.records) set_is_held))

-- ---- a region that wasn't there
