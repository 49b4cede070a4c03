-- A stock of which one buffer has turned once more is kept.
use Rattle.std.proofs.Common.{◌≡◌, ℕ, ◌<◌, Bool, true, false, List, length, map, Option, Some, None, refl, sym, ap, ◌∙◌, subst, length-set}
use Rattle.std.specs.Prelude.{nat_eq, option_map, slice_get, slice_set, if◌then◌else◌, MatchOption}
use Rattle.std.specs.Option.{option_map_or}
use Rattle.ed_base.specs.Numbers.{first_some, places}
use Rattle.ed_layers.specs.Cells.{text}
use Rattle.ed_stock.specs.Limits.{inserted, placements, stock_limits, versions}
use Rattle.ed_stock.specs.Stock.{buffer, count, sources_now, text_at}
use Rattle.ed_climb.specs.declared.counts.Counts.{Counts}
use Rattle.ed_held.specs.Making.{known_turned, CanTurn}
use Rattle.ed_climb.specs.Group.{set_known, MayTurn}
use Rattle.ed_risen.specs.Counting.{turn, turned_in}
use Rattle.ed_climb.specs.Kept.{IsKept}
use Rattle.ed_risen.specs.Laws.{OneVector}
use Rattle.ed_risen.specs.Rising.{IsSettled}
use Rattle.ed_held.specs.Seen.{Known, stock_of, known, stock}
use Rattle.ed_climb.proofs.Committed.{stock_set}
use Rattle.ed_risen.proofs.Counting.{inserted_turned, placements_turned, versions_turned}
use Rattle.ed_climb.proofs.Leaving.{set_at}
use Rattle.ed_risen.proofs.Turning.{same_names, same_records, turned_limits, turned_one, turned_settled}
use Rattle.ed_held.proofs.KindLemmas.{turn_kept}
use Rattle.ed_climb.proofs.Asked.{held_at, held_is, held_some}
use Rattle.ed_held.specs.declared.held.Held.{Held}

-- of what is known
module _ (ks : List Known) (b : ℕ) (graph : List (List ℕ)) (counts : Counts) (kept : IsKept ks graph counts) (there : b < count (stock_of ks)) where
  abbrev ks' : List Known
  ks' = set_known known_turned b ks

  turned_is : stock_of ks' ≡ turned_in (stock_of ks) (Some b)
  turned_is = stock_set known_turned turn (λ k. refl) b ks

  was : (c : ℕ) (k : Known) → slice_get ks' c ≡ Some k → (k' : Known) × (slice_get ks c ≡ Some k') × (k.number ≡ k'.number) × (k.texts ≡ k'.texts)
  was c k is = by (nat_eq b c) (slice_get ks c) refl (sym (set_at ks known_turned b c) ∙ is)
    where
      by : (q : Bool) (o : Option Known) → slice_get ks c ≡ o → (if q then option_map known_turned o else o) ≡ Some k → (k' : Known) × (slice_get ks c ≡ Some k') × (k.number ≡ k'.number) × (k.texts ≡ k'.texts)
      by true None i h = absurd (cc)
      by false None i h = absurd (cc)
      by true (Some x) i h = (let e : known_turned x ≡ k = cc in (x, i, ap (λ (y : Known). y.number) (sym e), ap (λ (y : Known). y.texts) (sym e)))
      by false (Some x) i h = (let e : x ≡ k = cc in (x, i, ap (λ (y : Known). y.number) (sym e), ap (λ (y : Known). y.texts) (sym e)))

  as_long : length ks' ≡ length ks
  as_long = by (slice_get ks b)
    where
      by : (o : Option Known) → length (option_map_or (λ k. slice_set ks b (known_turned k)) o ks) ≡ length ks
      by None = refl
      by (Some k) = length-set ks b (known_turned k)

  pub turned_kept : IsKept ks' graph counts
  turned_kept = record {
    numbered = λ c k is. (let w : (k' : Known) × (slice_get ks c ≡ Some k') × (k.number ≡ k'.number) × (k.texts ≡ k'.texts) = was c k is in w.2 ∙ kept.numbered c w.0 w.1);
    texts = λ c n k x is got. (let w : (k' : Known) × (slice_get ks c ≡ Some k') × (k.number ≡ k'.number) × (k.texts ≡ k'.texts) = was c k is in
        ap (λ y. text_at y c n) turned_is ∙ ap (λ f. text f c n) (same_records (stock_of ks) b there) ∙ kept.texts c n w.0 x w.1 (ap (λ xs. slice_get xs n) (sym w.3) ∙ got));
    linked = kept.linked ∙ ap (λ (f : ℕ → List ℕ). map f (places (length ks))) (sym (ap sources_now turned_is ∙ same_names (stock_of ks) b there)) ∙ ap (λ n. map (sources_now (stock_of ks')) (places n)) (sym as_long);
    settled = subst IsSettled (sym turned_is) (turned_settled (stock_of ks) b there kept.settled);
    one = subst OneVector (sym turned_is) (turned_one (stock_of ks) b there kept.one);
    within = ap (λ y. first_some (stock_limits y)) turned_is ∙ turned_limits (stock_of ks) b there ∙ kept.within;
    inserted = kept.inserted ∙ sym (ap inserted turned_is ∙ inserted_turned (stock_of ks) (Some b) there);
    versions = kept.versions ∙ sym (ap versions turned_is ∙ versions_turned (stock_of ks) (Some b) there);
    placements = kept.placements ∙ sym (ap placements turned_is ∙ placements_turned (stock_of ks) (Some b) there);
  }

module _ (hs : List Held) (graph : List (List ℕ)) (counts : Counts) (kept : IsKept (map known hs) graph counts) (b : ℕ) (there : b < count (stock hs)) where
  -- buffers that are known alike turn alike
  pub may_turn : (hs₂ : List Held) → map known hs₂ ≡ map known hs → ((h : Held) → slice_get hs b ≡ Some h → CanTurn h) → MayTurn hs₂ b
  may_turn hs₂ same may =
      let old : (h : Held) × (slice_get hs b ≡ Some h) = held_at hs b there in
      let new : (h : Held) × (slice_get hs₂ b ≡ Some h) = held_at hs₂ b (subst (λ ks. b < count (stock_of ks)) (sym same) there) in
      let kept₂ : IsKept (map known hs₂) graph counts = subst (λ ks. IsKept ks graph counts) (sym same) kept in
      subst (λ (o : Option Held). MatchOption o ⊥ CanTurn) (sym new.1)
      (turn_kept old.0 new.0 (held_is hs₂ graph counts kept₂ b new.0 new.1 ∙ ap (λ ks. buffer (stock_of ks) b) same ∙ sym (held_is hs graph counts kept b old.0 old.1)) (held_some hs graph counts kept b old.0 old.1) (may old.0 old.1))
