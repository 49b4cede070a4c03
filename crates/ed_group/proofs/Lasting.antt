-- The laws of a stock that is kept, and what stays of a stock that is changed.
use Rattle.std.proofs.Common.{◌≡◌, ◌≢◌, ℕ, ◌<◌, ◌⊎◌, List, [], ◌∷◌, ◌++◌, map, refl, sym, ◌∙◌, ap, subst, inl, inr}
use Rattle.std.specs.Prelude.{slice_get, unwrap_or}
use Rattle.std.proofs.lemmas.Bool.{cases_eq}
use Rattle.ed_layers.specs.Cells.{cells}
use Rattle.ed_stock.specs.Stock.{Stock, buffer, count, record_at, with_buffer}
use Rattle.ed_climb.specs.declared.counts.Counts.{Counts}
use Rattle.ed_held.specs.declared.held.Held.{Held}
use Rattle.ed_held.specs.Asking.{zoned_buffer}
use Rattle.ed_risen.specs.Founded.{Extends}
use Rattle.ed_climb.specs.Kept.{IsKept}
use Rattle.ed_risen.specs.Laws.{CurrentVector, RecordsStay}
use Rattle.ed_held.specs.Seen.{Known, known, stock}
use Rattle.ed_readonly.specs.LiveRegions.{LiveRegions}
use Rattle.ed_risen.proofs.Settled.{current_vector, record_there, records_stay}
use Rattle.ed_risen.proofs.Growth.{missing, push_old, set_here, set_other}
use Rattle.ed_group.proofs.NewBuffer.{map_push}

-- a stock stays what it is
pub all_stay : (s t : Stock) → t ≡ s → RecordsStay s t
all_stay s t same = subst (RecordsStay s) (sym same) (λ b v r is. (is, refl))

-- records stay where buffers have the ones that they had
same_stay : (s t : Stock) → ((b : ℕ) → (buffer t b).records ≡ (buffer s b).records) → RecordsStay s t
same_stay s t same b v r is =
    let e : record_at s ≡ record_at t = (λ i c w. slice_get (sym (same c) i) w) in
    (ap (λ rs. slice_get rs v) (same b) ∙ is, ap (λ at. cells at b v) (sym e))

-- regions are no records
pub zones_stay : (s t : Stock) (b : ℕ) (zones : LiveRegions) → b < count s → t ≡ with_buffer s b (zoned_buffer zones (buffer s b)) → RecordsStay s t
zones_stay s t b zones there is = subst (RecordsStay s) (sym is) (same_stay s (with_buffer s b (zoned_buffer zones (buffer s b))) (λ a. by a (cases_eq a b)))
  where
    by : (a : ℕ) → (a ≡ b) ⊎ (a ≢ b) → (buffer (with_buffer s b (zoned_buffer zones (buffer s b))) a).records ≡ (buffer s a).records
    by a (inl e) = subst (λ c. (buffer (with_buffer s b (zoned_buffer zones (buffer s b))) c).records ≡ (buffer s c).records) (sym e) (ap (λ o. (unwrap_or o missing).records) (set_here s.buffers b (zoned_buffer zones (buffer s b)) there))
    by a (inr ne) = ap (λ o. (unwrap_or o missing).records) (set_other s.buffers b a (zoned_buffer zones (buffer s b)) ne)

module _ (hs : List Held) (graph : List (List ℕ)) (counts : Counts) (kept : IsKept (map known hs) graph counts) where
  pub kept_current : CurrentVector (stock hs)
  kept_current = current_vector (stock hs) kept.settled.current kept.settled.some kept.settled.founded

  -- a further buffer stands behind the others
  pub others_stay : (hs' : List Held) (h : Held) → hs' ≡ hs ++ h ∷ [] → RecordsStay (stock hs) (stock hs')
  others_stay hs' h is = records_stay (stock hs) (stock hs') extends kept.settled.founded
    where
      buffers_are : (stock hs').buffers ≡ (stock hs).buffers ++ (known h).buffer ∷ []
      buffers_are = ap (λ xs. (stock xs).buffers) is ∙ ap (map (λ k. k.buffer)) (map_push known hs h) ∙ map_push (λ (k : Known). k.buffer) (map known hs) (known h)

      extends : Extends (record_at (stock hs)) (record_at (stock hs'))
      extends b v r at =
          ap (λ bs. slice_get (unwrap_or (slice_get bs b) missing).records v) buffers_are
          ∙ ap (λ o. slice_get (unwrap_or o missing).records v) (push_old (stock hs).buffers ((known h).buffer) b (record_there (stock hs) b v r at)) ∙ at
