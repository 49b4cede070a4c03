-- What a box asks of the buffer that it is for.
use Rattle.std.proofs.Common.{◌≡◌, ℕ, ◌<◌, ◌≤◌, ◌^◌, Bool, true, false, not, ◌&&◌, List, [], length, map, Some, refl, sym, ap, ◌∙◌, subst}
use Rattle.std.specs.Prelude.{nat_eq, slice_get, slice_index_or}
use Rattle.std.proofs.lemmas.List.{length-map}
use Rattle.ed_base.specs.declared.Piece.{Piece}
use Rattle.ed_buffer.specs.Planning.{AreInside, put_in}
use Rattle.ed_layers.specs.Records.{is_carrier}
use Rattle.ed_version.specs.Chain as chain
use Rattle.ed_stock.specs.Landing.{pieces_at}
use Rattle.ed_stock.specs.Stock.{Buffer, buffer, count, record_now, text_now}
use Rattle.ed_risen.specs.Rising.{IsSettled}
use Rattle.ed_held.specs.declared.held.Held.{Held}
use Rattle.ed_held.specs.Landing.{CanLand}
use Rattle.ed_held.specs.Seen.{known, last_of, stock, stock_of}
use Rattle.ed_held.proofs.KindLemmas.{base_held}
use Rattle.ed_held.specs.Asking.{IsBase}
use Rattle.ed_climb.specs.Route.{AreTrue}
use Rattle.ed_climb.proofs.Snapshots.{held_buffer}
use Rattle.ed_landing.specs.Bases.{is_met}
use Rattle.ed_landing.specs.Landings.{HaveArrived, StandOn}
use Rattle.ed_landing.proofs.LandMore.{text_held}

module _ (hs : List Held) (graph : List (List ℕ)) (on : StandOn hs graph) (pending : List (ℕ × Piece)) (boxes : List (List Piece)) (arrived : HaveArrived (stock hs) pending boxes) (b : ℕ) (buffers : List Held) (same : map known buffers ≡ map known hs) (below : b < length buffers)
    (h : Held) (held : slice_get buffers b ≡ Some h) (met : is_met h (slice_index_or boxes b []) ≡ true) where
  there : b < count (stock hs)
  there = subst (λ n. b < n) (sym (length-map buffers known) ∙ ap length same ∙ sym (length-map (map known hs) _)) below

  same_stock : stock buffers ≡ stock hs
  same_stock = ap stock_of same

  buffer_is : buffer (stock hs) b ≡ (known h).buffer
  buffer_is = ap (λ z. buffer z b) (sym same_stock) ∙ held_buffer buffers b h held

  bare : is_carrier (last_of (known h).buffer) ≡ false
  bare = by (is_carrier (last_of (known h).buffer)) (nat_eq (length (slice_index_or boxes b [])) 0) met
    where
      by : (t e : Bool) → (not t && not e) ≡ true → t ≡ false
      by false e h = refl
      by true e h = absurd (let z : false ≡ true = h in cc)

  base_here : is_carrier (record_now (stock hs) b) ≡ false
  base_here = ap (λ x. is_carrier (last_of x)) buffer_is ∙ bare

  some : 0 < length (known h).buffer.records
  some = subst (λ (x : Buffer). 0 < length x.records) buffer_is (on.settled.some b there)

  pub can_take : CanLand h (slice_index_or boxes b [])
  can_take =
      let x : IsBase h = base_held h some bare in
      let text : chain.text_now x.0.chain.versions ≡ text_now (stock hs) b = text_held buffers (subst AreTrue (sym same) on.true) (subst IsSettled (sym same_stock) on.settled) b (subst (λ z. b < count z) (sym same_stock) there) x.0 (held ∙ ap Some x.1) ∙ ap (λ z. text_now z b) same_stock in
      record {
        base = x.0;
        is = x.1;
        inside = subst (λ ps. AreInside (length (chain.text_now x.0.chain.versions)) ps) (sym (arrived.pieces b there base_here)) (subst (λ t. AreInside (length t) (pieces_at pending b)) (sym text) (arrived.inside b there base_here));
      }

  pub few_put_in : put_in (slice_index_or boxes b []) ≤ 2 ^ 27
  few_put_in = subst (λ ps. put_in ps ≤ 2 ^ 27) (sym (arrived.pieces b there base_here)) (arrived.put_in b there base_here)
