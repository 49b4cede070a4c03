-- What is so of a carrier between groups, and of what it sends.
use Rattle.std.proofs.Common.{◌≡◌, ℕ, suc, ◌+◌, ◌<◌, ◌≤◌, ◌^◌, true, List, [], ◌∷◌, length, Some, None, sym, ap, ◌∙◌, arith}
use Rattle.std.specs.Prelude.{All, slice_get, sum_by}
use Rattle.std.proofs.lemmas.List.Elements.{All-from_recursion, recursion_from_All}
use Rattle.ed_base.specs.declared.edit.Span.{Span}
use Rattle.ed_base.specs.declared.mode.SpanMode.{SpanMode}
use Rattle.ed_base.specs.declared.piece.Member.{Member}
use Rattle.ed_base.specs.declared.piece.Piece.{Piece}
use Rattle.ed_base.specs.Hooks.{HookTable}
use Rattle.ed_base.specs.Spans.{end_of}
use Rattle.ed_layers.specs.Pieces.{arrived}
use Rattle.ed_layers.specs.Records.{is_carrier, members_len, members_of}
use Rattle.ed_layers.specs.Sending.{sending_fault, sent}
use Rattle.ed_pieces.specs.Arrivals.{AllWithin, units_put_in}
use Rattle.ed_resolve.specs.Faults.{EndsShort}
use Rattle.ed_risen.proofs.Lengths.{Fits, length_text_over}
use Rattle.ed_sending.proofs.Lists.SortedParts.{Each, each_more}
use Rattle.ed_sending.proofs.Carriers.ArrivedUnits.{arrived_units}
use Rattle.ed_sending.proofs.Groups.SentInside.{IsInside, sent_inside}
use Rattle.ed_sending.proofs.Groups.SentUnits.{sent_units}
use Rattle.ed_stock.specs.Landing.{resolver_of}
use Rattle.ed_stock.specs.Stock.{Stock, count, record_now, text_now}
use Rattle.ed_descent.proofs.UnitSums.{all_units}
use Rattle.ed_sending.specs.Ready.{AreFitting, IsReady}

-- ---- members

each_placed : (P : Member → Type 0) (members : List Member) (k : ℕ) (ms : List Member) → ((d : ℕ) → slice_get ms d ≡ slice_get members (k + d)) → ((j : ℕ) (m : Member) → slice_get members j ≡ Some m → P m) → Each P ms
each_placed P members k [] same all = tt
each_placed P members k (m ∷ ms) same all = (
  all k m (ap (slice_get members) (let e : k ≡ k + 0 = omega arith in e) ∙ sym (same 0)),
  each_placed P members (k + 1) ms (λ d. same (suc d) ∙ ap (slice_get members) (let e : k + suc d ≡ (k + 1) + d = omega arith in e)) all,
)

each_member : (P : Member → Type 0) (members : List Member) → ((j : ℕ) (m : Member) → slice_get members j ≡ Some m → P m) → Each P members
each_member P members all = each_placed P members 0 members (λ d. ap (slice_get members) (let e : d ≡ 0 + d = omega arith in e)) all

-- ---- the stock

module _ (s : Stock) (ready : IsReady s) (c : ℕ) (there : c < count s) (carries : is_carrier (record_now s c) ≡ true) where
  fitting_now : AreFitting (members_of (record_now s c)) (text_now s)
  fitting_now = ready.fitting c

  -- its text is as long as its members
  pub carrier_len : length (text_now s c) ≡ members_len (members_of (record_now s c))
  carrier_len = ap length (ready.deep c carries) ∙ length_text_over (text_now s) (members_of (record_now s c)) (each_member (Fits (text_now s)) (members_of (record_now s c)) one)
    where
      one : (j : ℕ) (m : Member) → slice_get (members_of (record_now s c)) j ≡ Some m → Fits (text_now s) m
      one j (Member.Literal units) at = tt
      one j (Member.Tracked b x mode) at = fitting_now.inside j b x mode at

  source_there : (k b : ℕ) (x : Span) (mode : SpanMode) → slice_get (members_of (record_now s c)) k ≡ Some (Member.Tracked b x mode) → b < count s
  source_there k b x mode at = (ready.named c k b x mode at).1

  pub ends_short : ((b : ℕ) → b < count s → length (text_now s b) ≤ 2 ^ 22) → All EndsShort (members_of (record_now s c))
  ends_short short = All-from_recursion EndsShort (members_of (record_now s c)) (each_member EndsShort (members_of (record_now s c)) one)
    where
      one : (j : ℕ) (m : Member) → slice_get (members_of (record_now s c)) j ≡ Some m → EndsShort m
      one j (Member.Literal units) at = tt
      one j (Member.Tracked b x mode) at =
          let within : end_of x ≤ length (text_now s b) = fitting_now.inside j b x mode at in
          let most : length (text_now s b) ≤ 2 ^ 22 = short b (source_there j b x mode at) in
          omega arith

  module _ (hooks : HookTable) (pieces : List Piece) where
    abbrev on : List (ℕ × Piece)
    on = sent c (members_of (record_now s c)) (resolver_of hooks s c) (arrived pieces (length (text_now s c)))

    -- each piece that it sends lies inside the text of a buffer that is there
    pub sent_there : Each (λ bp. (bp.0 < count s) × (bp.1.start + bp.1.len ≤ length (text_now s bp.0))) on
    sent_there = each_more (λ bp. IsInside (members_of (record_now s c)) (text_now s) bp.0 bp.1) (λ bp. (bp.0 < count s) × (bp.1.start + bp.1.len ≤ length (text_now s bp.0))) on
        (λ bp h. (source_there h.member bp.0 h.bounds h.mode h.there, h.inside))
        (sent_inside c (members_of (record_now s c)) (resolver_of hooks s c) (arrived pieces (length (text_now s c))) (text_now s) fitting_now.inside)

    -- it sends as many units as have arrived
    pub as_many : Each (λ p. p.start + p.len ≤ length (text_now s c)) pieces → sending_fault c (members_of (record_now s c)) (arrived pieces (length (text_now s c))) ≡ None → all_units on ≡ sum_by (λ p. length p.text) pieces
    as_many inside none =
        sent_units c (members_of (record_now s c)) (resolver_of hooks s c) (arrived pieces (length (text_now s c))) none
        ∙ arrived_units pieces (length (text_now s c)) (each_more (λ p. p.start + p.len ≤ length (text_now s c)) (λ p. p.start ≤ length (text_now s c)) pieces (λ p l. omega arith) inside)

-- what arrives has as many units once it is brought together
pub brought_together : (n : ℕ) (pieces : List Piece) → AllWithin n pieces → units_put_in (arrived pieces n) ≡ sum_by (λ p. length p.text) pieces
brought_together n pieces within = arrived_units pieces n (each_more (λ p. p.start + p.len ≤ n) (λ p. p.start ≤ n) pieces (λ p l. omega arith) (recursion_from_All (λ (p : Piece). p.start + p.len ≤ n) pieces within))
