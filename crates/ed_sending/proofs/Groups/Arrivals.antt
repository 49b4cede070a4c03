-- What arrives at each buffer of the stock: what a carrier sends there, among what others send.
use Rattle.std.proofs.Common.{◌≡◌, ◌≢◌, ℕ, ◌<◌, ◌≤◌, Bool, true, false, ◌&&◌, List, [], ◌∷◌, ◌++◌, map, filter, length, if◌then◌else◌, Option, Some, inl, inr, refl, sym, ap, ◌∙◌, arith}
use Rattle.std.specs.Prelude.{nat_eq, flat_map, slice_get}
use Rattle.std.proofs.lemmas.Bool.{cases_eq}
use Rattle.std.proofs.lemmas.Bool.Decides.{nat_tests}
use Rattle.std.proofs.lemmas.List.{append-nil}
use Rattle.std.proofs.lemmas.List.Elements.{filter-append}
use Rattle.ed_base.specs.declared.edit.Change.{Change}
use Rattle.ed_base.specs.declared.edit.Span.{Span}
use Rattle.ed_base.specs.declared.mode.SpanMode.{SpanMode}
use Rattle.ed_base.specs.declared.piece.Member.{Member}
use Rattle.ed_base.specs.declared.piece.Piece.{Piece}
use Rattle.ed_base.specs.Hooks.{HookTable, CutRules}
use Rattle.ed_layers.specs.Pieces.{Component, arrived}
use Rattle.ed_layers.specs.Records.{is_carrier, members_of}
use Rattle.ed_layers.specs.Sending.{sent}
use Rattle.ed_stock.specs.Stock.{Stock, record_now, text_now, count}
use Rattle.ed_stock.specs.Landing.{pieces_at, carriers_down, resolver_of, sent_down, pieces_of_changes}
use Rattle.ed_sending.proofs.Lists.SortedParts.{Each, each_more, filter_all, filter_none}
use Rattle.ed_sending.proofs.Members.SourceParts.{IsFor, ends_last}
use Rattle.ed_sending.proofs.Carriers.SentPieces.{all_for, flat_through}
use Rattle.ed_sending.proofs.Groups.SentDown.{SendLater, all_sent}
use Rattle.ed_sending.proofs.Groups.SendingOrder.{Falls, down_falls, down_once}
use Rattle.ed_sending.proofs.Texts.FilteredText.{passing}
use Rattle.ed_sending.proofs.Shared.SourceSigns.{ends_at}
use Rattle.ed_sending.specs.Ready.{AreLower, height_now}

-- nothing is sent where no member lies
pub none_sent : (carrier : ℕ) (members : List Member) (resolver : Option CutRules) (cs : List Component) (b : ℕ) → ((k : ℕ) (x : Span) (mode : SpanMode) → slice_get members k ≡ Some (Member.Tracked b x mode) → ⊥) → pieces_at (sent carrier members resolver cs) b ≡ []
none_sent carrier members resolver cs b none = by (pieces_at (sent carrier members resolver cs) b) (all_for carrier members resolver b cs)
  where
    by : (ps : List Piece) → Each (IsFor carrier members b) ps → ps ≡ []
    by [] a = refl
    by (p ∷ ps) a = absurd (none a.0.member a.0.bounds a.0.mode a.0.there)

-- of what a carrier sends, all ends with a pair of its own
own_pass : (carrier c : ℕ) (members : List Member) (b : ℕ) (ps : List Piece) → Each (IsFor carrier members b) ps → passing (ends_at c) ps ≡ (if nat_eq carrier c then ps else [])
own_pass carrier c members b ps a = either (nat_eq carrier c) refl
  where
    ends : (p : Piece) → IsFor carrier members b p → ends_at c p.trail ≡ (nat_eq carrier c && true)
    ends p h = ends_last c (λ i. true) p.trail (carrier, h.member) h.last

    either : (z : Bool) → nat_eq carrier c ≡ z → passing (ends_at c) ps ≡ (if z then ps else [])
    either true e = filter_all (λ (p : Piece). ends_at c p.trail) ps (each_more (IsFor carrier members b) (λ p. ends_at c p.trail ≡ true) ps (λ p h. ends p h ∙ (rw e refl)) a)
    either false e = filter_none (λ (p : Piece). ends_at c p.trail) ps (each_more (IsFor carrier members b) (λ p. ends_at c p.trail ≡ false) ps (λ p h. ends p h ∙ (rw e refl)) a)

-- of a list in which one stands once
pub flat_once : {X : Type 0} (f : ℕ → List X) (c : ℕ) (ds : List ℕ) → filter (λ d. nat_eq d c) ds ≡ c ∷ [] → ((d : ℕ) → d ≢ c → f d ≡ []) → flat_map f ds ≡ f c
flat_once f c [] once none = absurd (let e : [] ≡ c ∷ [] = once in cc)
flat_once {X = X} f c (d ∷ ds) once none = elim (cases_eq d c) [
  | inl same ↦ (let t : nat_eq d c ≡ true = grind (arith, nat_tests) in
      let o : d ∷ filter (λ d. nat_eq d c) ds ≡ c ∷ [] = sym (rw t refl) ∙ once in
      let rest : filter (λ d. nat_eq d c) ds ≡ [] = cc in
      ap (λ z. f z ++ flat_map f ds) same ∙ ap (λ z. f c ++ z) (none_left ds rest) ∙ append-nil (f c))
  | inr other ↦ (let t : nat_eq d c ≡ false = grind (arith, nat_tests) in
      let o : filter (λ d. nat_eq d c) ds ≡ c ∷ [] = sym (rw t refl) ∙ once in
      ap (λ z. z ++ flat_map f ds) (none d other) ∙ flat_once f c ds o none)
]
  where
    none_left : (ds : List ℕ) → filter (λ d. nat_eq d c) ds ≡ [] → flat_map f ds ≡ []
    none_left [] e = refl
    none_left (d ∷ ds) e = elim (cases_eq d c) [
      | inl same ↦ absurd (let t : nat_eq d c ≡ true = grind (arith, nat_tests) in let o : d ∷ filter (λ d. nat_eq d c) ds ≡ [] = sym (rw t refl) ∙ e in cc)
      | inr other ↦ (let t : nat_eq d c ≡ false = grind (arith, nat_tests) in
          let o : filter (λ d. nat_eq d c) ds ≡ [] = sym (rw t refl) ∙ e in
          ap (λ z. z ++ flat_map f ds) (none d other) ∙ none_left ds o)
    ]

-- ---- the stock

abbrev pub send : HookTable → Stock → ℕ → List Piece → List (ℕ × Piece)
send hooks s c ps = sent c (members_of (record_now s c)) (resolver_of hooks s c) (arrived ps (length (text_now s c)))

module _ (hooks : HookTable) (s : Stock) (lower : AreLower s) where
  pub no_higher : (d c : ℕ) → height_now s d ≤ height_now s c → (ps : List Piece) → pieces_at (send hooks s d ps) c ≡ []
  no_higher d c low ps = none_sent d (members_of (record_now s d)) (resolver_of hooks s d) (arrived ps (length (text_now s d))) c (λ k x mode there. (let l : height_now s c < height_now s d = lower d k c x mode there in omega arith))

  pub send_later : (order : List ℕ) → Falls (height_now s) order → SendLater (send hooks s) order
  send_later [] a = tt
  send_later (c ∷ cs) a = ((λ ps. no_higher c c (omega arith) ps), each_more (λ d. height_now s d ≤ height_now s c) (λ d. (ps : List Piece) → pieces_at (send hooks s d ps) c ≡ []) cs (λ d low ps. no_higher d c low ps) a.0, send_later cs a.1)

  -- what arrives at a buffer: what was there, and what each carrier sends there of all that arrives at it
  pub arrives_all : (pending : List (ℕ × Piece)) (b : ℕ) → pieces_at (sent_down hooks s pending) b ≡ pieces_at pending b ++ flat_map (λ c. pieces_at (send hooks s c (pieces_at (sent_down hooks s pending) c)) b) (carriers_down s)
  unfolding sent_down
  arrives_all pending b = all_sent (send hooks s) pending (carriers_down s) (send_later (carriers_down s) (down_falls s)) b

  -- of that, what ends with a pair of one carrier is what this carrier sends there
  pub arrives_own : (pending : List (ℕ × Piece)) → Each (λ bp. bp.1.trail ≡ []) pending → (c : ℕ) → c < count s → is_carrier (record_now s c) ≡ true → (b : ℕ) → passing (ends_at c) (pieces_at (sent_down hooks s pending) b) ≡ pieces_at (send hooks s c (pieces_at (sent_down hooks s pending) c)) b
  arrives_own pending plain c there carries b =
      let F : ℕ → List Piece = λ d. pieces_at (send hooks s d (pieces_at (sent_down hooks s pending) d)) b in
      ap (passing (ends_at c)) (arrives_all pending b)
      ∙ filter-append (λ (p : Piece). ends_at c p.trail) (pieces_at pending b) (flat_map F (carriers_down s))
      ∙ ap (λ z. z ++ passing (ends_at c) (flat_map F (carriers_down s))) (none_passes pending plain)
      ∙ flat_through (passing (ends_at c)) F (carriers_down s) refl (λ x y. filter-append (λ (p : Piece). ends_at c p.trail) x y)
      ∙ flat_once (λ d. passing (ends_at c) (F d)) c (carriers_down s) (down_once s c there carries) (λ d other. (let t : nat_eq d c ≡ false = grind (arith, nat_tests) in passes d ∙ (rw t refl)))
      ∙ passes c ∙ (let t : nat_eq c c ≡ true = grind (arith, nat_tests) in rw t refl)
    where
      passes : (d : ℕ) → passing (ends_at c) (pieces_at (send hooks s d (pieces_at (sent_down hooks s pending) d)) b) ≡ (if nat_eq d c then pieces_at (send hooks s d (pieces_at (sent_down hooks s pending) d)) b else [])
      passes d = own_pass d c (members_of (record_now s d)) b (pieces_at (send hooks s d (pieces_at (sent_down hooks s pending) d)) b) (all_for d (members_of (record_now s d)) (resolver_of hooks s d) b (arrived (pieces_at (sent_down hooks s pending) d) (length (text_now s d))))

      none_passes : (bps : List (ℕ × Piece)) → Each (λ bp. bp.1.trail ≡ []) bps → passing (ends_at c) (pieces_at bps b) ≡ []
      none_passes [] a = refl
      none_passes (bp ∷ bps) a = either (nat_eq bp.0 b) (none_passes bps a.1)
        where
          either : (z : Bool) → passing (ends_at c) (pieces_at bps b) ≡ [] → passing (ends_at c) (map (λ (p : ℕ × Piece). p.1) (if z then bp ∷ filter (λ p. nat_eq p.0 b) bps else filter (λ p. nat_eq p.0 b) bps)) ≡ []
          either true rest = rw a.0 rest
          either false rest = rest

  -- where nothing was pending at a buffer and only one carrier sends there, all that arrives is what that sends
  pub arrives_from : (pending : List (ℕ × Piece)) (c : ℕ) → c < count s → is_carrier (record_now s c) ≡ true → (b : ℕ) → pieces_at pending b ≡ [] → ((d : ℕ) → d ≢ c → pieces_at (send hooks s d (pieces_at (sent_down hooks s pending) d)) b ≡ []) → pieces_at (sent_down hooks s pending) b ≡ pieces_at (send hooks s c (pieces_at (sent_down hooks s pending) c)) b
  arrives_from pending c there carries b none only =
      arrives_all pending b
      ∙ ap (λ z. z ++ flat_map (λ d. pieces_at (send hooks s d (pieces_at (sent_down hooks s pending) d)) b) (carriers_down s)) none
      ∙ flat_once (λ d. pieces_at (send hooks s d (pieces_at (sent_down hooks s pending) d)) b) c (carriers_down s) (down_once s c there carries) only

-- pieces of an edit, or of change lists, have no trail
pub changes_plain : (b : ℕ) (cs : List Change) → Each (λ bp. bp.1.trail ≡ []) (pieces_of_changes b cs)
changes_plain b [] = tt
changes_plain b (c ∷ cs) = (refl, changes_plain b cs)
