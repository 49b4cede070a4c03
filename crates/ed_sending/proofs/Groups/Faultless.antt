-- What follows where no component is refused.
use Rattle.std.proofs.Common.{◌≡◌, ℕ, zero, suc, ◌+◌, ◌<◌, Bool, true, false, ◌&&◌, List, [], ◌∷◌, length, map, filter, if◌then◌else◌, Option, Some, None, inl, inr, refl, sym, ap, ◌∙◌, arith, subst}
use Rattle.std.specs.Prelude.{nat_eq, nat_lt, nat_le, slice_get, fold}
use Rattle.std.specs.Option.{option_map_or}
use Rattle.std.specs.List.{enumerate_from}
use Rattle.std.proofs.lemmas.Bool.{cases_eq}
use Rattle.std.proofs.lemmas.Bool.Decides.{nat_tests}
use Rattle.ed_base.specs.declared.piece.Member.{Member}
use Rattle.ed_base.specs.declared.piece.Piece.{Piece}
use Rattle.ed_base.specs.declared.refusal.Refusal.{Refusal}
use Rattle.ed_base.specs.Hooks.{HookTable, CutRules}
use Rattle.ed_base.specs.Numbers.{or_else, first_some}
use Rattle.ed_base.specs.Spans.{shares_unit, shared}
use Rattle.ed_layers.specs.Pieces.{Component, arrived}
use Rattle.ed_layers.specs.Records.{is_carrier, members_of, member_len, placement}
use Rattle.ed_layers.specs.Sending.{range_of, targets, literal_part, deleted_literal, component_fault, sending_fault}
use Rattle.ed_stock.specs.Stock.{Stock, record_now, text_now, count}
use Rattle.ed_stock.specs.Landing.{pieces_at, carriers_down, components_at, sent_from, sent_down, down_fault_from, down_fault}
use Rattle.ed_sending.proofs.Lists.SortedParts.{Each, each_more}
use Rattle.ed_sending.proofs.Carriers.CarrierText.{starts_of, taken_of, AllCutsRise}
use Rattle.ed_sending.proofs.Members.Shares.{CutsRise}
use Rattle.ed_sending.proofs.Members.Targets.{rule_for}
use Rattle.ed_sending.proofs.Carriers.NewText.{SparesLiterals}
use Rattle.ed_sending.proofs.Groups.GivenCarrier.{both, numbered_get, has_target, cuts_rise}
use Rattle.ed_sending.proofs.Groups.SentDown.{SendLater, settled}
use Rattle.ed_sending.proofs.Groups.SendingOrder.{down_falls, down_once}
use Rattle.ed_sending.proofs.Groups.Arrivals.{send, send_later}
use Rattle.ed_sending.specs.Ready.{AreLower}

-- ---- one carrier

none_first : (a b : Option Refusal) → or_else a b ≡ None → (a ≡ None) × (b ≡ None)
none_first None b e = (refl, e)
none_first (Some r) b e = absurd (let z : Some r ≡ None = e in cc)

pub faults_none : (carrier : ℕ) (members : List Member) (cs : List Component) → sending_fault carrier members cs ≡ None → Each (λ c. component_fault carrier members c ≡ None) cs
faults_none carrier members [] e = tt
faults_none carrier members (c ∷ cs) e = let two : (component_fault carrier members c ≡ None) × (sending_fault carrier members cs ≡ None) = none_first (component_fault carrier members c) (sending_fault carrier members cs) e in (two.0, faults_none carrier members cs two.1)

first_none : {X Y : Type 0} (f : X → Option Y) (xs : List X) (k : ℕ) (x : X) → first_some (map f xs) ≡ None → slice_get xs k ≡ Some x → f x ≡ None
first_none f [] k x none is = absurd (let e : None ≡ Some x = is in cc)
first_none {X = X} {Y = Y} f (y ∷ ys) k x none is = either (f y) refl none k is (λ j n i. first_none f ys j x n i)
  where
    either : (o : Option Y) → f y ≡ o → or_else o (first_some (map f ys)) ≡ None → (k : ℕ) → slice_get (y ∷ ys) k ≡ Some x → ((j : ℕ) → first_some (map f ys) ≡ None → slice_get ys j ≡ Some x → f x ≡ None) → f x ≡ None
    either (Some z) e none k is rest = absurd (let g : Some z ≡ None = none in cc)
    either None e none zero is rest = (let g : y ≡ x = cc in ap f (sym g) ∙ e)
    either None e none (suc k) is rest = rest k none is

-- a component that isn't refused takes no unit of a literal
spared : (carrier : ℕ) (members : List Member) (c : Component) → component_fault carrier members c ≡ None → (k : ℕ) (units : List ℕ) (d : ℕ) → slice_get members k ≡ Some (Member.Literal units) → d < length units → (nat_le c.start (starts_of members k + d) && nat_lt (starts_of members k + d) (c.start + c.old_len)) ≡ false
spared carrier members c none k units d here below =
    let lit : deleted_literal members c ≡ None = (both (Refusal.Literal carrier) (deleted_literal members c) (elim (targets members c) [ [] ↦ Some (Refusal.NoPlace carrier c.start) | t ∷ ts ↦ None ]) none).0 in
    let at : slice_get (enumerate_from 0 members) k ≡ Some (k, Member.Literal units) = numbered_get 0 members k (Member.Literal units) here ∙ ap (λ z. Some (z, Member.Literal units)) (let e : 0 + k ≡ k = omega arith in e) in
    let part : literal_part c (placement members k) (k, Member.Literal units) ≡ None = first_none (λ (im : ℕ × Member). literal_part c (placement members im.0) im) (enumerate_from 0 members) k (k, Member.Literal units) lit at in
    let len : (placement members k).len ≡ length units = ap (λ (o : Option Member). option_map_or member_len o 0) here in
    no_share (starts_of members k) (placement members k).len len (shares_unit (placement members k) (range_of c)) refl part
  where
    no_share : (a n : ℕ) → n ≡ length units → (z : Bool) → shares_unit (record { start = a; len = n }) (range_of c) ≡ z → (if z then Some (shared (record { start = a; len = n }) (range_of c)) else None) ≡ None → (nat_le c.start (a + d) && nat_lt (a + d) (c.start + c.old_len)) ≡ false
    no_share a n e true s part = absurd (cc)
    no_share a n e false s part = grind (arith, nat_tests)

pub spares_literals : (carrier : ℕ) (members : List Member) (cs : List Component) → sending_fault carrier members cs ≡ None → SparesLiterals members cs
spares_literals carrier members cs none k units d here below = all cs (faults_none carrier members cs none)
  where
    all : (cs : List Component) → Each (λ c. component_fault carrier members c ≡ None) cs → taken_of cs (starts_of members k + d) ≡ false
    all [] a = refl
    all (c ∷ cs) a = let one : (nat_le c.start (starts_of members k + d) && nat_lt (starts_of members k + d) (c.start + c.old_len)) ≡ false = spared carrier members c a.0 k units d here below in rw one (all cs a.1)

pub all_cuts_rise : (carrier : ℕ) (members : List Member) (resolver : Option CutRules) (cs : List Component) → sending_fault carrier members cs ≡ None → AllCutsRise members resolver cs
all_cuts_rise carrier members resolver cs none = each_more (λ c. component_fault carrier members c ≡ None) (λ c. CutsRise (rule_for resolver c) (length c.text) (length (targets members c))) cs
    (λ c e. cuts_rise (rule_for resolver c) (length c.text) (length (targets members c)) (has_target carrier members c e)) (faults_none carrier members cs none)

-- ---- all carriers

module _ (hooks : HookTable) (s : Stock) (lower : AreLower s) where
  faultless_from : (start : List (ℕ × Piece)) (order : List ℕ) → SendLater (send hooks s) order → down_fault_from hooks s start order ≡ None → Each (λ c. sending_fault c (members_of (record_now s c)) (components_at s (fold (sent_from hooks s) start order) c) ≡ None) order
  faultless_from start [] later none = tt
  faultless_from start (c ∷ cs) later none =
      let two : (sending_fault c (members_of (record_now s c)) (components_at s start c) ≡ None) × (down_fault_from hooks s (sent_from hooks s start c) cs ≡ None) = none_first (sending_fault c (members_of (record_now s c)) (components_at s start c)) (down_fault_from hooks s (sent_from hooks s start c) cs) none in
      let same : pieces_at (fold (sent_from hooks s) (sent_from hooks s start c) cs) c ≡ pieces_at start c = settled (send hooks s) start c cs later in
      (ap (λ z. sending_fault c (members_of (record_now s c)) (arrived z (length (text_now s c)))) same ∙ two.0, faultless_from (sent_from hooks s start c) cs later.2 two.1)

  each_once : (P : ℕ → Type 0) (c : ℕ) (ds : List ℕ) → filter (λ d. nat_eq d c) ds ≡ c ∷ [] → Each P ds → P c
  each_once P c [] once a = absurd (let e : [] ≡ c ∷ [] = once in cc)
  each_once P c (d ∷ ds) once a = elim (cases_eq d c) [
    | inl same ↦ subst P same a.0
    | inr other ↦ (let t : nat_eq d c ≡ false = grind (arith, nat_tests) in each_once P c ds (sym (rw t refl) ∙ once) a.1)
  ]

  -- No carrier refuses what arrives at it.
  pub faultless : (pending : List (ℕ × Piece)) → down_fault hooks s pending ≡ None → (c : ℕ) → c < count s → is_carrier (record_now s c) ≡ true → sending_fault c (members_of (record_now s c)) (components_at s (sent_down hooks s pending) c) ≡ None
  unfolding sent_down down_fault
  faultless pending none c there carries =
      each_once (λ c. sending_fault c (members_of (record_now s c)) (components_at s (fold (sent_from hooks s) pending (carriers_down s)) c) ≡ None) c (carriers_down s) (down_once s c there carries)
      (faultless_from pending (carriers_down s) (send_later hooks s lower (carriers_down s) (down_falls s)) none)
