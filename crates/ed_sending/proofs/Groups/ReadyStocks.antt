-- What is so of a stock between groups, and of a buffer of it whose record is known.
use Rattle.std.proofs.Common.{◌≡◌, ℕ, suc, ◌+◌, ◌<◌, Bool, true, false, List, [], ◌∷◌, ◌++◌, map, if◌then◌else◌, Option, Some, None, refl, sym, ap, ◌∙◌, arith, subst}
use Rattle.std.specs.Prelude.{nat_eq, slice_get, slice_range}
use Rattle.std.specs.Option.{option_map_or}
use Rattle.std.proofs.lemmas.Bool.Decides.{nat_tests}
use Rattle.ed_base.specs.declared.edit.Span.{Span}
use Rattle.ed_base.specs.declared.mode.SpanMode.{SpanMode}
use Rattle.ed_base.specs.declared.piece.Member.{Member}
use Rattle.ed_base.specs.Numbers.{is_among}
use Rattle.ed_base.specs.Spans.{end_of}
use Rattle.ed_layers.specs.Cells.{cells_within}
use Rattle.ed_layers.specs.Records.{Record, is_carrier, members_of, sources_of, version_in}
use Rattle.ed_layers.specs.Texts.{member_text, text_over}
use Rattle.ed_stock.specs.Stock.{Stock, count, now, record_at, record_now, sources_now, text_now}
use Rattle.ed_sending.specs.Ready.{AreFitting, IsReady, height_now}
use Rattle.ed_sending.proofs.Groups.RecordTexts.{carrier_now, texts_within, unit_in}
use Rattle.ed_sending.proofs.Lists.SortedParts.{Each}

-- what all versions listed have, one that is there has
pub listed : (P : ℕ → Type 0) (vs : List (ℕ × ℕ)) (b w : ℕ) → Each (λ v. P v.0) vs → version_in vs b ≡ Some w → P b
listed P [] b w a is = absurd (let e : None ≡ Some w = is in cc)
listed P (v ∷ vs) b w a is = either (nat_eq v.0 b) refl is (λ i. listed P vs b w a.1 i)
  where
    either : (z : Bool) → nat_eq v.0 b ≡ z → (if z then Some v.1 else version_in vs b) ≡ Some w → (version_in vs b ≡ Some w → P b) → P b
    either true e is more = subst P (let f : v.0 ≡ b = grind (arith, nat_tests) in f) a.0
    either false e is more = more is

-- texts of the same sources
pub text_alike : (f g : ℕ → List ℕ) (members : List Member) → ((k b : ℕ) (x : Span) (mode : SpanMode) → slice_get members k ≡ Some (Member.Tracked b x mode) → f b ≡ g b) → (k : ℕ) (ms : List Member) → ((d : ℕ) → slice_get ms d ≡ slice_get members (k + d)) → text_over f ms ≡ text_over g ms
text_alike f g members same k [] is = refl
text_alike f g members same k (m ∷ ms) is =
    ap (λ z. z ++ text_over f ms) (one m (ap (slice_get members) (let e : k ≡ k + 0 = omega arith in e) ∙ sym (is 0)))
    ∙ ap (λ z. member_text g m ++ z) (text_alike f g members same (k + 1) ms (λ d. is (suc d) ∙ ap (slice_get members) (let e : k + suc d ≡ (k + 1) + d = omega arith in e)))
  where
    one : (m : Member) → slice_get members k ≡ Some m → member_text f m ≡ member_text g m
    one (Member.Literal units) at = refl
    one (Member.Tracked b x mode) at = ap (λ t. slice_range t x.start (end_of x)) (same k b x mode at)

-- The text of a carrier is read off the texts of its sources, where these are named at their current versions and stand no deeper than eight levels.
pub deep_of : (s : Stock) (c : ℕ) (r : Record) → record_now s c ≡ r → is_carrier r ≡ true
    → ((k b : ℕ) (x : Span) (mode : SpanMode) → slice_get (members_of r) k ≡ Some (Member.Tracked b x mode) → (version_in (sources_of r) b ≡ Some (now s b)) × (map unit_in (cells_within (record_at s) 8 b (now s b)) ≡ text_now s b))
    → text_now s c ≡ text_over (text_now s) (members_of r)
deep_of s c r is carries named =
    carrier_now s c r is carries
    ∙ text_alike (texts_within s (sources_of r)) (text_now s) (members_of r)
    (λ k b x mode at. ap (λ (o : Option ℕ). map unit_in (option_map_or (cells_within (record_at s) 8 b) o [])) (named k b x mode at).0 ∙ (named k b x mode at).1)
    0 (members_of r) (λ d. ap (slice_get (members_of r)) (let e : d ≡ 0 + d = omega arith in e))

-- ---- a buffer whose record is known

module _ (s : Stock) (ready : IsReady s) (c : ℕ) (r : Record) (is : record_now s c ≡ r) where
  member_now : (k : ℕ) (m : Member) → slice_get (members_of r) k ≡ Some m → slice_get (members_of (record_now s c)) k ≡ Some m
  member_now k m at = ap (λ (q : Record). slice_get (members_of q) k) is ∙ at

  pub lower_at : (k b : ℕ) (x : Span) (mode : SpanMode) → slice_get (members_of r) k ≡ Some (Member.Tracked b x mode) → height_now s b < height_now s c
  lower_at k b x mode at = ready.lower c k b x mode (member_now k (Member.Tracked b x mode) at)

  pub named_at : (k b : ℕ) (x : Span) (mode : SpanMode) → slice_get (members_of r) k ≡ Some (Member.Tracked b x mode) → (version_in (sources_of r) b ≡ Some (now s b)) × (b < count s)
  named_at k b x mode at = subst (λ (q : Record). (version_in (sources_of q) b ≡ Some (now s b)) × (b < count s)) is (ready.named c k b x mode (member_now k (Member.Tracked b x mode) at))

  pub fitting_at : AreFitting (members_of r) (text_now s)
  fitting_at = subst (λ (q : Record). AreFitting (members_of q) (text_now s)) is (ready.fitting c)

  pub deep_at : is_carrier r ≡ true → text_now s c ≡ text_over (text_now s) (members_of r)
  deep_at carries = subst (λ (q : Record). text_now s c ≡ text_over (text_now s) (members_of q)) is (ready.deep c (ap is_carrier is ∙ carries))

-- ---- a tracked member's source is among those that its carrier names

version_among : (vs : List (ℕ × ℕ)) (b v : ℕ) → version_in vs b ≡ Some v → is_among b (map (λ v. v.0) vs) ≡ true
version_among [] b v is = absurd (let e : None ≡ Some v = is in cc)
version_among (w ∷ vs) b v is = either (nat_eq w.0 b) refl is (λ more. version_among vs b v more)
  where
    either : (z : Bool) → nat_eq w.0 b ≡ z → (if z then Some w.1 else version_in vs b) ≡ Some v → (version_in vs b ≡ Some v → is_among b (map (λ v. v.0) vs) ≡ true) → is_among b (map (λ v. v.0) (w ∷ vs)) ≡ true
    either true e is rest = let f : nat_eq b w.0 ≡ true = grind (arith, nat_tests) in rw f refl
    either false e is rest = let f : nat_eq b w.0 ≡ false = grind (arith, nat_tests) in rw f (rest is)

pub source_named : (s : Stock) → IsReady s → (c k b : ℕ) (x : Span) (mode : SpanMode) → slice_get (members_of (record_now s c)) k ≡ Some (Member.Tracked b x mode) → is_among b (sources_now s c) ≡ true
source_named s ready c k b x mode at = version_among (sources_of (record_now s c)) b (now s b) (ready.named c k b x mode at).0
