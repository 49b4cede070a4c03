-- The next record of a carrier, and the text that it has, over sources as they are now.
use Rattle.std.proofs.Common.{◌≡◌, ℕ, ◌<◌, ◌≤◌, true, Bool, List, [], length, Option, Some, None, refl, sym, ap, ◌∙◌, arith, subst}
use Rattle.std.specs.Option.{option_map_or}
use Rattle.std.specs.List.{AllByRecursion as Each}
use Rattle.std.proofs.lemmas.List.{length-map}
use Rattle.std.proofs.lemmas.List.FromFn.{length-range_with_len}
use Rattle.ed_base.specs.declared.Member.{Member}
use Rattle.ed_base.specs.Numbers.{places}
use Rattle.ed_base.specs.Spans.{end_of}
use Rattle.ed_layers.specs.CarrierStep.{slots}
use Rattle.ed_layers.specs.Cells.{text}
use Rattle.ed_layers.specs.Hidden.{flags_after, hidden_after}
use Rattle.ed_layers.specs.Records.{Record, base, elision, is_carrier, members_len, members_of, projection, sources_of, version_in}
use Rattle.ed_layers.specs.SourceStep.{SourceStep}
use Rattle.ed_layers.specs.Texts.{text_over}
use Rattle.ed_stock.specs.Stock.{Stock, buffer, count, now, record_at, record_now, text_at, text_now}
use Rattle.ed_stock.specs.Versions.{Rising, at_now, next_record, step_in}
use Rattle.ed_risen.specs.Founded.{Extends, Founded}
use Rattle.ed_risen.specs.Growing.{Grows}
use Rattle.ed_risen.specs.Rising.{EndsIn, Inside, IsSettled, Rises, StandInside}
use Rattle.ed_risen.proofs.FoundedLemmas.{each_version, each_weaker, founded_in, founded_more, founded_record}
use Rattle.ed_risen.proofs.Growth.{grown_extends, grown_last, grown_now}
use Rattle.ed_risen.proofs.Lengths.{Fits, length_text_over}
use Rattle.ed_risen.proofs.RisingLemmas.{new_length, now_is_there}
use Rattle.ed_risen.proofs.ShownRuns.{slots_len, stands}
use Rattle.ed_risen.proofs.Texts.{carrier_text, named_text, same_text}

-- it names the versions of now
pub next_sources : (t : Stock) (b : ℕ) (steps : ℕ → Option SourceStep) (given : Option Record) (r : Record) → sources_of (next_record t b steps given r) ≡ at_now t (sources_of r)
next_sources t b steps given (base text reiterated) = refl
next_sources t b steps given (projection members sources) = refl
next_sources t b steps given (elision flags source version) = refl

pub next_carries : (t : Stock) (b : ℕ) (steps : ℕ → Option SourceStep) (given : Option Record) (r : Record) → is_carrier (next_record t b steps given r) ≡ is_carrier r
next_carries t b steps given (base text reiterated) = refl
next_carries t b steps given (projection members sources) = refl
next_carries t b steps given (elision flags source version) = refl

-- ---- an elision buffer

pub length_flags_after : (b : ℕ) (m : SourceStep) (flags : List Bool) → length (flags_after b m flags) ≡ m.step.new_len
length_flags_after b m flags = length-map (places m.step.new_len) (hidden_after b m flags) ∙ length-range_with_len 0 m.step.new_len

-- its hidden places are again those of its source's text, whether that stepped or stayed
pub next_hidden : (s : Stock) (height : ℕ → ℕ) (settled : IsSettled s) (start done : List ℕ) (r : Rising) → Rises s height start done r → (b : ℕ) (flags : List Bool) (source version : ℕ) → source < count s → Inside s (elision flags source version)
    → Inside r.stock (next_record r.stock b (step_in r.moves) None (elision flags source version))
next_hidden s height settled start done r rises b flags source version there inside = (refl, as_long (step_in r.moves source) ∙ sym (new_length s height settled start done r rises source there))
  where
    as_long : (o : Option SourceStep) → length (option_map_or (λ x. flags_after b x flags) o flags) ≡ option_map_or (λ m. m.step.new_len) o (length (text_now s source))
    as_long None = inside.1
    as_long (Some m) = length_flags_after b m flags

-- ---- texts

-- a member that ends in its source ends in the text of the version that is named
pub fits_named : (t : Stock) (vs : List (ℕ × ℕ)) (m : Member) → EndsIn t vs m → Fits (named_text (record_at t) vs) m
fits_named t vs (Member.Literal units) h = tt
fits_named t vs (Member.Tracked source bounds mode) h = subst (λ n. end_of bounds ≤ length n) (sym (ap (λ o. option_map_or (text (record_at t) source) o []) h.0)) h.1

-- A buffer that has this record more, over versions that are there.
module _ (t u : Stock) (b : ℕ) (next : Record) (grows : Grows t u b next) (founded : Each (Founded (record_at t) 8) (sources_of next)) (carries : is_carrier next ≡ true) where
  extends_then : Extends (record_at t) (record_at u)
  extends_then = grown_extends t u b next grows

  named_by : (c : ℕ) (o : Option ℕ) → version_in (sources_of next) c ≡ o → option_map_or (text (record_at u) c) o [] ≡ option_map_or (text (record_at t) c) o []
  named_by c None found = refl
  named_by c (Some v) found = same_text (record_at t) (record_at u) extends_then c v (founded_more (record_at t) 8 9 (c, v) (omega arith) (each_version (Founded (record_at t) 8) (sources_of next) c v founded found))

  -- its text is what its members show of the texts that are there
  pub grown_carrier_at : text_at u b (length (buffer t b).records) ≡ text_over (named_text (record_at t) (sources_of next)) (members_of next)
  grown_carrier_at =
      carrier_text (record_at u) b (length (buffer t b).records) next carries (grown_last t u b next grows) (each_weaker (Founded (record_at t) 8) (Founded (record_at u) 8) (founded_in (record_at t) (record_at u) extends_then 8) (sources_of next) founded)
      ∙ ap (λ f. text_over f (members_of next)) (λ i c. named_by c (version_in (sources_of next) c) refl i)

  pub grown_carrier_text : text_now u b ≡ text_over (named_text (record_at t) (sources_of next)) (members_of next)
  grown_carrier_text = ap (text_at u b) (grown_now t u b next grows) ∙ grown_carrier_at

  -- and it is as long as these together
  pub grown_carrier_len : StandInside t (sources_of next) (members_of next) → length (text_now u b) ≡ members_len (members_of next)
  grown_carrier_len stand =
      ap length grown_carrier_text
      ∙ length_text_over (named_text (record_at t) (sources_of next)) (members_of next) (each_weaker (EndsIn t (sources_of next)) (Fits (named_text (record_at t) (sources_of next))) (fits_named t (sources_of next)) (members_of next) stand.ends)

  pub grown_slots_len : Inside t next → length (slots next) ≡ length (text_now u b)
  grown_slots_len inside = slots_len next ∙ sym (grown_carrier_len (stands t next inside))

-- In a stock between groups the current record of a carrier has a unit for each of its text.
pub slots_now_len : (s : Stock) → IsSettled s → (b : ℕ) → b < count s → is_carrier (record_now s b) ≡ true → length (slots (record_now s b)) ≡ length (text_now s b)
slots_now_len s settled b there carries =
    let some : 0 < length (buffer s b).records = settled.some b there in
    let at : record_at s b (now s b) ≡ Some (record_now s b) = now_is_there s b some in
    let r : (r : Record) × (record_at s b (now s b) ≡ Some r) × Each (Founded (record_at s) 8) (sources_of r) = founded_record (record_at s) 8 (b, now s b) (settled.founded b (now s b) (omega arith)) in
    let same : r.0 ≡ record_now s b = some_same r.0 (record_now s b) (sym r.1 ∙ at) in
    let vs : List (ℕ × ℕ) = sources_of (record_now s b) in
    let founded : Each (Founded (record_at s) 8) (sources_of (record_now s b)) = subst (λ x. Each (Founded (record_at s) 8) (sources_of x)) same r.2 in
    slots_len (record_now s b)
    ∙ sym (length_text_over (named_text (record_at s) vs) (members_of (record_now s b)) (each_weaker (EndsIn s vs) (Fits (named_text (record_at s) vs)) (fits_named s vs) (members_of (record_now s b)) (stands s (record_now s b) (settled.inside b there)).ends))
    ∙ sym (ap length (carrier_text (record_at s) b (now s b) (record_now s b) carries at founded))
  where
    some_same : (x y : Record) → Some x ≡ Some y → x ≡ y
    some_same x y e = cc
