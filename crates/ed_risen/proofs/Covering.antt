-- A member that is to cover its source covers it again once the source has stepped.
use Rattle.std.proofs.Common.{◌≡◌, ℕ, ◌+◌, ◌-◌, ◌<◌, Bool, true, false, List, [], ◌∷◌, length, map, Option, Some, None, refl, sym, ◌∙◌, ap, arith}
use Rattle.std.specs.Prelude.{find, option_map, if◌then◌else◌}
use Rattle.std.specs.Option.{option_map_or}
use Rattle.std.specs.List.{AllByRecursion as Each, enumerate_from}
use Rattle.std.proofs.lemmas.Bool.{eq-eqb}
use Rattle.ed_base.specs.declared.Member.{Member}
use Rattle.ed_base.specs.declared.Refusal.{Refusal}
use Rattle.ed_base.specs.declared.Span.{Span}
use Rattle.ed_base.specs.declared.SpanMode.{SpanMode}
use Rattle.ed_layers.specs.Bounds.{member_after, members_after, new_bounds}
use Rattle.ed_layers.specs.Order.{fails_to_cover, is_inclusive, mode_fault}
use Rattle.ed_layers.specs.SourceStep.{SourceStep}
use Rattle.ed_stock.specs.Stock.{Stock, count, now, text_now}
use Rattle.ed_stock.specs.Versions.{Rising, step_in}
use Rattle.ed_risen.specs.Rising.{EndsIn, IsSettled, Rises, StandInside}
use Rattle.ed_risen.proofs.FoundedLemmas.{each_version, each_weaker}
use Rattle.ed_risen.proofs.RisingLemmas.{new_length}
use Rattle.ed_risen.proofs.Sources.{OfSource}

-- ---- none fails to cover, as each

covers_of : (f : ℕ → ℕ) (i : ℕ) (ms : List Member) → find (λ im. fails_to_cover f im.1) (enumerate_from i ms) ≡ None → Each (λ m. fails_to_cover f m ≡ false) ms
covers_of f i [] h = tt
covers_of f i (m ∷ ms) h = by (fails_to_cover f m) refl h (covers_of f (i + 1) ms)
  where
    by : (t : Bool) → fails_to_cover f m ≡ t → (if t then Some (i, m) else find (λ im. fails_to_cover f im.1) (enumerate_from (i + 1) ms)) ≡ None → (find (λ im. fails_to_cover f im.1) (enumerate_from (i + 1) ms) ≡ None → Each (λ n. fails_to_cover f n ≡ false) ms) → Each (λ n. fails_to_cover f n ≡ false) (m ∷ ms)
    by true t h more = absurd (let e : Some (i, m) ≡ None = h in cc)
    by false t h more = (t, more h)

none_found : (f : ℕ → ℕ) (ms : List Member) → mode_fault f ms ≡ None → find (λ im. fails_to_cover f im.1) (enumerate_from 0 ms) ≡ None
none_found f ms h = by (find (λ im. fails_to_cover f im.1) (enumerate_from 0 ms)) refl
  where
    by : (o : Option (ℕ × Member)) → find (λ im. fails_to_cover f im.1) (enumerate_from 0 ms) ≡ o → o ≡ None
    by None is = refl
    by (Some p) is = absurd (let e : Some (Refusal.Mode p.0) ≡ None = ap (option_map (λ im. Refusal.Mode im.0)) (sym is) ∙ h in cc)

pub each_covers : (f : ℕ → ℕ) (ms : List Member) → mode_fault f ms ≡ None → Each (λ m. fails_to_cover f m ≡ false) ms
each_covers f ms h = covers_of f 0 ms (none_found f ms h)

module _ (carrier : ℕ) (steps : ℕ → Option SourceStep) (old_len new_len : ℕ → ℕ) where
  -- how long the source of a member is now
  abbrev pub IsNewLength : ℕ → Type 0
  IsNewLength source = new_len source ≡ option_map_or (λ m. m.step.new_len) (steps source) (old_len source)

  bounds_cover : (all : List Member) (i source : ℕ) (bounds : Span) (mode : SpanMode) → IsNewLength source → fails_to_cover old_len (Member.Tracked source bounds mode) ≡ false → fails_to_cover new_len (member_after carrier steps all (i, Member.Tracked source bounds mode)) ≡ false
  unfolding new_bounds
  bounds_cover all i source bounds mode long covers = by (steps source) (is_inclusive mode) refl refl long
    where
      by : (o : Option SourceStep) (t : Bool) → steps source ≡ o → is_inclusive mode ≡ t → IsNewLength source → fails_to_cover new_len (member_after carrier steps all (i, Member.Tracked source bounds mode)) ≡ false
      by o false is exclusive long = rw exclusive refl
      by None true is inclusive long =
          let same : new_len source ≡ old_len source = long ∙ ap (λ o. option_map_or (λ m. m.step.new_len) o (old_len source)) is in
          rw (is, same) covers
      by (Some m) true is inclusive long =
          let same : new_len source ≡ m.step.new_len = long ∙ ap (λ o. option_map_or (λ m. m.step.new_len) o (old_len source)) is in
          rw (is, same, inclusive, eq-eqb (m.step.new_len - 0) m.step.new_len (let e : m.step.new_len - 0 ≡ m.step.new_len = omega arith in e)) refl

  one_covers : (all : List Member) (i : ℕ) (m : Member) → OfSource IsNewLength m → fails_to_cover old_len m ≡ false → fails_to_cover new_len (member_after carrier steps all (i, m)) ≡ false
  one_covers all i (Member.Literal units) long covers = refl
  one_covers all i (Member.Tracked source bounds mode) long covers = bounds_cover all i source bounds mode long covers

  none_fails : (all : List Member) (i j : ℕ) (ms : List Member) → Each (OfSource IsNewLength) ms → Each (λ m. fails_to_cover old_len m ≡ false) ms → find (λ im. fails_to_cover new_len im.1) (enumerate_from j (map (member_after carrier steps all) (enumerate_from i ms))) ≡ None
  none_fails all i j [] long covers = refl
  none_fails all i j (m ∷ ms) long covers = rw (one_covers all i m long.0 covers.0, none_fails all (i + 1) (j + 1) ms long.1 covers.1) refl

  pub still_cover : (members : List Member) → Each (OfSource IsNewLength) members → mode_fault old_len members ≡ None → mode_fault new_len (members_after carrier steps members) ≡ None
  still_cover members long covers = rw (none_fails members 0 0 members long (each_covers old_len members covers)) refl

-- in a stock on its way through a group, of members that stood inside their sources
module _ (s : Stock) (height : ℕ → ℕ) (settled : IsSettled s) (start done : List ℕ) (r : Rising) (rises : Rises s height start done r) (carrier : ℕ) where
  long_now : (sources : List (ℕ × ℕ)) → Each (λ v. v.0 < count s) sources → (m : Member) → EndsIn s sources m → OfSource (IsNewLength carrier (step_in r.moves) (λ c. length (text_now s c)) (λ c. length (text_now r.stock c))) m
  long_now sources there (Member.Literal units) h = tt
  long_now sources there (Member.Tracked source bounds mode) h = new_length s height settled start done r rises source (each_version (λ v. v.0 < count s) sources source (now s source) there h.0)

  pub risen_cover : (sources : List (ℕ × ℕ)) (members : List Member) → Each (λ v. v.0 < count s) sources → StandInside s sources members → mode_fault (λ c. length (text_now r.stock c)) (members_after carrier (step_in r.moves) members) ≡ None
  risen_cover sources members there h =
      still_cover carrier (step_in r.moves) (λ c. length (text_now s c)) (λ c. length (text_now r.stock c)) members
      (each_weaker (EndsIn s sources) (OfSource (IsNewLength carrier (step_in r.moves) (λ c. length (text_now s c)) (λ c. length (text_now r.stock c)))) (long_now sources there) members h.ends)
      h.cover
