-- One buffer more is done: it steps, or it stays as it is.
use Rattle.std.proofs.Common.{◌≡◌, ◌≢◌, ℕ, zero, suc, ◌-◌, ◌<◌, ◌≤◌, Bool, true, false, ◌||◌, ◌⊎◌, List, [], ◌∷◌, ◌++◌, length, map, Option, Some, None, refl, sym, ◌∙◌, ap, subst, inl, inr, arith}
use Rattle.std.specs.Prelude.{slice_get, unwrap_or, nat_eq, is_some, if◌then◌else◌}
use Rattle.std.specs.List.{AllByRecursion as Each, list_any}
use Rattle.std.specs.Option.{option_map_or}
use Rattle.std.proofs.lemmas.Bool.{cases_eq, eqb-true, eq-eqb, ne_eqb}
use Rattle.std.proofs.lemmas.Option.{slice_get_within}
use Rattle.ed_base.specs.declared.Member.{Member}
use Rattle.ed_base.specs.Numbers.{is_among}
use Rattle.ed_base.specs.Spans.{end_of}
use Rattle.ed_layers.specs.Records.{Record, base, projection, elision, sources_of}
use Rattle.ed_layers.specs.SourceStep.{SourceStep}
use Rattle.ed_stock.specs.Stock.{Stock, buffer, now, record_at, record_now, sources_now, text_at, text_now, count}
use Rattle.ed_stock.specs.Versions.{Rising, step_in, is_moved, at_now}
use Rattle.ed_risen.specs.Founded.{Founded, Extends}
use Rattle.ed_risen.specs.Growing.{Grows, AreFounded}
use Rattle.ed_risen.specs.Rising.{IsNow, EndsIn, StandInside, Inside, IsLow, IsSettled, IsRisen, HasStepped, Rises}
use Rattle.ed_risen.proofs.FoundedLemmas.{each_weaker, each_version, founded_of, founded_in, founded_more}
use Rattle.ed_risen.proofs.Lists.{each_both}
use Rattle.ed_risen.proofs.Sources.{Agree, same_mode_fault}
use Rattle.ed_risen.proofs.Texts.{same_text}
use Rattle.ed_risen.proofs.Growth.{grown_extends, grown_founded, grown_now_other, grown_record_now, grown_record_other, grown_text_now, grown_length}
use Rattle.ed_risen.proofs.Lengths.{step_in_old, step_in_push}

-- ---- small ones

or_parts : (a b : Bool) → (a || b) ≡ false → (a ≡ false) × (b ≡ false)
or_parts true b h = absurd (cc)
or_parts false b h = (refl, h)

or_cases : (a b : Bool) → (a || b) ≡ true → (a ≡ true) ⊎ (b ≡ true)
or_cases true b h = inl refl
or_cases false b h = inr h

or_right : (a b : Bool) → b ≡ true → (a || b) ≡ true
or_right true b h = refl
or_right false b h = h

is_none : {X : Type 0} (o : Option X) → is_some o ≡ false → o ≡ None
is_none None h = refl
is_none (Some x) h = absurd (cc)

none_moved : (f : ℕ → Option SourceStep) (vs : List (ℕ × ℕ)) → list_any (λ source. is_some (f source)) (map (λ v. v.0) vs) ≡ false → Each (λ v. f v.0 ≡ None) vs
none_moved f [] h = tt
none_moved f (v ∷ vs) h =
    let p : (is_some (f v.0) ≡ false) × (list_any (λ source. is_some (f source)) (map (λ v. v.0) vs) ≡ false) = or_parts (is_some (f v.0)) _ h in
    (is_none (f v.0) p.0, none_moved f vs p.1)

-- what is among the buffers isn't one that isn't
pub other_than : (done : List ℕ) (b c : ℕ) → is_among b done ≡ false → is_among c done ≡ true → c ≢ b
other_than done b c out in_ e = let f : is_among b done ≡ true = subst (λ x. is_among x done ≡ true) e in_ in absurd (cc)

-- the same records, the same current one
pub same_record_now : (s t : Stock) (b : ℕ) → (buffer t b).records ≡ (buffer s b).records → record_now t b ≡ record_now s b
same_record_now s t b e = ap (λ rs. unwrap_or (slice_get rs (length rs - 1)) (base [] 0)) e

same_now : (s t : Stock) (b : ℕ) → (buffer t b).records ≡ (buffer s b).records → now t b ≡ now s b
same_now s t b e = ap (λ rs. length rs - 1) e

get_first : {X : Type 0} (xs : List X) → 0 < length xs → (x : X) × (slice_get xs 0 ≡ Some x)
get_first [] h = absurd (omega arith)
get_first (x ∷ xs) h = (x, refl)

pub get_last : {X : Type 0} (xs : List X) → 0 < length xs → (d : X) → slice_get xs (length xs - 1) ≡ Some (unwrap_or (slice_get xs (length xs - 1)) d)
get_last xs h d = by (slice_get xs (length xs - 1)) refl
  where
    by : (o : Option _) → slice_get xs (length xs - 1) ≡ o → o ≡ Some (unwrap_or o d)
    by (Some x) is = refl
    by None is = absurd (let p : length xs ≤ length xs - 1 = none_past xs (length xs - 1) is in omega arith)
      where
        none_past : {X : Type 0} (ys : List X) (i : ℕ) → slice_get ys i ≡ None → length ys ≤ i
        none_past [] i e = omega arith
        none_past (y ∷ ys) zero e = absurd (cc)
        none_past (y ∷ ys) (suc i) e = let l : length ys ≤ i = none_past ys i e in omega arith

-- the current record is the one at the current version
pub now_is_there : (s : Stock) (b : ℕ) → 0 < length (buffer s b).records → record_at s b (now s b) ≡ Some (record_now s b)
now_is_there s b some = get_last (buffer s b).records some (base [] 0)

-- the versions that are named, each now
pub at_now_each : (t : Stock) (P : ℕ × ℕ → Type 0) (vs : List (ℕ × ℕ)) → Each (λ v. P (v.0, now t v.0)) vs → Each P (at_now t vs)
at_now_each t P [] h = tt
at_now_each t P (v ∷ vs) h = (h.0, at_now_each t P vs h.1)

at_now_names : (t : Stock) (vs : List (ℕ × ℕ)) → map (λ v. v.0) (at_now t vs) ≡ map (λ v. v.0) vs
at_now_names t [] = refl
at_now_names t (v ∷ vs) = ap (λ xs. v.0 ∷ xs) (at_now_names t vs)

-- ---- members stay inside texts that stay

-- the sources that are named have the same current version and text in both stocks
pub record Same (s t : Stock) (v : ℕ × ℕ) : Type 0 where
  pub at : now t v.0 ≡ now s v.0
  pub text : text_now t v.0 ≡ text_now s v.0

ends_in_same : (s t : Stock) (sources : List (ℕ × ℕ)) → Each (Same s t) sources → (m : Member) → EndsIn s sources m → EndsIn t sources m
ends_in_same s t sources same (Member.Literal units) h = tt
ends_in_same s t sources same (Member.Tracked source bounds mode) h =
    let v : Same s t (source, now s source) = each_version (Same s t) sources source (now s source) same h.0 in
    (h.0 ∙ ap Some (sym v.at), subst (λ xs. end_of bounds ≤ length xs) (sym v.text) h.1)

-- the lengths of the sources of members that lie inside them
agrees_same : (s t : Stock) (sources : List (ℕ × ℕ)) → Each (Same s t) sources → (m : Member) → EndsIn s sources m → Agree (λ b. length (text_now t b)) (λ b. length (text_now s b)) m
agrees_same s t sources same (Member.Literal units) h = tt
agrees_same s t sources same (Member.Tracked source bounds mode) h =
    let v : Same s t (source, now s source) = each_version (Same s t) sources source (now s source) same h.0 in
    ap length v.text

pub stand_same : (s t : Stock) (sources : List (ℕ × ℕ)) (members : List Member) → Each (Same s t) sources → StandInside s sources members → StandInside t sources members
stand_same s t sources members same h = record {
  ends = each_weaker (EndsIn s sources) (EndsIn t sources) (ends_in_same s t sources same) members h.ends;
  apart = h.apart;
  cover = same_mode_fault (λ b. length (text_now t b)) (λ b. length (text_now s b)) members (each_weaker (EndsIn s sources) (Agree (λ b. length (text_now t b)) (λ b. length (text_now s b))) (agrees_same s t sources same) members h.ends) ∙ h.cover;
}

pub inside_same : (s t : Stock) (r : Record) → Each (Same s t) (sources_of r) → Inside s r → Inside t r
inside_same s t (base text reiterated) same h = tt
inside_same s t (projection members sources) same h = stand_same s t sources members same h
inside_same s t (elision flags source version) same h = (h.0 ∙ sym same.0.at, h.1 ∙ ap length (sym same.0.text))

module _ (s : Stock) (height : ℕ → ℕ) (settled : IsSettled s) (start done : List ℕ) (r : Rising) (rises : Rises s height start done r) where
  pub some_records : (c : ℕ) → c < count s → 0 < length (buffer r.stock c).records
  some_records c there =
      let first : (x : Record) × (record_at s c 0 ≡ Some x) = get_first (buffer s c).records (settled.some c there) in
      slice_get_within (buffer r.stock c).records 0 first.0 (rises.extends c 0 first.0 first.1)

  -- what hasn't stepped has the same text
  pub unmoved_text : (c : ℕ) → c < count s → step_in r.moves c ≡ None → text_now r.stock c ≡ text_now s c
  unmoved_text c there still =
      ap (λ v. text_at r.stock c v) (same_now s r.stock c (rises.unmoved c still))
      ∙ same_text (record_at s) (record_at r.stock) rises.extends c (now s c) (settled.founded c (now s c) (let h : 0 < length (buffer s c).records = settled.some c there in omega arith))

  -- how long each text is
  pub new_length : (c : ℕ) → c < count s → length (text_now r.stock c) ≡ option_map_or (λ m. m.step.new_len) (step_in r.moves c) (length (text_now s c))
  new_length c there = by (step_in r.moves c) refl
    where
      by : (o : Option SourceStep) → step_in r.moves c ≡ o → length (text_now r.stock c) ≡ option_map_or (λ m. m.step.new_len) o (length (text_now s c))
      by None still = ap length (unmoved_text c there still)
      by (Some m) stepped = sym (rises.moved c m stepped).to

  module _ (b : ℕ) (there : b < count s) (out : is_among b done ≡ false) (closed : Each (λ v. is_among v.0 done ≡ true) (sources_of (record_now s b)))
      (low : IsLow s height b) (shallow : height b ≤ 8) where
    still : step_in r.moves b ≡ None
    still = rises.later b out

    pub same_record : record_now r.stock b ≡ record_now s b
    same_record = same_record_now s r.stock b (rises.unmoved b still)

    -- the levels of the sources
    pub levels : Each (λ v. Founded (record_at r.stock) (height b) (v.0, now r.stock v.0)) (sources_of (record_now s b))
    levels = each_both (λ v. is_among v.0 done ≡ true) (λ v. (v.0 < count s) × (height v.0 < height b)) (λ v. Founded (record_at r.stock) (height b) (v.0, now r.stock v.0))
        (λ v in_ low. let l : height v.0 < height b = low.1 in founded_more (record_at r.stock) (suc (height v.0)) (height b) (v.0, now r.stock v.0) (omega arith) (rises.risen v.0 in_).shallow)
        (sources_of (record_now s b)) closed (low)

    known_more : (c : ℕ) → is_among c (b ∷ done) ≡ true → c < count s
    known_more c h = elim (or_cases (nat_eq c b) (is_among c done) h) [
      | inl e ↦ subst (λ x. x < count s) (sym (eqb-true c b e)) there
      | inr i ↦ rises.known c i
    ]

    closed_more : (vs : List (ℕ × ℕ)) → Each (λ v. is_among v.0 done ≡ true) vs → Each (λ v. is_among v.0 (b ∷ done) ≡ true) vs
    closed_more vs h = each_weaker (λ v. is_among v.0 done ≡ true) (λ v. is_among v.0 (b ∷ done) ≡ true) (λ v i. or_right (nat_eq v.0 b) (is_among v.0 done) i) vs h

    -- ---- it stays as it is

    module _ (unmoved : is_moved r b ≡ false) where
      none_stepped : Each (λ v. step_in r.moves v.0 ≡ None) (sources_of (record_now s b))
      none_stepped = none_moved (step_in r.moves) (sources_of (record_now s b)) (subst (λ cs. list_any (λ source. is_some (step_in r.moves source)) cs ≡ false) (rises.names b (rises.started b out)) unmoved)

      sources_same : Each (Same s r.stock) (sources_of (record_now s b))
      sources_same = each_both (λ v. step_in r.moves v.0 ≡ None) (λ v. (v.0 < count s) × (height v.0 < height b)) (Same s r.stock)
          (λ v rests low. record { at = same_now s r.stock v.0 (rises.unmoved v.0 rests); text = unmoved_text v.0 low.0 rests })
          (sources_of (record_now s b)) none_stepped (low)

      current_still : Each (IsNow r.stock) (sources_of (record_now s b))
      current_still = each_both (Same s r.stock) (IsNow s) (IsNow r.stock) (λ v same is. is ∙ sym same.at) (sources_of (record_now s b)) sources_same (settled.current b there)

      risen_still : IsRisen r.stock height (b ∷ done) b
      risen_still = record {
        closed = rw same_record (closed_more (sources_of (record_now s b)) closed);
        current = rw same_record current_still;
        shallow = founded_of (record_at r.stock) (height b) (b, now r.stock b) (record_now r.stock b) (now_is_there r.stock b (some_records b there))
            (rw same_record (each_both (λ v. Founded (record_at r.stock) (height b) (v.0, now r.stock v.0)) (IsNow r.stock) (Founded (record_at r.stock) (height b))
            (λ v f is. subst (λ w. Founded (record_at r.stock) (height b) (v.0, w)) (sym is) f) (sources_of (record_now s b)) levels current_still));
        inside = rw same_record (inside_same s r.stock (record_now s b) sources_same (settled.inside b there));
      }

      pub stays : Rises s height start (b ∷ done) r
      stays = record {
        same_count = rises.same_count;
        extends = rises.extends;
        founded = rises.founded;
        names = rises.names;
        started = λ c h. rises.started c ((or_parts (nat_eq c b) (is_among c done) h).1);
        unmoved = rises.unmoved;
        moved = rises.moved;
        known = known_more;
        later = λ c h. rises.later c ((or_parts (nat_eq c b) (is_among c done) h).1);
        risen = λ c h. elim (or_cases (nat_eq c b) (is_among c done) h) [
          | inl e ↦ subst (IsRisen r.stock height (b ∷ done)) (sym (eqb-true c b e)) risen_still
          | inr i ↦ (let was : IsRisen r.stock height done c = rises.risen c i in
              record { closed = closed_more (sources_of (record_now r.stock c)) was.closed; current = was.current; shallow = was.shallow; inside = was.inside })
        ];
      }

    -- ---- it steps

    module _ (next : Record) (closed_next : Each (λ v. is_among v.0 done ≡ true) (sources_of next)) (current_next : Each (IsNow r.stock) (sources_of next)) (levels_next : Each (Founded (record_at r.stock) (height b)) (sources_of next))
        (names_next : map (λ v. v.0) (sources_of next) ≡ sources_now s b) (inside_next : Inside r.stock next) (m : SourceStep) (u : Stock)
        (grows : Grows r.stock u b next) (same_count : count u ≡ count r.stock) (from : m.step.old_len ≡ length (text_now s b)) (to : m.step.new_len ≡ length (text_now u b)) where
      abbrev after : Rising
      after = record { stock = u; moves = r.moves ++ (b, m) ∷ [] }

      extends_here : Extends (record_at r.stock) (record_at u)
      extends_here = grown_extends r.stock u b next grows

      founded_to : AreFounded u
      founded_to = grown_founded r.stock u b next grows rises.founded (each_weaker _ _ (λ v f. founded_more (record_at r.stock) (height b) 8 v (shallow) f) (sources_of next) levels_next)

      -- what is done stays as it is
      same_of : (v : ℕ × ℕ) → is_among v.0 done ≡ true → Same r.stock u v
      same_of v i = record {
        at = grown_now_other r.stock u b next grows v.0 (other_than done b v.0 out i);
        text = grown_text_now r.stock u b next grows rises.founded v.0 (other_than done b v.0 out i) (some_records v.0 (rises.known v.0 i));
      }

      now_after : (vs : List (ℕ × ℕ)) → Each (λ v. is_among v.0 done ≡ true) vs → Each (Same r.stock u) vs
      now_after vs h = each_weaker (λ v. is_among v.0 done ≡ true) (Same r.stock u) same_of vs h

      risen_here : IsRisen u height (b ∷ done) b
      risen_here =
          let record_is : record_now u b ≡ next = grown_record_now r.stock u b next grows in
          let levels_now : Each (Founded (record_at u) (height b)) (sources_of next) = each_weaker _ _ (λ v f. founded_in (record_at r.stock) (record_at u) extends_here (height b) v f) (sources_of next) levels_next in
          record {
            closed = rw record_is (closed_more (sources_of next) closed_next);
            current = rw record_is (each_both (Same r.stock u) (IsNow r.stock) (IsNow u) (λ v same is. is ∙ sym same.at) (sources_of next) (now_after (sources_of next) closed_next) current_next);
            shallow = founded_of (record_at u) (height b) (b, now u b) (record_now u b)
                (now_is_there u b (let l : length (buffer u b).records ≡ suc (length (buffer r.stock b).records) = grown_length r.stock u b next grows in omega arith)) (rw record_is levels_now);
            inside = rw record_is (inside_same r.stock u next (now_after (sources_of next) closed_next) inside_next);
          }

      risen_other : (c : ℕ) → is_among c done ≡ true → IsRisen u height (b ∷ done) c
      risen_other c i =
          let was : IsRisen r.stock height done c = rises.risen c i in
          let ne : c ≢ b = other_than done b c out i in
          let record_is : record_now u c ≡ record_now r.stock c = grown_record_other r.stock u b next grows c ne in
          let sames : Each (Same r.stock u) (sources_of (record_now r.stock c)) = now_after (sources_of (record_now r.stock c)) was.closed in
          record {
            closed = rw record_is (closed_more (sources_of (record_now r.stock c)) was.closed);
            current = rw record_is (each_both (Same r.stock u) (IsNow r.stock) (IsNow u) (λ v same is. is ∙ sym same.at) (sources_of (record_now r.stock c)) sames was.current);
            shallow = subst (λ w. Founded (record_at u) (suc (height c)) (c, w)) (sym (grown_now_other r.stock u b next grows c ne)) (founded_in (record_at r.stock) (record_at u) extends_here (suc (height c)) (c, now r.stock c) was.shallow);
            inside = rw record_is (inside_same r.stock u (record_now r.stock c) sames was.inside);
          }

      stepped_here : HasStepped s u b m
      stepped_here = record {
        there = there;
        longer = grown_length r.stock u b next grows ∙ ap (λ rs. suc (length rs)) (rises.unmoved b still);
        from = from;
        to = to;
      }

      stepped_other : (c : ℕ) (n : SourceStep) → step_in r.moves c ≡ Some n → HasStepped s u c n
      stepped_other c n stepped =
          let was : HasStepped s r.stock c n = rises.moved c n stepped in
          let ne : c ≢ b = λ e. (let f : step_in r.moves c ≡ None = subst (λ x. step_in r.moves x ≡ None) (sym e) still in absurd (cc)) in
          record {
            there = was.there;
            longer = ap length (grows.others c ne) ∙ was.longer;
            from = was.from;
            to = was.to ∙ ap length (sym (grown_text_now r.stock u b next grows rises.founded c ne (some_records c was.there)));
          }

      moved_after : (c : ℕ) (n : SourceStep) (o : Option SourceStep) → step_in r.moves c ≡ o → step_in after.moves c ≡ Some n → HasStepped s u c n
      moved_after c n (Some x) was h =
          let e : x ≡ n = some_same x n (sym (step_in_old r.moves b c m x was) ∙ h) in
          subst (HasStepped s u c) e (stepped_other c x was)
        where
          some_same : (x y : SourceStep) → Some x ≡ Some y → x ≡ y
          some_same x y h = cc
      moved_after c n None was h = by (nat_eq b c) refl (sym (step_in_push r.moves b c m was) ∙ h)
        where
          by : (q : Bool) → nat_eq b c ≡ q → (if q then Some m else None) ≡ Some n → HasStepped s u c n
          by true q h = let e : m ≡ n = cc in subst (HasStepped s u c) e (subst (λ x. HasStepped s u x m) (eqb-true b c q) stepped_here)
          by false q h = absurd (cc)

      later_after : (c : ℕ) → is_among c (b ∷ done) ≡ false → step_in after.moves c ≡ None
      later_after c h =
          let p : (nat_eq c b ≡ false) × (is_among c done ≡ false) = or_parts (nat_eq c b) (is_among c done) h in
          step_in_push r.moves b c m (rises.later c p.1) ∙ ap (λ q. if q then Some m else None) (turned b c p.0)
        where
          turned : (x y : ℕ) → nat_eq y x ≡ false → nat_eq x y ≡ false
          turned x y f = ne_eqb x y (λ e. let g : nat_eq y x ≡ true = eq-eqb y x (sym e) in absurd (cc))

      unmoved_after : (c : ℕ) → step_in after.moves c ≡ None → (buffer u c).records ≡ (buffer s c).records
      unmoved_after c h = by (step_in r.moves c) refl
        where
          by : (o : Option SourceStep) → step_in r.moves c ≡ o → (buffer u c).records ≡ (buffer s c).records
          by (Some x) was = absurd (let f : step_in after.moves c ≡ Some x = step_in_old r.moves b c m x was in cc)
          by None was = grows.others c (λ e. let f : step_in after.moves c ≡ Some m = step_in_push r.moves b c m was ∙ ap (λ q. if q then Some m else None) (eq-eqb b c (sym e)) in absurd (cc)) ∙ rises.unmoved c was

      names_after : (c : ℕ) → is_among c start ≡ false → sources_now u c ≡ sources_now s c
      names_after c h = elim (cases_eq c b) [
        | inl e ↦ subst (λ x. sources_now u x ≡ sources_now s x) (sym e)
            (ap (λ x. map (λ v. v.0) (sources_of x)) (grown_record_now r.stock u b next grows) ∙ names_next)
        | inr ne ↦ ap (λ x. map (λ v. v.0) (sources_of x)) (grown_record_other r.stock u b next grows c ne) ∙ rises.names c h
      ]

      steps_to : Rises s height start (b ∷ done) after
      steps_to = record {
        same_count = same_count ∙ rises.same_count;
        extends = λ c v x h. extends_here c v x (rises.extends c v x h);
        founded = founded_to;
        names = names_after;
        started = λ c h. rises.started c ((or_parts (nat_eq c b) (is_among c done) h).1);
        unmoved = unmoved_after;
        moved = λ c n h. moved_after c n (step_in r.moves c) refl h;
        known = known_more;
        later = later_after;
        risen = λ c h. elim (or_cases (nat_eq c b) (is_among c done) h) [
          | inl e ↦ subst (IsRisen u height (b ∷ done)) (sym (eqb-true c b e)) risen_here
          | inr i ↦ risen_other c i
        ];
      }

    -- a carrier, over its sources as they are now

    module _ (next : Record) (names_are : sources_of next ≡ at_now r.stock (sources_of (record_now s b))) (m : SourceStep) (u : Stock) (grows : Grows r.stock u b next) (same_count : count u ≡ count r.stock)
        (from : m.step.old_len ≡ length (text_now s b)) (to : m.step.new_len ≡ length (text_now u b)) (new_inside : Inside r.stock next) where
      abbrev named : List (ℕ × ℕ)
      named = sources_of (record_now s b)

      closed_now : Each (λ v. is_among v.0 done ≡ true) (sources_of next)
      closed_now = subst (Each (λ v. is_among v.0 done ≡ true)) (sym names_are) (at_now_each r.stock (λ v. is_among v.0 done ≡ true) named closed)

      current_now : Each (IsNow r.stock) (sources_of next)
      current_now = subst (Each (IsNow r.stock)) (sym names_are) (at_now_each r.stock (IsNow r.stock) named (each_weaker (λ v. is_among v.0 done ≡ true) _ (λ v i. refl) named closed))

      levels_now : Each (Founded (record_at r.stock) (height b)) (sources_of next)
      levels_now = subst (Each (Founded (record_at r.stock) (height b))) (sym names_are) (at_now_each r.stock (Founded (record_at r.stock) (height b)) named levels)

      names_now : map (λ v. v.0) (sources_of next) ≡ sources_now s b
      names_now = ap (map (λ v. v.0)) names_are ∙ at_now_names r.stock named

      pub carrier_founded : AreFounded u
      carrier_founded = founded_to next closed_now current_now levels_now names_now new_inside m u grows same_count from to

      pub carrier_steps : Rises s height start (b ∷ done) (record { stock = u; moves = r.moves ++ (b, m) ∷ [] })
      carrier_steps = steps_to next closed_now current_now levels_now names_now new_inside m u grows same_count from to

    -- so a projection

    module _ (members : List Member) (sources : List (ℕ × ℕ)) (is : record_now s b ≡ projection members sources) (new : List Member) (m : SourceStep) (u : Stock)
        (grows : Grows r.stock u b (projection new (at_now r.stock sources))) (same_count : count u ≡ count r.stock)
        (from : m.step.old_len ≡ length (text_now s b)) (to : m.step.new_len ≡ length (text_now u b)) (new_inside : StandInside r.stock (at_now r.stock sources) new) where
      names_of : at_now r.stock sources ≡ at_now r.stock (sources_of (record_now s b))
      names_of = ap (λ x. at_now r.stock (sources_of x)) (sym is)

      pub founded_here : AreFounded u
      founded_here = carrier_founded (projection new (at_now r.stock sources)) names_of m u grows same_count from to new_inside

      pub steps : Rises s height start (b ∷ done) (record { stock = u; moves = r.moves ++ (b, m) ∷ [] })
      steps = carrier_steps (projection new (at_now r.stock sources)) names_of m u grows same_count from to new_inside

  -- a base, which stands on no buffer

  pub lands : (b : ℕ) → b < count s → is_among b done ≡ false → (shallow : height b ≤ 8) → sources_of (record_now s b) ≡ [] → (text : List ℕ) (reiterated : ℕ) (m : SourceStep) (u : Stock) → Grows r.stock u b (base text reiterated) → count u ≡ count r.stock
      → m.step.old_len ≡ length (text_now s b) → m.step.new_len ≡ length (text_now u b) → Rises s height start (b ∷ done) (record { stock = u; moves = r.moves ++ (b, m) ∷ [] })
  lands b there out shallow none text reiterated m u grows same_count from to =
      steps_to b there out (subst (Each (λ v. is_among v.0 done ≡ true)) (sym none) tt) (subst (Each (λ v. (v.0 < count s) × (height v.0 < height b))) (sym none) tt) shallow (base text reiterated) tt tt tt (ap (map (λ v. v.0)) (sym none)) tt m u grows same_count from to
