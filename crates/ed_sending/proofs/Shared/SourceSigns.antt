-- What is kept or has a trail, of a buffer's new text, stands there as the pieces that arrived have it. Other carriers may send to the same source.
use Rattle.std.proofs.Common.{◌≡◌, ℕ, zero, suc, ◌+◌, ◌-◌, ◌≤◌, Bool, true, false, ◌&&◌, ◌||◌, List, [], ◌∷◌, length, map, filter, Option, Some, None, inl, inr, refl, sym, ap, ◌∙◌, arith, subst, if◌then◌else◌}
use Rattle.std.specs.Prelude.{nat_eq, slice_get, find, option_map, option_and_then, unwrap_or}
use Rattle.std.specs.Option.{option_map_or}
use Rattle.std.specs.List.{range_with_len}
use Rattle.std.proofs.lemmas.Bool.{cases_lt}
use Rattle.std.proofs.lemmas.Bool.Decides.{nat_tests}
use Rattle.ed_base.specs.declared.edit.Span.{Span}
use Rattle.ed_base.specs.declared.piece.Piece.{Piece}
use Rattle.ed_base.specs.Spans.{end_of, holds_place}
use Rattle.ed_base.specs.Step.{pairs_from}
use Rattle.ed_layers.specs.SourceStep.{SourceStep, trail_at, ends_with, trail_above, without_last, kept_from}
use Rattle.ed_sending.proofs.Lists.SortedParts.{Each}
use Rattle.ed_sending.proofs.Texts.FullText.{Full, old_units, full_text, held_by, kept_at, get_map}
use Rattle.ed_sending.proofs.Texts.FilteredText.{passing, full_passing}
use Rattle.ed_sending.proofs.Members.OwnPieces.{lifted}
use Rattle.ed_sending.proofs.Carriers.SlotPlaces.{where_in}
use Rattle.ed_sending.proofs.Carriers.SlotReadings.{place_told, trail_told, LiesIn}
use Rattle.ed_sending.proofs.Carriers.ProjectionStep.{old_tells}
use Rattle.ed_sending.proofs.Carriers.NewText.{StepsBy}
use Rattle.ed_sending.proofs.Lists.Subsequences.{Sub, sub_skip, sub_trans, sub_map, sub_filter, filter_sub, filter_map_is}

-- a unit of a new text without what it is: the old place if it was kept, and its trail
abbrev pub Sign : Type 0
Sign = Option ℕ × List (ℕ × ℕ)

abbrev pub sign_of : Full → Sign
sign_of f = (f.0, f.1.1)

-- whether it was kept, or has a trail
abbrev pub is_told : Sign → Bool
is_told (Some p, way) = true
is_told (None, []) = false
is_told (None, (pair ∷ way)) = true

pub record IsSigned (s : SourceStep) (fs : List Sign) : Type 0 where
  pub new_len : s.step.new_len ≡ length fs
  pub kept : s.step.kept ≡ pairs_from 0 (map (λ f. f.0) fs)
  pub trails : s.trails ≡ map (λ f. f.1) fs

-- a buffer that didn't step keeps all
abbrev pub IsSignedBy : Option SourceStep → List ℕ → List Sign → Type 0
IsSignedBy None text fs = fs ≡ map sign_of (old_units 0 text)
IsSignedBy (Some s) text fs = IsSigned s fs

-- the step of a buffer, beside the pieces that arrived there
pub record Comes (o : Option SourceStep) (ps : List Piece) (text : List ℕ) : Type 0 where
  pub signs : List Sign
  pub signed : IsSignedBy o text signs
  pub among : Sub (filter is_told signs) (map sign_of (full_text ps text))

-- ---- a base

map_signs : {Y : Type 0} (f : Sign → Y) (fs : List Full) → map f (map sign_of fs) ≡ map (λ z. f (sign_of z)) fs
map_signs f [] = refl
map_signs f (x ∷ xs) = ap (λ z. f (sign_of x) ∷ z) (map_signs f xs)

length_signs : (fs : List Full) → length (map sign_of fs) ≡ length fs
length_signs [] = refl
length_signs (x ∷ xs) = ap (λ n. suc n) (length_signs xs)

pub base_comes : (o : Option SourceStep) (ps : List Piece) (text : List ℕ) → StepsBy o ps text → Comes o ps text
base_comes None ps text same = record { signs = map sign_of (old_units 0 text); signed = refl; among = subst (λ z. Sub (filter is_told (map sign_of (old_units 0 text))) (map sign_of z)) (sym same) (filter_sub is_told (map sign_of (old_units 0 text))) }
base_comes (Some s) ps text step = record {
  signs = map sign_of (full_text ps text);
  signed = record {
    new_len = step.new_len ∙ sym (length_signs (full_text ps text));
    kept = step.kept ∙ ap (λ z. pairs_from 0 z) (sym (map_signs (λ (f : Sign). f.0) (full_text ps text)));
    trails = step.trails ∙ sym (map_signs (λ (f : Sign). f.1) (full_text ps text));
  };
  among = filter_sub is_told (map sign_of (full_text ps text));
}

-- ---- what a step tells

get_unmap : {X Y : Type 0} (f : X → Y) (xs : List X) (q : ℕ) (y : Y) → slice_get (map f xs) q ≡ Some y → (x : X) × (slice_get xs q ≡ Some x) × (f x ≡ y)
get_unmap f [] q y is = absurd (let e : None ≡ Some y = is in cc)
get_unmap f (x ∷ xs) zero y is = (x, refl, (let e : f x ≡ y = cc in e))
get_unmap f (x ∷ xs) (suc q) y is = get_unmap f xs q y is

abbrev pub sign_at : Option SourceStep → ℕ → Sign
sign_at o q = (place_told o q, trail_told o q)

pub signs_tell : (o : Option SourceStep) (text : List ℕ) (fs : List Sign) → IsSignedBy o text fs → (q : ℕ) (f : Sign) → slice_get fs q ≡ Some f → sign_at o q ≡ f
signs_tell None text fs same q f is =
    let x : (g : Full) × (slice_get (old_units 0 text) q ≡ Some g) × (sign_of g ≡ f) = get_unmap sign_of (old_units 0 text) q f (ap (λ (z : List Sign). slice_get z q) (sym same) ∙ is) in
    let r : (x.0.0 ≡ Some (0 + q)) × (x.0.1.1 ≡ []) = old_tells 0 q text x.0 x.1 in
    let a : Some q ≡ x.0.0 = ap (λ z. Some z) (let e : q ≡ 0 + q = omega arith in e) ∙ sym r.0 in
    ap (λ z. (z, [])) a ∙ ap (λ z. (x.0.0, z)) (sym r.1) ∙ x.2
signs_tell (Some s) text fs signed q f is =
    let kept : kept_from s.step q ≡ f.0 =
    ap (λ z. option_map (λ (pair : ℕ × ℕ). pair.0) (find (λ pair. nat_eq pair.1 q) z)) signed.kept
    ∙ (let e : q ≡ 0 + q = omega arith in ap (λ z. option_map (λ (pair : ℕ × ℕ). pair.0) (find (λ pair. nat_eq pair.1 z) (pairs_from 0 (map (λ (f : Sign). f.0) fs)))) e)
    ∙ kept_at 0 q (map (λ (f : Sign). f.0) fs) f.0 (get_map (λ (f : Sign). f.0) fs q f is) in
    let trail : trail_at s q ≡ f.1 = ap (λ z. unwrap_or (slice_get z q) []) signed.trails ∙ ap (λ z. unwrap_or z []) (get_map (λ (f : Sign). f.1) fs q f is) in
    ap (λ z. (z, trail_at s q)) kept ∙ ap (λ z. (f.0, z)) trail

-- past the end nothing is kept, and nothing has a trail
kept_past : (k q : ℕ) (os : List (Option ℕ)) → k + length os ≤ q → option_map (λ (pair : ℕ × ℕ). pair.0) (find (λ pair. nat_eq pair.1 q) (pairs_from k os)) ≡ None
kept_past k q [] above = refl
kept_past k q (None ∷ os) above = kept_past (k + 1) q os (omega arith)
kept_past k q (Some p ∷ os) above =
    let e : nat_eq k q ≡ false = grind (arith, nat_tests) in
    rw e (kept_past (k + 1) q os (omega arith))

get_past : {X : Type 0} (xs : List X) (q : ℕ) → length xs ≤ q → slice_get xs q ≡ None
get_past [] q above = refl
get_past (x ∷ xs) zero above = absurd (omega arith)
get_past (x ∷ xs) (suc q) above = get_past xs q (omega arith)

length_mapped : {X Y : Type 0} (f : X → Y) (xs : List X) → length (map f xs) ≡ length xs
length_mapped f [] = refl
length_mapped f (x ∷ xs) = ap (λ n. suc n) (length_mapped f xs)

pub signs_past : (s : SourceStep) (fs : List Sign) → IsSigned s fs → (q : ℕ) → length fs ≤ q → sign_at (Some s) q ≡ (None, [])
signs_past s fs signed q above =
    let kept : kept_from s.step q ≡ None =
    ap (λ z. option_map (λ (pair : ℕ × ℕ). pair.0) (find (λ pair. nat_eq pair.1 q) z)) signed.kept
    ∙ kept_past 0 q (map (λ (f : Sign). f.0) fs) (omega (arith, length_mapped (λ (f : Sign). f.0) fs)) in
    let trail : trail_at s q ≡ [] = ap (λ z. unwrap_or (slice_get z q) []) signed.trails ∙ ap (λ z. unwrap_or z []) (get_past (map (λ (f : Sign). f.1) fs) q (omega (arith, length_mapped (λ (f : Sign). f.1) fs))) in
    ap (λ z. (z, trail_at s q)) kept ∙ ap (λ z. (None, z)) trail

-- ---- places

-- of those that pass, a part of a range, where none passes outside
pub range_sub : (test : ℕ → Bool) (a n st len : ℕ) → a ≤ st → ((q : ℕ) → a + n ≤ q → test q ≡ false) → Sub (filter test (range_with_len st len)) (filter test (range_with_len a n))
range_sub test a zero st zero above past = tt
range_sub test a zero st (suc len) above past = rw (past st (omega arith)) (range_sub test a zero (st + 1) len (omega arith) past)
range_sub test a (suc n) st zero above past = tt
range_sub test a (suc n) st (suc len) above past = elim (cases_lt a st) [
  | inl later ↦ behind (test a) (range_sub test (a + 1) n st (suc len) (omega arith) (λ q more. past q (omega arith)))
  | inr here ↦ (let e : st ≡ a = omega arith in both e (test a) refl (range_sub test (a + 1) n (st + 1) len (omega arith) (λ q more. past q (omega arith))))
]
  where
    behind : (b : Bool) → Sub (filter test (range_with_len st (suc len))) (filter test (range_with_len (a + 1) n)) → Sub (filter test (range_with_len st (suc len))) (if b then a ∷ filter test (range_with_len (a + 1) n) else filter test (range_with_len (a + 1) n))
    behind true rest = sub_skip (filter test (range_with_len st (suc len))) a (filter test (range_with_len (a + 1) n)) rest
    behind false rest = rest

    both : st ≡ a → (b : Bool) → test a ≡ b → Sub (filter test (range_with_len (st + 1) len)) (filter test (range_with_len (a + 1) n)) → Sub (if test st then st ∷ filter test (range_with_len (st + 1) len) else filter test (range_with_len (st + 1) len)) (if b then a ∷ filter test (range_with_len (a + 1) n) else filter test (range_with_len (a + 1) n))
    both e true t rest = let f : test st ≡ true = ap test e ∙ t in rw f (inl (e, rest))
    both e false t rest = let f : test st ≡ false = ap test e ∙ t in rw f rest

pub map_get : {X Y : Type 0} (h : X → Y) (g : ℕ → Y) (p : ℕ) (xs : List X) → ((d : ℕ) (x : X) → slice_get xs d ≡ Some x → h x ≡ g (p + d)) → map h xs ≡ map g (range_with_len p (length xs))
map_get h g p [] same = refl
map_get h g p (x ∷ xs) same =
    ap (λ z. z ∷ map h xs) (same 0 x refl ∙ ap g (let e : p + 0 ≡ p = omega arith in e))
    ∙ ap (λ z. g p ∷ z) (map_get h g (p + 1) xs (λ d y is. same (suc d) y is ∙ ap g (let e : p + suc d ≡ p + 1 + d = omega arith in e)))

pub map_alike : {X Y : Type 0} (f g : X → Y) (xs : List X) → ((x : X) → f x ≡ g x) → map f xs ≡ map g xs
map_alike f g [] same = refl
map_alike f g (x ∷ xs) same = ap (λ z. z ∷ map f xs) (same x) ∙ ap (λ z. g x ∷ z) (map_alike f g xs same)

-- ---- what a member shows

-- a unit of the source as the carrier has it: kept if it was in the member
abbrev pub risen : ℕ → ℕ → ℕ → Span → Sign → Sign
risen carrier k a x f = (option_and_then (where_in x a) f.0, trail_above carrier (nat_eq k) f.1)

abbrev pub holds_sign : ℕ → ℕ → Span → Sign → Bool
holds_sign carrier k x f = option_map_or (holds_place x) f.0 false || ends_with carrier (nat_eq k) f.1

-- whether the way ends with a pair of the carrier
abbrev pub ends_at : ℕ → List (ℕ × ℕ) → Bool
ends_at carrier way = ends_with carrier (λ i. true) way

pub ends_any : (carrier : ℕ) (test : ℕ → Bool) (way : List (ℕ × ℕ)) → ends_with carrier test way ≡ true → ends_at carrier way ≡ true
ends_any carrier test [] e = e
ends_any carrier test (p ∷ []) e = either (nat_eq p.0 carrier) (test p.1) e
  where
    either : (a b : Bool) → (a && b) ≡ true → (a && true) ≡ true
    either true b e = refl
    either false b e = e
ends_any carrier test (p ∷ q ∷ ps) e = ends_any carrier test (q ∷ ps) e

-- what is told of above was held and told of below
risen_held : (carrier k a : ℕ) (x : Span) (f : Sign) → is_told (risen carrier k a x f) ≡ true → (holds_sign carrier k x f ≡ true) × (is_told f ≡ true)
risen_held carrier k a x (None, way) e = by (ends_with carrier (nat_eq k) way) refl way e
  where
    by : (b : Bool) → ends_with carrier (nat_eq k) way ≡ b → (w : List (ℕ × ℕ)) → is_told (None, (if b then without_last w else [])) ≡ true → (b ≡ true) × (is_told (None, w) ≡ true)
    by true t [] e = (refl, e)
    by true t (p ∷ ps) e = (refl, refl)
    by false t w e = absurd (let z : false ≡ true = e in cc)
risen_held carrier k a x (Some o, way) e = (by (holds_place x o) (ends_with carrier (nat_eq k) way) e, refl)
  where
    by : (b c : Bool) → is_told ((if b then Some (a + (o - x.start)) else None), (if c then without_last way else [])) ≡ true → (b || c) ≡ true
    by true c e = refl
    by false true e = refl
    by false false e = absurd (let z : false ≡ true = e in cc)

-- both tests pass what the one passes
pub sub_both : {X : Type 0} (f g h : X → Bool) (xs : List X) → ((x : X) → f x ≡ true → (g x ≡ true) × (h x ≡ true)) → Sub (filter f xs) (filter g (filter h xs))
sub_both f g h [] less = tt
sub_both {X = X} f g h (x ∷ xs) less = either (f x) (h x) (g x) refl refl refl (sub_both f g h xs less)
  where
    either : (a b c : Bool) → f x ≡ a → h x ≡ b → g x ≡ c → Sub (filter f xs) (filter g (filter h xs)) → Sub (if a then x ∷ filter f xs else filter f xs) (filter g (if b then x ∷ filter h xs else filter h xs))
    either true true true p q r rest = rw r (inl (refl, rest))
    either true true false p q r rest = absurd (let e : true ≡ false = sym (less x p).0 ∙ r in cc)
    either true false c p q r rest = absurd (let e : true ≡ false = sym (less x p).1 ∙ q in cc)
    either false true true p q r rest = rw r (sub_skip (filter f xs) x (filter g (filter h xs)) rest)
    either false true false p q r rest = rw r rest
    either false false c p q r rest = rest

-- What the carrier has of a source's new text through one member is, in this order, among what that member holds of the text where the carrier's own pieces are done.
pub member_among : (carrier k a : ℕ) (x : Span) (o : Option SourceStep) (ps : List Piece) (text : List ℕ) → Comes o ps text → end_of x ≤ length text → (st len : ℕ) →
    Sub (filter is_told (map (λ q. risen carrier k a x (sign_at o q)) (range_with_len st len))) (map (risen carrier k a x) (map sign_of (filter (held_by carrier k x) (full_text (passing (ends_at carrier) ps) text))))
member_among carrier k a x o ps text comes within st len =
    let fs : List Sign = comes.signs in
    let L : Sign → Sign = risen carrier k a x in
    let G : ℕ → Sign = λ q. L (sign_at o q) in
    let H : Sign → Bool = holds_sign carrier k x in
    let all : List ℕ = range_with_len 0 (length fs) in
    let part : List ℕ = range_with_len st len in
    let one : Sub (filter (λ q. is_told (G q)) part) (filter (λ q. is_told (G q)) all) = range_sub (λ q. is_told (G q)) 0 (length fs) st len (omega arith) (λ q above. none o fs comes.signed q (omega arith)) in
    let two : Sub (filter is_told (map G part)) (filter is_told (map G all)) =
    subst (λ z. Sub z (filter is_told (map G all))) (sym (filter_map_is G is_told part))
    (subst (λ z. Sub (map G (filter (λ q. is_told (G q)) part)) z) (sym (filter_map_is G is_told all)) (sub_map G (filter (λ q. is_told (G q)) part) (filter (λ q. is_told (G q)) all) one)) in
    let same : map L fs ≡ map G all = map_get L G 0 fs (λ d f is. ap L (sym (signs_tell o text fs comes.signed d f is)) ∙ ap G (let e : d ≡ 0 + d = omega arith in e)) in
    let three : Sub (filter is_told (map L fs)) (map L (filter H (filter is_told fs))) =
    subst (λ z. Sub z (map L (filter H (filter is_told fs)))) (sym (filter_map_is L is_told fs))
    (sub_map L (filter (λ f. is_told (L f)) fs) (filter H (filter is_told fs)) (sub_both (λ f. is_told (L f)) H is_told fs (λ f t. risen_held carrier k a x f t))) in
    let four : Sub (filter H (filter is_told fs)) (filter H (map sign_of (full_text ps text))) = sub_filter H (filter is_told fs) (map sign_of (full_text ps text)) comes.among in
    let five : filter H (map sign_of (full_text ps text)) ≡ map sign_of (filter (held_by carrier k x) (full_text ps text)) = filter_map_is sign_of H (full_text ps text) in
    let six : Sub (filter (held_by carrier k x) (full_text ps text)) (filter (held_by carrier k x) (full_text (passing (ends_at carrier) ps) text)) = full_passing (held_by carrier k x) (ends_at carrier) (λ m t. ends_any carrier (nat_eq k) m.1 t) ps text in
    let seven : Sub (filter H (filter is_told fs)) (map sign_of (filter (held_by carrier k x) (full_text (passing (ends_at carrier) ps) text))) =
    sub_trans (filter H (filter is_told fs)) (map sign_of (filter (held_by carrier k x) (full_text ps text))) (map sign_of (filter (held_by carrier k x) (full_text (passing (ends_at carrier) ps) text)))
    (subst (λ z. Sub (filter H (filter is_told fs)) z) five four)
    (sub_map sign_of (filter (held_by carrier k x) (full_text ps text)) (filter (held_by carrier k x) (full_text (passing (ends_at carrier) ps) text)) six) in
    sub_trans (filter is_told (map G part)) (filter is_told (map L fs)) (map L (map sign_of (filter (held_by carrier k x) (full_text (passing (ends_at carrier) ps) text))))
    (subst (λ z. Sub (filter is_told (map G part)) (filter is_told z)) (sym same) two)
    (sub_trans (filter is_told (map L fs)) (map L (filter H (filter is_told fs))) (map L (map sign_of (filter (held_by carrier k x) (full_text (passing (ends_at carrier) ps) text))))
    three
    (sub_map L (filter H (filter is_told fs)) (map sign_of (filter (held_by carrier k x) (full_text (passing (ends_at carrier) ps) text))) seven))
  where
    length_old : (p : ℕ) (us : List ℕ) → length (old_units p us) ≡ length us
    length_old p [] = refl
    length_old p (u ∷ us) = ap (λ n. suc n) (length_old (p + 1) us)

    none : (o : Option SourceStep) (fs : List Sign) → IsSignedBy o text fs → (q : ℕ) → length fs ≤ q → is_told (risen carrier k a x (sign_at o q)) ≡ false
    none None fs same q above =
        let size : length fs ≡ length text = ap (λ (z : List Sign). length z) same ∙ length_signs (old_units 0 text) ∙ length_old 0 text in
        let out : holds_place x q ≡ false = grind (arith, nat_tests) in
        rw out refl
    none (Some s) fs signed q above = ap (λ z. is_told (risen carrier k a x z)) (signs_past s fs signed q above)

-- what the member holds, risen by both words
pub risen_lifted : (carrier k a : ℕ) (x : Span) (fs : List Full) → Each (LiesIn x) fs → map (risen carrier k a x) (map sign_of fs) ≡ map sign_of (map (lifted carrier k a x) fs)
risen_lifted carrier k a x [] all = refl
risen_lifted carrier k a x (f ∷ fs) all = ap (λ z. (z, trail_above carrier (nat_eq k) f.1.1) ∷ map (risen carrier k a x) (map sign_of fs)) (place f.0 all.0) ∙ ap (λ z. sign_of (lifted carrier k a x f) ∷ z) (risen_lifted carrier k a x fs all.1)
  where
    place : (o : Option ℕ) → ((p : ℕ) → o ≡ Some p → holds_place x p ≡ true) → option_and_then (where_in x a) o ≡ option_map (λ p. a + (p - x.start)) o
    place None lies = refl
    place (Some p) lies = rw (lies p refl) refl
