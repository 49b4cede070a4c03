-- A new text whole: each unit with the old place that it was kept from, if it was, and its trail.
use Rattle.std.proofs.Common.{◌≡◌, ℕ, zero, suc, ◌+◌, ◌<◌, Bool, true, false, ◌||◌, List, [], ◌∷◌, length, map, Option, Some, None, refl, ap, ◌∙◌, arith}
use Rattle.std.specs.Prelude.{nat_eq, find, slice_get, option_map, unwrap_or}
use Rattle.std.specs.Option.{option_map_or}
use Rattle.std.specs.List.{range_with_len}
use Rattle.std.proofs.lemmas.Bool.Decides.{nat_tests}
use Rattle.ed_base.specs.declared.edit.Span.{Span}
use Rattle.ed_base.specs.declared.piece.Piece.{Piece}
use Rattle.ed_base.specs.Edit.{woven}
use Rattle.ed_base.specs.Spans.{holds_place}
use Rattle.ed_base.specs.Step.{pairs_from}
use Rattle.ed_base.proofs.NormalSteps.{woven_same}
use Rattle.ed_sending.proofs.Lists.Weaves.{woven_map}
use Rattle.ed_layers.specs.Bounds.{Placed, holds}
use Rattle.ed_layers.specs.Pieces.{put_at, gone_at, unmarked, marked_text, piece_origins}
use Rattle.ed_layers.specs.SourceStep.{SourceStep, trail_at, ends_with, kept_from}

abbrev pub Full : Type 0
Full = Option ℕ × (ℕ × List (ℕ × ℕ))

-- the units of an old text from place p on
abbrev pub old_units : ℕ → List ℕ → List Full
old_units p [] = []
old_units p (u ∷ us) = (Some p, (u, [])) ∷ old_units (p + 1) us

abbrev pub put_in : ℕ × List (ℕ × ℕ) → Full
put_in m = (None, m)

abbrev pub full_text : List Piece → List ℕ → List Full
full_text pieces text = woven (λ g. map put_in (put_at pieces g)) (gone_at pieces) 0 (old_units 0 text)

abbrev pub origin_of : Full → Option ℕ
origin_of f = f.0

abbrev pub marked_of : Full → ℕ × List (ℕ × ℕ)
marked_of f = f.1

-- the step of a source that leads to this
pub record IsStepTo (s : SourceStep) (fs : List Full) : Type 0 where
  pub new_len : s.step.new_len ≡ length fs
  pub kept : s.step.kept ≡ pairs_from 0 (map (λ f. f.0) fs)
  pub trails : s.trails ≡ map (λ f. f.1.1) fs

-- whether the member holds the unit
abbrev pub held_by : ℕ → ℕ → Span → Full → Bool
held_by carrier i bounds f = option_map_or (holds_place bounds) f.0 false || ends_with carrier (nat_eq i) f.1.1

-- the old place of the kept unit at a new place, read off the origins
pub kept_before : (k q : ℕ) (os : List (Option ℕ)) → q < k → option_map (λ (pair : ℕ × ℕ). pair.0) (find (λ pair. nat_eq pair.1 q) (pairs_from k os)) ≡ None
kept_before k q [] below = refl
kept_before k q (None ∷ os) below = kept_before (k + 1) q os (omega arith)
kept_before k q (Some p ∷ os) below =
    let e : nat_eq k q ≡ false = grind (arith, nat_tests) in
    rw e (kept_before (k + 1) q os (omega arith))

pub kept_at : (k d : ℕ) (os : List (Option ℕ)) (o : Option ℕ) → slice_get os d ≡ Some o → option_map (λ (pair : ℕ × ℕ). pair.0) (find (λ pair. nat_eq pair.1 (k + d)) (pairs_from k os)) ≡ o
kept_at k zero [] o is = cc
kept_at k (suc d) [] o is = cc
kept_at k zero (None ∷ os) o is = kept_before (k + 1) (k + 0) os (omega arith) ∙ cc
kept_at k zero (Some p ∷ os) o is =
    let e : nat_eq k (k + 0) ≡ true = grind (arith, nat_tests) in
    rw e cc
kept_at k (suc d) (None ∷ os) o is = let e : k + suc d ≡ (k + 1) + d = omega arith in ap (λ z. option_map (λ (pair : ℕ × ℕ). pair.0) (find (λ pair. nat_eq pair.1 z) (pairs_from (k + 1) os))) e ∙ kept_at (k + 1) d os o is
kept_at k (suc d) (Some p ∷ os) o is =
    let e : k + suc d ≡ (k + 1) + d = omega arith in
    let f : nat_eq k (k + suc d) ≡ false = grind (arith, nat_tests) in
    rw f (ap (λ z. option_map (λ (pair : ℕ × ℕ). pair.0) (find (λ pair. nat_eq pair.1 z) (pairs_from (k + 1) os))) e ∙ kept_at (k + 1) d os o is)

-- ---- what a full text says

map_units : (p : ℕ) (text : List ℕ) → map (λ (f : Full). f.1) (old_units p text) ≡ map unmarked text
map_units p [] = refl
map_units p (u ∷ us) = ap (λ z. (u, []) ∷ z) (map_units (p + 1) us)

map_places : (p : ℕ) (text : List ℕ) → map (λ (f : Full). f.0) (old_units p text) ≡ map (λ q. Some q) (range_with_len p (length text))
map_places p [] = refl
map_places p (u ∷ us) = ap (λ z. Some p ∷ z) (map_places (p + 1) us)

map_put : (ms : List (ℕ × List (ℕ × ℕ))) → map (λ (f : Full). f.1) (map put_in ms) ≡ ms
map_put [] = refl
map_put (m ∷ ms) = ap (λ z. m ∷ z) (map_put ms)

map_none : (ms : List (ℕ × List (ℕ × ℕ))) → map (λ (f : Full). f.0) (map put_in ms) ≡ map (λ u. None) ms
map_none [] = refl
map_none (m ∷ ms) = ap (λ z. None ∷ z) (map_none ms)

pub full_marked : (pieces : List Piece) (text : List ℕ) → map (λ (f : Full). f.1) (full_text pieces text) ≡ marked_text pieces text
full_marked pieces text =
    woven_map (λ (f : Full). f.1) (λ g. map put_in (put_at pieces g)) (gone_at pieces) 0 (old_units 0 text)
    ∙ ap (λ z. woven (λ q. map (λ (f : Full). f.1) (map put_in (put_at pieces q))) (gone_at pieces) 0 z) (map_units 0 text)
    ∙ woven_same (λ q. map (λ (f : Full). f.1) (map put_in (put_at pieces q))) (put_at pieces) (gone_at pieces) (gone_at pieces) 0 (map unmarked text) (λ q above. map_put (put_at pieces q)) (λ q above. refl)

pub full_origins : (pieces : List Piece) (text : List ℕ) → map (λ (f : Full). f.0) (full_text pieces text) ≡ piece_origins pieces (length text)
full_origins pieces text =
    woven_map (λ (f : Full). f.0) (λ g. map put_in (put_at pieces g)) (gone_at pieces) 0 (old_units 0 text)
    ∙ ap (λ z. woven (λ q. map (λ (f : Full). f.0) (map put_in (put_at pieces q))) (gone_at pieces) 0 z) (map_places 0 text)
    ∙ woven_same (λ q. map (λ (f : Full). f.0) (map put_in (put_at pieces q))) (λ q. map (λ u. None) (put_at pieces q)) (gone_at pieces) (gone_at pieces) 0 (map (λ q. Some q) (range_with_len 0 (length text))) (λ q above. map_none (put_at pieces q)) (λ q above. refl)

-- ---- what a member holds of it

pub get_map : {X Y : Type 0} (f : X → Y) (xs : List X) (q : ℕ) (x : X) → slice_get xs q ≡ Some x → slice_get (map f xs) q ≡ Some (f x)
get_map f [] q x is = cc
get_map f (y ∷ ys) zero x is = let e : y ≡ x = cc in ap (λ z. Some (f z)) e
get_map f (y ∷ ys) (suc q) x is = get_map f ys q x is

pub kept_from_is : (s : SourceStep) (fs : List Full) (q : ℕ) (f : Full) → IsStepTo s fs → slice_get fs q ≡ Some f → kept_from s.step q ≡ f.0
kept_from_is s fs q f step is =
    ap (λ z. option_map (λ (pair : ℕ × ℕ). pair.0) (find (λ pair. nat_eq pair.1 q) z)) step.kept
    ∙ (let e : q ≡ 0 + q = omega arith in ap (λ z. option_map (λ (pair : ℕ × ℕ). pair.0) (find (λ pair. nat_eq pair.1 z) (pairs_from 0 (map (λ (f : Full). f.0) fs)))) e)
    ∙ kept_at 0 q (map (λ (f : Full). f.0) fs) f.0 (get_map (λ (f : Full). f.0) fs q f is)

pub trail_at_is : (s : SourceStep) (fs : List Full) (q : ℕ) (f : Full) → IsStepTo s fs → slice_get fs q ≡ Some f → trail_at s q ≡ f.1.1
trail_at_is s fs q f step is =
    ap (λ z. unwrap_or (slice_get z q) []) step.trails ∙ ap (λ z. unwrap_or z []) (get_map (λ (f : Full). f.1.1) fs q f is)

pub holds_is : (carrier : ℕ) (s : SourceStep) (m : Placed) (fs : List Full) (q : ℕ) (f : Full) → IsStepTo s fs → slice_get fs q ≡ Some f → holds carrier s m q ≡ held_by carrier m.index m.bounds f
holds_is carrier s m fs q f step is =
    ap (λ z. option_map_or (holds_place m.bounds) z false || ends_with carrier (nat_eq m.index) (trail_at s q)) (kept_from_is s fs q f step is)
    ∙ ap (λ z. option_map_or (holds_place m.bounds) f.0 false || ends_with carrier (nat_eq m.index) z) (trail_at_is s fs q f step is)
