-- The ways of the units that components put in, place by place.
use Rattle.std.proofs.Common.{◌≡◌, ℕ, zero, suc, ◌+◌, ◌-◌, ◌<◌, ◌≤◌, Bool, true, false, List, [], ◌∷◌, ◌++◌, length, map, take, drop, replicate, refl, sym, ap, ◌∙◌, arith, length-append, append_assoc, inl, inr}
use Rattle.std.specs.Prelude.{nat_le, nat_lt}
use Rattle.std.proofs.Common.{get_or, if◌then◌else◌}
use Rattle.std.specs.List.{AllWithin, range_with_len}
use Rattle.std.specs.List.Sorted.{IsNonDecreasingBy}
use Rattle.std.proofs.lemmas.Bool.{cases_Bool}
use Rattle.std.proofs.lemmas.Bool.Decides.{nat_tests}
use Rattle.std.proofs.lemmas.List.{append-nil, map-append, length-map, length-replicate}
use Rattle.ed_base.specs.ChangeList.{ChangeList, AreNormalFrom, applied, change_list, step}
use Rattle.ed_base.specs.Spans.{end_of, holds_place}
use Rattle.ed_base.proofs.NormalLists.{normal_earlier}
use Rattle.ed_layers.specs.Pieces.{Component, marked_text, step_of_pieces, arrived, unmarked}
use Rattle.ed_layers.specs.Sending.{Run, is_same_way, onto_runs, trail_runs}
use Rattle.ed_base.specs.declared.piece.Piece.{Piece}
use Rattle.ed_pieces.specs.Runs.{run_units, text_of}
use Rattle.ed_pieces.specs.Trails.{AreRising, trail_in, trails_in}
use Rattle.ed_pieces.specs.Ways.{change_of, way_if, ways_of, ways_from}
use Rattle.ed_pieces.specs.declared.trails.TrailRun.{TrailRun}
use Rattle.ed_pieces.proofs.Parts.{Units}
use Rattle.ed_pieces.proofs.Cutting.{same_way_is}
use Rattle.ed_pieces.proofs.Changing.{laid, listed, marked_laid, arrived_normal, changes_arrived, step_arrived, text_arrived}

abbrev Trail : Type 0
Trail = List (ℕ × ℕ)

-- ---- places in a row

range_two : (a m k : ℕ) → range_with_len a (m + k) ≡ range_with_len a m ++ range_with_len (a + m) k
range_two a zero k = ap (range_with_len a) (let z : 0 + k ≡ k = omega arith in z) ∙ ap (λ z. range_with_len z k) (let e : a ≡ a + 0 = omega arith in e)
range_two a (suc m) k = ap (range_with_len a) (let s : suc m + k ≡ suc (m + k) = omega arith in s) ∙ ap (λ z. a ∷ z) (range_two (a + 1) m k ∙ ap (λ z. range_with_len (a + 1) m ++ range_with_len z k) (let e : a + 1 + m ≡ a + suc m = omega arith in e))

map_same : {Y : Type 0} (f g : ℕ → Y) (a k : ℕ) → ((q : ℕ) → a ≤ q → q < a + k → f q ≡ g q) → map f (range_with_len a k) ≡ map g (range_with_len a k)
map_same f g a zero h = refl
map_same f g a (suc k) h = rw (h a (omega arith) (omega arith), map_same f g (a + 1) k (λ q l m. h q (omega arith) (omega arith))) refl

map_one : {Y : Type 0} (f : ℕ → Y) (y : Y) (a k : ℕ) → ((q : ℕ) → a ≤ q → q < a + k → f q ≡ y) → map f (range_with_len a k) ≡ replicate k y
map_one f y a zero h = refl
map_one f y a (suc k) h = rw (h a (omega arith) (omega arith), map_one f y (a + 1) k (λ q l m. h q (omega arith) (omega arith))) refl

-- ---- one way at a place

-- each ends at this place or before
abbrev EndBy : ℕ → List TrailRun → Type 0
EndBy p [] = Unit {0}
EndBy p (w ∷ ws) = (end_of w.span ≤ p) × EndBy p ws

end_later : (p q : ℕ) (ws : List TrailRun) → p ≤ q → EndBy p ws → EndBy q ws
end_later p q [] l h = tt
end_later p q (w ∷ ws) l h = (omega (arith, h.0), end_later p q ws l h.1)

rising_earlier : (p q : ℕ) (ws : List TrailRun) → p ≤ q → AreRising q ws → AreRising p ws
rising_earlier p q [] l h = tt
rising_earlier p q (w ∷ ws) l h = (omega (arith, h.0), h.1)

-- before the first there is none
none_before : (p q : ℕ) (ws : List TrailRun) → AreRising p ws → q < p → trail_in ws q ≡ []
none_before p q [] h l = refl
none_before p q (w ∷ ws) h l =
    let f : nat_le w.span.start q ≡ false = grind (arith, nat_tests, h.0) in
    rw f (none_before (end_of w.span) q ws h.1 (omega (arith, h.0)))

-- those behind don't matter for a place before them, nor those before for a place behind
front : (p q : ℕ) (vs ws : List TrailRun) → AreRising p ws → q < p → trail_in (vs ++ ws) q ≡ trail_in vs q
front p q [] ws h l = none_before p q ws h l
front p q (v ∷ vs) ws h l = elim (cases_Bool (holds_place v.span q)) [
  | inl t ↦ rw t refl
  | inr f ↦ rw f (front p q vs ws h l)
]

behind : (p q : ℕ) (vs ws : List TrailRun) → EndBy p vs → p ≤ q → trail_in (vs ++ ws) q ≡ trail_in ws q
behind p q [] ws h l = refl
behind p q (v ∷ vs) ws h l =
    let f : nat_lt q (end_of v.span) ≡ false = grind (arith, nat_tests, h.0) in
    let g : holds_place v.span q ≡ false = elim (cases_Bool (nat_le v.span.start q)) [ inl t ↦ rw (t, f) refl | inr e ↦ rw e refl ] in
    rw g (behind p q vs ws h.1 l)

-- ---- by a binary search

later_start : (p : ℕ) (ws : List TrailRun) (k : ℕ) (d : TrailRun) → AreRising p ws → k < length ws → p ≤ (get_or ws k d).span.start
later_start p [] k d h l = absurd (omega arith)
later_start p (w ∷ ws) zero d h l = h.0
later_start p (w ∷ ws) (suc k) d h l = omega (arith, h.0, later_start (end_of w.span) ws k d h.1 (omega arith))

pub rising_starts : (p : ℕ) (ws : List TrailRun) → AreRising p ws → IsNonDecreasingBy (λ w. w.span.start) ws
rising_starts p [] h i j d le lt = absurd (omega arith)
rising_starts p (w ∷ ws) h zero zero d le lt = omega arith
rising_starts p (w ∷ ws) h zero (suc j) d le lt = omega (arith, later_start (end_of w.span) ws j d h.1 (omega arith))
rising_starts p (w ∷ ws) h (suc i) zero d le lt = absurd (omega arith)
rising_starts p (w ∷ ws) h (suc i) (suc j) d le lt = rising_starts (end_of w.span) ws h.1 i j d (omega arith) (omega arith)

pub none_begun : (p q : ℕ) (ws : List TrailRun) → AreRising p ws → AllWithin (λ w. nat_le w.span.start q ≡ false) ws 0 (length ws) → trail_in ws q ≡ []
none_begun p q [] h after = refl
none_begun p q (w ∷ ws) h after = rw (after 0 w (omega arith) (omega arith)) (none_begun (end_of w.span) q ws h.1 (λ k d l m. after (suc k) d (omega arith) (omega arith)))

-- of those that have begun only the last one matters
pub last_begun : (p q : ℕ) (ws : List TrailRun) (k : ℕ) (d : TrailRun) → AreRising p ws → k < length ws → AllWithin (λ w. nat_le w.span.start q ≡ true) ws 0 (suc k) → AllWithin (λ w. nat_le w.span.start q ≡ false) ws (suc k) (length ws) → trail_in ws q ≡ (if nat_lt q (end_of (get_or ws k d).span) then (get_or ws k d).trail else [])
last_begun p q [] k d h l before after = absurd (omega arith)
last_begun p q (w ∷ ws) zero d h l before after = elim (cases_Bool (nat_lt q (end_of w.span))) [
  | inl t ↦ rw (before 0 d (omega arith) (omega arith), t) refl
  | inr f ↦ rw (before 0 d (omega arith) (omega arith), f) (none_begun (end_of w.span) q ws h.1 (λ k d l m. after (suc k) d (omega arith) (omega arith)))
]
last_begun p q (w ∷ ws) (suc k) d h l before after =
    let next : nat_le (get_or ws k d).span.start q ≡ true = before (suc k) d (omega arith) (omega arith) in
    let low : end_of w.span ≤ (get_or ws k d).span.start = later_start (end_of w.span) ws k d h.1 (omega arith) in
    let f : nat_lt q (end_of w.span) ≡ false = grind (arith, nat_tests) in
    rw (before 0 d (omega arith) (omega arith), f) (last_begun (end_of w.span) q ws k d h.1 (omega arith) (λ j e l m. before (suc j) e (omega arith) (omega arith)) (λ j e l m. after (suc j) e (omega arith) (omega arith)))

-- ---- the ways of one run

if_rising : (at len : ℕ) (t : Trail) (ws : List TrailRun) → AreRising (at + len) ws → AreRising at (way_if at len t ++ ws)
if_rising at len [] ws h = rising_earlier at (at + len) ws (omega arith) h
if_rising at len (pair ∷ t) ws h = (omega arith, h)

if_ends : (at len : ℕ) (t : Trail) → EndBy (at + len) (way_if at len t)
if_ends at len [] = tt
if_ends at len (pair ∷ t) = (omega arith, tt)

if_at : (at len : ℕ) (t : Trail) (q : ℕ) → at ≤ q → q < at + len → trail_in (way_if at len t) q ≡ t
if_at at len [] q l m = refl
if_at at len (pair ∷ t) q l m =
    let e : nat_le at q ≡ true = grind (arith, nat_tests) in
    let f : nat_lt q (at + len) ≡ true = grind (arith, nat_tests) in
    rw (e, f) refl

abbrev Marked : Type 0
Marked = ℕ × Trail

same_way : (trail : Trail) (us : List ℕ) → map (λ (u : Marked). u.1) (map (λ u. (u, trail)) us) ≡ replicate (length us) trail
same_way trail [] = refl
same_way trail (u ∷ us) = ap (λ z. trail ∷ z) (same_way trail us)

-- ---- the ways of runs

size : (r : Run) (rs : List Run) → length (text_of (r ∷ rs)) ≡ length r.units + length (text_of rs)
size r rs = length-append (run_units r) (text_of rs) ∙ ap (λ z. z + length (text_of rs)) (length-map r.units (λ u. (u, r.trail)))

of_rising : (at : ℕ) (rs : List Run) (ws : List TrailRun) → AreRising (at + length (text_of rs)) ws → AreRising at (ways_of at rs ++ ws)
of_rising at [] ws h = rising_earlier at _ ws (omega arith) h
of_rising at (r ∷ rs) ws h =
    let e : at + length (text_of (r ∷ rs)) ≡ at + length r.units + length (text_of rs) = omega (arith, size r rs) in
    let rest : AreRising (at + length r.units) (ways_of (at + length r.units) rs ++ ws) = of_rising (at + length r.units) rs ws (rw e at h) in
    rw append_assoc (if_rising at (length r.units) r.trail (ways_of (at + length r.units) rs ++ ws) rest)

both_end : (p : ℕ) (vs ws : List TrailRun) → EndBy p vs → EndBy p ws → EndBy p (vs ++ ws)
both_end p [] ws h g = g
both_end p (v ∷ vs) ws h g = (h.0, both_end p vs ws h.1 g)

of_ends : (at : ℕ) (rs : List Run) → EndBy (at + length (text_of rs)) (ways_of at rs)
of_ends at [] = tt
of_ends at (r ∷ rs) =
    let e : at + length r.units + length (text_of rs) ≡ at + length (text_of (r ∷ rs)) = omega (arith, size r rs) in
    both_end (at + length (text_of (r ∷ rs))) (way_if at (length r.units) r.trail) (ways_of (at + length r.units) rs)
    (end_later (at + length r.units) (at + length (text_of (r ∷ rs))) (way_if at (length r.units) r.trail) (omega arith) (if_ends at (length r.units) r.trail))
    (rw e at (of_ends (at + length r.units) rs))

of_units : (at : ℕ) (rs : List Run) → map (trail_in (ways_of at rs)) (range_with_len at (length (text_of rs))) ≡ map (λ u. u.1) (text_of rs)
of_units at [] = refl
of_units at (r ∷ rs) =
    let len : ℕ = length r.units in
    let k : ℕ = length (text_of rs) in
    let here : List TrailRun = way_if at len r.trail in
    let later : List TrailRun = ways_of (at + len) rs in
    let rising : AreRising (at + len) later = rw (append-nil later) at (of_rising (at + len) rs [] tt) in
    let first : map (trail_in (here ++ later)) (range_with_len at len) ≡ map (λ u. u.1) (run_units r) =
    map_one (trail_in (here ++ later)) r.trail at len (λ q l m. front (at + len) q here later rising m ∙ if_at at len r.trail q l m) ∙ sym (same_way r.trail r.units) in
    let rest : map (trail_in (here ++ later)) (range_with_len (at + len) k) ≡ map (λ u. u.1) (text_of rs) =
    map_same (trail_in (here ++ later)) (trail_in later) (at + len) k (λ q l m. behind (at + len) q here later (if_ends at len r.trail) l) ∙ of_units (at + len) rs in
    ap (λ n. map (trail_in (here ++ later)) (range_with_len at n)) (size r rs)
    ∙ ap (map (trail_in (here ++ later))) (range_two at len k)
    ∙ map-append (trail_in (here ++ later)) (range_with_len at len) (range_with_len (at + len) k)
    ∙ ap (λ z. z ++ map (trail_in (here ++ later)) (range_with_len (at + len) k)) first
    ∙ ap (λ z. map (λ u. u.1) (run_units r) ++ z) rest
    ∙ sym (map-append (λ u. u.1) (run_units r) (text_of rs))

-- a text by runs is that text
onto : (m : ℕ × Trail) (rs : List Run) → text_of (onto_runs m rs) ≡ m ∷ text_of rs
onto m [] = refl
onto m (r ∷ rs) = either (is_same_way m.1 r.trail) refl
  where
    either : (b : Bool) → is_same_way m.1 r.trail ≡ b → text_of (onto_runs m (r ∷ rs)) ≡ m ∷ text_of (r ∷ rs)
    either true t = rw t (ap (λ z. (m.0, z) ∷ text_of (r ∷ rs)) (sym (same_way_is m.1 r.trail t)))
    either false f = rw f refl

pub text_again : (t : Units) → text_of (trail_runs t) ≡ t
text_again [] = refl
text_again (m ∷ ms) = onto m (trail_runs ms) ∙ ap (λ z. m ∷ z) (text_again ms)

-- ---- the ways of components

from_rising : (i j : ℕ) (cs : List Component) → AreRising j (ways_from i j cs)
from_rising i j [] = tt
from_rising i j (c ∷ cs) =
    let at : ℕ = j + (c.start - i) in
    let next : ℕ = at + length c.text in
    let later : List TrailRun = ways_from (c.start + c.old_len) next cs in
    let rest : AreRising (at + length (text_of (trail_runs c.text))) later = rw (text_again c.text) (from_rising (c.start + c.old_len) next cs) in
    rising_earlier j at (ways_of at (trail_runs c.text) ++ later) (omega arith) (of_rising at (trail_runs c.text) later rest)

pub all_rising : (cs : List Component) → AreRising 0 (ways_from 0 0 cs)
all_rising cs = from_rising 0 0 cs

none_in : (a k : ℕ) → map (trail_in []) (range_with_len a k) ≡ replicate k []
none_in a k = map_one (trail_in []) [] a k (λ q l m. refl)

take_same : {Y : Type 0} (y : Y) (k m : ℕ) → k ≤ m → take k (replicate m y) ≡ replicate k y
take_same y zero m l = refl
take_same y (suc k) zero l = absurd (omega arith)
take_same y (suc k) (suc m) l = ap (λ z. y ∷ z) (take_same y k m (omega arith))

drop_same : {Y : Type 0} (y : Y) (k m : ℕ) → k ≤ m → drop k (replicate m y) ≡ replicate (m - k) y
drop_same y zero m l = ap (λ z. replicate z y) (let e : m ≡ m - 0 = omega arith in e)
drop_same y (suc k) zero l = absurd (omega arith)
drop_same y (suc k) (suc m) l = drop_same y k m (omega arith) ∙ ap (λ z. replicate z y) (let e : m - k ≡ suc m - suc k = omega arith in e)

abbrev ways_laid : ℕ → List Component → ℕ → List Trail
ways_laid i cs k = laid (map (λ u. u.1)) i cs (replicate k [])

from_units : (n i j : ℕ) (cs : List Component) → AreNormalFrom i n (map change_of cs) → map (trail_in (ways_from i j cs)) (range_with_len j (length (ways_laid i cs (n - i)))) ≡ ways_laid i cs (n - i)
from_units n i j [] h = none_in j (length (replicate (n - i) [])) ∙ ap (λ k. replicate k []) (let none : Trail = [] in length-replicate (n - i) none)
from_units n i j (c ∷ cs) h =
    let k : ℕ = c.start - i in
    let e : ℕ = c.start + c.old_len in
    let at : ℕ = j + k in
    let t : ℕ = length c.text in
    let none : Trail = [] in
    let rest : List Trail = ways_laid e cs (n - e) in
    let here : List TrailRun = ways_of at (trail_runs c.text) in
    let later : List TrailRun = ways_from e (at + t) cs in
    let again : text_of (trail_runs c.text) ≡ c.text = text_again c.text in
    let ends : EndBy (at + t) here = rw again at (of_ends at (trail_runs c.text)) in
    let rising : AreRising (at + t) later = from_rising e (at + t) cs in
    let rising_here : AreRising at (here ++ later) = of_rising at (trail_runs c.text) later (rw again rising) in
    let begun : take k (replicate (n - i) none) ≡ replicate k none = take_same none k (n - i) (omega (arith, h.0, h.1)) in
    let left : drop (k + c.old_len) (replicate (n - i) none) ≡ replicate (n - e) none = drop_same none (k + c.old_len) (n - i) (omega (arith, h.0, h.1)) ∙ ap (λ m. replicate m none) (let f : n - i - (k + c.old_len) ≡ n - e = omega (arith, h.0, h.1) in f) in
    let whole : ways_laid i (c ∷ cs) (n - i) ≡ replicate k none ++ (map (λ u. u.1) c.text ++ rest) =
    ap (λ z. z ++ (map (λ u. u.1) c.text ++ laid (map (λ u. u.1)) e cs (drop (k + c.old_len) (replicate (n - i) none)))) begun
    ∙ ap (λ z. replicate k none ++ (map (λ u. u.1) c.text ++ laid (map (λ u. u.1)) e cs z)) left in
    let len : length (replicate k none ++ (map (λ u. u.1) c.text ++ rest)) ≡ k + (t + length rest) =
    omega (arith, length-append (replicate k none) (map (λ u. u.1) c.text ++ rest), length-append (map (λ u. u.1) c.text) rest, length-map c.text (λ u. u.1), length-replicate k none) in
    let normal : AreNormalFrom e n (map change_of cs) = normal_earlier e (e + 1) n (map change_of cs) (omega arith) h.3 in
    let f : ℕ → Trail = trail_in (here ++ later) in
    let one : map f (range_with_len j k) ≡ replicate k none = map_one f none j k (λ q l m. none_before at q (here ++ later) rising_here m) in
    let two : map f (range_with_len at t) ≡ map (λ u. u.1) c.text =
    map_same f (trail_in here) at t (λ q l m. front (at + t) q here later rising m) ∙ (rw again at (of_units at (trail_runs c.text))) in
    let three : map f (range_with_len (at + t) (length rest)) ≡ rest =
    map_same f (trail_in later) (at + t) (length rest) (λ q l m. behind (at + t) q here later ends l) ∙ from_units n e (at + t) cs normal in
    ap (λ m. map f (range_with_len j m)) (ap length whole ∙ len)
    ∙ ap (map f) (range_two j k (t + length rest) ∙ ap (λ z. range_with_len j k ++ z) (range_two at t (length rest)))
    ∙ map-append f (range_with_len j k) (range_with_len at t ++ range_with_len (at + t) (length rest))
    ∙ ap (λ z. map f (range_with_len j k) ++ z) (map-append f (range_with_len at t) (range_with_len (at + t) (length rest)))
    ∙ rw (one, two, three) (sym whole)

none_marked : (text : List ℕ) → map (λ (u : Marked). u.1) (map unmarked text) ≡ replicate (length text) []
none_marked [] = refl
none_marked (u ∷ us) = ap (λ z. [] ∷ z) (none_marked us)

-- the ways of the components are those of the text that the pieces leave
pub ways_arrived : (ps : List Piece) (text : List ℕ) → trails_in (ways_from 0 0 (arrived ps (length text))) (length (map (λ u. u.0) (marked_text ps text))) ≡ map (λ u. u.1) (marked_text ps text)
ways_arrived ps text =
    let n : ℕ = length text in
    let cs : List Component = arrived ps n in
    let zero_off : n - 0 ≡ n = omega arith in
    let all : ways_laid 0 cs n ≡ map (λ u. u.1) (marked_text ps text) = ap (λ z. laid (map (λ u. u.1)) 0 cs z) (sym (none_marked text)) ∙ marked_laid (λ u. u.1) ps text in
    let len : length (map (λ u. u.0) (marked_text ps text)) ≡ length (ways_laid 0 cs n) = length-map (marked_text ps text) (λ u. u.0) ∙ sym (length-map (marked_text ps text) (λ u. u.1)) ∙ ap length (sym all) in
    ap (trails_in (ways_from 0 0 cs)) len ∙ (rw zero_off at (from_units n 0 0 cs (arrived_normal ps text))) ∙ all

-- What holds of the changes and the ways that are made of the components.
pub record IsLanded (ps : List Piece) (n : ℕ) (c : ChangeList) (ws : List TrailRun) : Type 0 where
  pub changes : (text : List ℕ) → length text ≡ n → c ≡ change_list (step_of_pieces ps (length text)) (map (λ u. u.0) (marked_text ps text))
  pub step : step c ≡ step_of_pieces ps n
  pub text : (text : List ℕ) → length text ≡ n → applied c text ≡ map (λ u. u.0) (marked_text ps text)
  pub trails : (text : List ℕ) → length text ≡ n → trails_in ws (length (map (λ u. u.0) (marked_text ps text))) ≡ map (λ u. u.1) (marked_text ps text)

pub is_landed : (ps : List Piece) (n old_len : ℕ) (cs : List Component) (c : ChangeList) (ws : List TrailRun) → old_len ≡ n → cs ≡ arrived ps n → c ≡ listed old_len (map change_of cs) → ws ≡ ways_from 0 0 cs → IsLanded ps n c ws
is_landed ps n old_len cs c ws old are changes ways =
    let same : c ≡ listed n (map change_of (arrived ps n)) = changes ∙ ap (λ m. listed m (map change_of cs)) old ∙ ap (λ ds. listed n (map change_of ds)) are in
    let ways_same : ws ≡ ways_from 0 0 (arrived ps n) = ways ∙ ap (ways_from 0 0) are in
    record {
      changes = λ text e. same ∙ rw (← e) (sym (changes_arrived ps text));
      step = ap step same ∙ step_arrived ps n;
      text = λ text e. ap (λ d. applied d text) same ∙ rw (← e) (text_arrived ps text);
      trails = λ text e. ap (λ v. trails_in v (length (map (λ (u : Marked). u.0) (marked_text ps text)))) ways_same ∙ rw (← e) (ways_arrived ps text);
    }
