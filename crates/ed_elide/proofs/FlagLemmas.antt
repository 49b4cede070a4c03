-- The flags of spans, and back.
use Rattle.std.proofs.Common.{◌≡◌, ℕ, zero, suc, ◌+◌, ◌<◌, ◌≤◌, Bool, false, not, ◌&&◌, ◌||◌, List, [], ◌∷◌, length, map, Some, refl, sym, ap, ◌∙◌, arith}
use Rattle.std.specs.Prelude.{slice_get, unwrap_or}
use Rattle.std.specs.Option.{option_map_or}
use Rattle.std.specs.List.{range_with_len, enumerate_from}
use Rattle.ed_base.specs.declared.edit.Span.{Span}
use Rattle.ed_base.specs.Runs.{runs}
use Rattle.ed_layers.specs.Records.{is_hidden, is_shown}
use Rattle.ed_layers.specs.Hidden.{in_some, hidden_by, elided}
use Rattle.ed_spans.specs.SpanSets.{in_spans, AreApartFrom, AreRisingFrom, joined}
use Rattle.ed_spans.proofs.RunLemmas.{apart_runs}
use Rattle.ed_spans.proofs.JoinLemmas.{joined_holds}

pub length_places : (a n : ℕ) → length (range_with_len a n) ≡ n
length_places a zero = refl
length_places a (suc n) = rw (length_places (a + 1) n) refl

pub length_map : {X Y : Type 0} (f : X → Y) (xs : List X) → length (map f xs) ≡ length xs
length_map f [] = refl
length_map f (x ∷ xs) = rw (length_map f xs) refl

pub get_places : {X : Type 0} (f : ℕ → X) (a n q : ℕ) → q < n → slice_get (map f (range_with_len a n)) q ≡ Some (f (a + q))
get_places f a zero q below = absurd (omega arith)
get_places f a (suc n) zero below = let e : a + 0 ≡ a = omega arith in rw e refl
get_places f a (suc n) (suc q) below = let e : a + suc q ≡ a + 1 + q = omega arith in rw e (get_places f (a + 1) n q (omega arith))

pub map_places : {X : Type 0} (f g : ℕ → X) (a n : ℕ) → ((q : ℕ) → a ≤ q → q < a + n → f q ≡ g q) → map f (range_with_len a n) ≡ map g (range_with_len a n)
map_places f g a zero same = refl
map_places f g a (suc n) same = rw (same a (omega arith) (omega arith), map_places f g (a + 1) n (λ q above below. same q (omega arith) (omega arith))) refl

pub length_flags : (n : ℕ) (ss : List Span) → length (hidden_by n ss) ≡ n
length_flags n ss = length_map (in_some ss) (range_with_len 0 n) ∙ length_places 0 n

pub flag_at : (n : ℕ) (ss : List Span) (q : ℕ) → q < n → slice_get (hidden_by n ss) q ≡ Some (in_spans ss q)
flag_at n ss q below = let e : 0 + q ≡ q = omega arith in get_places (in_some ss) 0 n q below ∙ ap (λ k. Some (in_some ss k)) e

pub hidden_at : (n : ℕ) (ss : List Span) (q : ℕ) → q < n → is_hidden (hidden_by n ss) q ≡ in_spans ss q
hidden_at n ss q below = ap (λ o. unwrap_or o false) (flag_at n ss q below)

pub shown_at : (n : ℕ) (ss : List Span) (q : ℕ) → q < n → is_shown (hidden_by n ss) q ≡ not (in_spans ss q)
shown_at n ss q below = ap (λ o. option_map_or not o false) (flag_at n ss q below)

-- The runs of the flags of spans that lie apart are these spans.
pub runs_of_flags : (n : ℕ) (ss : List Span) → AreApartFrom 0 n ss → runs (is_hidden (hidden_by n ss)) n ≡ ss
runs_of_flags n ss apart = apart_runs (is_hidden (hidden_by n ss)) n ss apart (λ q below. hidden_at n ss q below)

-- So equal flags are equal spans: a version is made exactly where the spans differ.
pub flags_differ : (n : ℕ) (ss ts : List Span) → AreApartFrom 0 n ss → AreApartFrom 0 n ts → hidden_by n ss ≡ hidden_by n ts → ss ≡ ts
flags_differ n ss ts apart apart' same = sym (runs_of_flags n ss apart) ∙ ap (λ fs. runs (is_hidden fs) n) same ∙ runs_of_flags n ts apart'

-- Spans that hold the same places have the same flags.
pub flags_same : (n : ℕ) (ss ts : List Span) → ((q : ℕ) → q < n → in_spans ss q ≡ in_spans ts q) → hidden_by n ss ≡ hidden_by n ts
flags_same n ss ts same = map_places (in_some ss) (in_some ts) 0 n (λ q above below. same q (omega arith))

-- the flags of a list to hide are those of the pass over the list in order
pub flags_of_rising : (n : ℕ) (hide sorted : List Span) → AreRisingFrom 0 n sorted → ((q : ℕ) → in_spans sorted q ≡ in_spans hide q) → hidden_by n (joined sorted) ≡ hidden_by n hide
flags_of_rising n hide sorted rising same = flags_same n (joined sorted) hide (λ q below. joined_holds n q sorted rising ∙ same q)

-- ---- hide, then show

pub elided_from : (f : ℕ → Bool) (hide show : List Span) (a n : ℕ) → map (λ pf. (pf.1 || in_some hide pf.0) && not (in_some show pf.0)) (enumerate_from a (map f (range_with_len a n))) ≡ map (λ q. (f q || in_some hide q) && not (in_some show q)) (range_with_len a n)
elided_from f hide show a zero = refl
elided_from f hide show a (suc n) = rw (elided_from f hide show (a + 1) n) refl

-- Spans that hold what the old ones or the list to hide hold, and the list to show doesn't, are the spans of what `elided` gives.
pub elided_by : (n : ℕ) (ss hide show ts : List Span) → ((q : ℕ) → q < n → in_spans ts q ≡ ((in_spans ss q || in_spans hide q) && not (in_spans show q))) → hidden_by n ts ≡ elided (hidden_by n ss) hide show
elided_by n ss hide show ts same = map_places (in_some ts) (λ q. (in_some ss q || in_some hide q) && not (in_some show q)) 0 n (λ q above below. same q (omega arith)) ∙ sym (elided_from (in_some ss) hide show 0 n)
