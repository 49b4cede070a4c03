-- What arrives at a carrier, dealt out to its members: it may be put in at once where the component starts, or share by share where each target begins.
use Rattle.std.proofs.Common.{◌≡◌, ℕ, ◌+◌, ◌<◌, ◌≤◌, Bool, true, false, ◌||◌, ◌&&◌, List, [], ◌∷◌, ◌++◌, length, inl, inr, refl, sym, ap, ◌∙◌, arith, if◌then◌else◌, append_assoc}
use Rattle.std.specs.Prelude.{nat_eq, nat_le, nat_lt, flat_map}
use Rattle.std.specs.List.{list_any}
use Rattle.std.proofs.lemmas.Bool.{cases_lt}
use Rattle.std.proofs.lemmas.Bool.Decides.{nat_tests}
use Rattle.std.proofs.lemmas.List.{append-nil}
use Rattle.ed_base.specs.Edit.{woven}
use Rattle.ed_sending.proofs.Lists.SortedParts.{Each}
use Rattle.ed_sending.proofs.Texts.FullText.{Full}
use Rattle.ed_sending.proofs.Lists.Weaves.{woven_moved}

-- a share: its member, the place in the carrier where it goes, and its units
abbrev pub Entry : Type 0
Entry = ℕ × (ℕ × List Full)

pub record Dealt : Type 0 where
  pub start : ℕ
  pub old_len : ℕ
  pub entries : List (ℕ × (ℕ × List Full))

abbrev pub at_gap : ℕ → ℕ × (ℕ × List Full) → List Full
at_gap g e = if nat_eq e.1.0 g then e.1.1 else []

abbrev pub late_at : ℕ → ℕ × (ℕ × List Full) → List Full
late_at q e = if nat_le q e.1.0 then e.1.1 else []

abbrev pub share_of : ℕ × (ℕ × List Full) → List Full
share_of e = e.1.1

-- all at the component's start, or share by share
abbrev pub put_whole : Dealt → ℕ → List Full
put_whole d g = if nat_eq d.start g then flat_map share_of d.entries else []

abbrev pub put_dealt : Dealt → ℕ → List Full
put_dealt d g = flat_map (at_gap g) d.entries

abbrev late : ℕ → Dealt → List Full
late q d = if nat_lt d.start q then flat_map (late_at q) d.entries else []

abbrev pub takes : ℕ → Dealt → Bool
takes q d = nat_le d.start q && nat_lt q (d.start + d.old_len)

abbrev pub RiseFrom : ℕ → List (ℕ × (ℕ × List Full)) → Type 0
RiseFrom p [] = Unit {0}
RiseFrom p (e ∷ es) = (p ≤ e.1.0) × RiseFrom e.1.0 es

pub record IsDealt (d : Dealt) : Type 0 where
  pub rise : RiseFrom d.start d.entries
  pub within : Each (λ e. d.start < e.1.0 → e.1.0 < d.start + d.old_len) d.entries

abbrev pub AreApartFrom : ℕ → List Dealt → Type 0
AreApartFrom p [] = Unit {0}
AreApartFrom p (d ∷ ds) = (p ≤ d.start) × IsDealt d × AreApartFrom (d.start + d.old_len + 1) ds

-- ---- one component

pub gap_none : (q p : ℕ) (es : List (ℕ × (ℕ × List Full))) → RiseFrom p es → q < p → flat_map (at_gap q) es ≡ []
gap_none q p [] r below = refl
gap_none q p (e ∷ es) r below =
    let f : nat_eq e.1.0 q ≡ false = (let a : p ≤ e.1.0 = r.0 in grind (arith, nat_tests)) in
    rw f (gap_none q e.1.0 es r.1 (let a : p ≤ e.1.0 = r.0 in omega arith))

late_all : (q p : ℕ) (es : List (ℕ × (ℕ × List Full))) → RiseFrom p es → q ≤ p → flat_map (late_at q) es ≡ flat_map share_of es
late_all q p [] r below = refl
late_all q p (e ∷ es) r below =
    let a : p ≤ e.1.0 = r.0 in
    let f : nat_le q e.1.0 ≡ true = grind (arith, nat_tests) in
    rw f (ap (λ z. e.1.1 ++ z) (late_all q e.1.0 es r.1 (omega arith)))

late_split : (q p : ℕ) (es : List (ℕ × (ℕ × List Full))) → RiseFrom p es → flat_map (late_at q) es ≡ flat_map (at_gap q) es ++ flat_map (late_at (q + 1)) es
late_split q p [] r = refl
late_split q p (e ∷ es) r = elim (cases_lt e.1.0 q) [
  | inl below ↦ (
      let a : nat_le q e.1.0 ≡ false = grind (arith, nat_tests) in
      let b : nat_eq e.1.0 q ≡ false = grind (arith, nat_tests) in
      let c : nat_le (q + 1) e.1.0 ≡ false = grind (arith, nat_tests) in
      rw (a, b, c) (late_split q e.1.0 es r.1))
  | inr above ↦ elim (cases_lt q e.1.0) [
    | inl later ↦ (
        let a : nat_le q e.1.0 ≡ true = grind (arith, nat_tests) in
        let b : nat_eq e.1.0 q ≡ false = grind (arith, nat_tests) in
        let c : nat_le (q + 1) e.1.0 ≡ true = grind (arith, nat_tests) in
        let none : flat_map (at_gap q) es ≡ [] = gap_none q e.1.0 es r.1 later in
        let rest : flat_map (late_at q) es ≡ flat_map (late_at (q + 1)) es = late_split q e.1.0 es r.1 ∙ ap (λ z. z ++ flat_map (late_at (q + 1)) es) none in
        rw (a, b, c, none) (ap (λ z. e.1.1 ++ z) rest))
    | inr same ↦ (
        let a : nat_le q e.1.0 ≡ true = grind (arith, nat_tests) in
        let b : nat_eq e.1.0 q ≡ true = grind (arith, nat_tests) in
        let c : nat_le (q + 1) e.1.0 ≡ false = grind (arith, nat_tests) in
        rw (a, b, c) (ap (λ z. e.1.1 ++ z) (late_split q e.1.0 es r.1) ∙ sym (append_assoc e.1.1 (flat_map (at_gap q) es) (flat_map (late_at (q + 1)) es))))
  ]
]

one_moves : (q : ℕ) (d : Dealt) → IsDealt d → late q d ++ put_whole d q ≡ put_dealt d q ++ late (q + 1) d
one_moves q d is = elim (cases_lt q d.start) [
  | inl below ↦ (
      let a : nat_lt d.start q ≡ false = grind (arith, nat_tests) in
      let b : nat_eq d.start q ≡ false = grind (arith, nat_tests) in
      let c : nat_lt d.start (q + 1) ≡ false = grind (arith, nat_tests) in
      rw (a, b, c, gap_none q d.start d.entries is.rise below) refl)
  | inr above ↦ elim (cases_lt d.start q) [
    | inl behind ↦ (
        let a : nat_lt d.start q ≡ true = grind (arith, nat_tests) in
        let b : nat_eq d.start q ≡ false = grind (arith, nat_tests) in
        let c : nat_lt d.start (q + 1) ≡ true = grind (arith, nat_tests) in
        rw (a, b, c) (append-nil (flat_map (late_at q) d.entries) ∙ late_split q d.start d.entries is.rise))
    | inr same ↦ (
        let a : nat_lt d.start q ≡ false = grind (arith, nat_tests) in
        let b : nat_eq d.start q ≡ true = grind (arith, nat_tests) in
        let c : nat_lt d.start (q + 1) ≡ true = grind (arith, nat_tests) in
        rw (a, b, c) (sym (late_all q d.start d.entries is.rise (omega arith)) ∙ late_split q d.start d.entries is.rise))
  ]
]

-- ---- all components

pub flat_none : {X Y : Type 0} (f : X → List Y) (xs : List X) → Each (λ x. f x ≡ []) xs → flat_map f xs ≡ []
flat_none f [] a = refl
flat_none f (x ∷ xs) a = rw (a.0, flat_none f xs a.1) refl

late_beyond : (q : ℕ) (es : List (ℕ × (ℕ × List Full))) → Each (λ e. e.1.0 < q) es → flat_map (late_at q) es ≡ []
late_beyond q [] a = refl
late_beyond q (e ∷ es) a = let b : e.1.0 < q = a.0 in let f : nat_le q e.1.0 ≡ false = grind (arith, nat_tests) in rw f (late_beyond q es a.1)

gap_beyond : (q : ℕ) (es : List (ℕ × (ℕ × List Full))) → Each (λ e. e.1.0 < q) es → flat_map (at_gap q) es ≡ []
gap_beyond q [] a = refl
gap_beyond q (e ∷ es) a = let b : e.1.0 < q = a.0 in let f : nat_eq e.1.0 q ≡ false = grind (arith, nat_tests) in rw f (gap_beyond q es a.1)

-- past the component's end no share begins
entries_before : (q start end : ℕ) (es : List (ℕ × (ℕ × List Full))) → start < q → end ≤ q → Each (λ e. start < e.1.0 → e.1.0 < end) es → Each (λ e. e.1.0 < q) es
entries_before q start end [] a b all = tt
entries_before q start end (e ∷ es) a b all =
    ((elim (cases_lt start e.1.0) [ inl more ↦ (let l : e.1.0 < end = all.0 more in omega arith) | inr less ↦ omega arith ]), entries_before q start end es a b all.1)

late_passed : (q : ℕ) (d : Dealt) → IsDealt d → d.start + d.old_len < q → late q d ≡ []
late_passed q d is past =
    let a : nat_lt d.start q ≡ true = grind (arith, nat_tests) in
    rw a (late_beyond q d.entries (entries_before q d.start (d.start + d.old_len) d.entries (omega arith) (omega arith) is.within))

-- where no component takes the element, nothing is late behind it
late_stays : (q : ℕ) (d : Dealt) → IsDealt d → takes q d ≡ false → late (q + 1) d ≡ []
late_stays q d is stays = elim (cases_lt q d.start) [
  | inl before ↦ (let a : nat_lt d.start (q + 1) ≡ false = grind (arith, nat_tests) in rw a refl)
  | inr from ↦ (let past : d.start + d.old_len < q + 1 = grind (arith, nat_tests) in late_passed (q + 1) d is past)
]

passed : (q : ℕ) (d : Dealt) → IsDealt d → d.start + d.old_len < q → (put_whole d q ≡ []) × (put_dealt d q ≡ [])
passed q d is past =
    let a : nat_eq d.start q ≡ false = grind (arith, nat_tests) in
    (rw a refl, gap_beyond q d.entries (entries_before q d.start (d.start + d.old_len) d.entries (omega arith) (omega arith) is.within))

-- before the first component nothing is put in
record Ahead (q : ℕ) (ds : List Dealt) : Type 0 where
  waiting : flat_map (late q) ds ≡ []
  whole : flat_map (λ d. put_whole d q) ds ≡ []
  dealt : flat_map (λ d. put_dealt d q) ds ≡ []
  next : flat_map (late (q + 1)) ds ≡ []

ahead : (q p : ℕ) (ds : List Dealt) → AreApartFrom p ds → q < p → Ahead q ds
ahead q p [] a below = record { waiting = refl; whole = refl; dealt = refl; next = refl }
ahead q p (d ∷ ds) a below =
    let rest : Ahead q ds = ahead q (d.start + d.old_len + 1) ds a.2 (omega (arith, a.0)) in
    let l : q < d.start = omega (arith, a.0) in
    let u : nat_lt d.start q ≡ false = grind (arith, nat_tests) in
    let v : nat_eq d.start q ≡ false = grind (arith, nat_tests) in
    let w : nat_lt d.start (q + 1) ≡ false = grind (arith, nat_tests) in
    record {
      waiting = rw u rest.waiting;
      whole = rw v rest.whole;
      dealt = rw (gap_none q d.start d.entries a.1.rise l) rest.dealt;
      next = rw w rest.next;
    }

all_move : (q p : ℕ) (ds : List Dealt) → AreApartFrom p ds → flat_map (late q) ds ++ flat_map (λ d. put_whole d q) ds ≡ flat_map (λ d. put_dealt d q) ds ++ flat_map (late (q + 1)) ds
all_move q p [] a = refl
all_move q p (d ∷ ds) a = elim (cases_lt (d.start + d.old_len) q) [
  | inl past ↦ (
      let x : (put_whole d q ≡ []) × (put_dealt d q ≡ []) = passed q d a.1 past in
      let l : late q d ≡ [] = late_passed q d a.1 past in
      let m : late (q + 1) d ≡ [] = late_passed (q + 1) d a.1 (omega arith) in
      joined (late q d) (put_whole d q) (put_dealt d q) (late (q + 1) d) (flat_map (late q) ds) (flat_map (λ d. put_whole d q) ds) (flat_map (λ d. put_dealt d q) ds) (flat_map (late (q + 1)) ds) l x.0 x.1 m (all_move q (d.start + d.old_len + 1) ds a.2))
  | inr here ↦ (
      let r : Ahead q ds = ahead q (d.start + d.old_len + 1) ds a.2 (omega arith) in
      alone (late q d) (put_whole d q) (put_dealt d q) (late (q + 1) d) (flat_map (late q) ds) (flat_map (λ d. put_whole d q) ds) (flat_map (λ d. put_dealt d q) ds) (flat_map (late (q + 1)) ds) r.waiting r.whole r.dealt r.next (one_moves q d a.1))
]
  where
    joined : (a b c d e f g h : List Full) → a ≡ [] → b ≡ [] → c ≡ [] → d ≡ [] → e ++ f ≡ g ++ h → (a ++ e) ++ (b ++ f) ≡ (c ++ g) ++ (d ++ h)
    joined a b c d e f g h ea eb ec ed is = rw (ea, eb, ec, ed) is

    alone : (a b c d e f g h : List Full) → e ≡ [] → f ≡ [] → g ≡ [] → h ≡ [] → a ++ b ≡ c ++ d → (a ++ e) ++ (b ++ f) ≡ (c ++ g) ++ (d ++ h)
    alone a b c d e f g h ee ef eg eh is = rw (ee, ef, eg, eh, append-nil a, append-nil b, append-nil c, append-nil d) is

or_left_false : (a b : Bool) → (a || b) ≡ false → a ≡ false
or_left_false false b e = refl
or_left_false true b e = e

or_right_false : (a b : Bool) → (a || b) ≡ false → b ≡ false
or_right_false false b e = e
or_right_false true b e = absurd (let z : true ≡ false = e in cc)

-- Share by share gives the same text as all at once, where what the components take is gone; more may be gone.
pub dealt_same : (ds : List Dealt) (gone : ℕ → Bool) (xs : List Full) → AreApartFrom 0 ds → Each (λ d. d.start + d.old_len ≤ length xs) ds → ((q : ℕ) → gone q ≡ false → list_any (takes q) ds ≡ false) → woven (λ g. flat_map (λ d. put_whole d g) ds) gone 0 xs ≡ woven (λ g. flat_map (λ d. put_dealt d g) ds) gone 0 xs
dealt_same ds gone xs a inside goes =
    let none : flat_map (late 0) ds ≡ [] = flat_none (late 0) ds (first_none ds) in
    let moved : flat_map (late 0) ds ++ woven (λ g. flat_map (λ d. put_whole d g) ds) gone 0 xs ≡ woven (λ g. flat_map (λ d. put_dealt d g) ds) gone 0 xs =
    woven_moved (λ g. flat_map (λ d. put_whole d g) ds) (λ g. flat_map (λ d. put_dealt d g) ds) (λ q. flat_map (late q) ds) gone 0 xs
    (λ q above below. all_move q 0 ds a)
    (λ q above below stays. flat_none (late (q + 1)) ds (all_stay q 0 ds a (goes q stays)))
    (flat_none (late (0 + length xs + 1)) ds (all_passed (length xs) 0 ds a inside)) in
    ap (λ z. z ++ woven (λ g. flat_map (λ d. put_whole d g) ds) gone 0 xs) (sym none) ∙ moved
  where
    first_none : (ds : List Dealt) → Each (λ d. late 0 d ≡ []) ds
    first_none [] = tt
    first_none (d ∷ ds) = ((let e : nat_lt d.start 0 ≡ false = grind (arith, nat_tests) in rw e refl), first_none ds)

    all_stay : (q p : ℕ) (ds : List Dealt) → AreApartFrom p ds → list_any (takes q) ds ≡ false → Each (λ d. late (q + 1) d ≡ []) ds
    all_stay q p [] a stays = tt
    all_stay q p (d ∷ ds) a stays = (late_stays q d a.1 (or_left_false (takes q d) (list_any (takes q) ds) stays), all_stay q (d.start + d.old_len + 1) ds a.2 (or_right_false (takes q d) (list_any (takes q) ds) stays))

    all_passed : (n p : ℕ) (ds : List Dealt) → AreApartFrom p ds → Each (λ d. d.start + d.old_len ≤ n) ds → Each (λ d. late (0 + n + 1) d ≡ []) ds
    all_passed n p [] a inside = tt
    all_passed n p (d ∷ ds) a inside = (late_passed (0 + n + 1) d a.1 (omega (arith, inside.0)), all_passed n (d.start + d.old_len + 1) ds a.2 inside.1)
