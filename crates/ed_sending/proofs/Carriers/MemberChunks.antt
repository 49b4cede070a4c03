-- A text that is cut into the parts of members: each part is woven by itself, with what is dealt to its member.
use Rattle.std.proofs.Common.{◌≡◌, ℕ, ◌+◌, ◌<◌, ◌≤◌, Bool, true, false, List, [], ◌∷◌, ◌++◌, length, ◌⊎◌, inl, inr, refl, sym, ap, ◌∙◌, arith, if◌then◌else◌, subst, append_assoc}
use Rattle.std.specs.Prelude.{nat_eq, nat_le, flat_map}
use Rattle.std.proofs.lemmas.Bool.{cases_lt, cases_order}
use Rattle.std.proofs.lemmas.Bool.Decides.{nat_tests}
use Rattle.std.proofs.lemmas.List.{append-nil}
use Rattle.ed_base.specs.Edit.{woven}
use Rattle.ed_base.proofs.NormalSteps.{woven_same}
use Rattle.ed_sending.proofs.Lists.SortedParts.{Each}
use Rattle.ed_sending.proofs.Texts.FullText.{Full}
use Rattle.ed_sending.proofs.Lists.Weaves.{woven_split}
use Rattle.ed_sending.proofs.Members.DealtPieces.{Dealt, AreApartFrom, RiseFrom, at_gap, put_dealt, flat_none}

-- what is dealt to one member, and to those from an index on, at a gap
abbrev pub own_at : ℕ → ℕ → ℕ × (ℕ × List Full) → List Full
own_at k g e = if nat_eq e.0 k then at_gap g e else []

abbrev from_at : ℕ → ℕ → ℕ × (ℕ × List Full) → List Full
from_at k g e = if nat_le k e.0 then at_gap g e else []

abbrev pub own_put : ℕ → List Dealt → ℕ → List Full
own_put k ds g = flat_map (λ d. flat_map (own_at k g) d.entries) ds

abbrev from_put : ℕ → List Dealt → ℕ → List Full
from_put k ds g = flat_map (λ d. flat_map (from_at k g) d.entries) ds

-- the members of the shares rise
abbrev pub MembersRise : ℕ → List (ℕ × (ℕ × List Full)) → Type 0
MembersRise k [] = Unit {0}
MembersRise k (e ∷ es) = (k ≤ e.0) × MembersRise (e.0 + 1) es

own_none : (k g m : ℕ) (es : List (ℕ × (ℕ × List Full))) → MembersRise m es → k < m → flat_map (own_at k g) es ≡ []
own_none k g m [] r below = refl
own_none k g m (e ∷ es) r below =
    let f : nat_eq e.0 k ≡ false = (let a : m ≤ e.0 = r.0 in grind (arith, nat_tests)) in
    rw f (own_none k g (e.0 + 1) es r.1 (omega (arith, r.0)))

one_split : (k g m : ℕ) (es : List (ℕ × (ℕ × List Full))) → MembersRise m es → flat_map (from_at k g) es ≡ flat_map (own_at k g) es ++ flat_map (from_at (k + 1) g) es
one_split k g m [] r = refl
one_split k g m (e ∷ es) r = elim (cases_order e.0 k) [
  | inl same ↦ (
      let a : nat_le k e.0 ≡ true = grind (arith, nat_tests) in
      let b : nat_eq e.0 k ≡ true = grind (arith, nat_tests) in
      let c : nat_le (k + 1) e.0 ≡ false = grind (arith, nat_tests) in
      rw (a, b, c) (ap (λ z. at_gap g e ++ z) (one_split k g (e.0 + 1) es r.1) ∙ sym (append_assoc (at_gap g e) (flat_map (own_at k g) es) (flat_map (from_at (k + 1) g) es))))
  | inr other ↦ elim other [
    | inl below ↦ (
        let a : nat_le k e.0 ≡ false = grind (arith, nat_tests) in
        let b : nat_eq e.0 k ≡ false = grind (arith, nat_tests) in
        let c : nat_le (k + 1) e.0 ≡ false = grind (arith, nat_tests) in
        rw (a, b, c) (one_split k g (e.0 + 1) es r.1))
    | inr above ↦ (
        let a : nat_le k e.0 ≡ true = grind (arith, nat_tests) in
        let b : nat_eq e.0 k ≡ false = grind (arith, nat_tests) in
        let c : nat_le (k + 1) e.0 ≡ true = grind (arith, nat_tests) in
        let none : flat_map (own_at k g) es ≡ [] = own_none k g (e.0 + 1) es r.1 (omega arith) in
        rw (a, b, c, none) (ap (λ z. at_gap g e ++ z) (one_split k g (e.0 + 1) es r.1 ∙ ap (λ z. z ++ flat_map (from_at (k + 1) g) es) none)))
  ]
]

-- no share at the gap
restricted_none : (t : ℕ × (ℕ × List Full) → Bool) (g : ℕ) (es : List (ℕ × (ℕ × List Full))) → Each (λ e. nat_eq e.1.0 g ≡ false) es → flat_map (λ e. if t e then at_gap g e else []) es ≡ []
restricted_none t g [] a = refl
restricted_none t g (e ∷ es) a = rw a.0 (either (t e) (restricted_none t g es a.1))
  where
    either : (b : Bool) → flat_map (λ e. if t e then at_gap g e else []) es ≡ [] → (if b then [] else []) ++ flat_map (λ e. if t e then at_gap g e else []) es ≡ []
    either true rest = rest
    either false rest = rest

not_yet : (g p : ℕ) (es : List (ℕ × (ℕ × List Full))) → RiseFrom p es → g < p → Each (λ e. nat_eq e.1.0 g ≡ false) es
not_yet g p [] r below = tt
not_yet g p (e ∷ es) r below = ((let a : p ≤ e.1.0 = r.0 in grind (arith, nat_tests)), not_yet g e.1.0 es r.1 (omega (arith, r.0)))

no_more : (g start end : ℕ) (es : List (ℕ × (ℕ × List Full))) → start < g → end ≤ g → Each (λ e. start < e.1.0 → e.1.0 < end) es → Each (λ e. nat_eq e.1.0 g ≡ false) es
no_more g start end [] a b all = tt
no_more g start end (e ∷ es) a b all =
    ((elim (cases_lt start e.1.0) [ inl more ↦ (let l : e.1.0 < end = all.0 more in grind (arith, nat_tests)) | inr less ↦ grind (arith, nat_tests) ]), no_more g start end es a b all.1)

none_ahead : (t : ℕ × (ℕ × List Full) → Bool) (g p : ℕ) (ds : List Dealt) → AreApartFrom p ds → g < p → flat_map (λ d. flat_map (λ e. if t e then at_gap g e else []) d.entries) ds ≡ []
none_ahead t g p [] a below = refl
none_ahead t g p (d ∷ ds) a below = rw (restricted_none t g d.entries (not_yet g d.start d.entries a.1.rise (omega (arith, a.0))), none_ahead t g (d.start + d.old_len + 1) ds a.2 (omega (arith, a.0))) refl

-- what is dealt from an index on: to the member, and to those behind it
from_split : (k g p : ℕ) (ds : List Dealt) → AreApartFrom p ds → Each (λ d. MembersRise 0 d.entries) ds → from_put k ds g ≡ own_put k ds g ++ from_put (k + 1) ds g
from_split k g p [] a m = refl
from_split k g p (d ∷ ds) a m = elim (cases_lt (d.start + d.old_len) g) [
  | inl past ↦ (
      let no : Each (λ e. nat_eq e.1.0 g ≡ false) d.entries = no_more g d.start (d.start + d.old_len) d.entries (omega arith) (omega arith) a.1.within in
      rw (restricted_none (λ e. nat_le k e.0) g d.entries no, restricted_none (λ e. nat_eq e.0 k) g d.entries no, restricted_none (λ e. nat_le (k + 1) e.0) g d.entries no) (from_split k g (d.start + d.old_len + 1) ds a.2 m.1))
  | inr here ↦ (
      let x : from_put k ds g ≡ [] = none_ahead (λ e. nat_le k e.0) g (d.start + d.old_len + 1) ds a.2 (omega arith) in
      let y : own_put k ds g ≡ [] = none_ahead (λ e. nat_eq e.0 k) g (d.start + d.old_len + 1) ds a.2 (omega arith) in
      let z : from_put (k + 1) ds g ≡ [] = none_ahead (λ e. nat_le (k + 1) e.0) g (d.start + d.old_len + 1) ds a.2 (omega arith) in
      alone (flat_map (from_at k g) d.entries) (flat_map (own_at k g) d.entries) (flat_map (from_at (k + 1) g) d.entries) (from_put k ds g) (own_put k ds g) (from_put (k + 1) ds g) x y z (one_split k g 0 d.entries m.0))
]
  where
    alone : (a b c x y z : List Full) → x ≡ [] → y ≡ [] → z ≡ [] → a ≡ b ++ c → a ++ x ≡ (b ++ y) ++ (c ++ z)
    alone a b c x y z ex ey ez is = rw (ex, ey, ez, append-nil a, append-nil b, append-nil c) is

-- ---- the parts

-- the part of each member, woven by itself
abbrev pub parts_woven : (ℕ → ℕ) → (ℕ → Bool) → List Dealt → ℕ → List (List Full) → List Full
parts_woven starts gone ds k [] = []
parts_woven starts gone ds k (c ∷ cs) = woven (own_put k ds) gone (starts k) c ++ parts_woven starts gone ds (k + 1) cs

abbrev pub joined : List (List Full) → List Full
joined [] = []
joined (c ∷ cs) = c ++ joined cs

-- the parts stand one behind the other
abbrev pub AreParts : (ℕ → ℕ) → ℕ → List (List Full) → Type 0
AreParts starts k [] = Unit {0}
AreParts starts k (c ∷ cs) = (starts (k + 1) ≡ starts k + length c) × AreParts starts (k + 1) cs

-- each share goes to a place of its member's part, both ends included
abbrev pub IsInPart : (ℕ → ℕ) → ℕ × (ℕ × List Full) → Type 0
IsInPart starts e = (starts e.0 ≤ e.1.0) × (e.1.0 ≤ starts (e.0 + 1))

own_outside : (starts : ℕ → ℕ) (k g : ℕ) (ds : List Dealt) → Each (λ d. Each (IsInPart starts) d.entries) ds → (g < starts k) ⊎ (starts (k + 1) < g) → own_put k ds g ≡ []
own_outside starts k g ds a out = flat_none (λ d. flat_map (own_at k g) d.entries) ds (all_none ds a)
  where
    one_none : (es : List (ℕ × (ℕ × List Full))) → Each (IsInPart starts) es → Each (λ e. own_at k g e ≡ []) es
    one_none [] a = tt
    one_none (e ∷ es) a = (
      elim (cases_order e.0 k) [
        | inl same ↦ (
            let lo : starts k ≤ e.1.0 = subst (λ z. starts z ≤ e.1.0) same a.0.0 in
            let hi : e.1.0 ≤ starts (k + 1) = subst (λ z. e.1.0 ≤ starts (z + 1)) same a.0.1 in
            let f : nat_eq e.1.0 g ≡ false = elim out [ inl b ↦ grind (arith, nat_tests) | inr b ↦ grind (arith, nat_tests) ] in
            let t : nat_eq e.0 k ≡ true = grind (arith, nat_tests) in
            rw (t, f) refl)
        | inr other ↦ (let t : nat_eq e.0 k ≡ false = elim other [ inl b ↦ grind (arith, nat_tests) | inr b ↦ grind (arith, nat_tests) ] in rw t refl)
      ],
      one_none es a.1,
    )

    all_none : (ds : List Dealt) → Each (λ d. Each (IsInPart starts) d.entries) ds → Each (λ d. flat_map (own_at k g) d.entries ≡ []) ds
    all_none [] a = tt
    all_none (d ∷ ds) a = (flat_none (own_at k g) d.entries (one_none d.entries a.0), all_none ds a.1)

from_outside : (starts : ℕ → ℕ) → ((i j : ℕ) → i ≤ j → starts i ≤ starts j) → (k g : ℕ) (ds : List Dealt) → Each (λ d. Each (IsInPart starts) d.entries) ds → g < starts k → from_put k ds g ≡ []
from_outside starts rise k g ds a out = flat_none (λ d. flat_map (from_at k g) d.entries) ds (all_none ds a)
  where
    one_none : (es : List (ℕ × (ℕ × List Full))) → Each (IsInPart starts) es → Each (λ e. from_at k g e ≡ []) es
    one_none [] a = tt
    one_none (e ∷ es) a = (
      elim (cases_lt e.0 k) [
        | inl below ↦ (let t : nat_le k e.0 ≡ false = grind (arith, nat_tests) in rw t refl)
        | inr above ↦ (
            let lo : starts k ≤ starts e.0 = rise k e.0 above in
            let at : starts e.0 ≤ e.1.0 = a.0.0 in
            let f : nat_eq e.1.0 g ≡ false = grind (arith, nat_tests) in
            let t : nat_le k e.0 ≡ true = grind (arith, nat_tests) in
            rw (t, f) refl)
      ],
      one_none es a.1,
    )

    all_none : (ds : List Dealt) → Each (λ d. Each (IsInPart starts) d.entries) ds → Each (λ d. flat_map (from_at k g) d.entries ≡ []) ds
    all_none [] a = tt
    all_none (d ∷ ds) a = (flat_none (from_at k g) d.entries (one_none d.entries a.0), all_none ds a.1)

from_end : (k g : ℕ) (ds : List Dealt) → Each (λ d. Each (λ e. e.0 < k) d.entries) ds → from_put k ds g ≡ []
from_end k g ds a = flat_none (λ d. flat_map (from_at k g) d.entries) ds (all_none ds a)
  where
    one_none : (es : List (ℕ × (ℕ × List Full))) → Each (λ e. e.0 < k) es → Each (λ e. from_at k g e ≡ []) es
    one_none [] a = tt
    one_none (e ∷ es) a = ((let b : e.0 < k = a.0 in let t : nat_le k e.0 ≡ false = grind (arith, nat_tests) in rw t refl), one_none es a.1)

    all_none : (ds : List Dealt) → Each (λ d. Each (λ e. e.0 < k) d.entries) ds → Each (λ d. flat_map (from_at k g) d.entries ≡ []) ds
    all_none [] a = tt
    all_none (d ∷ ds) a = (flat_none (from_at k g) d.entries (one_none d.entries a.0), all_none ds a.1)

-- from an index on
parts_from : (starts : ℕ → ℕ) → ((i j : ℕ) → i ≤ j → starts i ≤ starts j) → (gone : ℕ → Bool) (ds : List Dealt) → AreApartFrom 0 ds → Each (λ d. MembersRise 0 d.entries) ds → Each (λ d. Each (IsInPart starts) d.entries) ds → (k : ℕ) (chunks : List (List Full)) → AreParts starts k chunks → Each (λ d. Each (λ e. e.0 < k + length chunks) d.entries) ds → woven (from_put k ds) gone (starts k) (joined chunks) ≡ parts_woven starts gone ds k chunks
parts_from starts rise gone ds apart rising inside k [] parts count = from_end k (starts k) ds (subst (λ n. Each (λ d. Each (λ e. e.0 < n) d.entries) ds) (let e : k + length {A = List Full} [] ≡ k = omega arith in e) count)
parts_from starts rise gone ds apart rising inside k (c ∷ cs) parts count =
    let next : starts k + length c ≡ starts (k + 1) = sym parts.0 in
    let cut : woven (from_put k ds) gone (starts k) (c ++ joined cs) ≡ woven (own_put k ds) gone (starts k) c ++ woven (from_put (k + 1) ds) gone (starts k + length c) (joined cs) =
    woven_split (from_put k ds) (own_put k ds) (from_put (k + 1) ds) gone (starts k) c (joined cs)
    (λ q above below. from_split k q 0 ds apart rising ∙ ap (λ z. own_put k ds q ++ z) (from_outside starts rise (k + 1) q ds inside (omega arith)) ∙ append-nil (own_put k ds q))
    (from_split k (starts k + length c) 0 ds apart rising)
    (λ q behind. from_split k q 0 ds apart rising ∙ ap (λ z. z ++ from_put (k + 1) ds q) (own_outside starts k q ds inside (inr (omega arith)))) in
    let rest : woven (from_put (k + 1) ds) gone (starts (k + 1)) (joined cs) ≡ parts_woven starts gone ds (k + 1) cs =
    parts_from starts rise gone ds apart rising inside (k + 1) cs parts.1 (subst (λ n. Each (λ d. Each (λ e. e.0 < n) d.entries) ds) (let e : k + length (c ∷ cs) ≡ k + 1 + length cs = omega arith in e) count) in
    cut ∙ ap (λ n. woven (own_put k ds) gone (starts k) c ++ woven (from_put (k + 1) ds) gone n (joined cs)) next ∙ ap (λ z. woven (own_put k ds) gone (starts k) c ++ z) rest

-- A text in parts, woven with what is dealt, is its parts woven one by one.
pub woven_by_parts : (starts : ℕ → ℕ) → starts 0 ≡ 0 → ((i j : ℕ) → i ≤ j → starts i ≤ starts j) → (gone : ℕ → Bool) (ds : List Dealt) → AreApartFrom 0 ds → Each (λ d. MembersRise 0 d.entries) ds → Each (λ d. Each (IsInPart starts) d.entries) ds → (chunks : List (List Full)) → AreParts starts 0 chunks → Each (λ d. Each (λ e. e.0 < length chunks) d.entries) ds → woven (λ g. flat_map (λ d. put_dealt d g) ds) gone 0 (joined chunks) ≡ parts_woven starts gone ds 0 chunks
woven_by_parts starts zero_start rise gone ds apart rising inside chunks parts count =
    woven_same (λ g. flat_map (λ d. put_dealt d g) ds) (from_put 0 ds) gone gone 0 (joined chunks) (λ q above. all_from q ds) (λ q above. refl)
    ∙ ap (λ n. woven (from_put 0 ds) gone n (joined chunks)) (sym zero_start)
    ∙ parts_from starts rise gone ds apart rising inside 0 chunks parts (subst (λ n. Each (λ d. Each (λ e. e.0 < n) d.entries) ds) (let e : length chunks ≡ 0 + length chunks = omega arith in e) count)
  where
    one_from : (g : ℕ) (es : List (ℕ × (ℕ × List Full))) → flat_map (at_gap g) es ≡ flat_map (from_at 0 g) es
    one_from g [] = refl
    one_from g (e ∷ es) = let t : nat_le 0 e.0 ≡ true = grind (arith, nat_tests) in rw t (ap (λ z. at_gap g e ++ z) (one_from g es))

    all_from : (g : ℕ) (ds : List Dealt) → flat_map (λ d. put_dealt d g) ds ≡ from_put 0 ds g
    all_from g [] = refl
    all_from g (d ∷ ds) = rw (one_from g d.entries) (ap (λ z. flat_map (from_at 0 g) d.entries ++ z) (all_from g ds))
