-- The sources of members, each once.
use Rattle.std.proofs.Common.{◌≡◌, ℕ, ◌+◌, Bool, true, false, List, [], ◌∷◌, ◌++◌, map, Some, refl, sym, ◌∙◌, ap, subst, append_assoc}
use Rattle.std.specs.Prelude.{◌||◌, find, nat_eq}
use Rattle.std.specs.List.{AllByRecursion as Each, enumerate_from}
use Rattle.std.proofs.lemmas.Bool.{eqb-true, eq-eqb}
use Rattle.ed_base.specs.declared.Member.{Member}
use Rattle.ed_base.specs.declared.Span.{Span}
use Rattle.ed_base.specs.declared.SpanMode.{SpanMode}
use Rattle.ed_base.specs.Numbers.{is_among}
use Rattle.ed_layers.specs.Order.{fails_to_cover, mode_fault}
use Rattle.ed_layers.specs.Records.{version_in}
use Rattle.ed_stock.specs.Making.{sources_in}
use Rattle.ed_risen.proofs.Lists.{among_front}

-- ---- lists

same_order : (x c s : Bool) → (x || (c || s)) ≡ (c || (x || s))
same_order true true s = refl
same_order true false s = refl
same_order false true s = refl
same_order false false s = refl

among_push : (xs : List ℕ) (x c : ℕ) → is_among c (xs ++ x ∷ []) ≡ is_among c (x ∷ xs)
among_push [] x c = refl
among_push (y ∷ ys) x c = ap (λ t. nat_eq c y || t) (among_push ys x c) ∙ same_order (nat_eq c y) (nat_eq c x) (is_among c ys)

-- which sources are still to be listed depends only on which are listed
sources_agree : (xs ys : List ℕ) → ((c : ℕ) → is_among c xs ≡ is_among c ys) → (ms : List Member) → sources_in xs ms ≡ sources_in ys ms
sources_agree xs ys same [] = refl
sources_agree xs ys same (Member.Literal units ∷ ms) = sources_agree xs ys same ms
sources_agree xs ys same (Member.Tracked source bounds mode ∷ ms) =
    rw (same source, sources_agree xs ys same ms, sources_agree (source ∷ xs) (source ∷ ys) (λ c. ap (λ t. nat_eq c source || t) (same c)) ms) refl

-- a source that is listed, and one that isn't
pub listed_before : (xs : List ℕ) (source : ℕ) (bounds : Span) (mode : SpanMode) (rest : List Member) → is_among source xs ≡ true → xs ++ sources_in xs (Member.Tracked source bounds mode ∷ rest) ≡ xs ++ sources_in xs rest
listed_before xs source bounds mode rest t = rw t refl

pub listed_now : (xs : List ℕ) (source : ℕ) (bounds : Span) (mode : SpanMode) (rest : List Member) → is_among source xs ≡ false → xs ++ sources_in xs (Member.Tracked source bounds mode ∷ rest) ≡ (xs ++ source ∷ []) ++ sources_in (xs ++ source ∷ []) rest
listed_now xs source bounds mode rest f =
    rw f (ap (λ ys. xs ++ source ∷ ys) (sources_agree (source ∷ xs) (xs ++ source ∷ []) (λ c. sym (among_push xs source c)) rest) ∙ sym (append_assoc xs (source ∷ []) (sources_in (xs ++ source ∷ []) rest)))

pub put_listed : (xs ys : List ℕ) (m : Member) (source : ℕ) (bounds : Span) (mode : SpanMode) → m ≡ Member.Tracked source bounds mode → ys ≡ xs ++ source ∷ [] → is_among source xs ≡ false → (rest : List Member) → xs ++ sources_in xs (m ∷ rest) ≡ ys ++ sources_in ys rest
put_listed xs ys m source bounds mode is items f rest = ap (λ n. xs ++ sources_in xs (n ∷ rest)) is ∙ listed_now xs source bounds mode rest f ∙ ap (λ zs. zs ++ sources_in zs rest) (sym items)

-- ---- what is listed

-- the source of a tracked member is among these
abbrev pub IsListed : List ℕ → Member → Type 0
IsListed sources (Member.Literal units) = Unit {0}
IsListed sources (Member.Tracked source bounds mode) = is_among source sources ≡ true

among_here : (xs ys : List ℕ) (c : ℕ) → is_among c ((xs ++ c ∷ []) ++ ys) ≡ true
among_here xs ys c = among_front c (xs ++ c ∷ []) ys (among_push xs c c ∙ (rw (eq-eqb c c refl) refl))

each_either : (seen : List ℕ) (ms : List Member) → Each (IsListed (seen ++ sources_in seen ms)) ms
each_either seen [] = tt
each_either seen (Member.Literal units ∷ ms) = (tt, each_either seen ms)
each_either seen (Member.Tracked source bounds mode ∷ ms) = by (is_among source seen) refl (each_either seen ms) (each_either (seen ++ source ∷ []) ms)
  where
    by : (t : Bool) → is_among source seen ≡ t → Each (IsListed (seen ++ sources_in seen ms)) ms → Each (IsListed ((seen ++ source ∷ []) ++ sources_in (seen ++ source ∷ []) ms)) ms → Each (IsListed (seen ++ sources_in seen (Member.Tracked source bounds mode ∷ ms))) (Member.Tracked source bounds mode ∷ ms)
    by true t old new = subst (λ xs. Each (IsListed xs) (Member.Tracked source bounds mode ∷ ms)) (sym (listed_before seen source bounds mode ms t)) (among_front source seen (sources_in seen ms) t, old)
    by false t old new = subst (λ xs. Each (IsListed xs) (Member.Tracked source bounds mode ∷ ms)) (sym (listed_now seen source bounds mode ms t)) (among_here seen (sources_in (seen ++ source ∷ []) ms) source, new)

-- the source of each tracked member is listed
pub all_listed : (ms : List Member) → Each (IsListed (sources_in [] ms)) ms
all_listed ms = each_either [] ms

-- what is so of the source of each tracked member is so of all that are listed
abbrev pub OfSource : (ℕ → Type 0) → Member → Type 0
OfSource P (Member.Literal units) = Unit {0}
OfSource P (Member.Tracked source bounds mode) = P source

pub each_source : (P : ℕ → Type 0) (seen : List ℕ) (ms : List Member) → Each (OfSource P) ms → Each P (sources_in seen ms)
each_source P seen [] h = tt
each_source P seen (Member.Literal units ∷ ms) h = each_source P seen ms h.1
each_source P seen (Member.Tracked source bounds mode ∷ ms) h = by (is_among source seen) refl (each_source P seen ms h.1) (each_source P (source ∷ seen) ms h.1)
  where
    by : (t : Bool) → is_among source seen ≡ t → Each P (sources_in seen ms) → Each P (sources_in (source ∷ seen) ms) → Each P (sources_in seen (Member.Tracked source bounds mode ∷ ms))
    by true t old new = rw t old
    by false t old new = rw t (h.0, new)

-- ---- lengths that agree on the sources

-- two lengths agree on the source of a tracked member
abbrev pub Agree : (ℕ → ℕ) → (ℕ → ℕ) → Member → Type 0
Agree f g (Member.Literal units) = Unit {0}
Agree f g (Member.Tracked source bounds mode) = f source ≡ g source

same_cover : (f g : ℕ → ℕ) (m : Member) → Agree f g m → fails_to_cover f m ≡ fails_to_cover g m
same_cover f g (Member.Literal units) h = refl
same_cover f g (Member.Tracked source bounds mode) h = rw h refl

same_found : (f g : ℕ → ℕ) (i : ℕ) (ms : List Member) → Each (Agree f g) ms → find (λ im. fails_to_cover f im.1) (enumerate_from i ms) ≡ find (λ im. fails_to_cover g im.1) (enumerate_from i ms)
same_found f g i [] h = refl
same_found f g i (m ∷ ms) h = rw (same_cover f g m h.0, same_found f g (i + 1) ms h.1) refl

pub same_mode_fault : (f g : ℕ → ℕ) (ms : List Member) → Each (Agree f g) ms → mode_fault f ms ≡ mode_fault g ms
same_mode_fault f g ms h = rw (same_found f g 0 ms h) refl

-- the version that is named for a source that is listed, and its length
pub named_among : (f : ℕ → ℕ) (xs : List ℕ) (c : ℕ) → is_among c xs ≡ true → version_in (map (λ b. (b, f b)) xs) c ≡ Some (f c)
named_among f [] c h = absurd (cc)
named_among f (x ∷ xs) c h = by (nat_eq x c) refl (named_among f xs c)
  where
    later : (t : Bool) → nat_eq c x ≡ t → nat_eq x c ≡ false → is_among c xs ≡ true
    later true t q = absurd (let e : nat_eq x c ≡ true = eq-eqb x c (sym (eqb-true c x t)) in let g : true ≡ false = sym e ∙ q in cc)
    later false t q = let e : is_among c (x ∷ xs) ≡ is_among c xs = rw t refl in sym e ∙ h

    by : (t : Bool) → nat_eq x c ≡ t → (is_among c xs ≡ true → version_in (map (λ b. (b, f b)) xs) c ≡ Some (f c)) → version_in (map (λ b. (b, f b)) (x ∷ xs)) c ≡ Some (f c)
    by true t more = rw t (ap (λ b. Some (f b)) (eqb-true x c t))
    by false t more = rw t (more (later (nat_eq c x) refl t))
