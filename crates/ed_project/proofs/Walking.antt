-- Going over members by index, and the texts that they make.
use Rattle.std.proofs.Common.{◌≡◌, ℕ, zero, suc, ◌+◌, ◌<◌, ◌≤◌, List, [], ◌∷◌, ◌++◌, length, map, take, drop, get_or, Option, Some, None, inl, inr, refl, sym, ap, subst, ◌∙◌, arith, append_assoc, length-append}
use Rattle.std.proofs.lemmas.Bool.Decides.{eqb_tells}
use Rattle.std.specs.Prelude.{All, flat_map, MatchOption, slice_get, sum_by}
use Rattle.std.specs.Option.{option_map_or}
use Rattle.std.specs.List.{enumerate_from}
use Rattle.std.proofs.lemmas.List.{append-nil, map-append}
use Rattle.std.proofs.lemmas.List.Sums.{sum_by-append, sum_by-cons}
use Rattle.std.proofs.lemmas.Option.{slice_get-get_or}
use Rattle.ed_base.specs.declared.edit.Span.{Span}
use Rattle.ed_base.specs.declared.piece.Member.{Member}
use Rattle.ed_base.specs.Spans.{end_of}
use Rattle.ed_layers.specs.Bounds.{member_after, members_after}
use Rattle.ed_layers.specs.Records.{member_len, members_len}
use Rattle.ed_layers.specs.SourceStep.{SourceStep}
use Rattle.ed_members.specs.Moving.{EndsInNew, EndsInOld}
use Rattle.ed_version.specs.declared.snapshot.Snapshot.{Snapshot}
use Rattle.ed_project.specs.Kept.{AllBecome, Becomes, all_pairs, member_pairs}
use Rattle.ed_project.specs.Texts.{HasSource, found_text, no_steps}
use Rattle.ed_kept.proofs.Components.{no_runs}
use Rattle.ed_project.proofs.SourceRuns.{take_more}
use Rattle.ed_project.proofs.Whole.{len_push}

-- ---- an element by its index

pub rest_at : {X : Type 0} (xs : List X) (k : ℕ) (x : X) → slice_get xs k ≡ Some x → drop k xs ≡ x ∷ drop (k + 1) xs
rest_at [] k x is = absurd (let impossible : ⊥ = cc in impossible)
rest_at (y ∷ ys) zero x is = let same : y ≡ x = cc in ap (λ z. z ∷ ys) same
rest_at (y ∷ ys) (suc k) x is = rest_at ys k x is ∙ ap (λ n. x ∷ drop n (y ∷ ys)) (let e : suc (k + 1) ≡ suc k + 1 = omega arith in e)

pub get_within : {X : Type 0} (xs : List X) (k : ℕ) (x : X) → slice_get xs k ≡ Some x → k < length xs
get_within [] k x is = absurd (let impossible : ⊥ = cc in impossible)
get_within (y ∷ ys) zero x is = omega arith
get_within (y ∷ ys) (suc k) x is = omega (arith, get_within ys k x is)

pub get_is : {X : Type 0} (xs : List X) (k : ℕ) (x : X) → slice_get xs k ≡ Some x → get_or xs k x ≡ x
get_is [] k x is = refl
get_is (y ∷ ys) zero x is = cc
get_is (y ∷ ys) (suc k) x is = get_is ys k x is

pub all_get : {X : Type 0} (P : X → Type 0) (xs : List X) → All P xs → (k : ℕ) (x : X) → slice_get xs k ≡ Some x → P x
all_get P xs all k x is = subst P (get_is xs k x is) (all k x (get_within xs k x is))

pub get_all : {X : Type 0} (P : X → Type 0) (xs : List X) → ((k : ℕ) (x : X) → slice_get xs k ≡ Some x → P x) → All P xs
get_all P xs each k d below = each k (get_or xs k d) (slice_get-get_or xs k d below)

-- ---- the pairs of the members so far

pub become_len : (steps : ℕ → Option SourceStep) (os ns : List Member) → AllBecome steps os ns → length os ≡ length ns
become_len steps [] [] become = refl
become_len steps [] (n ∷ ns) become = absurd become
become_len steps (o ∷ os) [] become = absurd become
become_len steps (o ∷ os) (n ∷ ns) become = ap suc (become_len steps os ns become.1)

pub become_at : (steps : ℕ → Option SourceStep) (old new : List Member) (i : ℕ) (o n : Member) → slice_get old i ≡ Some o → slice_get new i ≡ Some n → AllBecome steps (drop i old) (drop i new) → Becomes steps o n × AllBecome steps (drop (i + 1) old) (drop (i + 1) new)
become_at steps old new i o n is_old is_new become =
    subst (λ xs. AllBecome steps xs (n ∷ drop (i + 1) new)) (rest_at old i o is_old) (subst (λ xs. AllBecome steps (drop i old) xs) (rest_at new i n is_new) become)

len_more : (ms : List Member) (i : ℕ) (m : Member) → slice_get ms i ≡ Some m → members_len (take (i + 1) ms) ≡ members_len (take i ms) + member_len m
len_more ms i m is = ap members_len (take_more ms i m is) ∙ len_push (take i ms) m

pub walk_more : (steps : ℕ → Option SourceStep) (old new : List Member) (i : ℕ) (o n : Member) (done more whole : List (ℕ × ℕ)) → slice_get old i ≡ Some o → slice_get new i ≡ Some n → done ++ all_pairs steps (members_len (take i old)) (members_len (take i new)) (drop i old) (drop i new) ≡ whole → more ≡ done ++ member_pairs steps (members_len (take i old)) (members_len (take i new)) o n → more ++ all_pairs steps (members_len (take (i + 1) old)) (members_len (take (i + 1) new)) (drop (i + 1) old) (drop (i + 1) new) ≡ whole
walk_more steps old new i o n done more whole is_old is_new so_far put =
    let k : ℕ = members_len (take i old) in
    let q : ℕ = members_len (take i new) in
    let os : List Member = drop (i + 1) old in
    let ns : List Member = drop (i + 1) new in
    ap (λ x. more ++ all_pairs steps x (members_len (take (i + 1) new)) os ns) (len_more old i o is_old)
    ∙ ap (λ x. more ++ all_pairs steps (k + member_len o) x os ns) (len_more new i n is_new)
    ∙ ap (λ zs. zs ++ all_pairs steps (k + member_len o) (q + member_len n) os ns) put
    ∙ append_assoc done (member_pairs steps k q o n) (all_pairs steps (k + member_len o) (q + member_len n) os ns)
    ∙ sym (ap (λ xs. done ++ all_pairs steps k q xs (drop i new)) (rest_at old i o is_old) ∙ ap (λ xs. done ++ all_pairs steps k q (o ∷ os) xs) (rest_at new i n is_new))
    ∙ so_far

pub walk_end : (steps : ℕ → Option SourceStep) (old new : List Member) (i : ℕ) (done whole : List (ℕ × ℕ)) → length old ≤ i → done ++ all_pairs steps (members_len (take i old)) (members_len (take i new)) (drop i old) (drop i new) ≡ whole → done ≡ whole
walk_end steps old new i done whole behind so_far =
    sym (ap (λ xs. done ++ all_pairs steps (members_len (take i old)) (members_len (take i new)) xs (drop i new)) (no_runs old i behind) ∙ append-nil done) ∙ so_far

-- ---- texts

pub member_within : (ms : List Member) (i : ℕ) (m : Member) → slice_get ms i ≡ Some m → member_len m ≤ members_len ms
member_within [] i m is = absurd (let impossible : ⊥ = cc in impossible)
member_within (n ∷ ms) zero m is =
    let same : member_len n ≡ member_len m = (let e : n ≡ m = cc in ap member_len e) in
    omega (arith, sum_by-cons member_len n ms)
member_within (n ∷ ms) (suc i) m is = omega (arith, sum_by-cons member_len n ms, member_within ms i m is)

pub texts_more : (f : Member → List ℕ) (ms : List Member) (i : ℕ) (m : Member) (parts more : List (List ℕ)) (t : List ℕ) → slice_get ms i ≡ Some m → parts ≡ map f (take i ms) → t ≡ f m → more ≡ parts ++ t ∷ [] → more ≡ map f (take (i + 1) ms)
texts_more f ms i m parts more t is so_far text put =
    put ∙ ap (λ xs. xs ++ t ∷ []) so_far ∙ ap (λ x. map f (take i ms) ++ x ∷ []) text ∙ sym (ap (map f) (take_more ms i m is) ∙ map-append f (take i ms) (m ∷ []))

pub lens_more : (ms : List Member) (i : ℕ) (m : Member) (parts more : List (List ℕ)) (t : List ℕ) → slice_get ms i ≡ Some m → sum_by length parts ≡ members_len (take i ms) → length t ≡ member_len m → more ≡ parts ++ t ∷ [] → sum_by length more ≡ members_len (take (i + 1) ms)
lens_more ms i m parts more t is so_far len put =
    let sum : sum_by length (parts ++ t ∷ []) ≡ sum_by length parts + sum_by length (t ∷ []) = sum_by-append length parts (t ∷ []) in
    let one : sum_by length (t ∷ []) ≡ length t = omega (arith, sum_by-cons length t []) in
    ap (sum_by length) put ∙ omega (arith, sum, one, len_more ms i m is)

pub take_past : {X : Type 0} (xs : List X) (k : ℕ) → length xs ≤ k → take k xs ≡ xs
take_past [] zero behind = refl
take_past [] (suc k) behind = refl
take_past (x ∷ xs) zero behind = absurd (omega arith)
take_past (x ∷ xs) (suc k) behind = ap (λ zs. x ∷ zs) (take_past xs k (omega arith))

pub joined : (f : Member → List ℕ) (ms : List Member) → flat_map (λ part. part) (map f ms) ≡ flat_map f ms
joined f [] = refl
joined f (m ∷ ms) = ap (λ zs. f m ++ zs) (joined f ms)

pub joined_len : (parts : List (List ℕ)) → length (flat_map (λ part. part) parts) ≡ sum_by length parts
joined_len [] = refl
joined_len (p ∷ ps) = omega (arith, length-append p (flat_map (λ part. part) ps), joined_len ps, sum_by-cons length p ps)

-- ---- members after steps

member_becomes : (carrier : ℕ) (steps : ℕ → Option SourceStep) (all : List Member) (y : ℕ) (m : Member) → EndsInOld steps m → EndsInNew steps (member_after carrier steps all (y, m)) → Becomes steps m (member_after carrier steps all (y, m))
member_becomes carrier steps all y (Member.Literal units) old new = refl
member_becomes carrier steps all y (Member.Tracked source bounds mode) old new = (refl, go (steps source) _ old new)
  where
    go : (x : Option SourceStep) (f : SourceStep → Span) → MatchOption x (Unit {0}) (λ s. end_of bounds ≤ s.step.old_len) → MatchOption x (Unit {0}) (λ s. end_of (option_map_or f x bounds) ≤ s.step.new_len) → MatchOption x (bounds ≡ option_map_or f x bounds) (λ s. (end_of bounds ≤ s.step.old_len) × (end_of (option_map_or f x bounds) ≤ s.step.new_len))
    go None f before after = refl
    go (Some s) f before after = (before, after)

become_from : (carrier : ℕ) (steps : ℕ → Option SourceStep) (all ms : List Member) (y : ℕ) → ((k : ℕ) (m : Member) → slice_get ms k ≡ Some m → EndsInOld steps m) → ((k : ℕ) (m : Member) → slice_get (map (member_after carrier steps all) (enumerate_from y ms)) k ≡ Some m → EndsInNew steps m) → AllBecome steps ms (map (member_after carrier steps all) (enumerate_from y ms))
become_from carrier steps all [] y old new = tt
become_from carrier steps all (m ∷ ms) y old new =
    (member_becomes carrier steps all y m (old 0 m refl) (new 0 (member_after carrier steps all (y, m)) refl), become_from carrier steps all ms (y + 1) (λ k x is. old (suc k) x is) (λ k x is. new (suc k) x is))

pub become_after : (carrier : ℕ) (steps : ℕ → Option SourceStep) (ms ns : List Member) → ns ≡ members_after carrier steps ms → All (EndsInOld steps) ms → All (EndsInNew steps) ns → AllBecome steps ms ns
become_after carrier steps ms ns is old new =
    subst (λ xs. AllBecome steps ms xs) (sym is)
    (become_from carrier steps ms ms 0 (all_get (EndsInOld steps) ms old) (all_get (EndsInNew steps) (members_after carrier steps ms) (subst (All (EndsInNew steps)) is new)))

-- the sources of the members after the steps
has_source : (steps : ℕ → Option SourceStep) (snapshots : List Snapshot) (o n : Member) → HasSource steps snapshots o → Becomes steps o n → EndsInNew steps n → HasSource no_steps snapshots n
has_source steps snapshots (Member.Literal us) (Member.Literal vs) has becomes ends = tt
has_source steps snapshots (Member.Literal us) (Member.Tracked source bounds mode) has becomes ends = absurd becomes
has_source steps snapshots (Member.Tracked source bounds mode) (Member.Literal vs) has becomes ends = absurd becomes
has_source steps snapshots (Member.Tracked from old old_mode) (Member.Tracked source bounds mode) has becomes ends =
    go (found_text snapshots source) (steps source) (subst (λ x. HasSource steps snapshots (Member.Tracked x old old_mode)) becomes.0 has) becomes.1 ends
  where
    go : (t : Option (List ℕ)) (x : Option SourceStep) → MatchOption t ⊥ (λ text. MatchOption x (end_of old ≤ length text) (λ s. s.step.new_len ≡ length text)) → MatchOption x (old ≡ bounds) (λ s. (end_of old ≤ s.step.old_len) × (end_of bounds ≤ s.step.new_len)) → MatchOption x (Unit {0}) (λ s. end_of bounds ≤ s.step.new_len) → MatchOption t ⊥ (λ text. end_of bounds ≤ length text)
    go None x has same end = has
    go (Some t) None has same end = subst (λ (b : Span). end_of b ≤ length t) same has
    go (Some t) (Some s) has same end = omega (arith, has, end)

sources_from : (steps : ℕ → Option SourceStep) (snapshots : List Snapshot) (os ns : List Member) → AllBecome steps os ns → ((k : ℕ) (m : Member) → slice_get os k ≡ Some m → HasSource steps snapshots m) → ((k : ℕ) (m : Member) → slice_get ns k ≡ Some m → EndsInNew steps m) → (k : ℕ) (m : Member) → slice_get ns k ≡ Some m → HasSource no_steps snapshots m
sources_from steps snapshots [] [] become has ends k m is = absurd (let impossible : ⊥ = cc in impossible)
sources_from steps snapshots [] (n ∷ ns) become has ends k m is = absurd become
sources_from steps snapshots (o ∷ os) [] become has ends k m is = absurd become
sources_from steps snapshots (o ∷ os) (n ∷ ns) become has ends zero m is =
    let same : n ≡ m = cc in
    subst (HasSource no_steps snapshots) same (has_source steps snapshots o n (has 0 o refl) become.0 (ends 0 n refl))
sources_from steps snapshots (o ∷ os) (n ∷ ns) become has ends (suc k) m is =
    sources_from steps snapshots os ns become.1 (λ i x at. has (suc i) x at) (λ i x at. ends (suc i) x at) k m is

pub sources_after : (steps : ℕ → Option SourceStep) (snapshots : List Snapshot) (os ns : List Member) → AllBecome steps os ns → All (HasSource steps snapshots) os → All (EndsInNew steps) ns → All (HasSource no_steps snapshots) ns
sources_after steps snapshots os ns become has ends =
    get_all (HasSource no_steps snapshots) ns (sources_from steps snapshots os ns become (all_get (HasSource steps snapshots) os has) (all_get (EndsInNew steps) ns ends))

-- one element more of which something holds
pub each_more : {X : Type 0} (P : X → Type 0) (xs : List X) (i : ℕ) (x : X) → slice_get xs i ≡ Some x → P x → ((k : ℕ) (y : X) → k < i → slice_get xs k ≡ Some y → P y) → (k : ℕ) (y : X) → k < i + 1 → slice_get xs k ≡ Some y → P y
each_more P xs i x is here before k y below at =
    elim (eqb_tells k i) [
      | inl same ↦
          let found : slice_get xs i ≡ Some y = subst (λ n. slice_get xs n ≡ Some y) same.1 at in
          let equal : x ≡ y = (let both : Some x ≡ Some y = sym is ∙ found in cc) in
          subst P equal here
      | inr other ↦ before k y (omega (arith, other.1)) at
    ]
