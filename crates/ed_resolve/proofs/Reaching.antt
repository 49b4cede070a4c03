-- Members that a component can't reach are passed over.
use Rattle.std.proofs.Common.{◌≡◌, ℕ, zero, suc, ◌+◌, ◌<◌, ◌≤◌, Bool, true, false, List, [], ◌∷◌, ◌++◌, append_assoc, length, map, drop, get_or, if◌then◌else◌, Option, Some, None, Result, Ok, Err, ◌⊎◌, inl, inr, refl, sym, ap, ◌∙◌, arith, subst}
use Rattle.std.specs.Prelude.{IsErr, IsErrAnd, MatchResult, nat_eq, slice_get}
use Rattle.std.specs.List.{cons_option, enumerate_from, filter_map}
use Rattle.std.proofs.lemmas.Bool.Decides.{nat_tests}
use Rattle.std.proofs.lemmas.List.{drop_all}
use Rattle.std.proofs.lemmas.Option.{slice_get_cases, slice_get_within}
use Rattle.ed_base.specs.declared.edit.Span.{Span}
use Rattle.ed_base.specs.declared.piece.Member.{Member}
use Rattle.ed_base.specs.declared.refusal.Refusal.{Refusal}
use Rattle.ed_base.specs.Numbers.{first_some, or_else}
use Rattle.ed_base.specs.Spans.{end_of, shares_unit, touches_gap}
use Rattle.ed_layers.specs.Pieces.{Component}
use Rattle.ed_layers.specs.Records.{placement}
use Rattle.ed_layers.specs.Sending.{Target, component_fault, deleted_literal, literal_part, range_of, target_at, targets}
use Rattle.ed_resolve.specs.declared.fault.SendFault.{SendFault}
use Rattle.ed_resolve.specs.Faults.{IsDeleted}
use Rattle.ed_resolve.specs.Sends.{literal_from, targets_from}

-- a list with indices from the k-th element on
next_there : {X : Type 0} (xs : List X) (b k : ℕ) (x : X) → slice_get xs k ≡ Some x → enumerate_from b (drop k xs) ≡ (b, x) ∷ enumerate_from (b + 1) (drop (k + 1) xs)
next_there [] b k x is = cc
next_there (y ∷ ys) b zero x is = let e : y ≡ x = cc in ap (λ z. (b, z) ∷ enumerate_from (b + 1) ys) e
next_there (y ∷ ys) b (suc k) x is = next_there ys b k x is ∙ ap (λ n. (b, x) ∷ enumerate_from (b + 1) (drop n (y ∷ ys))) (let e : suc (k + 1) ≡ suc k + 1 = omega arith in e)

-- what passes over each element before the k-th says the same from there on
skipped : {X Y : Type 0} (f : List (ℕ × X) → Y) (xs : List X) (k : ℕ) → k ≤ length xs → ((i : ℕ) (x : X) (rest : List (ℕ × X)) → i < k → slice_get xs i ≡ Some x → f ((i, x) ∷ rest) ≡ f rest) → f (enumerate_from k (drop k xs)) ≡ f (enumerate_from 0 xs)
skipped f xs zero within passes = refl
skipped {X = X} f xs (suc k) within passes = step (skipped f xs k (omega (arith, within)) (λ i x rest l is. passes i x rest (omega (arith, l)) is)) (slice_get_cases xs k).1
  where
    step : f (enumerate_from k (drop k xs)) ≡ f (enumerate_from 0 xs) → ((x : X) × (k < length xs) × (slice_get xs k ≡ Some x) × (get_or xs k x ≡ x)) ⊎ ((length xs ≤ k) × (slice_get xs k ≡ None)) → f (enumerate_from (suc k) (drop (suc k) xs)) ≡ f (enumerate_from 0 xs)
    step same (inl s) =
        ap (λ n. f (enumerate_from n (drop n xs))) (let e : suc k ≡ k + 1 = omega arith in e)
        ∙ sym (passes k s.0 (enumerate_from (k + 1) (drop (k + 1) xs)) (omega arith) s.2)
        ∙ ap f (sym (next_there xs k k s.0 s.2))
        ∙ same
    step same (inr s) = let l = s.0 in absurd (omega (arith, within, l))

-- what passes over each element from the k-th on says of them what it says of none
ended : {X Y : Type 0} (f : List (ℕ × X) → Y) (xs : List X) (fuel k : ℕ) → length xs ≤ k + fuel → ((i : ℕ) (x : X) (rest : List (ℕ × X)) → k ≤ i → slice_get xs i ≡ Some x → f ((i, x) ∷ rest) ≡ f rest) → f (enumerate_from k (drop k xs)) ≡ f []
ended f xs zero k within passes = ap (λ ys. f (enumerate_from k ys)) (drop_all k xs (omega (arith, within)))
ended {X = X} f xs (suc fuel) k within passes = step (ended f xs fuel (k + 1) (omega (arith, within)) (λ i x rest l is. passes i x rest (omega (arith, l)) is)) (slice_get_cases xs k).1
  where
    step : f (enumerate_from (k + 1) (drop (k + 1) xs)) ≡ f [] → ((x : X) × (k < length xs) × (slice_get xs k ≡ Some x) × (get_or xs k x ≡ x)) ⊎ ((length xs ≤ k) × (slice_get xs k ≡ None)) → f (enumerate_from k (drop k xs)) ≡ f []
    step same (inl s) = ap f (next_there xs k k s.0 s.2) ∙ passes k s.0 (enumerate_from (k + 1) (drop (k + 1) xs)) (omega arith) s.2 ∙ same
    step same (inr s) = ap (λ ys. f (enumerate_from k ys)) (drop_all k xs s.0)

-- a placement that a component doesn't touch
away_shares : (c : Component) (place : Span) → (end_of place < c.start) ⊎ (c.start + c.old_len < place.start) → shares_unit place (range_of c) ≡ false
away_shares c place (inl l) = grind (arith, nat_tests, l)
away_shares c place (inr l) = grind (arith, nat_tests, l)

away_touches : (c : Component) (place : Span) → (end_of place < c.start) ⊎ (c.start + c.old_len < place.start) → touches_gap place c.start ≡ false
away_touches c place (inl l) = grind (arith, nat_tests, l)
away_touches c place (inr l) = grind (arith, nat_tests, l)

neither : (b : Bool) → (if b then false else false) ≡ false
neither true = refl
neither false = refl

pub no_target : (c : Component) (place : Span) (i : ℕ) (m : Member) → (end_of place < c.start) ⊎ (c.start + c.old_len < place.start) → target_at c place (i, m) ≡ None
no_target c place i (Member.Literal units) away = refl
no_target c place i (Member.Tracked source bounds mode) away = rw (away_touches c place away, away_shares c place away, neither (nat_eq c.old_len 0)) refl

pub no_literal : (c : Component) (place : Span) (i : ℕ) (m : Member) → (end_of place < c.start) ⊎ (c.start + c.old_len < place.start) → literal_part c place (i, m) ≡ None
no_literal c place i (Member.Literal units) away = rw (away_shares c place away) refl
no_literal c place i (Member.Tracked source bounds mode) away = refl

-- the targets that are passed over first
pub targets_begin : (ms : List Member) (c : Component) (k : ℕ) → k ≤ length ms → ((i : ℕ) → i < k → end_of (placement ms i) < c.start) → targets_from ms c k ≡ targets ms c
targets_begin ms c k within before = skipped (filter_map (λ im. target_at c (placement ms im.0) im)) ms k within (λ i m rest l is. let e : target_at c (placement ms i) (i, m) ≡ None = no_target c (placement ms i) i m (inl (before i l)) in rw e refl)

pub literal_begins : (ms : List Member) (c : Component) (k : ℕ) → k ≤ length ms → ((i : ℕ) → i < k → end_of (placement ms i) < c.start) → literal_from ms c k ≡ deleted_literal ms c
literal_begins ms c k within before = skipped (λ l. first_some (map (λ im. literal_part c (placement ms im.0) im) l)) ms k within (λ i m rest l is. let e : literal_part c (placement ms i) (i, m) ≡ None = no_literal c (placement ms i) i m (inl (before i l)) in rw e refl)

-- one member more
pub targets_step : (ms : List Member) (c : Component) (k : ℕ) (m : Member) → slice_get ms k ≡ Some m → targets_from ms c k ≡ cons_option (target_at c (placement ms k) (k, m)) (targets_from ms c (k + 1))
targets_step ms c k m is = ap (filter_map (λ im. target_at c (placement ms im.0) im)) (next_there ms k k m is)

pub literal_step : (ms : List Member) (c : Component) (k : ℕ) (m : Member) → slice_get ms k ≡ Some m → literal_from ms c k ≡ or_else (literal_part c (placement ms k) (k, m)) (literal_from ms c (k + 1))
literal_step ms c k m is = ap (λ l. first_some (map (λ im. literal_part c (placement ms im.0) im) l)) (next_there ms k k m is)

-- none is left
pub targets_end : (ms : List Member) (c : Component) (k : ℕ) → ((i : ℕ) → k ≤ i → i < length ms → c.start + c.old_len < (placement ms i).start) → targets_from ms c k ≡ []
targets_end ms c k behind = ended (filter_map (λ im. target_at c (placement ms im.0) im)) ms (length ms) k (omega arith) (λ i m rest l is. let e : target_at c (placement ms i) (i, m) ≡ None = no_target c (placement ms i) i m (inr (behind i l (slice_get_within ms i m is))) in rw e refl)

pub literal_ends : (ms : List Member) (c : Component) (k : ℕ) → ((i : ℕ) → k ≤ i → i < length ms → c.start + c.old_len < (placement ms i).start) → literal_from ms c k ≡ None
literal_ends ms c k behind = ended (λ l. first_some (map (λ im. literal_part c (placement ms im.0) im) l)) ms (length ms) k (omega arith) (λ i m rest l is. let e : literal_part c (placement ms i) (i, m) ≡ None = no_literal c (placement ms i) i m (inr (behind i l (slice_get_within ms i m is))) in rw e refl)

-- ---- why a component can't be sent

pub fault_literal : (carrier : ℕ) (ms : List Member) (c : Component) (s : Span) → deleted_literal ms c ≡ Some s → component_fault carrier ms c ≡ Some (Refusal.Literal carrier s)
fault_literal carrier ms c s e = rw e refl

pub fault_place : (carrier : ℕ) (ms : List Member) (c : Component) → deleted_literal ms c ≡ None → targets ms c ≡ [] → component_fault carrier ms c ≡ Some (Refusal.NoPlace carrier c.start)
fault_place carrier ms c e f = rw (e, f) refl

pub fault_none : (carrier : ℕ) (ms : List Member) (c : Component) → deleted_literal ms c ≡ None → (ts : List Target) → targets ms c ≡ ts → 0 < length ts → component_fault carrier ms c ≡ None
fault_none carrier ms c e [] f some = absurd (omega (arith, some))
fault_none carrier ms c e (t ∷ ts) f some = rw (e, f) refl

-- a target that may be there, before others
option_front : {X : Type 0} (o : Option X) (xs : List X) → cons_option o xs ≡ cons_option o [] ++ xs
option_front None xs = refl
option_front (Some x) xs = refl

-- ---- one member more, from what was found in it

pub targets_more : (ms : List Member) (c : Component) (k : ℕ) (m : Member) (place : Span) (old new : List Target) → slice_get ms k ≡ Some m → place ≡ placement ms k → new ≡ old ++ cons_option (target_at c place (k, m)) [] → old ++ targets_from ms c k ≡ targets ms c → new ++ targets_from ms c (k + 1) ≡ targets ms c
targets_more ms c k m place old new is at put so =
    let o : Option Target = target_at c (placement ms k) (k, m) in
    ap (λ xs. xs ++ targets_from ms c (k + 1)) (put ∙ ap (λ p. old ++ cons_option (target_at c p (k, m)) []) at)
    ∙ append_assoc old (cons_option o []) (targets_from ms c (k + 1))
    ∙ ap (λ xs. old ++ xs) (sym (option_front o (targets_from ms c (k + 1))) ∙ sym (targets_step ms c k m is))
    ∙ so

pub literal_more : (ms : List Member) (c : Component) (k : ℕ) (m : Member) (place : Span) → slice_get ms k ≡ Some m → place ≡ placement ms k → literal_part c place (k, m) ≡ None → literal_from ms c k ≡ deleted_literal ms c → literal_from ms c (k + 1) ≡ deleted_literal ms c
literal_more ms c k m place is at none so = sym (literal_step ms c k m is ∙ ap (λ o. or_else o (literal_from ms c (k + 1))) (sym (ap (λ p. literal_part c p (k, m)) at) ∙ none)) ∙ so

pub literal_found : (ms : List Member) (c : Component) (k : ℕ) (m : Member) (place : Span) (e : SendFault) → slice_get ms k ≡ Some m → place ≡ placement ms k → literal_from ms c k ≡ deleted_literal ms c → IsDeleted (literal_part c place (k, m)) e → IsDeleted (deleted_literal ms c) e
literal_found ms c k m place (SendFault.Literal span) is at so found = sym so ∙ literal_step ms c k m is ∙ ap (λ o. or_else o (literal_from ms c (k + 1))) (sym (ap (λ p. literal_part c p (k, m)) at) ∙ found)
literal_found ms c k m place (SendFault.NoPlace gap) is at so found = found
literal_found ms c k m place SendFault.OutOfMemory is at so found = found

-- an error that is handed on
pub handed_on : (X : Type 0) (A : X → Type 0) (part : Option Span) (result : Result X SendFault) (e : SendFault) → IsErr result × IsErrAnd result (λ f. f ≡ e) → IsDeleted part e → MatchResult result A (IsDeleted part)
handed_on X A part (Ok x) e h r = absurd h.1
handed_on X A part (Err f) e h r = subst (IsDeleted part) (sym h.1) r
