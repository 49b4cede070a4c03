-- What the targets of a component get, and what a carrier sends on.
use Rattle.std.proofs.Common.{◌≡◌, ◌≢◌, ℕ, suc, ◌+◌, ◌^◌, ◌<◌, ◌≤◌, Bool, true, false, List, [], ◌∷◌, ◌++◌, length, map, drop, get_or, Option, Some, None, refl, sym, ap, ◌∙◌, arith, if◌then◌else◌, append_assoc}
use Rattle.std.specs.Prelude.{MatchOption, nat_eq}
use Rattle.std.proofs.Math.Seq.{drop-cons}
use Rattle.ed_base.specs.declared.refusal.Refusal.{Refusal}
use Rattle.ed_base.specs.Numbers.{or_else}
use Rattle.std.specs.List.{All, cons_option, enumerate_from, filter_map}
use Rattle.std.proofs.lemmas.List.Elements.{All-cons, All-nil}
use Rattle.std.proofs.lemmas.List.FromFn.{length-enumerate_from}
use Rattle.ed_base.specs.declared.edit.Span.{Span}
use Rattle.std.proofs.lemmas.Bool.Decides.{nat_tests}
use Rattle.ed_base.specs.declared.piece.Member.{Member}
use Rattle.ed_base.specs.declared.piece.Piece.{Piece}
use Rattle.ed_base.specs.declared.rule.CutRule.{CutRule}
use Rattle.ed_base.specs.Hooks.{CutRules}
use Rattle.ed_layers.specs.Pieces.{Component}
use Rattle.ed_layers.specs.Records.{placement}
use Rattle.ed_layers.specs.Sending.{Run, Target, component_fault, component_sent, sending_fault, sent, piece_of, share_end, share_start, target_at, target_pieces, targets}
use Rattle.ed_resolve.specs.Faults.{EndsShort}
use Rattle.ed_resolve.specs.Sends.{rule_in, dealt, pieces_from}

pieces_zero : (carrier : ℕ) (t : Target) (rs : List Run) → pieces_from carrier t 0 rs ≡ map (piece_of carrier t 0) rs
pieces_zero carrier t [] = refl
pieces_zero carrier t (r ∷ rs) = ap (λ z. piece_of carrier t 0 r ∷ z) (pieces_zero carrier t rs)

-- the pieces of a share, unless it is a part without text
pub pieces_are : (carrier : ℕ) (t : Target) (rs : List Run) → (rs ≡ [] → t.part.len ≡ 0) → target_pieces carrier t rs ≡ pieces_from carrier t t.part.len rs
pieces_are carrier t [] none =
    let e : nat_eq t.part.len 0 ≡ true = (let z : t.part.len ≡ 0 = none refl in grind (arith, nat_tests)) in
    rw e refl
pieces_are carrier t (r ∷ rs) none = ap (λ z. piece_of carrier t t.part.len r ∷ z) (sym (pieces_zero carrier t rs))

-- where the next share starts
pub next_start : (rule : Option CutRule) (n k i : ℕ) → share_start rule n k (i + 1) ≡ share_end rule n k i
next_start rule n k i = ap (λ j. share_start rule n k j) (let e : i + 1 ≡ suc i = omega arith in e)

-- what a component sends is what its targets get
pub sent_is_dealt : (carrier : ℕ) (members : List Member) (resolver : Option CutRules) (c : Component) → component_sent carrier members resolver c ≡ dealt carrier (rule_in resolver (nat_eq c.old_len 0)) c.text (length (targets members c)) (targets members c)
unfolding component_sent
sent_is_dealt carrier members resolver c = refl

-- there are no more targets than members
pub few_there : {X Y : Type 0} (f : X → Option Y) (xs : List X) → length (filter_map f xs) ≤ length xs
few_there f [] = omega arith
few_there {Y = Y} f (x ∷ xs) = either (f x) refl (few_there f xs)
  where
    either : (o : Option Y) → f x ≡ o → length (filter_map f xs) ≤ length xs → length (filter_map f (x ∷ xs)) ≤ length (x ∷ xs)
    either None e l = rw e (omega (arith, l))
    either (Some y) e l = rw e (omega (arith, l))

pub pieces_some : (carrier : ℕ) (t : Target) (rs : List Run) → length rs ≢ 0 → target_pieces carrier t rs ≡ pieces_from carrier t t.part.len rs
pieces_some carrier t [] ne = absurd (ne refl)
pieces_some carrier t (r ∷ rs) ne = pieces_are carrier t (r ∷ rs) (λ e. cc)

pub nothing : {X : Type 0} (xs : List X) → length xs ≡ 0 → xs ≡ []
nothing [] e = refl
nothing (x ∷ xs) e = absurd (omega arith)

abbrev IsShort : Target → Type 0
IsShort t = t.bounds.start + t.bounds.len < 2 ^ 32

short_if : (b : Bool) (t : Target) (ts : List Target) → IsShort t → All IsShort ts → All IsShort (cons_option (if b then Some t else None) ts)
short_if true t ts s all = All-cons IsShort t ts s all
short_if false t ts s all = all

short_from : (place : ℕ → Span) (c : Component) (k : ℕ) (ms : List Member) → All EndsShort ms → All IsShort (filter_map (λ im. target_at c (place im.0) im) (enumerate_from k ms))
short_from place c k [] all = All-nil IsShort
short_from place c k (Member.Literal units ∷ ms) all = short_from place c (k + 1) ms (λ i d l. all (suc i) d (omega (arith, l)))
short_from place c k (Member.Tracked source bounds mode ∷ ms) all = short_if _ _ _ (all 0 (Member.Literal []) (omega arith)) (short_from place c (k + 1) ms (λ i d l. all (suc i) d (omega (arith, l))))

-- the bounds of targets end where those of the members do
pub targets_short : (ms : List Member) (c : Component) → All EndsShort ms → All IsShort (targets ms c)
targets_short ms c all = short_from (placement ms) c 0 ms all

pub targets_few : (ms : List Member) (c : Component) → length (targets ms c) ≤ length ms
targets_few ms c = let l = few_there (λ im. target_at c (placement ms im.0) im) (enumerate_from 0 ms) in let e : length (enumerate_from 0 ms) ≡ length ms = length-enumerate_from 0 ms in omega (arith, l, e)

-- ---- one component more

next_left : {X : Type 0} (xs : List X) (k : ℕ) (x : X) → k < length xs → x ≡ get_or xs k x → drop k xs ≡ x ∷ drop (k + 1) xs
next_left xs k x l is = drop-cons xs k x l ∙ ap (λ y. y ∷ drop (suc k) xs) (sym is) ∙ ap (λ n. x ∷ drop n xs) (let e : suc k ≡ k + 1 = omega arith in e)

pub sent_more : (me : ℕ) (ms : List Member) (resolver : Option CutRules) (cs : List Component) (k : ℕ) (c : Component) (old new : List (ℕ × Piece)) → k < length cs → c ≡ get_or cs k c → new ≡ old ++ component_sent me ms resolver c → old ++ sent me ms resolver (drop k cs) ≡ sent me ms resolver cs → new ++ sent me ms resolver (drop (k + 1) cs) ≡ sent me ms resolver cs
sent_more me ms resolver cs k c old new l is put so =
    ap (λ xs. xs ++ sent me ms resolver (drop (k + 1) cs)) put
    ∙ append_assoc old (component_sent me ms resolver c) (sent me ms resolver (drop (k + 1) cs))
    ∙ ap (λ xs. old ++ sent me ms resolver xs) (sym (next_left cs k c l is))
    ∙ so

pub fault_more : (me : ℕ) (ms : List Member) (cs : List Component) (k : ℕ) (c : Component) → k < length cs → c ≡ get_or cs k c → component_fault me ms c ≡ None → sending_fault me ms (drop k cs) ≡ sending_fault me ms cs → sending_fault me ms (drop (k + 1) cs) ≡ sending_fault me ms cs
fault_more me ms cs k c l is none so = sym (ap (sending_fault me ms) (next_left cs k c l is) ∙ ap (λ o. or_else o (sending_fault me ms (drop (k + 1) cs))) none) ∙ so

pub none_refused : (o : Option Refusal) (A : Type 0) → MatchOption o A (λ r. ⊥) → o ≡ None
none_refused None A h = refl
none_refused (Some r) A h = absurd h
