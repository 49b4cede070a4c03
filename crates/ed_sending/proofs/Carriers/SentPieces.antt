-- What a carrier sends to one source, and through one member.
use Rattle.std.proofs.Common.{◌≡◌, ℕ, ◌+◌, ◌-◌, ◌≤◌, Bool, true, false, List, [], ◌∷◌, ◌++◌, length, map, filter, Option, Some, None, refl, sym, ap, ◌∙◌, arith, if◌then◌else◌, subst}
use Rattle.std.specs.Prelude.{nat_eq, flat_map}
use Rattle.std.specs.List.{enumerate_from, last_or}
use Rattle.std.proofs.lemmas.Bool.Decides.{nat_tests}
use Rattle.ed_base.specs.declared.piece.Member.{Member}
use Rattle.ed_base.specs.declared.piece.Piece.{Piece}
use Rattle.ed_base.specs.declared.rule.CutRule.{CutRule}
use Rattle.ed_base.specs.Hooks.{CutRules}
use Rattle.ed_base.specs.Spans.{is_empty}
use Rattle.ed_layers.specs.Pieces.{Component}
use Rattle.ed_layers.specs.Sending.{Target, targets, share, Run, trail_runs, piece_of, target_pieces, component_sent, sent}
use Rattle.ed_layers.specs.SourceStep.{ends_with, without_last, trail_above}
use Rattle.ed_stock.specs.Landing.{pieces_at}
use Rattle.ed_sending.proofs.Lists.SortedParts.{Each, each_append}
use Rattle.ed_sending.proofs.Members.SourceParts.{IsFor, ends_last}
use Rattle.ed_sending.proofs.Members.Targets.{rule_for, IsTarget, TargetsFrom, all_targets}

-- ---- trails

pub last_added : (way : List (ℕ × ℕ)) (pair : ℕ × ℕ) (o : Option (ℕ × ℕ)) → last_or o (way ++ (pair ∷ [])) ≡ Some pair
last_added [] pair o = refl
last_added (p ∷ ps) pair o = last_added ps pair (Some p)

without_added : (way : List (ℕ × ℕ)) (pair : ℕ × ℕ) → without_last (way ++ (pair ∷ [])) ≡ way
without_added [] pair = refl
without_added (p ∷ []) pair = refl
without_added (p ∷ q ∷ ps) pair = ap (λ z. p ∷ z) (without_added (q ∷ ps) pair)

ends_added : (carrier k : ℕ) (way : List (ℕ × ℕ)) → ends_with carrier (nat_eq k) (way ++ ((carrier, k) ∷ [])) ≡ true
ends_added carrier k way =
    ends_last carrier (nat_eq k) (way ++ ((carrier, k) ∷ [])) (carrier, k) (last_added way (carrier, k) None)
    ∙ (let a : nat_eq carrier carrier ≡ true = grind (arith, nat_tests) in let b : nat_eq k k ≡ true = grind (arith, nat_tests) in rw (a, b) refl)

pub above_added : (carrier k : ℕ) (way : List (ℕ × ℕ)) → trail_above carrier (nat_eq k) (way ++ ((carrier, k) ∷ [])) ≡ way
above_added carrier k way = rw (ends_added carrier k way) (without_added way (carrier, k))

-- ---- pieces

-- each piece of a target lies in its member
abbrev pub piece_for : (carrier : ℕ) (members : List Member) (source : ℕ) (c : Component) (t : Target) (len : ℕ) (r : Run) → IsTarget members c t → t.source ≡ source → len ≤ t.part.len → IsFor carrier members source (piece_of carrier t len r)
piece_for carrier members source c t len r is here less =
    let a : is.start ≤ is.at = is.from in let b : is.at + t.part.len ≤ is.start + t.bounds.len = is.to in let p : t.part.start ≡ t.bounds.start + (is.at - is.start) = is.part in
    record {
      member = t.member;
      bounds = t.bounds;
      mode = is.mode;
      there = is.there ∙ ap (λ z. Some (Member.Tracked z t.bounds is.mode)) here;
      last = last_added r.trail (carrier, t.member) None;
      from = omega arith;
      to = omega arith;
      side = refl;
    }

rest_for : (carrier : ℕ) (members : List Member) (source : ℕ) (c : Component) (t : Target) (rs : List Run) → IsTarget members c t → t.source ≡ source → Each (IsFor carrier members source) (map (piece_of carrier t 0) rs)
rest_for carrier members source c t [] is here = tt
rest_for carrier members source c t (r ∷ rs) is here = (piece_for carrier members source c t 0 r is here (omega arith), rest_for carrier members source c t rs is here)

pieces_for : (carrier : ℕ) (members : List Member) (source : ℕ) (c : Component) (t : Target) (rs : List Run) → IsTarget members c t → t.source ≡ source → Each (IsFor carrier members source) (target_pieces carrier t rs)
pieces_for carrier members source c t [] is here = either (is_empty t.part)
  where
    either : (b : Bool) → Each (IsFor carrier members source) (if b then [] else piece_of carrier t t.part.len (record { trail = []; units = [] }) ∷ [])
    either true = tt
    either false = (piece_for carrier members source c t t.part.len (record { trail = []; units = [] }) is here (omega arith), tt)
pieces_for carrier members source c t (r ∷ rs) is here = (piece_for carrier members source c t t.part.len r is here (omega arith), rest_for carrier members source c t rs is here)

-- ---- to one source

pub pieces_append : (xs ys : List (ℕ × Piece)) (b : ℕ) → pieces_at (xs ++ ys) b ≡ pieces_at xs b ++ pieces_at ys b
pieces_append [] ys b = refl
pieces_append (x ∷ xs) ys b = either (nat_eq x.0 b) (pieces_append xs ys b)
  where
    either : (t : Bool) → pieces_at (xs ++ ys) b ≡ pieces_at xs b ++ pieces_at ys b → map (λ (p : ℕ × Piece). p.1) (if t then x ∷ filter (λ p. nat_eq p.0 b) (xs ++ ys) else filter (λ p. nat_eq p.0 b) (xs ++ ys)) ≡ map (λ (p : ℕ × Piece). p.1) (if t then x ∷ filter (λ p. nat_eq p.0 b) xs else filter (λ p. nat_eq p.0 b) xs) ++ pieces_at ys b
    either true e = ap (λ z. x.1 ∷ z) e
    either false e = e

-- those sent to one buffer go to it, or not
pieces_of_one : (s b : ℕ) (ps : List Piece) → pieces_at (map (λ p. (s, p)) ps) b ≡ (if nat_eq s b then ps else [])
pieces_of_one s b ps = either (nat_eq s b) refl ps
  where
    either : (t : Bool) → nat_eq s b ≡ t → (ps : List Piece) → pieces_at (map (λ p. (s, p)) ps) b ≡ (if t then ps else [])
    either true e [] = refl
    either false e [] = refl
    either true e (p ∷ ps) = rw e (ap (λ z. p ∷ z) (either true e ps))
    either false e (p ∷ ps) = rw e (either false e ps)

-- ---- over all components

pub flat_through : {X Y Z : Type 0} (h : List Y → List Z) (f : X → List Y) (xs : List X) → h [] ≡ [] → ((a b : List Y) → h (a ++ b) ≡ h a ++ h b) → h (flat_map f xs) ≡ flat_map (λ x. h (f x)) xs
flat_through h f [] none more = none
flat_through h f (x ∷ xs) none more = more (f x) (flat_map f xs) ∙ ap (λ z. h (f x) ++ z) (flat_through h f xs none more)

pub flat_same : {X Y : Type 0} (f g : X → List Y) (xs : List X) → Each (λ x. f x ≡ g x) xs → flat_map f xs ≡ flat_map g xs
flat_same f g [] a = refl
flat_same f g (x ∷ xs) a = rw (a.0, flat_same f g xs a.1) refl

pub flat_each : {X Y : Type 0} (P : Y → Type 0) (f : X → List Y) (xs : List X) → Each (λ x. Each P (f x)) xs → Each P (flat_map f xs)
flat_each P f [] a = tt
flat_each P f (x ∷ xs) a = each_append P (f x) (flat_map f xs) a.0 (flat_each P f xs a.1)

-- the targets with their numbers
pub numbered_each : (members : List Member) (c : Component) (P : ℕ × Target → Type 0) → ((j : ℕ) (t : Target) → IsTarget members c t → P (j, t)) → (k j : ℕ) (ts : List Target) → TargetsFrom members c k ts → Each P (enumerate_from j ts)
numbered_each members c P f k j [] a = tt
numbered_each members c P f k j (t ∷ ts) a = (f j t a.1, numbered_each members c P f (t.member + 1) (j + 1) ts a.2)

-- the pieces of a target
abbrev pub target_part : ℕ → Option CutRule → Component → ℕ → ℕ × Target → List Piece
target_part carrier rule c n it = target_pieces carrier it.1 (trail_runs (share rule c.text n it.0))

abbrev pub part_to : ℕ → List Member → Option CutRules → ℕ → Component → List Piece
part_to carrier members resolver b c = flat_map (λ it. if nat_eq it.1.source b then target_part carrier (rule_for resolver c) c (length (targets members c)) it else []) (enumerate_from 0 (targets members c))

component_pieces : (carrier : ℕ) (members : List Member) (resolver : Option CutRules) (b : ℕ) (c : Component) → pieces_at (component_sent carrier members resolver c) b ≡ part_to carrier members resolver b c
unfolding component_sent
component_pieces carrier members resolver b c =
    flat_through (λ z. pieces_at z b) (λ (it : ℕ × Target). map (λ p. (it.1.source, p)) (target_part carrier (rule_for resolver c) c (length (targets members c)) it)) (enumerate_from 0 (targets members c)) refl (λ x y. pieces_append x y b)
    ∙ flat_same (λ (it : ℕ × Target). pieces_at (map (λ p. (it.1.source, p)) (target_part carrier (rule_for resolver c) c (length (targets members c)) it)) b) (λ (it : ℕ × Target). if nat_eq it.1.source b then target_part carrier (rule_for resolver c) c (length (targets members c)) it else []) (enumerate_from 0 (targets members c))
    (all (enumerate_from 0 (targets members c)))
  where
    all : (its : List (ℕ × Target)) → Each (λ (it : ℕ × Target). pieces_at (map (λ p. (it.1.source, p)) (target_part carrier (rule_for resolver c) c (length (targets members c)) it)) b ≡ (if nat_eq it.1.source b then target_part carrier (rule_for resolver c) c (length (targets members c)) it else [])) its
    all [] = tt
    all (it ∷ its) = (pieces_of_one it.1.source b (target_part carrier (rule_for resolver c) c (length (targets members c)) it), all its)

-- the pieces that a carrier sends to a source
pub pieces_sent : (carrier : ℕ) (members : List Member) (resolver : Option CutRules) (b : ℕ) (cs : List Component) → pieces_at (sent carrier members resolver cs) b ≡ flat_map (part_to carrier members resolver b) cs
pieces_sent carrier members resolver b [] = refl
pieces_sent carrier members resolver b (c ∷ cs) =
    pieces_append (component_sent carrier members resolver c) (sent carrier members resolver cs) b
    ∙ ap (λ z. z ++ pieces_at (sent carrier members resolver cs) b) (component_pieces carrier members resolver b c)
    ∙ ap (λ z. part_to carrier members resolver b c ++ z) (pieces_sent carrier members resolver b cs)

-- Each of them is for its source.
pub all_for : (carrier : ℕ) (members : List Member) (resolver : Option CutRules) (b : ℕ) (cs : List Component) → Each (IsFor carrier members b) (pieces_at (sent carrier members resolver cs) b)
all_for carrier members resolver b cs = subst (λ z. Each (IsFor carrier members b) z) (sym (pieces_sent carrier members resolver b cs)) (flat_each (IsFor carrier members b) (part_to carrier members resolver b) cs (each_component cs))
  where
    one : (c : Component) (j : ℕ) (t : Target) → IsTarget members c t → Each (IsFor carrier members b) (if nat_eq t.source b then target_part carrier (rule_for resolver c) c (length (targets members c)) (j, t) else [])
    one c j t is = either (nat_eq t.source b) refl
      where
        either : (z : Bool) → nat_eq t.source b ≡ z → Each (IsFor carrier members b) (if z then target_part carrier (rule_for resolver c) c (length (targets members c)) (j, t) else [])
        either true e = pieces_for carrier members b c t (trail_runs (share (rule_for resolver c) c.text (length (targets members c)) j)) is (grind (arith, nat_tests))
        either false e = tt

    each_component : (cs : List Component) → Each (λ c. Each (IsFor carrier members b) (part_to carrier members resolver b c)) cs
    each_component [] = tt
    each_component (c ∷ cs) = (
      flat_each (IsFor carrier members b) (λ it. if nat_eq it.1.source b then target_part carrier (rule_for resolver c) c (length (targets members c)) it else []) (enumerate_from 0 (targets members c))
          (numbered_each members c (λ it. Each (IsFor carrier members b) (if nat_eq it.1.source b then target_part carrier (rule_for resolver c) c (length (targets members c)) it else [])) (λ j t is. one c j t is) 0 0 (targets members c) (all_targets members c)),
      each_component cs,
    )
