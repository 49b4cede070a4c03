-- The members that spans of a script ask for, and where they end.
use Rattle.std.proofs.Common.{◌≡◌, ℕ, ◌+◌, Bool, true, false, List, [], ◌∷◌, Option, Some, None, refl, sym, ◌∙◌, ap, if◌then◌else◌}
use Rattle.std.specs.Prelude.{option_map, is_none}
use Rattle.std.specs.List.{list_any}
use Rattle.std.proofs.lemmas.Option.{none-some}
use Rattle.ed_base.specs.declared.piece.Member.{Member}
use Rattle.ed_base.specs.declared.script.ScriptSpan.{ScriptSpan}
use Rattle.ed_base.specs.Numbers.{or_else}
use Rattle.ed_machine.specs.State.{State, number, number_of}
use Rattle.ed_machine.specs.Naming.{members, names_in}
use Rattle.ed_machine.specs.Refusals.{past_now, past_spans}
use Rattle.ed_core.specs.Asking.{members_asked, past_members}
use Rattle.ed_core.proofs.Firsts.{or_else-none}

some-inj : {X : Type 0} {x y : X} → Some x ≡ Some y → x ≡ y
some-inj e = cc

map-if : {X Y : Type 0} (f : X → Y) (x : X) (b : Bool) → option_map f (if b then None else Some x) ≡ (if b then None else Some (f x))
map-if f x true = refl
map-if f x false = refl

module _ (s : State) where
  abbrev unnamed : List ScriptSpan → Bool
  unnamed xs = list_any (λ n. is_none (number_of s n)) (names_in xs)

  asked : (xs : List ScriptSpan) → members_asked s xs ≡ (if unnamed xs then None else Some (members s xs))
  asked [] = refl
  asked (ScriptSpan.Literal units ∷ xs) = rw (asked xs) (map-if (λ ms. Member.Literal units ∷ ms) (members s xs) (unnamed xs))
  asked (ScriptSpan.Tracked name start len mode ∷ xs) = by_number (asked xs) (number_of s name) refl
    where
      by_number : members_asked s xs ≡ (if unnamed xs then None else Some (members s xs)) → (o : Option ℕ) → number_of s name ≡ o → members_asked s (ScriptSpan.Tracked name start len mode ∷ xs) ≡ (if unnamed (ScriptSpan.Tracked name start len mode ∷ xs) then None else Some (members s (ScriptSpan.Tracked name start len mode ∷ xs)))
      by_number ih None e = rw e refl
      by_number ih (Some b) e = rw e (rw ih (map-if (λ ms. Member.Tracked b (record { start = start; len = len }) mode ∷ ms) (members s xs) (unnamed xs)))

  by_unnamed : (xs : List ScriptSpan) (b : Bool) → unnamed xs ≡ b → members_asked s xs ≡ (if b then None else Some (members s xs))
  by_unnamed xs b e = asked xs ∙ ap (λ c. if c then None else Some (members s xs)) e

  pub asked-none : (xs : List ScriptSpan) → None ≡ members_asked s xs → unnamed xs ≡ true
  asked-none xs none = go (unnamed xs) refl
    where
      go : (b : Bool) → unnamed xs ≡ b → unnamed xs ≡ true
      go true e = e
      go false e = absurd (none-some (members s xs) (none ∙ by_unnamed xs false e))

  pub asked-some : (xs : List ScriptSpan) (ms : List Member) → Some ms ≡ members_asked s xs → (unnamed xs ≡ false) × (ms ≡ members s xs)
  asked-some xs ms some = go (unnamed xs) refl
    where
      go : (b : Bool) → unnamed xs ≡ b → (unnamed xs ≡ false) × (ms ≡ members s xs)
      go true e = absurd (none-some ms (sym (some ∙ by_unnamed xs true e)))
      go false e = (e, some-inj (some ∙ by_unnamed xs false e))

  pub pasts : (xs : List ScriptSpan) → past_spans s xs ≡ past_members s (members s xs)
  pasts [] = refl
  pasts (ScriptSpan.Literal units ∷ xs) = pasts xs
  pasts (ScriptSpan.Tracked name start len mode ∷ xs) = ap (or_else (past_now s (number s name) (start + len))) (or_else-none (past_spans s xs) ∙ pasts xs)
