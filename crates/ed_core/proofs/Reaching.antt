-- Members one after another.
use Rattle.std.proofs.Common.{◌≡◌, ℕ, zero, suc, ◌+◌, ◌<◌, ◌≤◌, List, [], ◌∷◌, ◌++◌, length, take, drop, get_or, Option, Some, None, refl, sym, ◌∙◌, ap, subst, arith, drop-cons, append_assoc, append-nil}
use Rattle.std.specs.Prelude.{option_map}
use Rattle.std.specs.List.{All}
use Rattle.std.proofs.Math.Seq.{take-length}
use Rattle.std.proofs.lemmas.List.Elements.{All-push}
use Rattle.ed_base.specs.declared.piece.Member.{Member}
use Rattle.ed_base.specs.declared.refusal.Refusal.{Refusal}
use Rattle.ed_base.specs.declared.script.ScriptSpan.{ScriptSpan}
use Rattle.ed_base.specs.Numbers.{or_else}
use Rattle.ed_machine.specs.State.{State}
use Rattle.ed_core.specs.Asking.{member_asked, members_asked, past_member, past_members}

pub next-of : {X : Type 0} (xs : List X) (i : ℕ) (x : X) → i < length xs → x ≡ get_or xs i x → drop i xs ≡ x ∷ drop (i + 1) xs
next-of xs i x within is = let e : suc i ≡ i + 1 = omega arith in drop-cons xs i x within ∙ (ap (λ y. y ∷ drop (suc i) xs) (sym is) ∙ ap (λ k. x ∷ drop k xs) e)

pub one-more : {X : Type 0} (xs : List X) (i : ℕ) (x : X) → i < length xs → x ≡ get_or xs i x → take (i + 1) xs ≡ take i xs ++ x ∷ []
one-more [] i x within is = absurd (omega arith)
one-more (y ∷ xs) zero x within is = ap (λ z. z ∷ []) (sym is)
one-more (y ∷ xs) (suc i) x within is = let e : suc (i + 1) ≡ suc i + 1 = omega arith in subst (λ k. take k (y ∷ xs) ≡ y ∷ (take i xs ++ x ∷ [])) e (ap (λ zs. y ∷ zs) (one-more xs i x (omega arith) is))

-- all done
pub whole : {X : Type 0} (xs : List X) (i : ℕ) → length xs ≤ i → i ≤ length xs → take i xs ≡ xs
whole xs i low high = let e : i ≡ length xs = omega arith in ap (λ k. take k xs) e ∙ take-length xs

pub all-more : {X : Type 0} (P : X → Type 0) (xs : List X) (i : ℕ) (x : X) → i < length xs → x ≡ get_or xs i x → All P (take i xs) → P x → All P (take (i + 1) xs)
all-more P xs i x within is done here = subst (All P) (sym (one-more xs i x within is)) (All-push P (take i xs) x done here)

module _ (s : State) where
  pub past-next : (ms : List Member) (i : ℕ) (m : Member) → i < length ms → m ≡ get_or ms i m → past_members s (drop i ms) ≡ or_else (past_member s m) (past_members s (drop (i + 1) ms))
  past-next ms i m within is = ap (past_members s) (next-of ms i m within is)

  pub past-here : (ms : List Member) (i : ℕ) (m : Member) (r : Refusal) → i < length ms → m ≡ get_or ms i m → past_members s (drop i ms) ≡ past_members s ms → Some r ≡ past_member s m → Some r ≡ past_members s ms
  past-here ms i m r within is so some = ap (λ o. or_else o (past_members s (drop (i + 1) ms))) some ∙ (sym (past-next ms i m within is) ∙ so)

  pub past-on : (ms : List Member) (i : ℕ) (m : Member) → i < length ms → m ≡ get_or ms i m → past_members s (drop i ms) ≡ past_members s ms → None ≡ past_member s m → past_members s (drop (i + 1) ms) ≡ past_members s ms
  past-on ms i m within is so none = ap (λ o. or_else o (past_members s (drop (i + 1) ms))) none ∙ (sym (past-next ms i m within is) ∙ so)

  -- what is asked for so far, with what is left to ask
  abbrev pub AskedUpTo : List ScriptSpan → ℕ → List Member → Type 0
  AskedUpTo xs i done = option_map (λ rest. done ++ rest) (members_asked s (drop i xs)) ≡ members_asked s xs

  pub asked-first : (xs : List ScriptSpan) → AskedUpTo xs 0 []
  asked-first xs = go (members_asked s xs)
    where
      go : (o : Option (List Member)) → option_map (λ (rest : List Member). rest) o ≡ o
      go None = refl
      go (Some ms) = refl

  asked-next : (xs : List ScriptSpan) (i : ℕ) (x : ScriptSpan) → i < length xs → x ≡ get_or xs i x → (o : Option Member) → o ≡ member_asked s x → (done : List Member) → AskedUpTo xs i done → option_map (λ rest. done ++ rest) (members_asked s (x ∷ drop (i + 1) xs)) ≡ members_asked s xs
  asked-next xs i x within is o asks done so = ap (λ l. option_map (λ rest. done ++ rest) (members_asked s l)) (sym (next-of xs i x within is)) ∙ so

  pub asked-missing : (xs : List ScriptSpan) (i : ℕ) (x : ScriptSpan) → i < length xs → x ≡ get_or xs i x → None ≡ member_asked s x → (done : List Member) → AskedUpTo xs i done → None ≡ members_asked s xs
  asked-missing xs i x within is none done so = (rw (← none) refl) ∙ asked-next xs i x within is None none done so

  pub asked-on : (xs : List ScriptSpan) (i : ℕ) (x : ScriptSpan) (m : Member) → i < length xs → x ≡ get_or xs i x → Some m ≡ member_asked s x → (done : List Member) → AskedUpTo xs i done → AskedUpTo xs (i + 1) (done ++ m ∷ [])
  asked-on xs i x m within is some done so = go (members_asked s (drop (i + 1) xs)) refl ∙ asked-next xs i x within is (Some m) some done so
    where
      go : (o : Option (List Member)) → members_asked s (drop (i + 1) xs) ≡ o → option_map (λ rest. (done ++ m ∷ []) ++ rest) (members_asked s (drop (i + 1) xs)) ≡ option_map (λ rest. done ++ rest) (members_asked s (x ∷ drop (i + 1) xs))
      go None e = rw (← some, e) refl
      go (Some ms) e = rw (← some, e) (ap Some (append_assoc done (m ∷ []) ms))

  pub asked-all : (xs : List ScriptSpan) (i : ℕ) → length xs ≤ i → i ≤ length xs → (done : List Member) → AskedUpTo xs i done → Some done ≡ members_asked s xs
  asked-all xs i low high done so = ap Some (sym (append-nil done)) ∙ (ap (λ l. option_map (λ rest. done ++ rest) (members_asked s l)) (sym (none-left xs i low)) ∙ so)
    where
      none-left : {X : Type 0} (ys : List X) (k : ℕ) → length ys ≤ k → drop k ys ≡ []
      none-left [] zero low = refl
      none-left [] (suc k) low = refl
      none-left (y ∷ ys) zero low = absurd (omega arith)
      none-left (y ∷ ys) (suc k) low = none-left ys k (omega arith)
