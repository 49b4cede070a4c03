-- The steps of sources by their indices.
use Rattle.std.proofs.Common.{◌≡◌, ◌≢◌, ℕ, zero, suc, ◌+◌, ◌<◌, ◌≤◌, List, [], ◌∷◌, length, Option, Some, None, refl, sym, ap, ◌∙◌, arith, inl, inr}
use Rattle.std.specs.Prelude.{nat_eq, slice_get, if◌then◌else◌}
use Rattle.std.proofs.lemmas.Bool.{cases_eq, eq-eqb, ne_eqb}
use Rattle.ed_base.specs.Numbers.{or_else}
use Rattle.ed_members.specs.declared.steps.SourceStep.{SourceStep}
use Rattle.ed_members.specs.Advance.{index_from}
use Rattle.ed_members.specs.Steps.{steps_seen, step_seen}

pub index_here : (k b : ℕ) (s : SourceStep) (ss : List SourceStep) → s.source ≡ b → index_from k b (s ∷ ss) ≡ Some k
index_here k b s ss e = rw (eq-eqb s.source b e) refl

pub index_later : (k b : ℕ) (s : SourceStep) (ss : List SourceStep) → s.source ≢ b → index_from k b (s ∷ ss) ≡ index_from (k + 1) b ss
index_later k b s ss ne = rw (ne_eqb s.source b ne) refl

pub seen_here : (b : ℕ) (s : SourceStep) (ss : List SourceStep) → s.source ≡ b → steps_seen (s ∷ ss) b ≡ Some (step_seen s)
seen_here b s ss e = rw (eq-eqb s.source b e) refl

pub seen_later : (b : ℕ) (s : SourceStep) (ss : List SourceStep) → s.source ≢ b → steps_seen (s ∷ ss) b ≡ steps_seen ss b
seen_later b s ss ne = rw (ne_eqb s.source b ne) refl

pub index_above : (k b : ℕ) (ss : List SourceStep) (t : ℕ) → index_from k b ss ≡ Some t → k ≤ t
index_above k b [] t is = absurd (cc)
index_above k b (s ∷ ss) t is = elim (cases_eq s.source b) [
  | inl e ↦ (let same : k ≡ t = cc (index_here k b s ss e) in omega arith)
  | inr ne ↦ (let rest : k + 1 ≤ t = index_above (k + 1) b ss t (sym (index_later k b s ss ne) ∙ is) in omega arith)
]

pub index_below : (k b : ℕ) (ss : List SourceStep) (t : ℕ) → index_from k b ss ≡ Some t → t < k + length ss
index_below k b [] t is = absurd (cc)
index_below k b (s ∷ ss) t is = elim (cases_eq s.source b) [
  | inl e ↦ (let same : k ≡ t = cc (index_here k b s ss e) in omega arith)
  | inr ne ↦ (let rest : t < (k + 1) + length ss = index_below (k + 1) b ss t (sym (index_later k b s ss ne) ∙ is) in omega arith)
]

pub index_found : (k b : ℕ) (ss : List SourceStep) (t : ℕ) (x : SourceStep) → index_from k b ss ≡ Some (k + t) → slice_get ss t ≡ Some x → steps_seen ss b ≡ Some (step_seen x)
index_found k b [] t x is at = absurd (cc)
index_found k b (s ∷ ss) zero x is at = elim (cases_eq s.source b) [
  | inl e ↦ seen_here b s ss e ∙ ap (λ (o : Option SourceStep). elim o [ None ↦ None | Some y ↦ Some (step_seen y) ]) at
  | inr ne ↦ (let low : k + 1 ≤ k + 0 = index_above (k + 1) b ss (k + 0) (sym (index_later k b s ss ne) ∙ is) in absurd (omega arith))
]
index_found k b (s ∷ ss) (suc t) x is at = elim (cases_eq s.source b) [
  | inl e ↦ (let same : k ≡ k + suc t = cc (index_here k b s ss e) in absurd (omega arith))
  | inr ne ↦ seen_later b s ss ne ∙ index_found (k + 1) b ss t x (sym (index_later k b s ss ne) ∙ is ∙ ap Some (let e : k + suc t ≡ (k + 1) + t = omega arith in e)) at
]

pub index_missing : (k b : ℕ) (ss : List SourceStep) → index_from k b ss ≡ None → steps_seen ss b ≡ None
index_missing k b [] is = refl
index_missing k b (s ∷ ss) is = elim (cases_eq s.source b) [
  | inl e ↦ absurd (cc (index_here k b s ss e))
  | inr ne ↦ seen_later b s ss ne ∙ index_missing (k + 1) b ss (sym (index_later k b s ss ne) ∙ is)
]

-- what is kept of the first steps, and one step more
pub first_more : (g : Option ℕ) (k b : ℕ) (s : SourceStep) (ss : List SourceStep) → or_else (or_else g (if nat_eq s.source b then Some k else None)) (index_from (k + 1) b ss) ≡ or_else g (index_from k b (s ∷ ss))
first_more (Some x) k b s ss = refl
first_more None k b s ss = elim (cases_eq s.source b) [
  | inl e ↦ rw (eq-eqb s.source b e) refl
  | inr ne ↦ rw (ne_eqb s.source b ne) refl
]

pub first_all : (g : Option ℕ) → or_else g None ≡ g
first_all None = refl
first_all (Some x) = refl
