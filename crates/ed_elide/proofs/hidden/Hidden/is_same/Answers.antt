-- Lists of spans are compared span by span, and equal flags are equal spans.
use Rattle.std.proofs.Common.{◌≡◌, ℕ, Bool, true, List, length, nat_eq, refl, sym, ap, subst, ◌∙◌}
use Rattle.std.proofs.lemmas.Bool.{and_parts, eqb-true, eq-eqb}
use lib.Pointwise.{pointwise, pointwise_decides}
use Rattle.ed_base.specs.declared.edit.Span.{Span}
use Rattle.ed_base.specs.Spans.{is_same_span}
use Rattle.ed_layers.specs.Hidden.{hidden_by}
use Rattle.ed_spans.specs.SpanSets.{AreApartFrom}
use Rattle.ed_elide.proofs.FlagLemmas.{flags_differ, length_flags}
use Rattle.ed_elide.proofs.hidden.Hidden.is_same.Goals as goal

same_spans : (s t : Span) → (Rattle.ed_base.specs.contracts.edit.SpanPartialEq.TheImpl.eq-value).it s t ≡ is_same_span s t
same_spans s t = refl

span_decides : (s t : Span) → (is_same_span s t ≡ true → s ≡ t) × (s ≡ t → is_same_span s t ≡ true)
span_decides s t = (
  λ is. (let both : (nat_eq s.start t.start ≡ true) × (nat_eq s.len t.len ≡ true) = and_parts (nat_eq s.start t.start) (nat_eq s.len t.len) is in ap (λ x. record { start = x; len = s.len }) (eqb-true s.start t.start both.0) ∙ ap (λ x. record { start = t.start; len = x }) (eqb-true s.len t.len both.1)),
  λ e. rw (eq-eqb s.start t.start (ap (λ u. u.start) e), eq-eqb s.len t.len (ap (λ u. u.len) e)) refl,
)

abbrev equal : Span → Span → Bool
equal = (Rattle.ed_base.specs.contracts.edit.SpanPartialEq.TheImpl.eq-value).it

-- the flags of spans that lie apart are equal exactly where the spans are
same_flags : (n m : ℕ) (ss ts : List Span) (a b : List Bool) → n ≡ m → AreApartFrom 0 n ss → AreApartFrom 0 m ts → hidden_by n ss ≡ a → hidden_by m ts ≡ b → (pointwise equal ss ts ≡ true → a ≡ b) × (a ≡ b → pointwise equal ss ts ≡ true)
same_flags n m ss ts a b len apart apart' is is' =
    let test : (pointwise equal ss ts ≡ true → ss ≡ ts) × (ss ≡ ts → pointwise equal ss ts ≡ true) = pointwise_decides span_decides ss ts in (
      λ so. sym is ∙ ap (hidden_by n) (test.0 so) ∙ ap (λ k. hidden_by k ts) len ∙ is',
      λ e. test.1 (flags_differ n ss ts apart (subst (λ (k : ℕ). AreApartFrom 0 k ts) (sym len) apart') (is ∙ e ∙ sym is' ∙ ap (λ k. hidden_by k ts) (sym len))),
    )

pub returns-then-self-other : goal.returns-then-self-other
returns-then-self-other c =
    let both = same_flags c.self.inside.len c.other.inside.len c.self.inside.spans.items c.other.inside.spans.items c.args.self.now c.args.other.now c.if-self-other.true c.self.invariant.apart c.other.invariant.apart c.self.view_is c.other.view_is in
    rw (c.eq.ensures, c.as_slice.ensures.value, c.as_slice-then-self-other.ensures.value) both

pub returns-else-self-other : goal.returns-else-self-other
returns-else-self-other c = (λ so. absurd (c.if-self-other.false (eqb-true c.self.inside.len c.other.inside.len so)), λ e. absurd (c.if-self-other.false (sym (length_flags c.self.inside.len c.self.inside.spans.items) ∙ ap length (c.self.view_is ∙ e ∙ sym c.other.view_is) ∙ length_flags c.other.inside.len c.other.inside.spans.items)))
