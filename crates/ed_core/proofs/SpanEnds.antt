-- Spans that end past a length, the first one.
use Rattle.std.proofs.Common.{◌≡◌, ℕ, ◌+◌, ◌<◌, ◌≤◌, Bool, true, false, List, [], ◌∷◌, ◌++◌, length, take, drop, get_or, Option, Some, None, refl, sym, ◌∙◌, ap, not, nat_lt, lt-ltb, le-ltb}
use Rattle.std.specs.List.{All}
use Rattle.ed_base.specs.declared.edit.Span.{Span}
use Rattle.ed_base.specs.declared.refusal.Refusal.{Refusal}
use Rattle.ed_base.specs.Numbers.{first_some, or_else}
use Rattle.ed_base.specs.Spans.{end_of}
use Rattle.ed_layers.specs.Records.{is_elision}
use Rattle.ed_machine.specs.Refusals.{ends_of, past, past_source, refused_if, stale}
use Rattle.ed_machine.specs.State.{State, record_now}
use Rattle.ed_stock.specs.Making.{flags_of}
use Rattle.ed_core.specs.Asking.{elide_refusal}
use Rattle.ed_core.proofs.Reaching.{next-of}
use Rattle.ed_core.proofs.Firsts.{or_else-none}

pub past-append : (xs ys : List ℕ) (n : ℕ) → past (xs ++ ys) n ≡ or_else (past xs n) (past ys n)
past-append [] ys n = refl
past-append (x ∷ xs) ys n = by_end (nat_lt n x) refl (past-append xs ys n)
  where
    by_end : (b : Bool) → nat_lt n x ≡ b → past (xs ++ ys) n ≡ or_else (past xs n) (past ys n) → past (x ∷ (xs ++ ys)) n ≡ or_else (past (x ∷ xs) n) (past ys n)
    by_end true e ih = rw e refl
    by_end false e ih = rw e ih

-- where the buffer of a state, which is seen in another way, is an elision buffer and no version is stale, only the ends are judged
pub elide-judged : (v s : State) → v ≡ s → (b n : ℕ) (at : Option ℕ) (hide show : List Span) (flags : List Bool) → true ≡ is_elision (record_now v b) → flags ≡ flags_of (record_now v b) → n ≡ length flags → None ≡ stale s b at
    → elide_refusal s b at (ends_of hide ++ ends_of show) ≡ or_else (past (ends_of hide) n) (past (ends_of show) n)
elide-judged v s same b n at hide show flags hides are len fresh =
    let is : true ≡ is_elision (record_now s b) = hides ∙ ap (λ (u : State). is_elision (record_now u b)) same in
    let count : n ≡ length (flags_of (record_now s b)) = len ∙ (ap length are ∙ ap (λ (u : State). length (flags_of (record_now u b))) same) in
    let ends : Option Refusal = past_source s b (ends_of hide ++ ends_of show) in
    ap (λ t. first_some (refused_if (not t) Refusal.WrongKind ∷ stale s b at ∷ ends ∷ [])) (sym is)
    ∙ (ap (λ o. first_some (o ∷ ends ∷ [])) (sym fresh)
    ∙ (or_else-none ends
    ∙ (ap (past (ends_of hide ++ ends_of show)) (sym count)
    ∙ past-append (ends_of hide) (ends_of show) n)))

module _ (n : ℕ) (spans : List Span) (i : ℕ) (x : Span) (there : i < length spans) (is : x ≡ get_or spans i x) (so : past (ends_of (drop i spans)) n ≡ past (ends_of spans) n) where
  next : past (ends_of (drop i spans)) n ≡ past (end_of x ∷ ends_of (drop (i + 1) spans)) n
  next = ap (λ (xs : List Span). past (ends_of xs) n) (next-of spans i x there is)

  pub ends-here : n < end_of x → Some (Refusal.OutOfRange (end_of x) n) ≡ past (ends_of spans) n
  ends-here over = here ∙ (sym next ∙ so)
    where
      here : Some (Refusal.OutOfRange (end_of x) n) ≡ past (end_of x ∷ ends_of (drop (i + 1) spans)) n
      here = rw (lt-ltb n (end_of x) over) refl

  pub ends-on : end_of x ≤ n → past (ends_of (drop (i + 1) spans)) n ≡ past (ends_of spans) n
  ends-on within = here ∙ (sym next ∙ so)
    where
      here : past (ends_of (drop (i + 1) spans)) n ≡ past (end_of x ∷ ends_of (drop (i + 1) spans)) n
      here = rw (le-ltb n (end_of x) within) refl
