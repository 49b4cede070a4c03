-- What the stock doesn't refuse passes none of its limits.
use Rattle.std.proofs.Common.{◌≡◌, ℕ, ◌+◌, List, [], ◌∷◌, Option, Some, None, refl, ◌∙◌, ap}
use Rattle.ed_base.specs.declared.edit.Span.{Span}
use Rattle.ed_base.specs.declared.piece.Member.{Member}
use Rattle.ed_base.specs.declared.refusal.Refusal.{Refusal}
use Rattle.ed_base.specs.Hooks.{HookTable}
use Rattle.ed_base.specs.Numbers.{first_some}
use Rattle.ed_layers.specs.Order.{mode_fault, overlap_fault}
use Rattle.ed_stock.specs.Landing.{denial, down_fault}
use Rattle.ed_stock.specs.Limits.{stock_limits}
use Rattle.ed_stock.specs.Linking.{cycle, depth}
use Rattle.ed_stock.specs.Making.{elision_of, projection_of, sources_in, spans_replaced, spans_set, with_new}
use Rattle.ed_stock.specs.Stock.{Stock, count}
use Rattle.ed_group.specs.declared.BufferEdit.{BufferEdit}
use Rattle.ed_group.specs.Answers.{elision_fault, len_now, members_now, projection_fault, spans_fault}
use Rattle.ed_group.specs.Edits.{pieces_of_edits}
use Rattle.ed_group.specs.EditedStock.{edits_fault, edits_landed, edits_sent}
use Rattle.ed_core.proofs.Resolvers.{limits-new}

last-none : (o l : Option Refusal) → first_some (o ∷ l ∷ []) ≡ None → l ≡ None
last-none None None e = refl
last-none None (Some r) e = absurd (cc)
last-none (Some q) l e = absurd (cc)

fourth-none : (a b c l : Option Refusal) → first_some (a ∷ b ∷ c ∷ l ∷ []) ≡ None → l ≡ None
fourth-none None None None l e = last-none None l e
fourth-none None None (Some q) l e = absurd (cc)
fourth-none None (Some q) c l e = absurd (cc)
fourth-none (Some q) b c l e = absurd (cc)

fifth-none : (a b c d l : Option Refusal) → first_some (a ∷ b ∷ c ∷ d ∷ l ∷ []) ≡ None → l ≡ None
fifth-none None b c d l e = fourth-none b c d l e
fifth-none (Some q) b c d l e = absurd (cc)

third-none : (a b l : Option Refusal) → first_some (a ∷ b ∷ l ∷ []) ≡ None → l ≡ None
third-none None b l e = last-none b l e
third-none (Some q) b l e = absurd (cc)

pub projection-passes : (s : Stock) (members : List Member) (resolver : Option (List ℕ)) → projection_fault s members ≡ None → first_some (stock_limits (with_new s (projection_of s members) resolver)) ≡ None
projection-passes s members resolver e =
    let plain : first_some (stock_limits (with_new s (projection_of s members) None)) ≡ None =
    fourth-none (mode_fault (len_now s) members) (overlap_fault members) (depth s (count s + 1) (count s) (sources_in [] members)) (first_some (stock_limits (with_new s (projection_of s members) None))) e in
    ap first_some (limits-new s (projection_of s members) resolver None) ∙ plain

pub elision-passes : (s : Stock) (source : ℕ) (hide : List Span) (resolver : Option (List ℕ)) → elision_fault s source hide ≡ None → first_some (stock_limits (with_new s (elision_of s source hide) resolver)) ≡ None
elision-passes s source hide resolver e =
    ap first_some (limits-new s (elision_of s source hide) resolver None)
    ∙ last-none (depth s (count s + 1) (count s) (source ∷ [])) (first_some (stock_limits (with_new s (elision_of s source hide) None))) e

pub spans-passes : (s : Stock) (b first removed : ℕ) (added : List Member) → spans_fault s b first removed added ≡ None → first_some (stock_limits (spans_set s b first removed added).stock) ≡ None
spans-passes s b first removed added e =
    let shown : List Member = spans_replaced (members_now s b) first removed added in
    fifth-none (mode_fault (len_now s) shown) (overlap_fault shown) (cycle s b added) (depth s (count s) b (sources_in [] shown)) (first_some (stock_limits (spans_set s b first removed added).stock)) e

pub edits-pass : (hooks : HookTable) (s : Stock) (edits : List BufferEdit) → edits_fault hooks s edits ≡ None → first_some (stock_limits (edits_landed hooks s edits).stock) ≡ None
edits-pass hooks s edits e = third-none (down_fault hooks s (pieces_of_edits edits)) (denial hooks s (edits_sent hooks s edits)) (first_some (stock_limits (edits_landed hooks s edits).stock)) e
