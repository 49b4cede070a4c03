-- What is sent lies inside the sources, and what arrives inside the carrier.
use Rattle.std.proofs.Common.{◌≡◌, ℕ, ◌+◌, ◌≤◌, Bool, true, false, List, [], ◌∷◌, length, map, replicate, filter, Option, Some, refl, arith, if◌then◌else◌, subst}
use Rattle.std.specs.Prelude.{nat_eq, slice_get}
use Rattle.std.proofs.lemmas.Bool.{eq-eqb}
use Rattle.std.proofs.lemmas.List.{length-replicate}
use Rattle.ed_base.specs.declared.edit.Span.{Span}
use Rattle.ed_base.specs.declared.mode.SpanMode.{SpanMode}
use Rattle.ed_base.specs.declared.piece.Member.{Member}
use Rattle.ed_base.specs.declared.piece.Piece.{Piece}
use Rattle.ed_base.specs.Hooks.{CutRules}
use Rattle.ed_base.specs.Spans.{end_of}
use Rattle.ed_layers.specs.Pieces.{Component, arrived}
use Rattle.ed_layers.specs.Sending.{sent}
use Rattle.ed_stock.specs.Landing.{pieces_at}
use Rattle.ed_sending.proofs.Lists.SortedParts.{Each, each_more}
use Rattle.ed_sending.proofs.Members.SourceParts.{IsFor}
use Rattle.ed_sending.proofs.Carriers.Components.{arrived_are}
use Rattle.ed_sending.proofs.Carriers.SentPieces.{all_for}

-- what holds of the pieces at each buffer holds of all pieces
each_at : (P : ℕ → Piece → Type 0) (bps : List (ℕ × Piece)) → ((b : ℕ) → Each (P b) (pieces_at bps b)) → Each (λ bp. P bp.0 bp.1) bps
each_at P [] at = tt
each_at P (bp ∷ bps) at = (first (nat_eq bp.0 bp.0) (eq-eqb bp.0 bp.0 refl) (at bp.0), each_at P bps (λ b. rest b (nat_eq bp.0 b) (at b)))
  where
    first : (z : Bool) → z ≡ true → Each (P bp.0) (map (λ (p : ℕ × Piece). p.1) (if z then bp ∷ filter (λ p. nat_eq p.0 bp.0) bps else filter (λ p. nat_eq p.0 bp.0) bps)) → P bp.0 bp.1
    first true e a = a.0
    first false e a = absurd (let f : false ≡ true = e in cc)

    rest : (b : ℕ) (z : Bool) → Each (P b) (map (λ (p : ℕ × Piece). p.1) (if z then bp ∷ filter (λ p. nat_eq p.0 b) bps else filter (λ p. nat_eq p.0 b) bps)) → Each (P b) (pieces_at bps b)
    rest b true a = a.1
    rest b false a = a

-- Each piece that is sent is for its source.
pub sent_for : (carrier : ℕ) (members : List Member) (resolver : Option CutRules) (cs : List Component) → Each (λ bp. IsFor carrier members bp.0 bp.1) (sent carrier members resolver cs)
sent_for carrier members resolver cs = each_at (IsFor carrier members) (sent carrier members resolver cs) (λ b. all_for carrier members resolver b cs)

-- a piece through a member, inside the text of the member's source
pub record IsInside (members : List Member) (texts : ℕ → List ℕ) (source : ℕ) (p : Piece) : Type 0 where
  pub member : ℕ
  pub bounds : Span
  pub mode : SpanMode
  pub there : slice_get members member ≡ Some (Member.Tracked source bounds mode)
  pub inside : p.start + p.len ≤ length (texts source)

-- Where tracked members lie inside their sources' texts, each piece that is sent lies inside the text of its source, which a tracked member has.
pub sent_inside : (carrier : ℕ) (members : List Member) (resolver : Option CutRules) (cs : List Component) (texts : ℕ → List ℕ)
    → ((k b : ℕ) (x : Span) (mode : SpanMode) → slice_get members k ≡ Some (Member.Tracked b x mode) → end_of x ≤ length (texts b))
    → Each (λ bp. IsInside members texts bp.0 bp.1) (sent carrier members resolver cs)
sent_inside carrier members resolver cs texts within = each_more (λ bp. IsFor carrier members bp.0 bp.1) (λ bp. IsInside members texts bp.0 bp.1) (sent carrier members resolver cs) one (sent_for carrier members resolver cs)
  where
    one : (bp : ℕ × Piece) → IsFor carrier members bp.0 bp.1 → IsInside members texts bp.0 bp.1
    one bp h = record {
      member = h.member;
      bounds = h.bounds;
      mode = h.mode;
      there = h.there;
      inside = (let low : end_of h.bounds ≤ length (texts bp.0) = within h.member bp.0 h.bounds h.mode h.there in let to : bp.1.start + bp.1.len ≤ end_of h.bounds = h.to in omega (arith, low, to));
    }

-- Each component of what arrives lies inside the text.
pub arrived_inside : (ps : List Piece) (n : ℕ) → Each (λ c. c.start + c.old_len ≤ n) (arrived ps n)
arrived_inside ps n = subst (λ m. Each (λ c. c.start + c.old_len ≤ m) (arrived ps m)) (length-replicate n 0) (arrived_are ps (replicate n 0)).inside
