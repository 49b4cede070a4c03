-- By height, on every accepted edit: the step of each buffer beside the pieces that arrived there.
use Rattle.std.proofs.Common.{◌≡◌, ℕ, zero, suc, ◌<◌, false, List, length, Option, Some, None, ◌⊎◌, inl, inr, sym, arith, subst}
use Rattle.std.specs.Prelude.{slice_get}
use Rattle.ed_base.specs.declared.edit.Span.{Span}
use Rattle.ed_base.specs.declared.mode.SpanMode.{SpanMode}
use Rattle.ed_base.specs.declared.piece.Member.{Member}
use Rattle.ed_base.specs.declared.piece.Piece.{Piece}
use Rattle.ed_base.specs.Hooks.{CutRules}
use Rattle.ed_layers.specs.Bounds.{members_after}
use Rattle.ed_layers.specs.CarrierStep.{carrier_step, record_trails, all_stay}
use Rattle.ed_layers.specs.Owning.{OwnInside, OwnInOrder}
use Rattle.ed_layers.specs.Pieces.{Component, arrived}
use Rattle.ed_layers.specs.Records.{projection}
use Rattle.ed_layers.specs.Sending.{sent}
use Rattle.ed_layers.specs.SourceStep.{SourceStep}
use Rattle.ed_stock.specs.Landing.{pieces_at}
use Rattle.ed_sending.proofs.Carriers.CarrierText.{AllCutsRise}
use Rattle.ed_sending.proofs.Carriers.NewText.{SparesLiterals}
use Rattle.ed_sending.proofs.Texts.FilteredText.{passing}
use Rattle.ed_sending.proofs.Shared.SourceSigns.{Comes, ends_at}
use Rattle.ed_sending.proofs.Shared.ProjectionSigns.{AreShared, projection_comes, still_comes}
use Rattle.ed_sending.proofs.Shared.OwnedUnits.{own_inside, own_in_order}
use Rattle.ed_sending.specs.Ready.{AreFitting}
use Rattle.ed_layers.specs.Texts.{text_over}

-- what arrived at each buffer, its old text, and its step
module _ (heights : ℕ → ℕ) (arrives : ℕ → List Piece) (texts : ℕ → List ℕ) (steps : ℕ → Option SourceStep) (IsThere : ℕ → Type 0) where
  abbrev pub given_at : ℕ → List Member → List Component
  given_at b members = arrived (arrives b) (length (text_over texts members))

  -- a projection: each source is lower, and gets from it what it sends, among what others send
  pub record Passes (b : ℕ) : Type 0 where
    pub members : List Member
    pub resolver : Option CutRules
    pub from : List (ℕ × ℕ)
    pub to : List (ℕ × ℕ)
    pub text : texts b ≡ text_over texts members
    pub fitting : AreFitting members texts
    pub spares : SparesLiterals members (given_at b members)
    pub cuts : AllCutsRise members resolver (given_at b members)
    pub lower : (k s : ℕ) (x : Span) (mode : SpanMode) → slice_get members k ≡ Some (Member.Tracked s x mode) → (heights s < heights b) × IsThere s
    pub gets : (k s : ℕ) (x : Span) (mode : SpanMode) → slice_get members k ≡ Some (Member.Tracked s x mode) → passing (ends_at b) (arrives s) ≡ pieces_at (sent b members resolver (given_at b members)) s
    -- the steps that are known when its turn comes
    pub seen : ℕ → Option SourceStep
    pub sees : (k s : ℕ) (x : Span) (mode : SpanMode) → slice_get members k ≡ Some (Member.Tracked s x mode) → seen s ≡ steps s
    pub stepped : (steps b ≡ Some (record { step = carrier_step all_stay seen (projection members from) (projection (members_after b seen members) to); trails = record_trails b false seen (projection (members_after b seen members) to) }))
        ⊎ ((steps b ≡ None) × ((k s : ℕ) (x : Span) (mode : SpanMode) → slice_get members k ≡ Some (Member.Tracked s x mode) → seen s ≡ None))

  -- the lower buffers that are there come so
  abbrev pub BelowCome : ℕ → Type 0
  BelowCome b = (s : ℕ) → IsThere s → heights s < heights b → Comes (steps s) (arrives s) (texts s)

  pub passes_shared : (b : ℕ) (c : Passes b) → BelowCome b → AreShared b c.members c.resolver (given_at b c.members) texts c.seen arrives
  passes_shared b c below k s x mode there =
      let low : (heights s < heights b) × IsThere s = c.lower k s x mode there in
      (subst (λ (o : Option SourceStep). Comes o (arrives s) (texts s)) (sym (c.sees k s x mode there)) (below s low.1 low.0), c.gets k s x mode there)

  pub passes_comes : (b : ℕ) → Passes b → BelowCome b → Comes (steps b) (arrives b) (texts b)
  passes_comes b c below = subst (λ (t : List ℕ). Comes (steps b) (arrives b) t) (sym c.text) (elim c.stepped [
    | inl some ↦ subst (λ (o : Option SourceStep). Comes o (arrives b) (text_over texts c.members)) (sym some) (projection_comes b c.members c.resolver (arrives b) texts c.seen arrives c.from c.to (passes_shared b c below) c.fitting c.spares c.cuts)
    | inr none ↦ subst (λ (o : Option SourceStep). Comes o (arrives b) (text_over texts c.members)) (sym none.0) (still_comes b c.members c.resolver (arrives b) texts c.seen arrives (passes_shared b c below) c.fitting c.spares c.cuts none.1)
  ])

  -- each comes, if it does wherever the lower ones do
  pub comes_by_height : ((b : ℕ) → IsThere b → BelowCome b → Comes (steps b) (arrives b) (texts b)) → (n b : ℕ) → heights b < n → IsThere b → Comes (steps b) (arrives b) (texts b)
  comes_by_height each zero b low there = absurd (omega arith)
  comes_by_height each (suc n) b low there = each b there (λ s is lower. comes_by_height each n s (omega (arith, lower)) is)

  -- What `Members::advance` requires of each projection.
  pub advances : ((b : ℕ) → IsThere b → BelowCome b → Comes (steps b) (arrives b) (texts b)) → (b : ℕ) (c : Passes b) → OwnInside b c.seen c.members × OwnInOrder b c.seen c.members
  advances each b c =
      let below : BelowCome b = λ s is lower. comes_by_height each (heights b) s lower is in
      let shared : AreShared b c.members c.resolver (given_at b c.members) texts c.seen arrives = passes_shared b c below in (
        own_inside b c.members c.resolver (given_at b c.members) texts c.seen arrives shared c.fitting,
        own_in_order b c.members c.resolver (given_at b c.members) texts c.seen arrives shared c.fitting,
      )
