-- One more buffer, as the code looks at it.
use Rattle.std.proofs.Common.{◌≡◌, ℕ, ◌+◌, ◌<◌, true, false, List, [], length, map, Option, Some, Ok, Err, Result, refl, sym, ap, ◌∙◌, subst}
use Rattle.std.specs.Prelude.{slice_get, slice_index_or}
use Rattle.std.proofs.lemmas.List.{length-map}
use Rattle.ed_base.specs.declared.Piece.{Piece}
use Rattle.ed_base.specs.Hooks.{HookTable}
use Rattle.ed_buffer.specs.Planning.{Base}
use Rattle.ed_buffer.specs.declared.BaseFault.{BaseFault}
use Rattle.ed_stock.specs.Stock.{count}
use Rattle.ed_risen.proofs.Lists.{got}
use Rattle.ed_held.specs.declared.held.Held.{Held}
use Rattle.ed_held.specs.declared.moves.Move.{Move}
use Rattle.ed_held.specs.Seen.{known, stock}
use Rattle.ed_climb.specs.declared.fault.PlanFault.{PlanFault}
use Rattle.ed_climb.proofs.Groups.{refuses_memory}
use Rattle.ed_landing.specs.Bases.{HasLandedAmong, HasLandedOn, after_fault, is_met}
use Rattle.ed_landing.specs.Landings.{GoesOn, HaveArrived, SoFar, StandOn, landing_fault}
use Rattle.ed_landing.proofs.OneMore.{denied_on, lands_on, long_on, passes}

module _ (hooks : HookTable) (buffers buffers' : List Held) (ms ms' : List Move) (b : ℕ) (ps : List Piece) (long : Option ℕ) (below : b < length buffers)
    (hs : List Held) (graph : List (List ℕ)) (pending : List (ℕ × Piece)) (boxes : List (List Piece)) (on : StandOn hs graph) (arrived : HaveArrived (stock hs) pending boxes) (box_is : slice_index_or boxes b [] ≡ ps) (so_far : SoFar hooks hs graph pending b buffers ms long) where
  found : (h : Held) × (slice_get buffers b ≡ Some h)
  found = got buffers b below

  there : b < count (stock hs)
  there = subst (λ n. b < n) (sym (length-map buffers known) ∙ ap length so_far.same ∙ sym (length-map (map known hs) _)) below

  pub on_passing : ((h : Held) → slice_get buffers b ≡ Some h → false ≡ is_met h ps) → SoFar hooks hs graph pending (b + 1) buffers ms long
  on_passing out = passes hooks hs graph on pending boxes arrived b there buffers ms long so_far found.0 found.1 (ap (is_met found.0) box_is ∙ sym (out found.0 found.1))

  met_box : ((h : Held) → slice_get buffers b ≡ Some h → true ≡ is_met h ps) → is_met found.0 (slice_index_or boxes b []) ≡ true
  met_box met = ap (is_met found.0) box_is ∙ sym (met found.0 found.1)

  pub on_landing : ((h : Held) → slice_get buffers b ≡ Some h → true ≡ is_met h ps) → map known buffers' ≡ map known buffers → ((h : Held) → slice_get buffers b ≡ Some h → HasLandedAmong hooks buffers buffers' ms ms' b h ps (Ok tt))
      → SoFar hooks hs graph pending (b + 1) buffers' ms' long
  on_landing met same landed =
      let l : HasLandedAmong hooks buffers buffers' ms ms' b found.0 ps (Ok tt) = landed found.0 found.1 in
      lands_on hooks hs graph on pending boxes arrived b there buffers ms long so_far found.0 found.1 (met_box met) l.0 l.1 buffers' ms' same
      (subst (λ qs. HasLandedOn hooks buffers buffers' ms ms' b l.0 qs (Ok tt)) (sym box_is) l.2)

  pub on_fault : ((h : Held) → slice_get buffers b ≡ Some h → true ≡ is_met h ps) → map known buffers' ≡ map known buffers → (e : BaseFault) → ((h : Held) → slice_get buffers b ≡ Some h → HasLandedAmong hooks buffers buffers' ms ms' b h ps (Err e))
      → (r : Result (Option ℕ) PlanFault) → r ≡ after_fault b long e → GoesOn hooks hs graph pending (b + 1) buffers' ms' r
  on_fault met same e landed r is =
      let l : HasLandedAmong hooks buffers buffers' ms ms' b found.0 ps (Err e) = landed found.0 found.1 in
      subst (GoesOn hooks hs graph pending (b + 1) buffers' ms') (sym is) (by l.0 l.1 e l.2)
    where
      by : (x : Base) → found.0 ≡ Held.Base x → (e : BaseFault) → HasLandedOn hooks buffers buffers' ms ms' b x ps (Err e) → GoesOn hooks hs graph pending (b + 1) buffers' ms' (after_fault b long e)
      by x is (BaseFault.Units n) l = long_on hooks hs graph on pending boxes arrived b there buffers ms long so_far found.0 found.1 (met_box met) x is buffers' ms' same n
          (subst (λ qs. HasLandedOn hooks buffers buffers' ms ms' b x qs (Err (BaseFault.Units n))) (sym box_is) l)
      by x is (BaseFault.ReadOnly region) l = denied_on hooks hs graph on pending boxes arrived b there buffers ms long so_far found.0 found.1 (met_box met) x is buffers' ms' region
          (subst (λ qs. HasLandedOn hooks buffers buffers' ms ms' b x qs (Err (BaseFault.ReadOnly region))) (sym box_is) l)
      by x is BaseFault.OutOfMemory l = refuses_memory (Unit {0}) (landing_fault hooks (stock hs) pending) PlanFault.OutOfMemory refl
