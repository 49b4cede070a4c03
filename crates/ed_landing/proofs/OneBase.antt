-- A base on which pieces land, among the buffers that are held.
use Rattle.std.proofs.Common.{◌≡◌, ◌⊎◌, ℕ, List, [], ◌∷◌, ◌++◌, map, Option, Some, None, Result, Ok, Err, refl, sym, ap, ◌∙◌, inl, inr}
use Rattle.std.specs.Prelude.{slice_get, slice_set}
use Rattle.std.specs.Result.{IsErr, IsErrAnd}
use Rattle.ed_base.specs.declared.Piece.{Piece}
use Rattle.ed_base.specs.Hooks.{HookTable}
use Rattle.ed_buffer.specs.Planning.{Answers, Base, IsUnchanged, NextVersion, changes_left, fault_of}
use Rattle.ed_buffer.specs.declared.BaseFault.{BaseFault}
use Rattle.ed_version.specs.Chain.{text_now}
use Rattle.ed_held.specs.declared.held.Held.{Held}
use Rattle.ed_held.specs.declared.moves.Move.{Move}
use Rattle.ed_held.specs.Landing.{HasLanded}
use Rattle.ed_held.specs.Seen.{known}
use Rattle.ed_climb.proofs.Advanced.{map_set}
use Rattle.ed_landing.specs.Bases.{HasLandedAmong, move_by}

same_known : (x y : Base) → IsUnchanged x y → known (Held.Base y) ≡ known (Held.Base x)
same_known x y same = rw (same.chain.buffer, same.chain.versions, same.chain.changes, same.regions) refl

no_fault : {X : Type 0} (o : Option BaseFault) (r : X) → Answers o (Ok r) → o ≡ None
no_fault None r h = refl
no_fault (Some f) r h = absurd h

which_fault : (X : Type 0) (o : Option BaseFault) (e : BaseFault) → Answers {X = X} o (Err e) → (e ≡ BaseFault.OutOfMemory) ⊎ (o ≡ Some e)
which_fault X None e h = inl h
which_fault X (Some f) e (inl same) = inr (ap Some (sym same))
which_fault X (Some f) e (inr memory) = inl memory

module _ (hooks : HookTable) (hs : List Held) (ms : List Move) (b : ℕ) (ps : List Piece) (old new : Held) where
  -- what is known of the buffers stays
  pub landed_known : (result : Result NextVersion BaseFault) → slice_get hs b ≡ Some old → HasLanded hooks old new ps result → map known (slice_set hs b new) ≡ map known hs
  landed_known result held h = map_set known hs b old new held (ap known h.new_is ∙ same_known h.before h.after h.lands.same ∙ ap known (sym h.old_is))

  pub landed_ok : (st : NextVersion) (ms' : List Move) → HasLanded hooks old new ps (Ok st) → ms' ≡ ms ++ move_by b st ∷ [] → HasLandedAmong hooks hs (slice_set hs b new) ms ms' b old ps (Ok tt)
  landed_ok st ms' h is = (
    h.before,
    h.old_is,
    (
      no_fault (fault_of hooks h.before (changes_left ps (text_now h.before.chain.versions))) st h.lands.fault,
      record {
        base = h.after;
        next = st;
        set = ap (slice_set hs b) h.new_is;
        moves = is;
        same = h.lands.same;
        planned = h.lands.planned;
        by = h.lands.next;
      },
    ),
  )

  pub landed_err : (e : BaseFault) (ms' : List Move) → HasLanded hooks old new ps (Err e) → ms' ≡ ms → HasLandedAmong hooks hs (slice_set hs b new) ms ms' b old ps (Err e)
  landed_err e ms' h is = (
    h.before,
    h.old_is,
    elim (which_fault NextVersion (fault_of hooks h.before (changes_left ps (text_now h.before.chain.versions))) e h.lands.fault) [
      | inl memory ↦ inl memory
      | inr fault ↦ inr (fault, is)
    ],
  )

  pub landed_lost : (result : Result NextVersion BaseFault) (ms' : List Move) (r : Result (Unit {0}) BaseFault) → IsErr r → IsErrAnd r (λ e. e ≡ BaseFault.OutOfMemory) → HasLanded hooks old new ps result → HasLandedAmong hooks hs (slice_set hs b new) ms ms' b old ps r
  landed_lost result ms' (Ok y) is that h = absurd (cc)
  landed_lost result ms' (Err e) is that h = (h.before, h.old_is, inl that)

-- the buffer that is there is the one that was found
pub found_same : (hs : List Held) (b : ℕ) (old h : Held) → slice_get hs b ≡ Some old → slice_get hs b ≡ Some h → old ≡ h
found_same hs b old h i j = (let e : Some old ≡ Some h = sym i ∙ j in cc)
