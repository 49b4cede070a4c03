-- What a base answers to pieces, as one statement.
use Rattle.std.proofs.Common.{◌≡◌, List, length, map, Result, Ok, Err}
use Rattle.std.specs.Prelude.{IfOk}
use Rattle.ed_base.specs.declared.Piece.{Piece}
use Rattle.ed_base.specs.Hooks.{HookTable}
use Rattle.ed_buffer.specs.Planning.{Answers, Base, IsPlanned, IsUnchanged, NextVersion, changes_left, fault_of, text_left}
use Rattle.ed_buffer.specs.declared.BaseFault.{BaseFault}
use Rattle.ed_layers.specs.Pieces.{marked_text}
use Rattle.ed_pieces.specs.Trails.{trails_in}
use Rattle.ed_version.specs.Chain.{text_now}
use Rattle.ed_held.specs.Landing.{IsNextBy, Lands}

pub lands_by : (hooks : HookTable) (old new : Base) (ps : List Piece) (result : Result NextVersion BaseFault) → IsUnchanged old new → Answers (fault_of hooks old (changes_left ps (text_now old.chain.versions))) result
    → IfOk result (λ s. s.changes ≡ changes_left ps (text_now old.chain.versions)) → IfOk result (λ s. s.snapshot.text ≡ text_left ps (text_now old.chain.versions)) → IfOk result (λ s. s.reiterated ≡ length old.chain.versions)
    → IfOk result (λ s. trails_in s.trails (length (text_left ps (text_now old.chain.versions))) ≡ map (λ u. u.1) (marked_text ps (text_now old.chain.versions))) → IfOk result (IsPlanned new) → Lands hooks old new ps result
lands_by hooks old new ps result same fault changes text own trails planned = record { same = same; fault = fault; next = next_by result changes text own trails; planned = planned }
  where
    next_by : (r : Result NextVersion BaseFault) → IfOk r (λ s. s.changes ≡ changes_left ps (text_now old.chain.versions)) → IfOk r (λ s. s.snapshot.text ≡ text_left ps (text_now old.chain.versions)) → IfOk r (λ s. s.reiterated ≡ length old.chain.versions)
        → IfOk r (λ s. trails_in s.trails (length (text_left ps (text_now old.chain.versions))) ≡ map (λ u. u.1) (marked_text ps (text_now old.chain.versions))) → IfOk r (IsNextBy old ps)
    next_by (Ok s) f g h k = record { changes = f; text = g; own = h; trails = k }
    next_by (Err e) f g h k = tt
