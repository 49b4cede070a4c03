-- The version that pieces make of a base.
use Rattle.std.specs.Prelude.{◌≡◌, List, length, map, Result, IfOk}
use Rattle.ed_base.specs.declared.Piece.{Piece}
use Rattle.ed_base.specs.Hooks.{HookTable}
use Rattle.ed_buffer.specs.Planning.{Answers, AreInside, Base, IsPlanned, IsUnchanged, NextVersion, changes_left, fault_of, text_left}
use Rattle.ed_buffer.specs.declared.BaseFault.{BaseFault}
use Rattle.ed_layers.specs.Pieces.{marked_text}
use Rattle.ed_pieces.specs.Trails.{trails_in}
use Rattle.ed_version.specs.Chain.{text_now}
use Rattle.ed_held.specs.declared.held.Held.{Held}

-- a version that these pieces lead to, with the ways of its units, and that repeats itself
pub record IsNextBy (x : Base) (ps : List Piece) (n : NextVersion) : Type 0 where
  pub changes : n.changes ≡ changes_left ps (text_now x.chain.versions)
  pub text : n.snapshot.text ≡ text_left ps (text_now x.chain.versions)
  pub own : n.reiterated ≡ length x.chain.versions
  pub trails : trails_in n.trails (length (text_left ps (text_now x.chain.versions))) ≡ map (λ u. u.1) (marked_text ps (text_now x.chain.versions))

-- what an answer says: the base is as it was but for room, and has room for the version that is answered
pub record Lands (hooks : HookTable) (old new : Base) (ps : List Piece) (result : Result NextVersion BaseFault) : Type 0 where
  pub same : IsUnchanged old new
  pub fault : Answers (fault_of hooks old (changes_left ps (text_now old.chain.versions))) result
  pub next : IfOk result (IsNextBy old ps)
  pub planned : IfOk result (IsPlanned new)

-- the same of a buffer that is held, which is a base
pub record CanLand (h : Held) (ps : List Piece) : Type 0 where
  pub base : Base
  pub is : h ≡ Held.Base base
  pub inside : AreInside (length (text_now base.chain.versions)) ps

pub record HasLanded (hooks : HookTable) (old new : Held) (ps : List Piece) (result : Result NextVersion BaseFault) : Type 0 where
  pub before : Base
  pub after : Base
  pub old_is : old ≡ Held.Base before
  pub new_is : new ≡ Held.Base after
  pub lands : Lands hooks before after ps result
