-- What judging members of a new projection finds, of buffers that are held.
use Rattle.std.proofs.Common.{◌≡◌, ℕ, ◌+◌, List, [], ◌∷◌, map, length, All, Ok, Err, Option, None, Some, ap, sym, subst, ◌∙◌}
use Rattle.ed_base.specs.declared.piece.Member.{Member}
use Rattle.ed_base.specs.declared.refusal.Refusal.{Refusal}
use Rattle.ed_base.specs.Numbers.{first_some, or_else}
use Rattle.ed_layers.specs.Order.{mode_fault, overlap_fault}
use Rattle.ed_members.specs.Faults.{first_fault, len_in}
use Rattle.ed_stock.specs.Linking.{depth}
use Rattle.ed_stock.specs.Stock.{count}
use Rattle.ed_version.specs.declared.Snapshot.{Snapshot}
use Rattle.ed_risen.proofs.FoundedLemmas.{each_weaker}
use Rattle.ed_risen.proofs.Lists.{or_else_assoc, or_else_none}
use Rattle.ed_risen.proofs.Sources.{Agree, IsListed, all_listed, same_mode_fault}
use Rattle.ed_climb.specs.declared.counts.Counts.{Counts}
use Rattle.ed_climb.specs.declared.fault.PlanFault.{PlanFault}
use Rattle.ed_climb.specs.Refusals.{Refuses}
use Rattle.ed_group.specs.Answers.{LiesIn, len_now}
use Rattle.ed_group.specs.Judging.{standing_fault}
use Rattle.ed_climb.specs.Kept.{IsKept}
use Rattle.ed_group.specs.Placed.{too_deep}
use Rattle.ed_held.specs.declared.held.Held.{Held}
use Rattle.ed_held.specs.Seen.{known, stock}
use Rattle.ed_group.proofs.Projected.{agrees, depth_held, linked_held, named_held, sources_held}
use Rattle.ed_group.proofs.Refusing.{refused_none, refuses_first}
use Rattle.ed_climb.proofs.Snapshots.{snaps}

module _ (hs : List Held) (graph : List (List ℕ)) (counts : Counts) (kept : IsKept (map known hs) graph counts) (ms : List Member) (inside : All (LiesIn (stock hs)) ms)
    (ss : List Snapshot) (ss_is : ss ≡ snaps (stock hs) (named_held hs graph counts kept ms inside)) (ls : List (ℕ × ℕ)) (ls_is : ls ≡ map {B = ℕ × ℕ} (λ (x : Snapshot). (x.buffer, length x.text)) ss) where
  abbrev here : List ℕ
  here = sources_held hs graph counts kept ms inside

  abbrev deep : Option Refusal
  deep = too_deep (linked_held hs graph counts kept ms inside)

  judged_parts : standing_fault (stock hs) ms ≡ or_else (first_fault (len_in ls) ms) deep
  judged_parts =
      whole (mode_fault (len_now (stock hs)) ms) (mode_fault (len_in ls) ms) (overlap_fault ms) (depth (stock hs) (count (stock hs) + 1) (count (stock hs)) here) deep
      (same_mode_fault (len_now (stock hs)) (len_in ls) ms (each_weaker (IsListed here) (Agree (len_now (stock hs)) (len_in ls)) (agrees hs graph counts kept ms inside ss ss_is ls ls_is) ms (all_listed ms))) (depth_held hs graph counts kept ms inside)
    where
      whole : (a a' b d d' : Option Refusal) → a ≡ a' → d ≡ d' → first_some (a ∷ b ∷ d ∷ []) ≡ or_else (or_else a' b) d'
      whole a a' b d d' e f = rw (e, f) (ap (λ x. or_else a' (or_else b x)) (or_else_none d') ∙ sym (or_else_assoc a' b d'))

  pub judged_first : (X Y : Type 0) (e : PlanFault) → Refuses {X = X} (first_fault (len_in ls) ms) (Err e) → Refuses {X = Y} (standing_fault (stock hs) ms) (Err e)
  judged_first X Y e h = subst (λ o. Refuses {X = Y} o (Err e)) (sym judged_parts) (refuses_first X Y (first_fault (len_in ls) ms) deep e h)

  module _ (X : Type 0) (x : X) (apart : Refuses (first_fault (len_in ls) ms) (Ok x)) where
    judged_rest : standing_fault (stock hs) ms ≡ deep
    judged_rest = judged_parts ∙ ap (λ o. or_else o deep) (refused_none X (first_fault (len_in ls) ms) x apart)

    pub judged_second : (Z Y : Type 0) (e : PlanFault) → Refuses {X = Z} deep (Err e) → Refuses {X = Y} (standing_fault (stock hs) ms) (Err e)
    judged_second Z Y e h = subst (λ o. Refuses {X = Y} o (Err e)) (sym judged_rest) (as_error deep h)
      where
        as_error : (o : Option Refusal) → Refuses {X = Z} o (Err e) → Refuses {X = Y} o (Err e)
        as_error None h = h
        as_error (Some r) h = h

    pub judged_none : (Z Y : Type 0) (z : Z) (y : Y) → Refuses deep (Ok z) → Refuses (standing_fault (stock hs) ms) (Ok y)
    judged_none Z Y z y h = subst (λ o. Refuses o (Ok y)) (sym (judged_rest ∙ refused_none Z deep z h)) tt
