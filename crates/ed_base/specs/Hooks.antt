-- The table of hooks: each name with the rule that its closures answer.
use Rattle.std.specs.Prelude.{ℕ, ◌+◌, ◌*◌, ◌/◌, ◌%◌, Bool, true, List, [], ◌∷◌, nat_eq, Option, Some, None, if◌then◌else◌}
use Rattle.std.specs.Str.{bytes_eq}
use Rattle.ed_base.specs.declared.rule.CutRule.{CutRule}
use Rattle.ed_base.specs.declared.rule.QueryRule.{QueryRule}
use Rattle.ed_base.specs.declared.rule.CustomRule.{CustomRule}

-- the rules of a resolver: for an insertion, and for a replacement
pub record CutRules : Type 0 where
  pub on_insert : CutRule
  pub on_replace : CutRule

pub record HookTable : Type 0 where
  pub resolvers : List (List ℕ × CutRules)
  pub queries : List (List ℕ × QueryRule)
  pub customs : List (List ℕ × CustomRule)

-- what stands under the name
abbrev pub named : {X : Type 0} → List ℕ → List (List ℕ × X) → Option X
named name [] = None
named name (x ∷ xs) = if bytes_eq name x.0 then Some x.1 else named name xs

-- where the share of target i of k ends, of n units
abbrev pub cut : CutRule → ℕ → ℕ → ℕ → ℕ
cut CutRule.First n k i = n
cut CutRule.Last n k i = if nat_eq (i + 1) k then n else 0
cut CutRule.Even n k i = n * (i + 1) / k

-- whether the query denies, at a version, asked for an edit or not
abbrev pub query_denies : QueryRule → ℕ → Bool → Bool
query_denies QueryRule.Always version edit = true
query_denies QueryRule.EditOnly version edit = edit
query_denies QueryRule.EvenVersion version edit = nat_eq (version % 2) 0
