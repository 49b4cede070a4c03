-- The hooks of the program: each name with the rule that its closure answers.
use Rattle.std.specs.Prelude.{ℕ, List, [], ◌∷◌, codes}
use Rattle.ed_base.specs.declared.rule.CutRule.{CutRule}
use Rattle.ed_base.specs.declared.rule.QueryRule.{QueryRule}
use Rattle.ed_base.specs.declared.rule.CustomRule.{CustomRule}
use Rattle.ed_base.specs.Hooks.{CutRules, HookTable}

-- the same rule for what is put in and for what replaces
abbrev pub same_cuts : CutRule → CutRules
same_cuts rule = record { on_insert = rule; on_replace = rule }

abbrev pub program_resolvers : List (List ℕ × CutRules)
program_resolvers = (codes "first", same_cuts CutRule.First) ∷ (codes "last", same_cuts CutRule.Last) ∷ (codes "even", same_cuts CutRule.Even) ∷ []

abbrev pub program_queries : List (List ℕ × QueryRule)
program_queries = (codes "always", QueryRule.Always) ∷ (codes "edit_only", QueryRule.EditOnly) ∷ (codes "even_version", QueryRule.EvenVersion) ∷ []

abbrev pub program_customs : List (List ℕ × CustomRule)
program_customs = (codes "sticky", CustomRule.Sticky) ∷ (codes "caret", CustomRule.Caret) ∷ []

abbrev pub program_hooks : HookTable
program_hooks = record { resolvers = program_resolvers; queries = program_queries; customs = program_customs }

-- no hooks yet
abbrev pub no_hooks : HookTable
no_hooks = record { resolvers = []; queries = []; customs = [] }

-- the program's resolvers, and no other hooks yet
abbrev pub resolvers_alone : HookTable
resolvers_alone = record { resolvers = program_resolvers; queries = []; customs = [] }
