-- The normal form of an edit leads where the edit leads.
use Rattle.std.proofs.Common.{◌≡◌, ℕ, List, [], length, map, replicate, refl, sym, ap, ◌∙◌, arith, subst}
use Rattle.ed_base.specs.declared.edit.Change.{Change}
use Rattle.ed_base.specs.declared.edit.Replace.{Replace}
use Rattle.ed_base.specs.Edit.{edited, inserted_at, is_deleted, origins}
use Rattle.ed_base.specs.ChangeList.{AreNormalFrom, applied, normal_form}
use Rattle.ed_base.proofs.NormalSteps.{spliced}
use Rattle.ed_change.proofs.Laws.{applied_spliced}
use Rattle.ed_change.proofs.Parts.{forth, parts, forth_parts}
use Rattle.ed_change.proofs.Splicing.{itself, normal_forth, spliced_forth}

module _ (replaces : List Replace) (text : List ℕ) where
  abbrev by_parts : List Change
  by_parts = map forth (parts (inserted_at replaces) (is_deleted replaces) 0 0 0 [] [] text)

  form_parts : (normal_form replaces (length text)).changes ≡ by_parts
  form_parts = forth_parts (inserted_at replaces) (is_deleted replaces) (edited replaces (replicate (length text) 0)) 0 0 0 [] [] text (length text) (length (origins replaces (length text))) refl refl (omega arith) (omega arith)

  pub form_normal : AreNormalFrom 0 (length text) (normal_form replaces (length text)).changes
  form_normal = subst (λ cs. AreNormalFrom 0 (length text) cs) (sym form_parts) (normal_forth (inserted_at replaces) (is_deleted replaces) 0 0 0 [] [] text (length text) refl (omega arith))

  pub form_applied : applied (normal_form replaces (length text)) text ≡ edited replaces text
  form_applied =
      applied_spliced (normal_form replaces (length text)) text refl form_normal
      ∙ ap (λ cs. spliced itself 0 cs text) form_parts
      ∙ spliced_forth (inserted_at replaces) (is_deleted replaces) itself refl (λ s t. refl) 0 0 0 [] [] text refl
