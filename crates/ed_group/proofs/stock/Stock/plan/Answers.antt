use Rattle.std.proofs.Common.{◌≡◌, ◌+◌, ◌<◌, ◌≤◌, ◌^◌, ℕ, List, false, length, sym, ◌∙◌, subst}
use Rattle.std.specs.Prelude.{All}
use Rattle.ed_layers.specs.Records.{is_carrier}
use Rattle.ed_descent.specs.Edits.{own_units, units_of_carriers}
use Rattle.ed_descent.specs.declared.edit.BufferEdit.{BufferEdit}
use Rattle.ed_held.specs.declared.held.Held.{Held}
use Rattle.ed_held.specs.Seen.{stock}
use Rattle.ed_stock.specs.Stock.{count, record_now, text_now}
use Rattle.ed_group.proofs.stock.Stock.plan.Goals as goal

pub planned-requires-clause-there : goal.planned-requires-clause-there
planned-requires-clause-there g c =
    let same : c.deref_mut.result.now ≡ c.args.self.now = c.deref_mut.ensures.value ∙ c.self.view_is in
    subst (λ (hs : List Held). All (λ (e : BufferEdit). e.buffer < count (stock hs)) c.args.edits.now) (sym same) c.requires.there

pub planned-requires-clause-from : goal.planned-requires-clause-from
planned-requires-clause-from g c =
    let same : c.deref_mut.result.now ≡ c.args.self.now = c.deref_mut.ensures.value ∙ c.self.view_is in
    subst (λ (hs : List Held). All (λ (e : BufferEdit). e.changes.old_len ≡ length (text_now (stock hs) e.buffer)) c.args.edits.now) (sym same) c.requires.from

pub planned-requires-clause-bases : goal.planned-requires-clause-bases
planned-requires-clause-bases g c =
    let same : c.deref_mut.result.now ≡ c.args.self.now = c.deref_mut.ensures.value ∙ c.self.view_is in
    subst (λ (hs : List Held). (b : ℕ) → is_carrier (record_now (stock hs) b) ≡ false → own_units c.args.edits.now b + units_of_carriers (stock hs) c.args.edits.now ≤ 2 ^ 27) (sym same) c.requires.bases
