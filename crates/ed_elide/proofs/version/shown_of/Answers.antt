use Rattle.std.proofs.Common.{◌≡◌, [], ◌∷◌, ◌++◌, refl, sym, ap, ◌∙◌}
use Rattle.ed_elide.proofs.version.shown_of.Goals as goal
use Rattle.ed_elide.proofs.version.shown_of.Goals.{In_ok-sources}

alone : (c : In_ok-sources) → c.in_ok-sources.sources ≡ (c.args.source.now.buffer, c.args.source.now.version) ∷ []
alone c = c.in_ok-sources.ensures ∙ c.in_ok-push.ensures.items ∙ ap (λ xs. xs ++ (c.args.source.now.buffer, c.args.source.now.version) ∷ []) c.in_ok-list.ensures.items

pub returns-clause-shown : goal.returns-clause-shown
returns-clause-shown c =
    rw (c.in_ok-members.ensures.members c.args.source.now.version, alone (goal.at.returns-clause-shown c).In_ok-sources, c.in_ok-text.ensures.text c.args.source.now.buffer c.args.source.now.version) refl

pub returns-clause-whole : goal.returns-clause-whole
returns-clause-whole c = record {
  members = c.in_ok-members.ensures.members c.args.source.now.version;
  sources = alone (goal.at.returns-clause-whole c).In_ok-sources;
  long = c.in_ok-text.ensures.len ∙ sym c.in_ok-members.ensures.len;
  near = c.in_ok-text.ensures.len;
}
