use Rattle.std.proofs.Common.{◌≡◌, ◌∙◌, [], ◌∷◌, Bool, List, Option, ℕ, Result, Ok, Err, IfOk, length, ap, sym}
use Rattle.ed_base.specs.declared.OutOfMemory.{OutOfMemory}
use Rattle.ed_base.specs.declared.Span.{Span}
use Rattle.ed_elide.specs.Records.{Elision, shown_of}
use Rattle.ed_group.specs.Hiding.{IsOpened}
use Rattle.ed_group.proofs.Elided.{hidden_len}
use Rattle.ed_group.proofs.eliding.opened.Goals as goal
use Rattle.ed_layers.specs.Hidden.{hidden_by}
use Rattle.ed_version.specs.declared.Snapshot.{Snapshot}

-- all that is told of it, over the snapshot that was asked for
all_told : (b : ℕ) (s z : Snapshot) (hide : List Span) (resolver : Option (List ℕ)) (flags : List Bool) (result : Result Elision OutOfMemory) → z ≡ s → flags ≡ hidden_by (length z.text) hide → IfOk result (λ e. e.buffer ≡ b) → IfOk result (λ e. e.source ≡ z.buffer)
    → IfOk result (λ e. e.versions ≡ shown_of flags z.buffer z.version z.text ∷ []) → IfOk result (λ e. e.changes ≡ []) → IfOk result (λ e. e.resolver ≡ resolver) → IfOk result (IsOpened b s hide resolver)
all_told b s z hide resolver flags (Err x) same flags_are buffer source versions changes resolver_is = tt
all_told b s z hide resolver flags (Ok e) same flags_are buffer source versions changes resolver_is = record {
  buffer = buffer;
  source_is = source ∙ ap (λ (y : Snapshot). y.buffer) same;
  versions = versions ∙ ap (λ fs. shown_of fs z.buffer z.version z.text ∷ []) flags_are ∙ ap (λ (y : Snapshot). shown_of (hidden_by (length y.text) hide) y.buffer y.version y.text ∷ []) same;
  changes = changes;
  resolver_is = resolver_is;
}

pub new-requires : goal.new-requires
new-requires c = sym (ap length (c.in_ok-hidden.ensures ∙ ap (λ n. hidden_by n c.args.hide.now) c.len.ensures.value) ∙ hidden_len (length c.in_ok-snapshot.snapshot.text) c.args.hide.now)

pub returns : goal.returns
returns c =
    all_told c.args.buffer _ c.in_ok-snapshot.snapshot c.args.hide.now c.args.resolver c.in_ok-hidden.hidden c.new.result c.in_ok-snapshot.ensures (c.in_ok-hidden.ensures ∙ ap (λ n. hidden_by n c.args.hide.now) c.len.ensures.value) c.new.ensures.buffer c.new.ensures.source c.new.ensures.versions c.new.ensures.changes c.new.ensures.resolver
