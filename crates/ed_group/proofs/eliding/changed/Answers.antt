use Rattle.std.proofs.Common.{◌≡◌, Bool, true, false, List, [], length, All, refl, sym, ap, ◌∙◌, subst}
use Rattle.ed_layers.specs.Hidden.{elided}
use Rattle.ed_spans.specs.SpanSets.{EndsWithin}
use Rattle.ed_group.proofs.Hiding.{elided_len, in_two}
use Rattle.ed_group.proofs.eliding.changed.Goals as goal

pub expand-requires : goal.expand-requires
expand-requires c = subst (λ n. All (EndsWithin n) c.args.show.now) (sym (ap length c.in_ok-more.ensures ∙ elided_len c.args.hidden.now c.args.hide.now [])) c.requires.show

pub returns-then-is_same : goal.returns-then-is_same
returns-then-is_same c =
    let then_is : c.in_ok-then.then ≡ elided c.args.hidden.now c.args.hide.now c.args.show.now =
    c.in_ok-then.ensures ∙ ap (λ (flags : List Bool). elided flags [] c.args.show.now) c.in_ok-more.ensures ∙ in_two c.args.hidden.now c.args.hide.now c.args.show.now in
    sym then_is ∙ c.if-is_same.ensures.0 refl

pub returns : goal.returns
returns c =
    let then_is : c.in_ok-then.then ≡ elided c.args.hidden.now c.args.hide.now c.args.show.now =
    c.in_ok-then.ensures ∙ ap (λ (flags : List Bool). elided flags [] c.args.show.now) c.in_ok-more.ensures ∙ in_two c.args.hidden.now c.args.hide.now c.args.show.now in
    (then_is, λ e. let never : false ≡ true = c.if-is_same.ensures.1 (sym e) in cc)
