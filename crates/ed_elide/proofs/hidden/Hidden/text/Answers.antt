use Rattle.std.proofs.Common.{◌≡◌, ℕ, List, [], ◌∷◌, length, map, flat_map, sum_by, slice_range, refl, sym, ap, subst, ◌∙◌, arith, length-append}
use Rattle.std.proofs.lemmas.List.Sums.{sum_by-cons}
use Rattle.ed_base.specs.declared.edit.Span.{Span}
use Rattle.ed_base.specs.Runs.{runs}
use Rattle.ed_base.specs.Spans.{end_of}
use Rattle.ed_layers.specs.Hidden.{nearest}
use Rattle.ed_layers.specs.Records.{is_shown}
use Rattle.ed_spans.specs.SpanSets.{AreApartFrom, held_below}
use Rattle.ed_elide.proofs.RankLemmas.{nearest_within}
use Rattle.ed_elide.proofs.ShownLemmas.{texts_are, texts_len}
use Rattle.ed_elide.proofs.hidden.Hidden.text.Goals as goal
use Rattle.ed_elide.proofs.hidden.Hidden.text.Goals.{After-deref-2}

flat_len : (parts : List (List ℕ)) → length (flat_map (λ t. t) parts) ≡ sum_by (length {A = ℕ}) parts
flat_len [] = refl
flat_len (t ∷ parts) = length-append t (flat_map (λ t. t) parts) ∙ (let rest : length (flat_map (λ t. t) parts) ≡ sum_by (length {A = ℕ}) parts = flat_len parts in omega (arith, rest, sum_by-cons (length {A = ℕ}) t parts))

abbrev cut : List ℕ → List Span → List (List ℕ)
cut text ss = map (λ s. slice_range text s.start (end_of s)) ss

parts_are : (c : After-deref-2) → c.deref-2.result.now ≡ cut c.args.source.now c.in_ok-shown.shown.items
parts_are c = c.deref-2.ensures.value ∙ c.in_ok-parts.ensures ∙ ap (cut c.args.source.now) c.deref.ensures.value

total : (c : After-deref-2) → sum_by (length {A = ℕ}) c.deref-2.result.now ≡ nearest c.args.self.now (length c.args.self.now)
total c =
    let apart : AreApartFrom 0 (length c.args.source.now) c.in_ok-shown.shown.items = subst (λ (n : ℕ). AreApartFrom 0 n c.in_ok-shown.shown.items) (sym c.requires) c.in_ok-shown.ensures.apart in
    ap (sum_by (length {A = ℕ})) (parts_are c) ∙ texts_len 0 c.args.source.now c.in_ok-shown.shown.items apart ∙ ap (λ n. held_below n c.in_ok-shown.shown.items) c.requires ∙ c.in_ok-shown.ensures.near (length c.args.self.now) (omega arith)

pub concat-requires : goal.concat-requires
concat-requires c = omega (arith, total c, nearest_within c.args.self.now (length c.args.self.now) (omega arith), c.requires, c.len-len.ensures.most)

pub returns-clause-text : goal.returns-clause-text
returns-clause-text c b v =
    c.in_ok-text.ensures ∙ ap (flat_map (λ (t : List ℕ). t)) (parts_are (goal.at.returns-clause-text c).After-deref-2 ∙ ap (cut c.args.source.now) c.in_ok-shown.ensures.runs) ∙ texts_are b c.args.source.now (runs (is_shown c.args.self.now) (length c.args.self.now))

pub returns-clause-len : goal.returns-clause-len
returns-clause-len c = ap length c.in_ok-text.ensures ∙ flat_len c.deref-2.result.now ∙ total (goal.at.returns-clause-len c).After-deref-2
