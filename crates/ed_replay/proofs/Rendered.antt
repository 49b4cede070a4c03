-- What is rendered entry by entry.
use Rattle.std.proofs.Common.{◌≡◌, ℕ, ◌+◌, ◌<◌, List, ◌∷◌, ◌++◌, Option, length, get_or, drop, sym, ap, ◌∙◌, append_assoc, add-one, drop-cons}
use Rattle.std.proofs.KnownBytes.{Appends-trans}
use Rattle.ed_io.specs.Bytes.{Added, AddedFront}
use Rattle.ed_entry.specs.declared.Entry.{Entry}
use Rattle.ed_render.specs.Lines.{line_text, render_from, render}
use Rattle.ed_replay.proofs.Moving.{cut_off}

next : (n i : ℕ) (es : List Entry) (e : Entry) → i < length es → e ≡ get_or es i e → render_from n (drop i es) ≡ line_text n e ++ render_from (n + 1) (drop (i + 1) es)
next n i es e within is =
    let here : drop i es ≡ get_or es i e ∷ drop (i + 1) es = rw add-one (drop-cons es i e within) in
    ap (render_from n) here ∙ ap (λ y. line_text n y ++ render_from (n + 1) (drop (i + 1) es)) (sym is)

-- so much is written after the first i entries
abbrev pub Written : List Entry → ℕ → ℕ → Option (List ℕ) → Option (List ℕ) → Type 0
Written es n i before now = (done : List ℕ) × (render es ≡ done ++ render_from n (drop i es)) × Added before done now

pub one_more : (es : List Entry) (n i : ℕ) (e : Entry) (a b c : Option (List ℕ)) → Written es n i a b → i < length es → e ≡ get_or es i e → Added b (line_text n e) c → Written es (n + 1) (i + 1) a c
one_more es n i e a b c before within is added =
    (before.0 ++ line_text n e, before.1 ∙ ap (λ l. before.0 ++ l) (next n i es e within is) ∙ sym (append_assoc before.0 (line_text n e) (render_from (n + 1) (drop (i + 1) es))), Appends-trans a b c before.0 (line_text n e) before.2 added)

pub cut : (es : List Entry) (n i : ℕ) (e : Entry) (a b c : Option (List ℕ)) → Written es n i a b → i < length es → e ≡ get_or es i e → AddedFront b (line_text n e) c → AddedFront a (render es) c
cut es n i e a b c before within is front = cut_off a b c (render es) before.0 (line_text n e) (render_from (n + 1) (drop (i + 1) es)) (before.1 ∙ ap (λ l. before.0 ++ l) (next n i es e within is)) before.2 front
