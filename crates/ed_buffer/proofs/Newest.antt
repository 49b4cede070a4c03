-- The current text, after one more version.
use Rattle.std.proofs.Common.{◌≡◌, ℕ, ◌-◌, List, [], ◌∷◌, ◌++◌, length, ap, ◌∙◌, arith, length-append}
use Rattle.std.specs.Prelude.{option_map, unwrap_or, Option}
use Rattle.ed_version.specs.declared.Version.{Version}
use Rattle.ed_version.specs.Chain.{version, text_at, text_now}
use Rattle.ed_version.proofs.Lookups.{get_added}

pub newest_text : (versions grown : List Version) (t : List ℕ) (r : ℕ) → grown ≡ versions ++ version t r ∷ [] → text_now grown ≡ t
newest_text versions grown t r is =
    let last : length grown - 1 ≡ length versions = (let l = ap length is ∙ length-append versions (version t r ∷ []) in omega arith) in
    ap (text_at grown) last ∙ ap (λ vs. text_at vs (length versions)) is ∙ ap (λ (o : Option Version). unwrap_or (option_map (λ x. x.text) o) []) (get_added versions (version t r))
