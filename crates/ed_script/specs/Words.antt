-- The commands by their words: the keys that each has, and how it is read.
use Rattle.std.specs.Prelude.{ℕ, List, [], ◌∷◌, Option, Some, None, codes, if◌then◌else◌}
use Rattle.std.specs.Str.{bytes_eq}
use Rattle.serde_json.specs.Data.{Data}
use Rattle.serde_json.specs.Find.{as_str}
use Rattle.ed_base.specs.declared.SpanMode.{SpanMode}
use Rattle.ed_base.specs.declared.SpanHow.{SpanHow}
use Rattle.ed_script.specs.declared.kinds.Command.{Command}
use Rattle.ed_script.specs.Fields.{◌>>=◌, required, has_only, list_of, optional, defaulted, name, whole, text, pair, replace, script_span, point_mode, span_mode, edge_mode, one_way}

abbrev in_ : Data → Option (List ℕ)
in_ d = required (codes "in") name d

abbrev at : Data → Option (Option ℕ)
at d = optional (codes "at") whole d

unfoldable pub buffer_command : Data → Option Command
buffer_command d =
    if has_only (codes "do" ∷ codes "name" ∷ codes "text" ∷ []) d
    then (required (codes "name") name d >>= λ n. required (codes "text") text d >>= λ t. Some (Command.Buffer n t))
    else None

unfoldable pub projection_command : Data → Option Command
projection_command d =
    if has_only (codes "do" ∷ codes "name" ∷ codes "spans" ∷ codes "resolver" ∷ []) d
    then (required (codes "name") name d >>= λ n. required (codes "spans") (list_of script_span) d >>= λ ss. optional (codes "resolver") name d >>= λ r. Some (Command.Projection n ss r))
    else None

unfoldable pub elision_command : Data → Option Command
elision_command d =
    if has_only (codes "do" ∷ codes "name" ∷ codes "in" ∷ codes "hide" ∷ codes "resolver" ∷ []) d
    then (required (codes "name") name d >>= λ n. in_ d >>= λ b. required (codes "hide") (list_of pair) d >>= λ h. optional (codes "resolver") name d >>= λ r. Some (Command.Elision n b h r))
    else None

unfoldable pub edit_command : Data → Option Command
edit_command d =
    if has_only (codes "do" ∷ codes "in" ∷ codes "replaces" ∷ codes "at" ∷ []) d
    then (in_ d >>= λ b. required (codes "replaces") (list_of replace) d >>= λ rs. at d >>= λ v. Some (Command.Edit b rs v))
    else None

unfoldable pub spans_command : Data → Option Command
spans_command d =
    if has_only (codes "do" ∷ codes "in" ∷ codes "first" ∷ codes "count" ∷ codes "spans" ∷ codes "at" ∷ []) d
    then (in_ d >>= λ b. required (codes "first") whole d >>= λ f. required (codes "count") whole d >>= λ c. required (codes "spans") (list_of script_span) d >>= λ ss. at d >>= λ v. Some (Command.Spans b f c ss v))
    else None

unfoldable pub elide_command : Data → Option Command
elide_command d =
    if has_only (codes "do" ∷ codes "in" ∷ codes "hide" ∷ codes "show" ∷ codes "at" ∷ []) d
    then (in_ d >>= λ b. required (codes "hide") (list_of pair) d >>= λ h. required (codes "show") (list_of pair) d >>= λ s. at d >>= λ v. Some (Command.Elide b h s v))
    else None

unfoldable pub region_command : Data → Option Command
region_command d =
    if has_only (codes "do" ∷ codes "in" ∷ codes "start" ∷ codes "len" ∷ codes "edge" ∷ codes "mode" ∷ codes "query" ∷ []) d
    then (in_ d >>= λ b. required (codes "start") whole d >>= λ s. required (codes "len") whole d >>= λ l. required (codes "edge") edge_mode d >>= λ e. defaulted SpanMode.EdgeExclusive (codes "mode") span_mode d >>= λ m. optional (codes "query") name d >>= λ q. Some (Command.Region b s l e m q))
    else None

unfoldable pub unregion_command : Data → Option Command
unregion_command d =
    if has_only (codes "do" ∷ codes "in" ∷ codes "region" ∷ []) d
    then (in_ d >>= λ b. required (codes "region") whole d >>= λ r. Some (Command.Unregion b r))
    else None

unfoldable pub readonly_command : Data → Option Command
readonly_command d =
    if has_only (codes "do" ∷ codes "in" ∷ codes "start" ∷ codes "len" ∷ []) d
    then (in_ d >>= λ b. required (codes "start") whole d >>= λ s. required (codes "len") whole d >>= λ l. Some (Command.Readonly b s l))
    else None

unfoldable pub text_command : Data → Option Command
text_command d =
    if has_only (codes "do" ∷ codes "in" ∷ codes "at" ∷ []) d
    then (in_ d >>= λ b. at d >>= λ v. Some (Command.Text b v))
    else None

unfoldable pub lines_command : Data → Option Command
lines_command d =
    if has_only (codes "do" ∷ codes "in" ∷ codes "at" ∷ []) d
    then (in_ d >>= λ b. at d >>= λ v. Some (Command.Lines b v))
    else None

unfoldable pub versions_command : Data → Option Command
versions_command d =
    if has_only (codes "do" ∷ codes "in" ∷ []) d
    then (in_ d >>= λ b. Some (Command.Versions b))
    else None

unfoldable pub changes_command : Data → Option Command
changes_command d =
    if has_only (codes "do" ∷ codes "in" ∷ codes "from" ∷ []) d
    then (in_ d >>= λ b. required (codes "from") whole d >>= λ v. Some (Command.Changes b v))
    else None

abbrev to : Data → Option (Option ℕ)
to d = optional (codes "to") whole d

unfoldable pub point_command : Data → Option Command
point_command d =
    if has_only (codes "do" ∷ codes "in" ∷ codes "pos" ∷ codes "mode" ∷ codes "at" ∷ codes "to" ∷ []) d
    then (in_ d >>= λ b. required (codes "pos") whole d >>= λ p. required (codes "mode") point_mode d >>= λ m. at d >>= λ v. to d >>= λ w. Some (Command.Point b p m v w))
    else None

-- by a mode or by a hook, and not by both
abbrev pub how : Data → Option SpanHow
how d = optional (codes "mode") span_mode d >>= λ m. optional (codes "custom") name d >>= λ c. one_way m c

unfoldable pub span_command : Data → Option Command
span_command d =
    if has_only (codes "do" ∷ codes "in" ∷ codes "start" ∷ codes "len" ∷ codes "mode" ∷ codes "custom" ∷ codes "at" ∷ codes "to" ∷ []) d
    then (in_ d >>= λ b. required (codes "start") whole d >>= λ s. required (codes "len") whole d >>= λ l. how d >>= λ h. at d >>= λ v. to d >>= λ w. Some (Command.Span b s l h v w))
    else None

unfoldable pub nearest_command : Data → Option Command
nearest_command d =
    if has_only (codes "do" ∷ codes "in" ∷ codes "pos" ∷ []) d
    then (in_ d >>= λ b. required (codes "pos") whole d >>= λ p. Some (Command.Nearest b p))
    else None

unfoldable pub by_word : List ℕ → Data → Option Command
by_word word d =
    if bytes_eq word (codes "buffer") then buffer_command d
    else (if bytes_eq word (codes "projection") then projection_command d
    else (if bytes_eq word (codes "elision") then elision_command d
    else (if bytes_eq word (codes "edit") then edit_command d
    else (if bytes_eq word (codes "spans") then spans_command d
    else (if bytes_eq word (codes "elide") then elide_command d
    else (if bytes_eq word (codes "region") then region_command d
    else (if bytes_eq word (codes "unregion") then unregion_command d
    else (if bytes_eq word (codes "readonly") then readonly_command d
    else (if bytes_eq word (codes "text") then text_command d
    else (if bytes_eq word (codes "lines") then lines_command d
    else (if bytes_eq word (codes "changes") then changes_command d
    else (if bytes_eq word (codes "versions") then versions_command d
    else (if bytes_eq word (codes "point") then point_command d
    else (if bytes_eq word (codes "span") then span_command d
    else (if bytes_eq word (codes "nearest") then nearest_command d
    else None)))))))))))))))

-- the command that a value is
unfoldable pub command_of : Data → Option Command
command_of d = required (codes "do") as_str d >>= λ word. by_word word d
