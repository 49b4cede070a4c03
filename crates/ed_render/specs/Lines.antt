-- The output: a line for each entry.
use Rattle.std.specs.Prelude.{ℕ, ◌+◌, List, [], ◌∷◌, ◌++◌, codes, decimal}
use Rattle.ed_entry.specs.declared.Entry.{Entry}
use Rattle.ed_render.specs.Events.{event_text}
use Rattle.ed_render.specs.Replies.{reply_text}

-- the line of the entry at a position of the history, counted from 1
unfoldable pub line_text : ℕ → Entry → List ℕ
line_text n e = decimal n ++ (codes " " ++ (decimal e.seat ++ (codes " " ++ (event_text e.event ++ (codes ": " ++ (reply_text e.reply ++ codes "\n"))))))

abbrev pub render_from : ℕ → List Entry → List ℕ
render_from n [] = []
render_from n (e ∷ es) = line_text n e ++ render_from (n + 1) es

abbrev pub render : List Entry → List ℕ
render entries = render_from 1 entries
