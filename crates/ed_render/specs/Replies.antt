-- How replies are printed.
use Rattle.std.specs.Prelude.{ℕ, List, [], ◌∷◌, ◌++◌, codes, decimal}
use Rattle.ed_units.specs.Quoted.{quoted}
use Rattle.ed_base.specs.declared.Change.{Change}
use Rattle.ed_base.specs.declared.LineSpan.{LineSpan}
use Rattle.ed_render.specs.Refusals.{span_text, refusal_text}
use Rattle.ed_entry.specs.declared.Reply.{Reply}

-- a version of a buffer
abbrev pub version_text : ℕ → ℕ → List ℕ
version_text buffer version = decimal buffer ++ (codes "@" ++ decimal version)

-- each after a blank
abbrev pub each_version : List (ℕ × ℕ) → List ℕ
each_version [] = []
each_version (v ∷ vs) = codes " " ++ version_text v.0 v.1 ++ each_version vs

-- the versions, or the word where there is none
abbrev pub versions_text : List (ℕ × ℕ) → List ℕ
versions_text [] = codes " none"
versions_text (v ∷ vs) = each_version (v ∷ vs)

abbrev pub change_text : Change → List ℕ
change_text c = codes "(" ++ (decimal c.start ++ (codes "," ++ (decimal c.old_len ++ (codes "," ++ (quoted c.text ++ codes ")")))))

-- each after a blank
abbrev pub each_change : List Change → List ℕ
each_change [] = []
each_change (c ∷ cs) = codes " " ++ (change_text c ++ each_change cs)

-- the changes with a blank between two, or the word where there is none
abbrev pub changes_text : List Change → List ℕ
changes_text [] = codes "none"
changes_text (c ∷ cs) = change_text c ++ each_change cs

-- a line: its span without the break, and the length of the break
abbrev pub line_span_text : LineSpan → List ℕ
line_span_text l = span_text l.span ++ decimal l.break_len

-- each after a blank
abbrev pub each_line : List LineSpan → List ℕ
each_line [] = []
each_line (l ∷ ls) = codes " " ++ (line_span_text l ++ each_line ls)

-- the lines with a blank between two
abbrev pub lines_text : List LineSpan → List ℕ
lines_text [] = []
lines_text (l ∷ ls) = line_span_text l ++ each_line ls

abbrev pub each_number : List ℕ → List ℕ
each_number [] = []
each_number (n ∷ ns) = codes " " ++ (decimal n ++ each_number ns)

-- the numbers with a blank between two
abbrev pub numbers_text : List ℕ → List ℕ
numbers_text [] = []
numbers_text (n ∷ ns) = decimal n ++ each_number ns

unfoldable pub reply_text : Reply → List ℕ
reply_text (Reply.Made buffer) = codes "made " ++ decimal buffer
reply_text (Reply.Edited versions) = codes "edited" ++ versions_text versions
reply_text (Reply.Region region) = codes "region " ++ decimal region
reply_text Reply.Removed = codes "removed"
reply_text (Reply.Denied region) = codes "denied " ++ decimal region
reply_text Reply.Free = codes "free"
reply_text (Reply.Text snapshot) = version_text snapshot.buffer snapshot.version ++ (codes " " ++ quoted snapshot.text)
reply_text (Reply.Lines lines) = lines_text lines
reply_text (Reply.Changes changes) = changes_text changes.changes
reply_text (Reply.Versions numbers) = numbers_text numbers
reply_text (Reply.At p) = codes "at " ++ decimal p
reply_text (Reply.Span span) = span_text span
reply_text (Reply.Refused refusal) = refusal_text refusal
